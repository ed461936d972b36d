-- The seven tables of names, one after another in the caller's scratch buffer: users, roles, permissions, operations, objects, tasks, templates.
use Rattle.std.specs.Prelude.{ℕ, ◌+◌, ◌*◌, ◌<◌, ◌≡◌, cond, List, [], ◌∷◌, leb, length, get_or, take, drop, Option}
use Rattle.paper_lower.specs.Lists.{Maybe}
use Rattle.paper_lower.specs.Lists.Maybe.{none}
use Rattle.paper_opl.specs.Reading.{Text}
use Rattle.paper_opl.specs.Naming.{place_of}
use Rattle.opl_names.specs.Table.{names_in, Emptied, Declares}

-- The numbers of the spaces.
abbrev pub USERS : ℕ
USERS = 0

abbrev pub ROLES : ℕ
ROLES = 1

abbrev pub PERMISSIONS : ℕ
PERMISSIONS = 2

abbrev pub OPERATIONS : ℕ
OPERATIONS = 3

abbrev pub OBJECTS : ℕ
OBJECTS = 4

abbrev pub TASKS : ℕ
TASKS = 5

abbrev pub TEMPLATES : ℕ
TEMPLATES = 6

-- The number of names that a space can hold.
unfoldable pub limit_of : ℕ → ℕ
limit_of i = get_or (1024 ∷ 64 ∷ 256 ∷ 65536 ∷ 65536 ∷ 64 ∷ 16 ∷ []) i 0

-- Where its table begins.
unfoldable pub base_of : ℕ → ℕ
base_of i = get_or (0 ∷ 3073 ∷ 3266 ∷ 4035 ∷ 200644 ∷ 397253 ∷ 397446 ∷ []) i 0

-- The length of its table.
abbrev pub size_of : ℕ → ℕ
size_of i = 1 + 3 * limit_of i

-- The words of all tables. The kept records follow them, two words each.
abbrev pub table_words : ℕ
table_words = 397495

-- The greatest number of kept records.
abbrev pub kept_room : ℕ
kept_room = 131072

-- Where the list of tags begins: a word for its length, and one for each tag.
abbrev pub list_place : ℕ
list_place = 659639

-- The greatest number of listed tags.
abbrev pub list_room : ℕ
list_room = 262144

-- The length of the scratch buffer.
abbrev pub scratch_words : ℕ
scratch_words = 921784

-- The words of the table of a space.
unfoldable pub table_of : ℕ → List ℕ → List ℕ
table_of i l = take (size_of i) (drop (base_of i) l)

-- The words of the list of tags.
unfoldable pub list_of : List ℕ → List ℕ
list_of l = drop list_place l

-- The number of a name in a space, if it has up to 64 bytes.
abbrev pub numbered : Text → ℕ → List ℕ → Text → Maybe ℕ
numbered s i l w = cond (leb (length w) 64) (place_of 0 w (names_in s (table_of i l))) none

-- Only the table of space i may change; the other tables and the list stay.
pub record Apart (i : ℕ) (l l' : List ℕ) : Type 0 where
  pub room : length l' ≡ length l
  pub others : (j : ℕ) → j < 7 → (j ≡ i → ⊥) → table_of j l' ≡ table_of j l
  pub list : list_of l' ≡ list_of l

-- The contract of `empty`.
pub record Empties (i : ℕ) (l l' : List ℕ) : Type 0 where
  pub emptied : Emptied (limit_of i) (table_of i l')
  pub apart : Apart i l l'

-- The contract of `declare`.
pub record DeclaresIn (s : Text) (i : ℕ) (w : Text) (l l' : List ℕ) (r : Option ℕ) : Type 0 where
  pub declares : Declares s (limit_of i) w (table_of i l) (table_of i l') r
  pub apart : Apart i l l'
