-- The names that tags and task lines declare, in the tables of the scratch buffer.
use Rattle.std.specs.Prelude.{ℕ, ◌+◌, ◌≤◌, ◌<◌, ◌≡◌, Bool, true, false, cond, ◌||◌, List, [], ◌∷◌, eqb, leb, length, get_or, drop, Option, Some, None, Result, Ok, Err}
use Rattle.paper_lower.specs.Lists.{every, keep, each}
use Rattle.paper_opl.specs.Reading.{Text, Read, same}
use Rattle.paper_opl.specs.Reading.Read.{got, bad}
use Rattle.paper_opl.specs.Tree.{Tag, if-found}
use Rattle.paper_opl.specs.Naming.{Line, lines, place_of, value_of}
use Rattle.opl_names.specs.Table.{names_in, Sound, added, below}
use Rattle.opl_table.specs.Numbers.{name_of, OBJECT, PARTITION-OBJECT}
use Rattle.opl_lines.specs.Lines.{lines_read}
use Rattle.opl_tags.specs.Tags.{walk_at}
use Rattle.opl_tags.specs.declared.Part.{Part}
use Rattle.opl_spaces.specs.Spaces.{limit_of, table_of, Apart}
use Rattle.opl_line_names.specs.declared.LongName.{LongName}

-- Whether an element of this name declares a name of space i. It is the element with number 12 + i; objects are also declared in the blocks of walls.
unfoldable pub declares_in : ℕ → Text → Bool
declares_in i w = cond (eqb i 4) (same w (name_of OBJECT) || same w (name_of PARTITION-OBJECT)) (same w (name_of (12 + i)))

-- The attribute that holds the name, by its number.
unfoldable pub attribute_of : ℕ → ℕ
attribute_of i = get_or (53 ∷ 54 ∷ 56 ∷ 57 ∷ 58 ∷ []) i 0

-- The names of space i that tags declare.
unfoldable pub declared_at : ℕ → List Tag → List Text
declared_at i ts = each (λ t. value_of (name_of (attribute_of i)) t.given) (keep (λ t. declares_in i t.name) ts)

-- Whether a name has at most 64 bytes.
abbrev pub short : Text → Bool
short w = leb (length w) 64

-- The names of a table for n names after declaring one more, which is added only if there is room.
unfoldable pub kept_name : ℕ → Text → List Text → List Text
kept_name n w ws = if-found (below n (place_of 0 w (added w ws))) ws (λ _. added w ws)

-- The same for several names.
unfoldable pub filled : ℕ → List Text → List Text → List Text
filled n ws [] = ws
filled n ws (v ∷ vs) = filled n (kept_name n v ws) vs

-- The names of space i that the tags from an index on declare.
abbrev pub tag_names : Text → ℕ → ℕ → List Text
tag_names s i at = declared_at i (walk_at s at)

-- The name of space i in a task line: tasks for space 5, templates for space 6.
abbrev pub line_name : ℕ → Line → Text
line_name i x = cond (eqb i 5) x.task x.template

-- The names of space i in the task lines from an index on.
abbrev pub line_names : Text → ℕ → ℕ → List Text
line_names t i at = each (line_name i) (lines_read (lines (length t) (drop at t)))

-- Whether a text was accepted.
abbrev pub accepted : {A : Type 0} → Read A → Bool
accepted (got x r) = true
accepted (bad r) = false

-- The part of a line that holds its first or its second name, by where these end.
abbrev pub part_by : Bool → ℕ → ℕ → ℕ → Part
part_by b at e f = cond b (record { from = at; to = e }) (record { from = e + 1; to = f })

-- The part of a line that holds its name of space i.
abbrev pub part_of : ℕ → ℕ → ℕ → ℕ → Part
part_of i at e f = part_by (eqb i 5) at e f

-- ---- Declaring the names of a space from an index of the text on, one after another. `names at` are those from the index `at` on.

-- One step from `at` to n: it leaves the same final table, and the same answer to whether all names are short.
pub record Onward (s : Text) (i : ℕ) (names : ℕ → List Text) (at n : ℕ) (l l' : List ℕ) : Type 0 where
  pub past : at < n
  pub inside : n ≤ length s
  pub sound : Sound s (limit_of i) (table_of i l')
  pub fills : filled (limit_of i) (names_in s (table_of i l)) (names at) ≡ filled (limit_of i) (names_in s (table_of i l')) (names n)
  pub shorts : every short (names at) ≡ every short (names n)

-- The result of one step: the index to go on from, if there is a further line or tag.
abbrev pub Walked : Type 0
Walked = Result (Option ℕ) LongName

-- The contract of one step, by its result.
abbrev pub Walks : Text → ℕ → (ℕ → List Text) → ℕ → List ℕ → List ℕ → Walked → Type 0
Walks s i names at l l' (Ok (Some n)) = Onward s i names at n l l'
Walks s i names at l l' (Ok None) = (names at ≡ []) × (l' ≡ l)
Walks s i names at l l' (Err e) = every short (names at) ≡ false

-- The same, and no other table changes.
pub record Walking (s : Text) (i : ℕ) (names : ℕ → List Text) (at : ℕ) (l l' : List ℕ) (r : Walked) : Type 0 where
  pub walks : Walks s i names at l l' r
  pub apart : Apart i l l'

-- After all steps: every name is declared, or one of them is too long.
abbrev pub Ends : Text → ℕ → List Text → List ℕ → List ℕ → Result (Unit {0}) LongName → Type 0
Ends s i all l l' (Ok u) =
    (every short all ≡ true) × (Sound s (limit_of i) (table_of i l') × (names_in s (table_of i l') ≡ filled (limit_of i) (names_in s (table_of i l)) all))
Ends s i all l l' (Err e) = every short all ≡ false

-- The same, and no other table changes.
pub record DeclaresAll (s : Text) (i : ℕ) (all : List Text) (l l' : List ℕ) (r : Result (Unit {0}) LongName) : Type 0 where
  pub ends : Ends s i all l l' r
  pub apart : Apart i l l'

-- The contract of `declare_line`, for a text whose lines are accepted from `at` on.
pub record LineWalking (t : Text) (i at : ℕ) (l l' : List ℕ) (r : Walked) : Type 0 where
  pub walking : Walking t i (line_names t i) at l l' r
  pub goes_on : (n : ℕ) → r ≡ Ok (Some n) → accepted (lines (length t) (drop n t)) ≡ true
