-- The records of the tags that are kept in the scratch buffer, after the tables of names: two words each, in the order of the tags. Writing them gives the same
-- output as writing the records of the tags.
use Rattle.std.specs.Prelude.{ℕ, zero, suc, ◌+◌, ◌*◌, ◌%◌, ◌≤◌, ◌<◌, ◌≡◌, cond, List, leb, length, get_or, set}
use Rattle.paper_lower.specs.Lists.{upd}
use Rattle.paper_lower.specs.Records.{Bytes}
use Rattle.paper_opl.specs.Reading.{Text}
use Rattle.paper_opl.specs.Tree.{Tag}
use Rattle.paper_opl.specs.Naming.{Names}
use Rattle.paper_opl.specs.Walk.{start}
use Rattle.paper_opl.specs.Filling.{fill, tally}
use Rattle.record_output.specs.Output.{two_words}
use Rattle.opl_spaces.specs.Spaces.{table_words, kept_room, list_of}
use Rattle.opl_said.specs.Said.{Held}
use Rattle.opl_turns.specs.Turning.{context_of, tags_at, Led}
use Rattle.opl_turns.specs.declared.Cursor.{Cursor}

-- ---- Kept record j.

-- Its first word.
abbrev pub low_at : List ℕ → ℕ → ℕ
low_at l j = get_or l (table_words + 2 * j) 0

-- Its second word.
abbrev pub high_at : List ℕ → ℕ → ℕ
high_at l j = get_or l (table_words + 2 * j + 1) 0

-- Its kind.
abbrev pub kind_in : List ℕ → ℕ → ℕ
kind_in l j = low_at l j % 256

-- The scratch buffer after keeping record j, if there is room.
unfoldable pub kept_with : List ℕ → ℕ → ℕ → ℕ → List ℕ
kept_with l j low high = cond (leb kept_room j) l (set (set l (table_words + 2 * j) low) (table_words + 2 * j + 1) high)

-- ---- The first n kept records.

-- The next place of each kind after them, from the first places f.
unfoldable pub next_to : List ℕ → ℕ → (ℕ → ℕ) → ℕ → ℕ
next_to l zero f = f
next_to l (suc n) f = upd (next_to l n f) (kind_in l n) (suc (next_to l n f (kind_in l n)))

-- The output with them.
unfoldable pub written_to : List ℕ → ℕ → (ℕ → ℕ) → Bytes → Bytes
written_to l zero f out = out
written_to l (suc n) f out = two_words (written_to l n f out) (next_to l n f (kind_in l n)) (low_at l n) (high_at l n)

-- Their kinds are between 1 and 18.
abbrev pub KindsTo : List ℕ → ℕ → Type 0
KindsTo l n = (i : ℕ) → i < n → (1 ≤ kind_in l i) × (kind_in l i < 19)

-- ---- The first j kept records are those of the tags before a cursor.

-- Counting and writing all tags is the same as counting and writing these records, and then the tags after the cursor.
pub record KeptLeft (ns : Names) (s : Text) (ts : List Tag) (c : Cursor) (w : List ℕ) (j : ℕ) : Type 0 where
  pub kinds : KindsTo w j
  pub tallies : (f : ℕ → ℕ) → tally start f ts ≡ tally (context_of c) (next_to w j f) (tags_at s c)
  pub fills : (f : ℕ → ℕ) (out : Bytes) → fill ns start f ts out ≡ fill ns (context_of c) (next_to w j f) (tags_at s c) (written_to w j f out)

-- One step from a cursor to the next, which keeps the record of a tag if it yields one.
pub record Keeps (ns : Names) (s t : Text) (c n : Cursor) (j i : ℕ) (w w' : List ℕ) : Type 0 where
  pub held : Held s t ns w'
  pub led : Led s (list_of w') n
  pub list : list_of w' ≡ list_of w
  pub few : i ≤ n.at
  pub goes_on : (ts : List Tag) → (j ≤ kept_room → KeptLeft ns s ts c w j) → i ≤ kept_room → KeptLeft ns s ts n w' i

-- The kept records are those of all tags, n in number.
pub record AllKept (ns : Names) (ts : List Tag) (w : List ℕ) (n : ℕ) : Type 0 where
  pub kinds : KindsTo w n
  pub tallies : (f : ℕ → ℕ) → tally start f ts ≡ next_to w n f
  pub fills : (f : ℕ → ℕ) (out : Bytes) → fill ns start f ts out ≡ written_to w n f out

-- The same, if there was room for them.
abbrev pub Keeping : Names → List Tag → List ℕ → ℕ → Type 0
Keeping ns ts w n = n ≤ kept_room → AllKept ns ts w n

-- ---- Writing them.

-- There is room in the output for the first n kept records.
pub record Fitting (w : List ℕ) (n : ℕ) (f : ℕ → ℕ) (out : Bytes) : Type 0 where
  pub kinds : KindsTo w n
  pub fits : (k : ℕ) → 1 ≤ k → k < 19 → 16 * next_to w n f k ≤ length out
