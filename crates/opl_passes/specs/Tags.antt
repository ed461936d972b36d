-- The records of the tags from a cursor on: whether all can be made, how many each kind has, and the output with them.
use Rattle.std.specs.Prelude.{ℕ, zero, suc, ◌+◌, ◌*◌, ◌≤◌, ◌<◌, ◌≡◌, Bool, true, false, ◌&&◌, List, [], length, get_or, Option, Some, None}
use Rattle.paper_lower.specs.Lists.{upd, there, every}
use Rattle.paper_lower.specs.Records.{Bytes}
use Rattle.paper_opl.specs.Reading.{Text}
use Rattle.paper_opl.specs.Tree.{Tag}
use Rattle.paper_opl.specs.Naming.{Names}
use Rattle.paper_opl.specs.Walk.{Context, start, few_from, sayings, record_said}
use Rattle.paper_opl.specs.Filling.{fill, tally}
use Rattle.record_output.specs.Output.{two_words}
use Rattle.opl_said.specs.Said.{Held}
use Rattle.opl_spaces.specs.Spaces.{list_of}
use Rattle.opl_turns.specs.Turning.{context_of, tags_at, Led, Steps}
use Rattle.opl_turns.specs.declared.Cursor.{Cursor}
use Rattle.opl_passes.specs.declared.Checked.{Checked}
use Rattle.opl_passes.specs.declared.Checked.TheVariants.{Next, Unnamed, Done}
use Rattle.opl_passes.specs.Kept.{low_at, high_at, kind_in, Keeps, Keeping}

-- The number for kind k, in a list with a number for each kind.
abbrev pub of : List ℕ → ℕ → ℕ
of l k = get_or l k 0

-- Whether every tag that should yield a record has it.
abbrev pub all_present : Names → Context → List Tag → Bool
all_present ns c ts = every (λ x. there (record_said ns x)) (sayings c ts)

-- The same for the tags from a cursor on.
abbrev pub there_from : Names → Text → Cursor → Bool
there_from ns s c = all_present ns (context_of c) (tags_at s c)

-- The counts l of each kind, together with those of the tags from a cursor on.
abbrev pub tallied : Text → Cursor → List ℕ → ℕ → ℕ
tallied s c l = tally (context_of c) (of l) (tags_at s c)

-- ---- Looking up and counting one tag.

-- One step: the final counts and the answer to whether all records can be made stay the same.
pub record Counts (ns : Names) (s : Text) (c n : Cursor) (l l' : List ℕ) : Type 0 where
  pub steps : Steps s c n
  pub there-too : there_from ns s c ≡ there_from ns s n
  pub tallies : tallied s c l ≡ tallied s n l'
  pub few : (k : ℕ) → of l' k ≤ n.at
  pub room : length l' ≡ length l

-- The contract of `check_at`: the record is also kept as number j.
abbrev pub Checks : Names → Text → Text → Cursor → ℕ → List ℕ → List ℕ → List ℕ → List ℕ → Checked → Type 0
Checks ns s t c j l l' w w' (Next n i) = Counts ns s c n l l' × Keeps ns s t c n j i w w'
Checks ns s t c j l l' w w' Unnamed = there_from ns s c ≡ false
Checks ns s t c j l l' w w' Done = (tags_at s c ≡ []) × ((l' ≡ l) × (w' ≡ w))

-- All tags: whether all records can be made, and their counts.
pub record ChecksAll (ns : Names) (ts : List Tag) (l l' : List ℕ) (r : Bool) : Type 0 where
  pub verdict : r ≡ (few_from start ts && all_present ns start ts)
  pub counts : r ≡ true → of l' ≡ tally start (of l) ts
  pub room : r ≡ true → length l' ≡ length l

-- The contract of `check_tags`.
abbrev pub TagsAre : Names → Text → Text → List Tag → List ℕ → List ℕ → List ℕ → List ℕ → Option ℕ → Type 0
TagsAre ns s t ts l l' w w' (Some j) = ChecksAll ns ts l l' true × ((Held s t ns w' × (list_of w' ≡ list_of w)) × Keeping ns ts w' j)
TagsAre ns s t ts l l' w w' None = ChecksAll ns ts l l' false

-- ---- Where each kind begins.

-- The place where a kind begins: the number of records of lower kinds.
unfoldable pub begins : (ℕ → ℕ) → ℕ → ℕ
begins f zero = 0
begins f (suc zero) = 0
begins f (suc (suc k)) = begins f (suc k) + f (suc k)

-- The places where all kinds begin, and the number of all records.
pub record Begun (l l' : List ℕ) (cap n : ℕ) : Type 0 where
  pub total : n ≡ begins (of l) 19
  pub fits : n ≤ cap
  pub each-begins : (k : ℕ) → 1 ≤ k → k < 19 → of l' k ≡ begins (of l) k
  pub kinds : length l' ≡ 19

-- The contract of `begin`.
abbrev pub Sums : List ℕ → List ℕ → ℕ → Option ℕ → Type 0
Sums l l' cap (Some n) = Begun l l' cap n
Sums l l' cap None = cap < begins (of l) 19

-- ---- Writing the record of one tag.

-- There is room in the output for the records from a cursor on.
abbrev pub TagsFit : Text → Cursor → List ℕ → Bytes → Type 0
TagsFit s c l out = (k : ℕ) → 1 ≤ k → k < 19 → 16 * tallied s c l k ≤ length out

-- There is room in the output for the records of all tags.
abbrev pub FitsAll : List Tag → List ℕ → Bytes → Type 0
FitsAll ts l out = (k : ℕ) → 1 ≤ k → k < 19 → 16 * tally start (of l) ts k ≤ length out

-- One step of writing: the final output stays the same.
pub record Puts (ns : Names) (s : Text) (c n : Cursor) (l l' : List ℕ) (out out' : Bytes) : Type 0 where
  pub steps : Steps s c n
  pub there-too : there_from ns s n ≡ true
  pub tallies : tallied s c l ≡ tallied s n l'
  pub fills : fill ns (context_of c) (of l) (tags_at s c) out ≡ fill ns (context_of n) (of l') (tags_at s n) out'
  pub room : length out' ≡ length out
  pub kinds : length l' ≡ length l

-- The contract of `write_at`, with the list of tags m.
abbrev pub Writes : Names → Text → List ℕ → Cursor → List ℕ → List ℕ → Bytes → Bytes → Option Cursor → Type 0
Writes ns s m c l l' out out' (Some n) = Puts ns s c n l l' out out' × Led s m n
Writes ns s m c l l' out out' None = (tags_at s c ≡ []) × (out' ≡ out)

-- ---- Writing one kept record.

-- The contract of `put_kept`.
pub record PutsKept (w : List ℕ) (j : ℕ) (l l' : List ℕ) (out out' : Bytes) : Type 0 where
  pub next-is : of l' ≡ upd (of l) (kind_in w j) (suc (of l (kind_in w j)))
  pub written_is : out' ≡ two_words out (of l (kind_in w j)) (low_at w j) (high_at w j)
  pub room : length out' ≡ length out
  pub kinds : length l' ≡ length l
