-- The records of the task lines, from an index of the text on.
use Rattle.std.specs.Prelude.{ℕ, ◌+◌, ◌*◌, ◌-◌, ◌≤◌, ◌<◌, ◌≡◌, Bool, true, false, List, ◌∷◌, length, take, drop, Option, Some, None}
use Rattle.paper_lower.specs.Lists.{there, every, many}
use Rattle.paper_lower.specs.Lists.Maybe.{none, just}
use Rattle.paper_lower.specs.Records.{Bytes, Record}
use Rattle.paper_opl.specs.Reading.{Text}
use Rattle.paper_opl.specs.Naming.{Line, Names, lines, task_record}
use Rattle.paper_opl.specs.Filling.{fill_lines}
use Rattle.opl_lines.specs.Lines.{lines_read, lines_in}
use Rattle.opl_line_names.specs.Names.{accepted}
use Rattle.opl_passes.specs.declared.Row.{Row}

-- The task lines from an index on.
abbrev pub lines_at : Text → ℕ → List Line
lines_at t at = lines_read (lines (length t) (drop at t))

-- The text from an index on is accepted as task lines.
abbrev pub lines_good : Text → ℕ → Type 0
lines_good t at = accepted (lines (length t) (drop at t)) ≡ true

-- Whether every line has its record.
abbrev pub lines_there : Names → List Line → Bool
lines_there ns ls = every (λ l. there (task_record ns l)) ls

-- The record of a line, by its numbers.
abbrev pub pair_record : ℕ → ℕ → Record
pair_record a b = record { kind = 6; n = 0; a = a; b = b; c = 0; m = 0 }

-- One step from a line to the next.
pub record LineSteps (t : Text) (at next : ℕ) : Type 0 where
  pub past : at < next
  pub inside : next ≤ length t
  pub good : lines_good t next

-- The line at an index, and its record.
pub record Paired (ns : Names) (t : Text) (at a b next : ℕ) : Type 0 where
  pub steps : LineSteps t at next
  pub line : Line
  pub lines_are : lines_at t at ≡ line ∷ lines_at t next
  pub record_is : task_record ns line ≡ just (pair_record a b)
  pub a-fits : a < 65536
  pub b-fits : b < 65536

-- The contract of `row_at`.
abbrev pub RowIs : Names → Text → ℕ → Option Row → Type 0
RowIs ns t at (Some r) = Paired ns t at r.a r.b r.next
RowIs ns t at None = lines_there ns (lines_at t at) ≡ false

-- The line whose task ends at e and whose template ends at f.
abbrev pub line_between : Text → ℕ → ℕ → ℕ → Line
line_between t at e f = record { task = take (e - at) (drop at t); template = take (f - (e + 1)) (drop (e + 1) t) }

-- The contract of `numbers`.
abbrev pub Pairs : Names → Line → ℕ → Option Row → Type 0
Pairs ns l next (Some r) = (task_record ns l ≡ just (pair_record r.a r.b)) × ((r.a < 65536) × ((r.b < 65536) × (r.next ≡ next)))
Pairs ns l next None = task_record ns l ≡ none

-- The contract of `check_lines`.
abbrev pub LinesAre : Names → Text → Option ℕ → Type 0
LinesAre ns t (Some k) = (lines_there ns (lines_in t) ≡ true) × ((many (lines_in t) ≡ k) × (k ≤ length t))
LinesAre ns t None = lines_there ns (lines_in t) ≡ false

-- The contract of `write_line`, which writes to place p.
pub record LineWritten (ns : Names) (t : Text) (at p next : ℕ) (out out' : Bytes) : Type 0 where
  pub steps : LineSteps t at next
  pub there-too : lines_there ns (lines_at t next) ≡ true
  pub fewer : many (lines_at t at) ≡ 1 + many (lines_at t next)
  pub fills : fill_lines ns p (lines_at t at) out ≡ fill_lines ns (p + 1) (lines_at t next) out'
  pub room : length out' ≡ length out

-- There is room in the output for all lines, from place p on.
abbrev pub LinesFit : Text → ℕ → ℕ → Bytes → Type 0
LinesFit t at p out = 16 * (p + many (lines_at t at)) ≤ length out
