-- The task lines read one by one, as the code does.
use Rattle.std.specs.Prelude.{ℕ, ◌+◌, ◌-◌, ◌≤◌, ◌<◌, ◌≡◌, List, [], ◌∷◌, length, take, drop, Result, Ok, Err}
use Rattle.paper_opl.specs.Reading.{Text, Read, after, expect, word}
use Rattle.paper_opl.specs.Reading.Read.{got, bad}
use Rattle.paper_opl.specs.Naming.{Line, in_line, line_end, lines}
use Rattle.opl_text.specs.declared.BadByte.{BadByte}
use Rattle.opl_lines.specs.declared.Line.{Line as Ends}

-- Reads one line with its end.
unfoldable pub line : Text → Read Line
line s =
    after (word in_line s) (λ v r. after (expect (32 ∷ []) r) (λ _ u. after (word in_line u) (λ w z.
    after (line_end z) (λ _ y. got (record { task = v; template = w }) y))))

-- A result without the value that was read.
abbrev pub forget : {A : Type 0} → Read A → Read (Unit {0})
forget (got x r) = got tt r
forget (bad r) = bad r

-- The lines that were read; none if the text was refused.
abbrev pub lines_read : Read (List Line) → List Line
lines_read (got ls r) = ls
lines_read (bad r) = []

-- The lines of a text.
unfoldable pub lines_in : Text → List Line
lines_in s = lines_read (lines (length s) s)

-- The meaning of the code's result for the line at an index: where its two names end, and where the next line begins. `Ends` is the code's struct `Line`.
abbrev pub line_of : Text → ℕ → Result Ends BadByte → Read Line
line_of t at (Ok l) =
    got (record { task = take (l.task - at) (drop at t); template = take (l.template - (l.task + 1)) (drop (l.task + 1) t) }) (drop l.next t)
line_of t at (Err e) = bad (drop e.at t)

-- The indices of a line rise and are not past the end.
pub record Apart (t : Text) (at e f n : ℕ) : Type 0 where
  pub task : at < e
  pub template : e + 1 < f
  pub next : f ≤ n
  pub inside : n ≤ length t

-- The same for the code's result.
abbrev pub Stands : Text → ℕ → Result Ends BadByte → Type 0
Stands t at (Ok l) = Apart t at l.task l.template l.next
Stands t at (Err e) = e.at ≤ length t

-- The contract of `read_line`.
pub record ReadsLine (t : Text) (at : ℕ) (r : Result Ends BadByte) : Type 0 where
  pub read_is : line_of t at r ≡ line (drop at t)
  pub stands : Stands t at r
