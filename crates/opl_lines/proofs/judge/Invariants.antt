-- `judge` meets its contract: after each line, reading the rest of the text has the same result as reading the whole.
use Prim.Native.Nat.{◌-◌, ◌≤◌}
use mathlib.Core.Path.{◌≡◌}
use lib.ListN.{length, drop}
use Rattle.paper_opl.specs.Naming.{lines}
use Rattle.opl_lines.specs.Lines.{forget}
use Rattle.opl_lines.proofs.judge.Given as goal

abbrev pub invariant-loop-at : goal.invariant-loop-at
invariant-loop-at l = (l.at ≤ length l.t) × (forget (lines (length l.t) l.t) ≡ forget (lines (length l.t) (drop l.at l.t)))

abbrev pub decreases-loop-at : goal.decreases-loop-at
decreases-loop-at l = length l.t - l.at
