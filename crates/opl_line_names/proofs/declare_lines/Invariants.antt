-- `declare_lines` meets its contract: declaring the names of the lines that are left makes the table that the names of all lines make.
use Prim.Native.Nat.{◌-◌}
use mathlib.Core.Path.{◌≡◌}
use mathlib.Core.Bool.{true}
use lib.ListN.{length, drop}
use Rattle.paper_opl.specs.Naming.{lines}
use Rattle.opl_line_names.specs.Names.{line_names, accepted}
use Rattle.opl_line_names.proofs.DeclaredLaws.{Left}
use Rattle.opl_line_names.proofs.declare_lines.Given as goal

abbrev pub invariant-loop-next : goal.invariant-loop-next
invariant-loop-next l = record {
  left : Left l.t l.i (line_names l.t l.i) 0 l.at l.initial.w l.w;
  rest : accepted (lines (length l.t) (drop l.at l.t)) ≡ true;
}

abbrev pub decreases-loop-next : goal.decreases-loop-next
decreases-loop-next l = length l.t - l.at
