-- `write_lines` meets its contract: the loop invariant is `LinesPut` (LineLaws.antt).
use lib.ListN.{length}
use Prim.Native.Nat.{◌-◌}
use Rattle.opl_said.specs.Said.{all_names}
use Rattle.opl_passes.proofs.LineLaws.{LinesPut}
use Rattle.opl_passes.proofs.write_lines.Given as goal

abbrev pub invariant-loop-at : goal.invariant-loop-at
invariant-loop-at l = LinesPut (all_names l.texts.policy.now l.texts.lines.now) l.texts.lines.now l.fn.place l.initial.out l.at l.p l.out

abbrev pub decreases-loop-at : goal.decreases-loop-at
decreases-loop-at l = length l.texts.lines.now - l.at
