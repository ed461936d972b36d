-- `check_lines` meets its contract: all lines have records if the lines that are left have them, because those before have.
use lib.ListN.{length}
use Prim.Native.Nat.{◌-◌}
use Rattle.opl_said.specs.Said.{all_names}
use Rattle.opl_passes.proofs.LineLaws.{LinesLeft}
use Rattle.opl_passes.proofs.check_lines.Given as goal

abbrev pub invariant-loop-at : goal.invariant-loop-at
invariant-loop-at l = LinesLeft (all_names l.texts.policy.now l.texts.lines.now) l.texts.lines.now l.n l.at

abbrev pub decreases-loop-at : goal.decreases-loop-at
decreases-loop-at l = length l.texts.lines.now - l.at
