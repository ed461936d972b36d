-- `skip_misc` meets its contract: it reads white space, and then, as long as a comment follows, the comment and the white space after it.
use Rattle.opl_text.proofs.Turns.{Clear}
use Prim.Native.Nat.{◌-◌}
use Prim.Native.Nat.{◌≤◌}
use lib.ListN.{length}
use Rattle.opl_text.proofs.skip_misc.Given as goal

abbrev pub invariant-loop-i : goal.invariant-loop-i
invariant-loop-i l = (l.i ≤ length l.s) × Clear l.s l.at l.i

abbrev pub decreases-loop-i : goal.decreases-loop-i
decreases-loop-i l = length l.s - l.i
