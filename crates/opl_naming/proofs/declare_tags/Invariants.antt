-- `declare_tags` meets its contract: the loop invariant is `NamesLeft` (NamingLaws.antt).
use Rattle.opl_naming.proofs.NamingLaws.{NamesLeft}
use Prim.Native.Nat.{◌-◌}
use lib.ListN.{length}
use Rattle.opl_naming.proofs.declare_tags.Given as goal

abbrev pub invariant-loop-next : goal.invariant-loop-next
invariant-loop-next l = NamesLeft l.s l.from l.at l.initial.w l.w

abbrev pub decreases-loop-next : goal.decreases-loop-next
decreases-loop-next l = length l.s - l.at
