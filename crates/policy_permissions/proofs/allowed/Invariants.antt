-- `allowed` meets its contract. The invariant of the loop: there is such a permission exactly if one was found or one of the groups that are left has one.
use Prim.Native.Nat.{◌<◌}
use mathlib.Core.Bool.{◌||◌}
use mathlib.Core.Path.{◌≡◌}
use Rattle.paper_lower.specs.Sessions.{allowed}
use Rattle.policy.specs.Reading.{policy_of}
use Rattle.policy_permissions.specs.Rows.{opens, in_eights}
use Rattle.policy_permissions.proofs.allowed.Given as goal

abbrev pub invariant-loop-eight : goal.invariant-loop-eight
invariant-loop-eight l =
    (allowed (policy_of l.p).permissions l.fn.m.bits l.fn.operation l.fn.object ≡
    l.found || in_eights l.left.bits (opens l.p l.fn.m.bits l.fn.operation l.fn.object)) ×
    (l.left.bits < 4294967296)

abbrev pub decreases-loop-eight : goal.decreases-loop-eight
decreases-loop-eight l = l.left.bits
