-- `gathered` meets its contract. The invariant of the loop: the roles gathered, and the roles below those that are left, are the whole result.
use mathlib.Core.Bool.{true}
use mathlib.Core.Path.{◌≡◌}
use Rattle.paper_lower.specs.Sets.{union, within}
use Rattle.paper_lower.specs.Policy.{down}
use Rattle.policy.specs.Layout.{seniors_in}
use Rattle.policy.specs.Reading.{policy_of}
use Rattle.sets.proofs.DownLaws.{below_all}
use Rattle.policy_seniors.proofs.gathered.Given as goal

abbrev pub invariant-loop-role : goal.invariant-loop-role
invariant-loop-role l =
    (down (policy_of l.p).seniority l.initial.all.bits ≡ union l.all.bits (below_all (policy_of l.p).seniority l.left.bits)) ×
    (within l.left.bits (seniors_in l.p) ≡ true)

abbrev pub decreases-loop-role : goal.decreases-loop-role
decreases-loop-role l = l.left.bits
