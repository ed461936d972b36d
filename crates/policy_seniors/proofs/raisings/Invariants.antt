-- `raisings` meets its contract. The invariant of the loop: n is the sum over the rows before r. Each row adds at most 64, so that the sum does not wrap.
use mathlib.Core.Path.{◌≡◌}
use Prim.Native.Nat.{◌*◌, ◌≤◌}
use Rattle.paper_lower.specs.Sets.{size}
use Rattle.paper_lower.specs.Lists.{sum_below}
use Rattle.policy.specs.Reading.{policy_of}
use Rattle.policy_seniors.proofs.raisings.Given as goal

abbrev pub invariant-loop-r : goal.invariant-loop-r
invariant-loop-r l = (l.n ≤ 64 * l.r) × (l.n ≡ sum_below l.r (λ k. size ((policy_of l.p).seniority.juniors k)))
