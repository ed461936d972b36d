-- `two_tasks` meets its contract: a loop over the numbers below 64 that stops at the second task. Its invariant: n is the number of tasks below i, at most 1.
use Prim.Native.Nat.{◌≤◌}
use mathlib.Core.Path.{◌≡◌}
use Rattle.paper_lower.specs.Sets.{size, collect}
use Rattle.paper_lower.specs.Lists.{is}
use Rattle.policy.specs.Reading.{policy_of}
use Rattle.policy_lookups.proofs.two_tasks.Given as goal

abbrev pub invariant-loop-i : goal.invariant-loop-i
invariant-loop-i l = (l.n ≤ 1) × (l.n ≡ size (collect l.i (λ t. is l.j ((policy_of l.p).tasks.template t))))
