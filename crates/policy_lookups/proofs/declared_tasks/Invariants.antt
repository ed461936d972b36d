-- `declared_tasks` meets its contract: a loop over the numbers below 64. Its invariant: the set has the declared tasks below t.
use mathlib.Core.Path.{◌≡◌}
use Rattle.paper_lower.specs.Sets.{collect}
use Rattle.paper_lower.specs.Lists.{there}
use Rattle.policy.specs.Reading.{policy_of}
use Rattle.policy_lookups.proofs.declared_tasks.Given as goal

abbrev pub invariant-loop-t : goal.invariant-loop-t
invariant-loop-t l = l.all.bits ≡ collect l.t (λ a. there ((policy_of l.p).tasks.template a))
