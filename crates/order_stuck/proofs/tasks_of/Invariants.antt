-- `tasks_of` meets its contract: a loop over the numbers below 64. Its invariant: the set has the tasks of template j below t.
use mathlib.Core.Path.{◌≡◌}
use Rattle.paper_lower.specs.Sets.{collect}
use Rattle.paper_lower.specs.Lists.{is}
use Rattle.policy.specs.Reading.{policy_of}
use Rattle.order_stuck.proofs.tasks_of.Given as goal

abbrev pub invariant-loop-t : goal.invariant-loop-t
invariant-loop-t l = l.all.bits ≡ collect l.t (λ a. is l.j ((policy_of l.p).tasks.template a))
