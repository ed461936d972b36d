-- `list` meets its contract. The invariant of the loop: the tasks written so far, and the tasks that the definition adds after them, are the whole list.
use mathlib.Core.Path.{◌≡◌}
use Rattle.policy.specs.Reading.{policy_of}
use Rattle.order_stuck.proofs.Walk.{Going}
use Rattle.order_stuck.proofs.list.Given as goal

abbrev pub invariant-loop-n : goal.invariant-loop-n
invariant-loop-n l = record {
  counted : l.count ≡ l.n;
  going : Going l.m.bits (policy_of l.p).rules.befores l.initial.out l.out l.had.bits l.n;
}
