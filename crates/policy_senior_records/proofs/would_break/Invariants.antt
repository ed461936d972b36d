-- `would_break` meets its contract: a loop over the numbers below 1024. Its invariant: no user below u would break a static set.
use mathlib.Core.Path.{◌≡◌}
use mathlib.Core.Bool.{false}
use Rattle.paper_lower.specs.Lists.{some_number_below}
use Rattle.policy.specs.Reading.{policy_of}
use Rattle.policy_senior_records.specs.Rows.{would_break}
use Rattle.policy_senior_records.proofs.would_break.Given as goal

abbrev pub invariant-loop-u : goal.invariant-loop-u
invariant-loop-u l = some_number_below l.u (would_break (policy_of l.p) l.a l.b) ≡ false
