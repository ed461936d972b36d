-- `has_before` meets its contract: a loop over all rows kept. Its invariant: a row is about t exactly if one was found or one from k on is.
use mathlib.Core.Bool.{◌||◌}
use mathlib.Core.Path.{◌≡◌}
use Prim.Native.Nat.{◌-◌}
use Rattle.paper_lower.specs.Lists.{some}
use Rattle.policy.specs.Layout.{pair_at}
use Rattle.policy.specs.Reading.{policy_of}
use Rattle.replies.specs.Cells.{rows_from}
use Rattle.order_rules.specs.Blocks.{after}
use Rattle.order_rules.proofs.has_before.Given as goal

abbrev pub invariant-loop-k : goal.invariant-loop-k
invariant-loop-k l =
    some (after l.t) (policy_of l.p).rules.befores ≡ l.found || some (after l.t) (rows_from (pair_at 1 l.p) l.k (l.count - l.k))
