-- `has_apart` meets its contract: a loop over all rows kept. Its invariant: a row is apart from t exactly if one was found or one from k on is.
use mathlib.Core.Bool.{◌||◌}
use mathlib.Core.Path.{◌≡◌}
use Prim.Native.Nat.{◌-◌}
use Rattle.paper_lower.specs.Lists.{some}
use Rattle.policy.specs.Layout.{block_at}
use Rattle.policy.specs.Reading.{policy_of}
use Rattle.replies.specs.Cells.{rows_from}
use Rattle.order_rules.specs.Blocks.{apart}
use Rattle.order_rules.proofs.has_apart.Given as goal

abbrev pub invariant-loop-k : goal.invariant-loop-k
invariant-loop-k l =
    some (apart l.d.bits l.t) (policy_of l.p).rules.blocks ≡ l.found || some (apart l.d.bits l.t) (rows_from (block_at l.p) l.k (l.count - l.k))
