-- `waiting` meets its contract: a loop from the last prerequisite to the first. Its invariant: the set has the tasks that wait because of the rows from k on.
use mathlib.Core.Path.{◌≡◌}
use Prim.Native.Nat.{◌-◌}
use Rattle.policy.specs.Layout.{pair_at}
use Rattle.replies.specs.Cells.{rows_from}
use Rattle.order_stuck.specs.Listing.{waiting}
use Rattle.order_stuck.proofs.waiting.Given as goal

abbrev pub invariant-loop-k : goal.invariant-loop-k
invariant-loop-k l = l.all.bits ≡ waiting l.had.bits (rows_from (pair_at 1 l.p) l.k (l.count - l.k))
