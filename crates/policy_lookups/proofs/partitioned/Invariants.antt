-- `partitioned` meets its contract: a loop from the last block to the first. Its invariant: the set has the tasks of the partitioning's blocks from k on.
use mathlib.Core.Path.{◌≡◌}
use Prim.Native.Nat.{◌-◌}
use Rattle.paper_lower.specs.Policy.{partitioned}
use Rattle.policy.specs.Layout.{block_at}
use Rattle.replies.specs.Cells.{rows_from}
use Rattle.policy_lookups.proofs.partitioned.Given as goal

abbrev pub invariant-loop-k : goal.invariant-loop-k
invariant-loop-k l = l.all.bits ≡ partitioned l.a (rows_from (block_at l.p) l.k (l.count - l.k))
