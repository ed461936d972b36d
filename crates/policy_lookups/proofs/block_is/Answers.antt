-- `block_is` meets its contract: it compares both fields of the row.
use Rattle.paper_lower.specs.Policy.{is_same_block}
use Rattle.policy_lookups.proofs.block_is.Goals as goal

pub returns : goal.returns
unfolding is_same_block
returns c = rw (c.block_partitioning.ensures, c.block_tasks.ensures)
