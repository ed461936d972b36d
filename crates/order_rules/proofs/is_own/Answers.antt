-- `is_own` meets its contract: its tests of the block are those of the definition.
use Rattle.paper_upper.specs.Rules.{own}
use Rattle.order_rules.proofs.is_own.Goals as goal

pub returns : goal.returns
unfolding own
returns c = rw (c.block_partitioning.ensures, c.has.ensures, c.block_tasks-tasks.ensures)
