-- `is_apart` meets its contract: its tests of the block are those of the definition.
use Rattle.order_rules.specs.Blocks.{apart}
use Rattle.order_rules.proofs.is_apart.Goals as goal

pub returns : goal.returns
unfolding apart
returns c = rw (c.has.ensures, c.meets.ensures, c.block_tasks-tasks.ensures)
