-- `is_strange` meets its contract: its tests of the block are those of the definition.
use Rattle.paper_upper.specs.Rules.{strange}
use Rattle.order_rules.proofs.is_strange.Goals as goal

pub returns : goal.returns
unfolding strange
returns c =
    let block-tasks = c.block_tasks-tasks in
    rw (c.block_partitioning.ensures, c.has.ensures, c.meets.ensures, block-tasks.ensures)
