-- `block` meets its contract: it writes the numbers of the block. A partitioning is below 16 and fits its field.
use native.Mathlib.Omega.{arith}
use Rattle.paper_lower.specs.Written.{when}
use Rattle.policy_writing.proofs.Laws.{as_row}
use Rattle.policy_writing.proofs.LineLaws.{block-small}
use Rattle.policy_writing.proofs.block.Goals as goal

pub put-requires : goal.put-requires
put-requires c = (
  c.requires.0,
  record {
    kind_fits = omega arith;
    n-fits = omega arith;
    a-fits = omega (arith, c.block_partitioning-a.ensures, block-small c.args.p.now c.args.k);
    b-fits = omega arith;
    c-fits = omega arith;
  },
)

pub returns : goal.returns
unfolding when
returns c =
    let block-partitioning = c.block_partitioning-a in
    let block-tasks = c.block_tasks-m in
    as_row 1 c.put.ensures (rw (block-partitioning.ensures, block-tasks.ensures)) (omega arith)
