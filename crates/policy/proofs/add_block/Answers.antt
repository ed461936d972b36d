-- `add_block` meets its contract: it stores the new row after the rows kept, and the number of rows kept, one higher.
use native.Mathlib.Omega.{arith}
use Rattle.policy.proofs.AddLaws.{block-added}
use Rattle.policy.proofs.add_block.Goals as goal

pub returns : goal.returns
returns c =
    let pre = c.requires in
    block-added _ c.told-p c.block_count-k.result _ _ pre.0 (omega arith) c.block_count-k.ensures.0
