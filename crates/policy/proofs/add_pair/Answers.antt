-- `add_pair` meets its contract: it stores the new row after the rows kept, and the number of rows kept, one higher.
use native.Mathlib.Omega.{arith}
use Rattle.policy.proofs.AddLaws.{pair-added}
use Rattle.policy.proofs.add_pair.Goals as goal

pub returns : goal.returns
returns c =
    let pre = c.requires in
    let kind = c.index-kind.ensures in
    rw (← kind.0) (pair-added _ c.told-p c.index-kind.result c.pair_count-k.result _ _ kind.1 pre.0 pre.1.0 (omega arith) (rw kind.0 c.pair_count-k.ensures.0))
