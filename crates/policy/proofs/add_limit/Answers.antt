-- `add_limit` meets its contract: it stores the new row after the rows kept, and the number of rows kept, one higher.
use native.Mathlib.Omega.{arith}
use Rattle.policy.proofs.AddLaws.{limit-added}
use Rattle.policy.proofs.add_limit.Goals as goal

pub returns : goal.returns
returns c =
    let kind = c.index-kind.ensures in
    rw (← kind.0) (limit-added _ c.told-p c.index-kind.result c.limit_count-k.result _ _ kind.1 (omega arith) (rw kind.0 c.limit_count-k.ensures.0))
