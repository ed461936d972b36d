-- `number` meets its contract: it is `behind_policy`, with the answer as one number.
use Rattle.opl.proofs.CallLaws.{exported}
use lib.ListN.{length}
use mathlib.Core.Bool.{true}
use Rattle.opl.proofs.number.Goals as goal

pub returns : goal.returns
returns c =
    let args = c.args in
    let answer = c.behind_policy in
    exported true args.s.now args.t.now (length args.w.now) args.out.now answer.new.out answer.result c.told.result answer.ensures c.told.ensures
