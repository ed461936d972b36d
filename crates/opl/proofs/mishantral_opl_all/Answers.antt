-- `mishantral_opl_all` meets its contract: the policy text is refused, or `number` answers for the rest.
use Rattle.opl.proofs.CallLaws.{bad-number, policy-wider, as-wider}
use mathlib.Core.Bool.{true}
use lib.ListN.{length}
use Rattle.opl.proofs.mishantral_opl_all.Goals as goal

pub number-requires : goal.number-requires
number-requires c =
    let args = c.args in
    policy-wider true args.policy.now args.lines.now (length args.scratch.now) args.output.now c.in-Ok.field-0 c.in-Ok.ensures

pub returns-in-Err : goal.returns-in-Err
returns-in-Err c =
    let args = c.args in
    bad-number true args.policy.now args.lines.now (length args.scratch.now) args.output.now c.in-Err.bad c.in-Err.ensures c.told.result c.told.ensures

pub returns-in-Ok : goal.returns-in-Ok
returns-in-Ok c =
    let args = c.args in
    let number = c.number in
    as-wider true args.policy.now args.lines.now (length args.scratch.now) args.output.now c.in-Ok.field-0 c.in-Ok.ensures number.new.out
    number.result number.ensures
