-- `behind_policy` meets its contract: it judges the task lines, and then writes the records.
use Rattle.opl.proofs.CallLaws.{line-inside, both-accepted, bad-lines, accepted-is}
use lib.ListN.{length}
use Rattle.opl.proofs.behind_policy.Goals as goal

pub overflow_sub-result : goal.overflow_sub-result
overflow_sub-result c =
    let args = c.args in
    let u = c.unmarked-u in
    (line-inside args.s.now args.t.now (length args.w.now) args.out.now c.requires u.result.now u.ensures c.in-Err.bad c.in-Err.ensures).0

pub accepted-requires : goal.accepted-requires
accepted-requires c =
    let args = c.args in
    let u = c.unmarked-u in
    both-accepted args.s.now args.t.now (length args.w.now) args.out.now c.requires u.result.now u.ensures c.in-Ok.field-0 c.in-Ok.ensures

pub returns-in-Err : goal.returns-in-Err
returns-in-Err c =
    let args = c.args in
    let u = c.unmarked-u in
    bad-lines args.s.now args.t.now (length args.w.now) args.out.now c.requires u.result.now u.ensures c.in-Err.bad c.in-Err.ensures

pub returns-in-Ok : goal.returns-in-Ok
returns-in-Ok c =
    let args = c.args in
    let u = c.unmarked-u in
    let accepted = c.accepted in
    accepted-is args.s.now args.t.now u.result.now u.ensures (length args.w.now) args.out.now
    (both-accepted args.s.now args.t.now (length args.w.now) args.out.now c.requires u.result.now u.ensures c.in-Ok.field-0 c.in-Ok.ensures)
    accepted.new.out accepted.result accepted.ensures
