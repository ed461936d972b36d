-- `request` meets its contract: a buffer of a wrong length gets ROOM; a record refused with SHAPE or RANGE changes nothing; any other record goes to `act`.
use mathlib.Core.Path.{refl}
use borrow.Author.Rules.{rules}
use Rattle.std.proofs.lemmas.Result.{err_from_is_err_and}
use Rattle.paper_lower.specs.Records.{decode}
use Rattle.paper_lower.specs.Forms.{request_forms}
use Rattle.paper_upper.specs.Engine.{request_kinds, request}
use Rattle.records.specs.Calls.{settled}
use Rattle.records.proofs.Passing.{refused-answer, sized, passed, passed-answer}
use Rattle.replies.proofs.ReplyLaws.{not-granted}
use Rattle.engine.specs.Buffers.{buffers, tables_of}
use Rattle.engine.proofs.Lifts.{of-refusal}
use Rattle.engine.proofs.PlaceLaws.{no-form}
use Rattle.engine.proofs.Ways.{policy-unfit, sessions-unfit, orders-unfit, fits, same-lengths, no_room, answered}
use Rattle.engine.proofs.request.Goals as goal

pub returns-in_default : goal.returns-in_default
returns-in_default c = rw c.from.ensures (no_room _ _ (policy-unfit _ _ _ c.in_default.ensures.cases))

pub returns-in_default-as_mut_array : goal.returns-in_default-as_mut_array
returns-in_default-as_mut_array c =
    rw (c.from-in_default-as_mut_array.ensures, c.in-Some.ensures.cases.same)
    (no_room _ _ (sessions-unfit _ _ _ c.in_default-as_mut_array.ensures.cases))

pub returns-in_default-as_mut_array-2 : goal.returns-in_default-as_mut_array-2
returns-in_default-as_mut_array-2 c =
    rw (c.from-in_default-as_mut_array-2.ensures, c.in-Some.ensures.cases.same, c.in-Some-as_mut_array.ensures.cases.same)
    (no_room _ _ (orders-unfit c.args.policy.now c.args.sessions.now c.args.orders.now c.in_default-as_mut_array-2.ensures.cases))

pub returns-in_err-judge : goal.returns-in_err-judge
unfolding request
returns-in_err-judge c =
    let z = c.args in
    let p = c.in-Some.ensures.cases in
    let s = c.in-Some-as_mut_array.ensures.cases in
    let o = c.in-Some-as_mut_array-2.ensures.cases in
    let t = tables_of (buffers z.policy.now z.sessions.now z.orders.now) in
    let e = err_from_is_err_and c.from_residual.result c.from_residual.ensures.1 in
    rw (e.1, e.2, p.same, s.same, o.same)
    (answered (fits _ _ _ p.long s.long o.long) (refused-answer request_forms z.bytes.now request_kinds t _ c.in_err-judge.ensures) refl
    (of-refusal (no-form request_forms z.bytes.now t (decode z.bytes.now) c.in_err-judge.ensures)) (λ n. absurd (not-granted _ n))
    (same-lengths refl refl refl))

pub decode-requires : goal.decode-requires
decode-requires c = sized request_forms c.args.bytes.now c.in_ok-judge.ensures

pub act-requires : goal.act-requires
act-requires c = passed request_forms c.args.bytes.now c.in_ok-judge.ensures c.decode.ensures

pub returns : goal.returns
unfolding request settled
returns c =
    let z = c.args in
    let p = c.in-Some.ensures.cases in
    let s = c.in-Some-as_mut_array.ensures.cases in
    let o = c.in-Some-as_mut_array-2.ensures.cases in
    let t = tables_of (buffers z.policy.now z.sessions.now z.orders.now) in
    let act = rw (p.same, s.same, o.same) at c.act.ensures in
    answered (fits _ _ _ p.long s.long o.long)
    (passed-answer request_forms z.bytes.now c.in_ok-judge.ensures c.decode.ensures request_kinds t)
    c.decode.ensures.reads act.0 act.1 (same-lengths (search rules) (search rules) (search rules))
