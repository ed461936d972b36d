-- `request` meets its contract: buffers of the wrong length give ROOM, a refusal by SHAPE or RANGE stores nothing, and any other record is answered by `step`.
use mathlib.Core.Path.{refl}
use borrow.Author.Rules.{rules}
use Rattle.std.proofs.lemmas.Result.{err_from_is_err_and}
use Rattle.paper_lower.specs.Forms.{lower_forms}
use Rattle.paper_lower.specs.Sessions.{lower_kinds, lower_request}
use Rattle.records.specs.Calls.{settled}
use Rattle.records.proofs.Passing.{refused-answer, sized, passed, passed-answer}
use Rattle.sessions.specs.Lower.{lower_tables}
use Rattle.lower.proofs.Lifts.{of-neither}
use Rattle.lower.proofs.Ways.{sessions-unfit, no_room, answered}
use Rattle.lower.proofs.request.Goals as goal

pub returns-in_default-as_mut_array : goal.returns-in_default-as_mut_array
returns-in_default-as_mut_array c =
    rw c.in-Some.ensures.cases.same (no_room _ _ _ (sessions-unfit c.args.policy.now c.args.sessions.now c.in_default-as_mut_array.ensures.cases))

pub returns-in_err-judge : goal.returns-in_err-judge
unfolding lower_request
returns-in_err-judge c =
    let z = c.args in
    let p = c.in-Some.ensures.cases in
    let s = c.in-Some-as_mut_array.ensures.cases in
    let e = err_from_is_err_and c.from_residual.result c.from_residual.ensures.1 in
    rw (e.1, e.2, p.same, s.same)
    (answered p.long s.long
    (refused-answer lower_forms z.bytes.now lower_kinds (lower_tables z.policy.now z.sessions.now) _ c.in_err-judge.ensures)
    (of-neither refl) (refl, refl))

pub decode-requires : goal.decode-requires
decode-requires c = sized lower_forms c.args.bytes.now c.in_ok-judge.ensures

pub step-requires : goal.step-requires
step-requires c = passed lower_forms c.args.bytes.now c.in_ok-judge.ensures c.decode.ensures

pub returns : goal.returns
unfolding lower_request settled
returns c =
    let z = c.args in
    let p = c.in-Some.ensures.cases in
    let s = c.in-Some-as_mut_array.ensures.cases in
    let stepped = rw (p.same, s.same) at c.step.ensures in
    answered p.long s.long
    (passed-answer lower_forms z.bytes.now c.in_ok-judge.ensures c.decode.ensures lower_kinds (lower_tables z.policy.now z.sessions.now))
    stepped (search rules, search rules)
