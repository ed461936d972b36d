-- `question` meets its contract: it is refused by `judge`, UNKNOWN if the links are not sound, or answered by its kind.
use mathlib.Core.Bool.{true≢false}
use mathlib.Core.Path.{◌≡◌, sym, ◌∙◌}
use borrow.Author.Rules.{rules}
use Rattle.std.proofs.lemmas.Result.{err_from_is_err_and}
use Rattle.engine.specs.Buffers.{buffers}
use Rattle.call_question.proofs.Ways.{refused, room, words, sixteen, ready, to_none, by-its-kind}
use Rattle.call_question.proofs.question.Goals as goal

pub returns-in_err-judge : goal.returns-in_err-judge
returns-in_err-judge c =
    let z = c.args in
    let p = err_from_is_err_and c.from_residual.result c.from_residual.ensures.1 in
    rw (p.1, p.2)
    (refused z.bytes.now z.answer.now (buffers z.policy.now z.sessions.now z.orders.now) _ c.in_err-judge.ensures)

pub returns-in_err-answer : goal.returns-in_err-answer
returns-in_err-answer c =
    let z = c.args in
    let h = room z.bytes.now z.answer.now (buffers z.policy.now z.sessions.now z.orders.now) c.in_ok-judge.ensures in
    absurd (true≢false (sym (c.as_mut_array.ensures.variant.1 h) ∙ sym c.in_err-answer.ensures.variant))

pub returns-in_err-p : goal.returns-in_err-p
returns-in_err-p c =
    let z = c.args in
    let h = words z.bytes.now z.answer.now (buffers z.policy.now z.sessions.now z.orders.now) c.in_ok-judge.ensures in
    absurd (true≢false (sym (c.as_array.ensures.variant.1 h.0) ∙ sym c.in_err-p.ensures.variant))

pub returns-in_err-o : goal.returns-in_err-o
returns-in_err-o c =
    let z = c.args in
    let h = words z.bytes.now z.answer.now (buffers z.policy.now z.sessions.now z.orders.now) c.in_ok-judge.ensures in
    absurd (true≢false (sym (c.as_array-2.ensures.variant.1 h.1) ∙ sym c.in_err-o.ensures.variant))

pub returns-then-not-is_sound : goal.returns-then-not-is_sound
returns-then-not-is_sound c =
    let z = c.args in
    let same : c.in_ok-o.o.now ≡ c.args.orders.now = search rules in
    let same_a : c.in_ok-answer.answer.now ≡ c.args.answer.now = search rules in
    rw same_a
    (to_none z.bytes.now z.answer.now (buffers z.policy.now z.sessions.now z.orders.now) c.in_ok-judge.ensures c.decode-r.ensures
    (rw (← same) (sym c.is_sound.ensures ∙ c.if-not-is_sound.true)))

pub decode-r-requires : goal.decode-r-requires
decode-r-requires c =
    let z = c.args in
    sixteen z.bytes.now z.answer.now (buffers z.policy.now z.sessions.now z.orders.now) c.in_ok-judge.ensures

pub answer_to-requires : goal.answer_to-requires
answer_to-requires c =
    let z = c.args in
    let same : c.in_ok-o.o.now ≡ c.args.orders.now = search rules in
    rw same
    (ready z.bytes.now z.answer.now (buffers z.policy.now z.sessions.now z.orders.now) c.in_ok-judge.ensures c.decode-r.ensures
    (rw (← same) (sym c.is_sound.ensures ∙ c.if-not-is_sound.false)))

pub returns : goal.returns
returns c =
    let z = c.args in
    let same : c.in_ok-o.o.now ≡ c.args.orders.now = search rules in
    let same_p : c.in_ok-p.p.now ≡ c.args.policy.now = search rules in
    let same_a : c.in_ok-answer.answer.now ≡ c.args.answer.now = search rules in
    let e = rw (same, same_p, same_a) at c.answer_to.ensures in
    by-its-kind z.bytes.now z.answer.now (buffers z.policy.now z.sessions.now z.orders.now) c.in_ok-judge.ensures c.decode-r.ensures
    (rw (← same) (sym c.is_sound.ensures ∙ c.if-not-is_sound.false)) e
