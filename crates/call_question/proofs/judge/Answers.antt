-- `judge` meets its contract: each return gives the reply of the first check that applies.
use mathlib.Core.Bool.{not}
use mathlib.Core.Path.{sym, ◌∙◌, ap}
use Rattle.engine.specs.Buffers.{buffers}
use Rattle.engine.proofs.Ways.{fit-yes, fit-no}
use Rattle.call_question.proofs.Ways.{no-state, no_room, another-length, no-question, as-request}
use Rattle.call_question.proofs.judge.Goals as goal

pub returns-then-not-fit : goal.returns-then-not-fit
returns-then-not-fit c =
    let args = c.args in
    no-state args.bytes.now args.answer.now (buffers args.policy.now args.sessions.now args.orders.now)
    (fit-no c.fit.ensures (ap not c.if-not-fit.true))

pub returns-then-answer-ne-ANSWER_WORDS : goal.returns-then-answer-ne-ANSWER_WORDS
returns-then-answer-ne-ANSWER_WORDS c =
    let args = c.args in
    no_room args.bytes.now args.answer.now (buffers args.policy.now args.sessions.now args.orders.now)
    (fit-yes c.fit.ensures (ap not c.if-not-fit.false)) c.if-answer-ne-ANSWER_WORDS.true

pub returns-then-bytes-ne16 : goal.returns-then-bytes-ne16
returns-then-bytes-ne16 c =
    let args = c.args in
    another-length args.bytes.now args.answer.now (buffers args.policy.now args.sessions.now args.orders.now)
    (fit-yes c.fit.ensures (ap not c.if-not-fit.false)) c.if-answer-ne-ANSWER_WORDS.false c.if-bytes-ne16.true

pub returns-then-not-is_question : goal.returns-then-not-is_question
returns-then-not-is_question c =
    let args = c.args in
    let fit = fit-yes c.fit.ensures (ap not c.if-not-fit.false) in
    let if2 = c.if-answer-ne-ANSWER_WORDS in
    no-question args.bytes.now args.answer.now (buffers args.policy.now args.sessions.now args.orders.now)
    fit if2.false c.decode-r.ensures
    (sym c.is_question.ensures ∙ c.if-not-is_question.true)

pub returns : goal.returns
returns c =
    let args = c.args in
    let fit = fit-yes c.fit.ensures (ap not c.if-not-fit.false) in
    let if2 = c.if-answer-ne-ANSWER_WORDS in
    let decode = c.decode-r in
    c.judge.ensures ∙
    as-request args.bytes.now args.answer.now (buffers args.policy.now args.sessions.now args.orders.now)
    fit if2.false decode.ensures
    (sym c.is_question.ensures ∙ c.if-not-is_question.false)
