-- `pile` meets its contract: a refused pile writes nothing; an accepted one performs its requests and writes their replies into the answer buffer.
use native.Mathlib.Omega.{arith}
use mathlib.Core.Bool.{true≢false}
use mathlib.Core.Path.{◌≡◌, sym, ◌∙◌}
use lib.ListN.{length-take, length-drop}
use Rattle.std.proofs.lemmas.Result.{err_from_is_err_and}
use Rattle.engine.specs.Buffers.{buffers}
use Rattle.call_pile.proofs.Ways.{refused, taken, done, room_of}
use borrow.Author.Rules.{rules}
use Rattle.call_pile.proofs.pile.Goals as goal

pub returns-in_err-judge : goal.returns-in_err-judge
returns-in_err-judge c =
    let z = c.args in
    let p = err_from_is_err_and c.from_residual.result c.from_residual.ensures.1 in
    rw (p.1, p.2)
    (refused z.bytes.now z.answers.now z.at (buffers z.policy.now z.sessions.now z.orders.now) _ c.in_err-judge.ensures)

pub returns-in_err-o : goal.returns-in_err-o
returns-in_err-o c =
    let z = c.args in
    let x = buffers z.policy.now z.sessions.now z.orders.now in
    let h = room_of x (taken z.bytes.now z.answers.now z.at x c.in_ok-judge.ensures).fits in
    absurd (true≢false (sym (c.as_array.ensures.variant.1 h) ∙ sym c.in_err-o.ensures.variant))

pub slice_bounds-answer_all-count : goal.slice_bounds-answer_all-count
slice_bounds-answer_all-count c =
    let z = c.args in
    (taken z.bytes.now z.answers.now z.at (buffers z.policy.now z.sessions.now z.orders.now) c.in_ok-judge.ensures).inside

pub slice_bounds-answer_all-start : goal.slice_bounds-answer_all-start
slice_bounds-answer_all-start c =
    let z = c.args in
    let h = (taken z.bytes.now z.answers.now z.at (buffers z.policy.now z.sessions.now z.orders.now) c.in_ok-judge.ensures).inside in
    search rules

pub answer_all-requires : goal.answer_all-requires
answer_all-requires c =
    let z = c.args in
    let k = taken z.bytes.now z.answers.now z.at (buffers z.policy.now z.sessions.now z.orders.now) c.in_ok-judge.ensures in
    let r = k.room in
    let same : c.in_ok-o.o.now ≡ c.args.orders.now = search rules in
    (omega arith, (simp (length-take, length-drop) (omega arith), (k.fits, λ e. rw (← same) (sym c.is_sound-sound.ensures ∙ e))))

pub returns : goal.returns
returns c =
    let z = c.args in
    done (taken z.bytes.now z.answers.now z.at (buffers z.policy.now z.sessions.now z.orders.now) c.in_ok-judge.ensures) c.answer_all.ensures
