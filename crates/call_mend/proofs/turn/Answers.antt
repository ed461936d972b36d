-- `turn` meets its contract: a refused call changes nothing; the first step empties the state and then mends; a later step goes on in the state that is there.
use mathlib.Core.Bool.{true≢false}
use mathlib.Core.Path.{◌≡◌, refl, sym, ◌∙◌}
use borrow.Author.Rules.{rules}
use Rattle.std.proofs.lemmas.Result.{err_from_is_err_and}
use Rattle.engine.specs.Buffers.{buffers}
use Rattle.call_mend.proofs.Steps.{no-turn, roomed, first-turn, later-turn}
use Rattle.call_mend.proofs.turn.Goals as goal

pub returns-in_err-judge : goal.returns-in_err-judge
returns-in_err-judge c =
    let z = c.args in
    let p = err_from_is_err_and c.from_residual.result c.from_residual.ensures.1 in
    rw (p.1, p.2)
    (no-turn z.input.now z.output.now z.room z.place z.dropped (buffers z.policy.now z.sessions.now z.orders.now) _ c.in_err-judge.ensures refl)

pub returns-in_err-p : goal.returns-in_err-p
returns-in_err-p c =
    let z = c.args in
    let r = roomed z.input.now z.output.now z.room z.place z.dropped (buffers z.policy.now z.sessions.now z.orders.now) c.in_ok-judge.ensures in
    absurd (true≢false (sym (c.as_mut_array.ensures.variant.1 r.words) ∙ sym c.in_err-p.ensures.variant))

pub returns-in_err-s : goal.returns-in_err-s
returns-in_err-s c =
    let z = c.args in
    let r = roomed z.input.now z.output.now z.room z.place z.dropped (buffers z.policy.now z.sessions.now z.orders.now) c.in_ok-judge.ensures in
    absurd (true≢false (sym (c.as_mut_array-2.ensures.variant.1 r.session-words) ∙ sym c.in_err-s.ensures.variant))

pub returns-in_err-o : goal.returns-in_err-o
returns-in_err-o c =
    let z = c.args in
    let r = roomed z.input.now z.output.now z.room z.place z.dropped (buffers z.policy.now z.sessions.now z.orders.now) c.in_ok-judge.ensures in
    absurd (true≢false (sym (c.as_mut_array-3.ensures.variant.1 r.order-words) ∙ sym c.in_err-o.ensures.variant))

pub next-requires : goal.next-requires
next-requires c =
    let z = c.args in
    let pre = c.requires in
    let r = roomed z.input.now z.output.now z.room z.place z.dropped (buffers z.policy.now z.sessions.now z.orders.now) c.in_ok-judge.ensures in
    record { words = c.clear.ensures.words; room = r.output; within = pre.0; fewer = pre.1 }

pub returns-then-dropped-eq0 : goal.returns-then-dropped-eq0
returns-then-dropped-eq0 c =
    let z = c.args in
    first-turn z.input.now z.output.now z.room z.place z.dropped (buffers z.policy.now z.sessions.now z.orders.now) c.in_ok-judge.ensures
    c.if-dropped-eq0.true c.clear.ensures c.clear-then-dropped-eq0.ensures c.clear-then-dropped-eq0-2.ensures c.next.ensures c.ended.ensures

pub next-requires-2 : goal.next-requires-2
next-requires-2 c =
    let z = c.args in
    let pre = c.requires in
    let r = roomed z.input.now z.output.now z.room z.place z.dropped (buffers z.policy.now z.sessions.now z.orders.now) c.in_ok-judge.ensures in
    record { words = search rules; room = r.output; within = pre.0; fewer = pre.1 }

pub returns : goal.returns
returns c =
    let z = c.args in
    let p : c.in_ok-p.p.now ≡ z.policy.now = search rules in
    let s : c.in_ok-s.s.now ≡ z.sessions.now = search rules in
    let o : c.in_ok-o.o.now ≡ z.orders.now = search rules in
    let judged = rw (← p, ← s, ← o) at c.in_ok-judge.ensures in
    rw (← p, ← s, ← o)
    (later-turn z.input.now z.output.now z.room z.place z.dropped (buffers c.in_ok-p.p.now c.in_ok-s.s.now c.in_ok-o.o.now) judged
    c.if-dropped-eq0.false c.next-2.ensures c.ended-2.ensures)
