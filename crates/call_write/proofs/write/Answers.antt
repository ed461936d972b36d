-- `write` meets its contract: a wrong length gets ROOM; if the links are not sound nothing is written; otherwise the policy buffer's records are written.
use mathlib.Core.Bool.{true≢false}
use mathlib.Core.Path.{◌≡◌, sym, ◌∙◌}
use borrow.Author.Rules.{rules}
use Rattle.engine.specs.Buffers.{buffers}
use Rattle.engine.proofs.Ways.{fit-lengths}
use Rattle.call_write.proofs.Ways.{no-state, of_none, of-policy}
use Rattle.call_write.proofs.write.Goals as goal

pub returns-then-not-fit : goal.returns-then-not-fit
returns-then-not-fit c =
    let args = c.args in
    no-state (buffers args.policy.now args.sessions.now args.orders.now) args.output.now
    (sym c.fit.ensures ∙ c.if-not-fit.true)

pub returns-in_err-o : goal.returns-in_err-o
returns-in_err-o c =
    let args = c.args in
    let h = fit-lengths (buffers args.policy.now args.sessions.now args.orders.now) (sym c.fit.ensures ∙ c.if-not-fit.false) in
    absurd (true≢false (sym (c.as_array.ensures.variant.1 h.1.1) ∙ sym c.in_err-o.ensures.variant))

pub returns-then-not-is_sound : goal.returns-then-not-is_sound
returns-then-not-is_sound c =
    let args = c.args in
    let same : c.in_ok-o.o.now ≡ args.orders.now = search rules in
    of_none (buffers args.policy.now args.sessions.now args.orders.now) args.output.now
    (sym c.fit.ensures ∙ c.if-not-fit.false)
    (rw (← same) (sym c.is_sound.ensures ∙ c.if-not-is_sound.true))

pub returns : goal.returns
returns c =
    let args = c.args in
    let same : c.in_ok-o.o.now ≡ args.orders.now = search rules in
    of-policy (buffers args.policy.now args.sessions.now args.orders.now) args.output.now (sym c.fit.ensures ∙ c.if-not-fit.false)
    (rw (← same) (sym c.is_sound.ensures ∙ c.if-not-is_sound.false)) c.write.ensures
