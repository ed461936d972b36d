-- `judge` meets its contract: each return gives the reply of the first check that applies.
use mathlib.Core.Path.{sym, ◌∙◌}
use native.Mathlib.Omega.{arith}
use Rattle.engine.specs.Buffers.{buffers}
use Rattle.call_mend.proofs.Steps.{no-state, short-output, short-report, taken}
use Rattle.call_mend.proofs.judge.Goals as goal

pub returns-then-not-fit : goal.returns-then-not-fit
returns-then-not-fit c =
    let args = c.args in
    no-state args.input.now args.output.now args.room (buffers args.policy.now args.sessions.now args.orders.now)
    (sym c.fit.ensures ∙ c.if-not-fit.true)

pub returns-then-output-input : goal.returns-then-output-input
returns-then-output-input c =
    let args = c.args in
    let fit = sym c.fit.ensures ∙ c.if-not-fit.false in
    short-output args.input.now args.output.now args.room (buffers args.policy.now args.sessions.now args.orders.now) fit
    (omega arith)

pub returns-then-room-input : goal.returns-then-room-input
returns-then-room-input c =
    let args = c.args in
    let fit = sym c.fit.ensures ∙ c.if-not-fit.false in
    short-report args.input.now args.output.now args.room (buffers args.policy.now args.sessions.now args.orders.now) fit
    (omega arith) (omega arith)

pub returns : goal.returns
returns c =
    let args = c.args in
    let fit = sym c.fit.ensures ∙ c.if-not-fit.false in
    taken args.input.now args.output.now args.room (buffers args.policy.now args.sessions.now args.orders.now) fit
    (omega arith) (omega arith)
