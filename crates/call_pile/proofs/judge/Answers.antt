-- `judge` meets its contract: each return gives the reply of the first check that applies.
use mathlib.Core.Path.{sym, ◌∙◌}
use native.Mathlib.Omega.{arith}
use Rattle.engine.specs.Buffers.{buffers}
use Rattle.call_pile.proofs.Judging.{no-state, past, short, too_many, cut, taken}
use Rattle.call_pile.proofs.judge.Goals as goal

pub returns-then-not-fit : goal.returns-then-not-fit
returns-then-not-fit c =
    let args = c.args in
    no-state args.bytes.now args.answers.now args.at (buffers args.policy.now args.sessions.now args.orders.now)
    (sym c.fit.ensures ∙ c.if-not-fit.true)

pub returns-then-answers-at : goal.returns-then-answers-at
returns-then-answers-at c =
    let args = c.args in
    let fit = sym c.fit.ensures ∙ c.if-not-fit.false in
    past args.bytes.now args.answers.now args.at (buffers args.policy.now args.sessions.now args.orders.now) fit
    (omega arith)

pub returns-then-answers-at-2 : goal.returns-then-answers-at-2
returns-then-answers-at-2 c =
    let args = c.args in
    let fit = sym c.fit.ensures ∙ c.if-not-fit.false in
    short args.bytes.now args.answers.now args.at (buffers args.policy.now args.sessions.now args.orders.now) fit
    (omega arith) (omega arith)

pub returns-then-n-gt-MOST : goal.returns-then-n-gt-MOST
returns-then-n-gt-MOST c =
    let args = c.args in
    let fit = sym c.fit.ensures ∙ c.if-not-fit.false in
    too_many args.bytes.now args.answers.now args.at (buffers args.policy.now args.sessions.now args.orders.now) fit
    (omega arith) (omega arith) (omega arith)

pub returns-then-bytes-ne0 : goal.returns-then-bytes-ne0
returns-then-bytes-ne0 c =
    let args = c.args in
    let fit = sym c.fit.ensures ∙ c.if-not-fit.false in
    cut args.bytes.now args.answers.now args.at (buffers args.policy.now args.sessions.now args.orders.now) fit
    (omega arith) (omega arith) (omega arith) (λ e. omega arith)

pub returns : goal.returns
returns c =
    let args = c.args in
    let fit = sym c.fit.ensures ∙ c.if-not-fit.false in
    taken args.bytes.now args.answers.now args.at (buffers args.policy.now args.sessions.now args.orders.now) fit
    (omega arith) (omega arith) (omega arith) (omega arith)
