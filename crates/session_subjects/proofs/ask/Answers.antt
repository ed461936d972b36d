-- `ask` meets its contract at each return: a check before WALL refuses, WALL does, a check is granted and stores nothing, or a commit is granted and binds.
use mathlib.Core.Path.{sym, ◌∙◌}
use borrow.Author.Tests.{ne_eqb}
use Rattle.std.proofs.lemmas.Result.{err_from_is_err_and}
use Rattle.replies.proofs.DoneLaws.{refused, done}
use Rattle.sessions.specs.Lower.{lower_tables}
use Rattle.session_subjects.proofs.WallLaws.{stopped, walled, walls-of-user, committed}
use Rattle.session_subjects.proofs.ask.Goals as goal

pub returns-in_err-open_reply : goal.returns-in_err-open_reply
returns-in_err-open_reply c =
    let z = c.args in
    let p = err_from_is_err_and c.from_residual.result c.from_residual.ensures.1 in
    rw (p.1, p.2) (refused (stopped (lower_tables z.p.now z.s.now) z.a z.operation z.object _ c.in_err-open_reply.ensures))

pub returns-then-between : goal.returns-then-between
returns-then-between c =
    let z = c.args in
    let t = lower_tables z.p.now z.s.now in
    let w = c.between.ensures ∙ walls-of-user t z.a z.object _ _ _ c.user-user.ensures.0 c.blocks_of-own.ensures c.bound_to-bound.ensures in
    refused (sym (walled t z.a z.operation z.object c.in_ok-open_reply.ensures w ∙ rw c.if-between.true))

pub returns-then-kind-eq-CHECK : goal.returns-then-kind-eq-CHECK
returns-then-kind-eq-CHECK c =
    let z = c.args in
    let t = lower_tables z.p.now z.s.now in
    let w = c.between.ensures ∙ walls-of-user t z.a z.object _ _ _ c.user-user.ensures.0 c.blocks_of-own.ensures c.bound_to-bound.ensures in
    done (sym (walled t z.a z.operation z.object c.in_ok-open_reply.ensures w ∙ rw c.if-between.false)) (rw c.if-kind-eq-CHECK.true)

pub returns : goal.returns
returns c =
    let z = c.args in
    let t = lower_tables z.p.now z.s.now in
    let w = c.between.ensures ∙ walls-of-user t z.a z.object _ _ _ c.user-user.ensures.0 c.blocks_of-own.ensures c.bound_to-bound.ensures in
    done (sym (walled t z.a z.operation z.object c.in_ok-open_reply.ensures w ∙ rw c.if-between.false))
    (rw (ne_eqb z.kind 56 c.if-kind-eq-CHECK.false)
    (c.set_bound_to.ensures ∙
    committed t z.a z.object c.user-user.result _ _ _ c.user-user.ensures.0 c.blocks_of-own.ensures c.bound_to-bound.ensures c.over-all.ensures))
