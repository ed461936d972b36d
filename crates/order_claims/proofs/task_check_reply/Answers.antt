-- `task_check_reply` meets its contract: the checks of `hold_reply`, and then DENIED.
use Prim.Native.Nat.{ℕ, ◌%◌, ◌/◌}
use mathlib.Core.Bool.{Bool, not, cond}
use mathlib.Core.Path.{◌≡◌, ◌∙◌}
use Rattle.std.proofs.lemmas.Result.{err_from_is_err_and}
use Rattle.paper_lower.specs.Checks.{first, DENIED}
use Rattle.paper_upper.specs.Orders.{Engine}
use Rattle.paper_upper.specs.Requests.{hold_checks, carried, task_check_checks}
use Rattle.replies.proofs.DoneLaws.{stops, goes_on}
use Rattle.order_requests.specs.Tables.{engine_tables}
use Rattle.order_claims.proofs.task_check_reply.Goals as goal

pub returns-in_err-hold_reply : goal.returns-in_err-hold_reply
unfolding task_check_checks
returns-in_err-hold_reply c =
    let z = c.args in
    let p = err_from_is_err_and c.from_residual.result c.from_residual.ensures.1 in
    rw (p.1, p.2) (λ s. stops (hold_checks (engine_tables z.p.now z.s.now z.o.now) z.a z.b z.c) _ _ (c.in_err-hold_reply.ensures s))

-- After the checks of `hold_reply` passed: the reply is DENIED unless `carried` holds.
holder : (t : Engine) (a b c m : ℕ) {w : Bool} → 0 ≡ first (hold_checks t a b c) → w ≡ carried t.lower.policy.permissions c (m % 65536) (m / 65536)
    → first (task_check_checks t a b c m) ≡ cond (not w) DENIED 0
unfolding task_check_checks
holder t a b c m judged e = goes_on (hold_checks t a b c) _ (unfold hold_checks in (tt, (tt, tt))) judged ∙ rw (← e)

pub returns-then-not-carried : goal.returns-then-not-carried
unfolding carried
returns-then-not-carried c =
    let z = c.args in
    λ s. rw (holder (engine_tables z.p.now z.s.now z.o.now) z.a z.b z.c z.m (c.in_ok-hold_reply.ensures s) c.carried.ensures, c.if-not-carried.true)

pub returns : goal.returns
unfolding carried
returns c =
    let z = c.args in
    λ s. rw (holder (engine_tables z.p.now z.s.now z.o.now) z.a z.b z.c z.m (c.in_ok-hold_reply.ensures s) c.carried.ensures, c.if-not-carried.false)
