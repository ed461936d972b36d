-- `destroy_reply` meets its contract: the checks of the lower part, and then the one of the entries.
use Prim.Native.Nat.{ℕ}
use mathlib.Core.Bool.{cond, Bool}
use mathlib.Core.List.{List}
use mathlib.Core.Path.{◌≡◌}
use Rattle.std.proofs.lemmas.Result.{err_from_is_err_and}
use Rattle.paper_lower.specs.Checks.{first, IN-USE}
use Rattle.paper_lower.specs.Lists.{some}
use Rattle.paper_lower.specs.Sessions.{destroy_checks}
use Rattle.paper_upper.specs.Orders.{is_held_by}
use Rattle.paper_upper.specs.Requests.{destroy_above}
use Rattle.replies.proofs.DoneLaws.{stops}
use Rattle.policy.specs.Reading.{policy_of}
use Rattle.sessions.specs.Lower.{lower_tables}
use Rattle.order_entries.specs.Reading.{orders_of}
use Rattle.order_requests.specs.Tables.{engine_tables, destroy_whole}
use Rattle.order_requests.proofs.Layers.{one_more}
use Rattle.order_requests.proofs.destroy_reply.Goals as goal

pub returns-in_err-destroy_reply : goal.returns-in_err-destroy_reply
returns-in_err-destroy_reply c =
    let z = c.args in
    let e = err_from_is_err_and c.from_residual.result c.from_residual.ensures.1 in
    λ _ p. rw (e.1, e.2)
    (stops (destroy_checks (lower_tables p z.s.now) z.a) (destroy_above (engine_tables p z.s.now z.o.now) z.a) _
    (c.in_err-destroy_reply.ensures (policy_of p)))

-- After the checks of the lower part passed: the reply is that of the check of the entries.
above : (p s o : List ℕ) (a : ℕ) {x y : Bool} → 0 ≡ first (destroy_checks (lower_tables p s) a)
    → x ≡ some (λ e. is_held_by a e.standing) (orders_of o).entries → x ≡ y
    → first (destroy_whole (engine_tables p s o) a) ≡ cond y IN-USE 0
unfolding destroy_above
above p s o a judged e g = one_more (destroy_checks (lower_tables p s) a) IN-USE (λ x. x) (unfold destroy_checks in (tt, tt)) judged e g

pub returns-then-holds : goal.returns-then-holds
returns-then-holds c =
    let z = c.args in
    λ s p. rw (above p z.s.now z.o.now z.a (c.in_ok-destroy_reply.ensures (policy_of p)) (c.holds_any-holds.ensures s) c.if-holds.true)

pub returns-else-holds : goal.returns-else-holds
returns-else-holds c =
    let z = c.args in
    λ s p. rw (above p z.s.now z.o.now z.a (c.in_ok-destroy_reply.ensures (policy_of p)) (c.holds_any-holds.ensures s) c.if-holds.false)
