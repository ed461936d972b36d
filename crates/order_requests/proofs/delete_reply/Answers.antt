-- `delete_reply` meets its contract: the checks of the lower part, and then the one of the entries.
use Prim.Native.Nat.{ℕ}
use mathlib.Core.Bool.{cond, Bool}
use mathlib.Core.List.{List}
use mathlib.Core.Path.{◌≡◌}
use Rattle.std.proofs.lemmas.Result.{err_from_is_err_and}
use Rattle.paper_lower.specs.Checks.{first, IN-USE}
use Rattle.paper_lower.specs.Lists.{some}
use Rattle.paper_lower.specs.Roles.{delete_checks}
use Rattle.paper_upper.specs.Requests.{delete_above}
use Rattle.replies.proofs.DoneLaws.{stops}
use Rattle.sessions.specs.Lower.{lower_tables}
use Rattle.order_entries.specs.Reading.{orders_of, in_open_order}
use Rattle.order_requests.specs.Tables.{engine_tables, delete_whole}
use Rattle.order_requests.proofs.Layers.{one_more}
use Rattle.order_requests.proofs.delete_reply.Goals as goal

pub returns-in_err-delete_reply : goal.returns-in_err-delete_reply
returns-in_err-delete_reply c =
    let z = c.args in
    let e = err_from_is_err_and c.from_residual.result c.from_residual.ensures.1 in
    λ _. rw (e.1, e.2)
    (stops (delete_checks (lower_tables z.p.now z.s.now) z.a) (delete_above (engine_tables z.p.now z.s.now z.o.now) z.a) _ c.in_err-delete_reply.ensures)

-- After the checks of the lower part passed: the reply is that of the check of the entries.
above : (p s o : List ℕ) (a : ℕ) {x y : Bool} → 0 ≡ first (delete_checks (lower_tables p s) a)
    → x ≡ some (in_open_order (orders_of o) a) (orders_of o).entries → x ≡ y
    → first (delete_whole (engine_tables p s o) a) ≡ cond y IN-USE 0
unfolding delete_above
above p s o a judged e g = one_more (delete_checks (lower_tables p s) a) IN-USE (λ x. x) (unfold delete_checks in (tt, (tt, tt))) judged e g

pub returns-then-used : goal.returns-then-used
returns-then-used c =
    let z = c.args in
    λ s. rw (above z.p.now z.s.now z.o.now z.a c.in_ok-delete_reply.ensures (c.in_open_order-used.ensures s) c.if-used.true)

pub returns-else-used : goal.returns-else-used
returns-else-used c =
    let z = c.args in
    λ s. rw (above z.p.now z.s.now z.o.now z.a c.in_ok-delete_reply.ensures (c.in_open_order-used.ensures s) c.if-used.false)
