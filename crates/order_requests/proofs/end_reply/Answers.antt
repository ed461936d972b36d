-- `end_reply` meets its contract: each return gives the reply of the first check that applies.
use Rattle.paper_upper.specs.Requests.{end_checks}
use Rattle.order_entries.proofs.TableLaws.{open-there}
use Rattle.order_requests.proofs.end_reply.Goals as goal

pub returns-then-is_none : goal.returns-then-is_none
unfolding end_checks
returns-then-is_none c =
    let opened = c.opened in
    λ _ p s. simp (open-there opened.result opened.ensures.0, c.is_none.ensures, c.if-is_none.true)

pub returns-then-held : goal.returns-then-held
unfolding end_checks
returns-then-held c =
    let opened = c.opened in
    λ w p s. simp (open-there opened.result opened.ensures.0, c.is_none.ensures, c.if-is_none.false, ← c.order_held-held.ensures w, c.if-held.true)

pub returns-else-held : goal.returns-else-held
unfolding end_checks
returns-else-held c =
    let opened = c.opened in
    λ w p s. simp (open-there opened.result opened.ensures.0, c.is_none.ensures, c.if-is_none.false, ← c.order_held-held.ensures w, c.if-held.false)
