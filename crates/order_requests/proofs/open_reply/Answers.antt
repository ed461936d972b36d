-- `open_reply` meets its contract: each return gives the reply of the first check that applies.
use Rattle.paper_upper.specs.Requests.{open_checks}
use Rattle.order_entries.proofs.TableLaws.{open-there}
use Rattle.order_requests.proofs.open_reply.Goals as goal

pub returns-then-not-has_task : goal.returns-then-not-has_task
unfolding open_checks
returns-then-not-has_task c = λ s. simp (← c.has_task.ensures, c.if-not-has_task.true)

pub returns-then-is_some : goal.returns-then-is_some
unfolding open_checks
returns-then-is_some c =
    let has-task = c.has_task in
    λ s. simp (
      ← has-task.ensures,
      c.if-not-has_task.false,
      open-there c.opened.result c.opened.ensures.0,
      ← c.is_some.ensures,
      c.if-is_some.true,
    )

pub returns : goal.returns
unfolding open_checks
returns c =
    let has-task = c.has_task in
    λ s. simp (
      ← has-task.ensures,
      c.if-not-has_task.false,
      open-there c.opened.result c.opened.ensures.0,
      ← c.is_some.ensures,
      c.if-is_some.false,
    )
