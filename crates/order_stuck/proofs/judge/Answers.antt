-- `judge` meets its contract: it has one check.
use Rattle.paper_upper.specs.Requests.{stuck_checks}
use Rattle.order_stuck.proofs.judge.Goals as goal

pub returns-then-has_task : goal.returns-then-has_task
unfolding stuck_checks
returns-then-has_task c = simp (← c.has_task.ensures, c.if-has_task.true)

pub returns-else-has_task : goal.returns-else-has_task
unfolding stuck_checks
returns-else-has_task c = simp (← c.has_task.ensures, c.if-has_task.false)
