-- `figures_reply` meets its contract: each return gives the reply of the first check that applies.
use Rattle.paper_upper.specs.Requests.{figures_checks}
use Rattle.order_entries.proofs.TableLaws.{open-there}
use Rattle.order_requests.proofs.figures_reply.Goals as goal

pub returns-then-is_some : goal.returns-then-is_some
unfolding figures_checks
returns-then-is_some c =
    λ p s. simp (
      open-there c.opened.result c.opened.ensures.0,
      ← c.is_some.ensures,
      c.if-is_some.true,
    )

pub returns-else-is_some : goal.returns-else-is_some
unfolding figures_checks
returns-else-is_some c =
    λ p s. simp (
      open-there c.opened.result c.opened.ensures.0,
      ← c.is_some.ensures,
      c.if-is_some.false,
    )
