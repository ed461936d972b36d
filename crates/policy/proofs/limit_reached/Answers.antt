-- `limit_reached` meets its contract: it compares the packed word of the row.
use mathlib.Core.Path.{sym, ap, ◌∙◌}
use Rattle.paper_lower.specs.Lists.{holds}
use Rattle.replies.proofs.CellLaws.{column-at}
use Rattle.policy.specs.Reading.{policy_of, tasks_in}
use Rattle.policy.proofs.WordLaws.{most-reached}
use Rattle.policy.proofs.limit_reached.Goals as goal

pub returns : goal.returns
unfolding policy_of tasks_in
returns c = most-reached _ _ ∙ sym (ap (holds _) (column-at _ _ _ _ _ _ c.requires))
