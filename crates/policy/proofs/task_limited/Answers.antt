-- `task_limited` meets its contract: it compares the packed word of the row.
use mathlib.Core.Path.{sym, ap, ◌∙◌}
use Rattle.paper_lower.specs.Lists.{there}
use Rattle.replies.proofs.CellLaws.{column-at}
use Rattle.policy.specs.Reading.{policy_of, tasks_in}
use Rattle.policy.proofs.WordLaws.{most-there}
use Rattle.policy.proofs.task_limited.Goals as goal

pub returns : goal.returns
unfolding policy_of tasks_in
returns c = most-there _ ∙ sym (ap there (column-at _ _ _ _ _ _ c.requires))
