-- `task_declared` meets its contract: it compares the packed word of the row.
use mathlib.Core.Path.{sym, ap, ◌∙◌}
use Rattle.paper_lower.specs.Lists.{there}
use Rattle.replies.proofs.CellLaws.{column-at}
use Rattle.policy.specs.Reading.{policy_of, tasks_in}
use Rattle.policy.proofs.WordLaws.{template-there}
use Rattle.policy.proofs.task_declared.Goals as goal

pub returns : goal.returns
unfolding policy_of tasks_in
returns c = template-there _ ∙ sym (ap there (column-at _ _ _ _ _ _ c.requires))
