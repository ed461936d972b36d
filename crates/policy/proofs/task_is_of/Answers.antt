-- `task_is_of` meets its contract: it compares the packed word of the row.
use mathlib.Core.Path.{sym, ap, ◌∙◌}
use Rattle.paper_lower.specs.Lists.{is}
use Rattle.replies.proofs.CellLaws.{column-at}
use Rattle.policy.specs.Reading.{policy_of, tasks_in}
use Rattle.policy.proofs.WordLaws.{template-is}
use Rattle.policy.proofs.task_is_of.Goals as goal

pub returns : goal.returns
unfolding policy_of tasks_in
returns c = template-is _ _ c.requires.1 ∙ sym (ap (is _) (column-at _ _ _ _ _ _ c.requires.0))
