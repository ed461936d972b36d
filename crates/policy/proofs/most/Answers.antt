-- `most` meets its contract: it reads the lowest eight bits of the word, where 0 means no limit.
use mathlib.Core.Path.{sym, ap, ◌∙◌}
use native.Mathlib.Omega.{arith}
use Rattle.replies.proofs.CellLaws.{column-at}
use Rattle.policy.specs.Layout.{same}
use Rattle.policy.specs.Reading.{policy_of, tasks_in, value_of}
use Rattle.policy.proofs.WordLaws.{most-value}
use Rattle.policy.proofs.most.Goals as goal

pub returns : goal.returns
unfolding policy_of tasks_in
returns c = (most-value _ ∙ sym (ap (value_of same) (column-at _ _ _ _ _ _ c.requires)), omega arith)
