-- `same_template` meets its contract: it compares the words of both tasks, if the first has a template.
use Prim.Native.Nat.{ℕ}
use mathlib.Core.Path.{sym, ap₂, ◌∙◌}
use Rattle.paper_lower.specs.Lists.{Maybe, holds, is}
use Rattle.paper_lower.specs.Policy.{together}
use Rattle.replies.proofs.CellLaws.{column-at}
use Rattle.policy.specs.Reading.{policy_of, tasks_in}
use Rattle.policy.proofs.WordLaws.{template-same}
use Rattle.policy.proofs.same_template.Goals as goal

pub returns : goal.returns
unfolding policy_of tasks_in together
returns c =
    let pre = c.requires in
    template-same _ _ ∙ sym (ap₂ (λ (x y : Maybe ℕ). holds (λ j. is j y) x) (column-at _ _ _ _ _ _ pre.0) (column-at _ _ _ _ _ _ pre.1))
