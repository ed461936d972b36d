-- `template` meets its contract: it reads the lowest four bits of a word that has a template.
use mathlib.Core.Path.{sym, ap, ◌∙◌}
use native.Mathlib.Omega.{arith}
use borrow.Author.Tests.{eq-eqb, ne_eqb}
use Rattle.replies.proofs.CellLaws.{column-at}
use Rattle.policy.specs.Layout.{same}
use Rattle.policy.specs.Reading.{policy_of, tasks_in, value_of}
use Rattle.policy.proofs.WordLaws.{template-value, template-none}
use Rattle.policy.proofs.template.Goals as goal

pub returns-then-word-eq1 : goal.returns-then-word-eq1
unfolding policy_of tasks_in
returns-then-word-eq1 c = (template-value _ (eq-eqb _ _ c.if-word-eq1.true) ∙ sym (ap (value_of same) (column-at _ _ _ _ _ _ c.requires)), omega arith)

pub returns : goal.returns
unfolding policy_of tasks_in
returns c = (template-none _ (ne_eqb _ _ c.if-word-eq1.false) ∙ sym (ap (value_of same) (column-at _ _ _ _ _ _ c.requires)), omega arith)
