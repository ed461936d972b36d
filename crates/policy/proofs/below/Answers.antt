-- `below` meets its contract: by one test of the roles that have a role below them it returns the row, or no role.
use mathlib.Core.Path.{sym, ◌∙◌}
use Rattle.policy.proofs.SeniorLaws.{none_below}
use Rattle.policy.proofs.below.Goals as goal

pub returns-then-not-has : goal.returns-then-not-has
returns-then-not-has c = sym (none_below _ _ (rw (← c.seniors.ensures) (sym c.has.ensures ∙ c.if-not-has.true)))
