-- `had_in` meets its contract, by cases of its test, which is that of the definition.
use mathlib.Core.Path.{sym, ◌∙◌}
use Rattle.sessions.proofs.had_in.Goals as goal

pub returns-then-of_user : goal.returns-then-of_user
returns-then-of_user c = rw (sym c.of_user.ensures ∙ c.if-of_user.true) c.had-roles.ensures

pub returns-else-of_user : goal.returns-else-of_user
returns-else-of_user c = rw (sym c.of_user.ensures ∙ c.if-of_user.false)
