-- `with` meets its contract: it is the function `with` of crate sets.
use mathlib.Core.Path.{◌∙◌}
use Rattle.opl_said.proofs.with.Goals as goal

pub returns : goal.returns
returns c = c.with.ensures ∙ rw c.set_of.ensures
