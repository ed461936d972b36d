-- `has` meets its contract: the shift and the remainder are the definition of membership.
use mathlib.Core.Path.{refl}
use Rattle.paper_lower.specs.Sets.{has}
use Rattle.sets.proofs.Set.has.Goals as goal

pub returns : goal.returns
unfolding has
returns c = refl
