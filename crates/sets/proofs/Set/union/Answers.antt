-- `union` meets its contract: the code is the definition of `union`.
use mathlib.Core.Path.{refl}
use Rattle.paper_lower.specs.Sets.{union}
use Rattle.sets.proofs.Set.union.Goals as goal

pub returns : goal.returns
unfolding union
returns c = refl
