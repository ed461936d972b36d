-- `within` meets its contract: the code is the definition of `within`.
use mathlib.Core.Path.{refl}
use Rattle.paper_lower.specs.Sets.{within, cut}
use Rattle.sets.proofs.Set.within.Goals as goal

pub returns : goal.returns
unfolding within cut
returns c = refl
