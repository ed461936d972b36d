-- `beyond` meets its contract: the code is the definition of `without`.
use mathlib.Core.Path.{refl}
use Rattle.paper_lower.specs.Sets.{without, cut}
use Rattle.sets.proofs.Set.beyond.Goals as goal

pub returns : goal.returns
unfolding without cut
returns c = refl
