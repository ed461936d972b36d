-- `meets` meets its contract: the code is the definition of `meets`.
use mathlib.Core.Path.{refl}
use Rattle.paper_lower.specs.Sets.{meets, cut}
use Rattle.sets.proofs.Set.meets.Goals as goal

pub returns : goal.returns
unfolding meets cut
returns c = refl
