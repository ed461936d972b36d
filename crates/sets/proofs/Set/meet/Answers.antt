-- `meet` meets its contract: the code is the definition of `cut`.
use mathlib.Core.Path.{refl}
use Rattle.paper_lower.specs.Sets.{cut}
use Rattle.sets.proofs.Set.meet.Goals as goal

pub returns : goal.returns
unfolding cut
returns c = refl
