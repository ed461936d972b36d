-- `overlap` meets its contract: the number of common members is the definition of `overlap`.
use mathlib.Core.Path.{ap, ◌∙◌}
use Rattle.paper_lower.specs.Sets.{size, overlap}
use Rattle.sets.proofs.Set.overlap.Goals as goal

pub returns : goal.returns
unfolding overlap
returns c = c.count.ensures ∙ ap size c.meet.ensures
