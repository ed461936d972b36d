-- One block behind those that are there.
use mathlib.Core.Path.{ap, ◌∙◌}
use Rattle.blocks.specs.Reading.{blocks_of, over}
use Rattle.blocks.proofs.with.Goals as goal

pub returns : goal.returns
returns c = c.over.ensures ∙ ap (over (blocks_of c.args.b)) c.single.ensures
