-- The walls of the first in every plane pick its bits, and else those of the second.
use Rattle.blocks.proofs.BlockLaws.{over-words}
use Rattle.blocks.proofs.over.Goals as goal

pub returns : goal.returns
returns c = over-words _ _ _ _
