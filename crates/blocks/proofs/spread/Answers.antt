-- The bits that the planes' places keep.
use Rattle.blocks.proofs.BlockLaws.{spread-word}
use Rattle.blocks.proofs.spread.Goals as goal

pub returns : goal.returns
returns c = spread-word c.args.block c.requires
