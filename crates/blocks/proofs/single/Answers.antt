-- One bit in each plane that the block's number has.
use Rattle.blocks.proofs.BlockLaws.{spread-single}
use Rattle.blocks.proofs.single.Goals as goal

pub returns : goal.returns
returns c = spread-single c.args.wall c.args.block _ c.requires.0 c.requires.1 c.spread.ensures
