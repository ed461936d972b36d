-- No wall has a block in words of zeros.
use Rattle.blocks.proofs.BlockLaws.{no_words}
use Rattle.blocks.proofs.none.Goals as goal

pub returns : goal.returns
returns c = no_words
