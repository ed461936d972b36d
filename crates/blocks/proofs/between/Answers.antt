-- The planes differ in a wall of both exactly where the blocks do.
use Rattle.blocks.proofs.BlockLaws.{between-words}
use Rattle.blocks.proofs.between.Goals as goal

pub returns : goal.returns
returns c =
    let args = c.args in
    between-words args.a.walls args.a.blocks args.b.walls args.b.blocks
