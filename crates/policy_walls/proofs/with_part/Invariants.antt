-- Over the rows of the part, in rising order; what was found stands before what is left to find.
use mathlib.Core.Path.{◌≡◌}
use Rattle.blocks.specs.Reading.{blocks_of, over}
use Rattle.policy_walls.specs.Found.{blocks_from, blocks_left}
use Rattle.policy_walls.proofs.with_part.Given as goal

abbrev pub invariant-loop-t : goal.invariant-loop-t
invariant-loop-t l = over (blocks_of l.all) (blocks_left l.p l.object l.part l.left.bits) ≡ over (blocks_of l.initial.all) (blocks_from l.p l.object l.part)

abbrev pub decreases-loop-t : goal.decreases-loop-t
decreases-loop-t l = l.left.bits
