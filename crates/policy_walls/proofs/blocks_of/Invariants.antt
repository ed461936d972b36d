-- Over the parts that have kept rows; behind them nothing is left to find.
use mathlib.Core.Path.{◌≡◌}
use Rattle.blocks.specs.Reading.{blocks_of, over}
use Rattle.policy_walls.specs.Found.{blocks_from}
use Rattle.policy_walls.proofs.blocks_of.Given as goal

abbrev pub invariant-loop-part : goal.invariant-loop-part
invariant-loop-part l = over (blocks_of l.all) (blocks_from l.p l.object l.part) ≡ blocks_from l.p l.object 0
