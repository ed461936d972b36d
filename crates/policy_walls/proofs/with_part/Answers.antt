use mathlib.Core.Path.{sym, ap, ◌∙◌}
use Rattle.sets.proofs.SetLaws.{minus-less}
use Rattle.blocks.specs.Reading.{blocks_of, over}
use Rattle.policy_walls.proofs.FoundLaws.{left-start, left_end, row-turn}
use Rattle.policy_walls.proofs.with_part.Goals as goal

pub loop-t-init : goal.loop-t-init
loop-t-init c = ap (over (blocks_of c.args.b)) (left-start _ _ c.requires.0 _ c.wall_rows-left.ensures)

pub loop-t-smaller : goal.loop-t-smaller
loop-t-smaller c = let taken = c.in-Some.ensures in rw taken.1.1.1 (minus-less _ _ taken.0)

pub loop-t-preserved : goal.loop-t-preserved
loop-t-preserved c =
    let loop = c.loop-t in
    let taken = c.in-Some.ensures in
    rw (taken.1.1.1, c.with_row-all.ensures)
    (sym (row-turn _ _ c.requires.0 _ _ c.in-Some.t taken.1.0 taken.0 taken.1.1.0 (blocks_of loop.all)) ∙ loop.invariant)

pub returns : goal.returns
returns c =
    let loop = c.loop-t in
    ap (over (blocks_of loop.all)) (sym (left_end _ _ c.requires.0 _ c.in_default.ensures.0)) ∙ loop.invariant
