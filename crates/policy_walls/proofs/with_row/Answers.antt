-- The row is passed over, or its block stands behind those that are there.
use mathlib.Core.Path.{ap, ◌∙◌}
use Rattle.blocks.specs.Reading.{blocks_of, over}
use Rattle.policy_walls.proofs.FoundLaws.{row_out, row_in}
use Rattle.policy_walls.proofs.with_row.Goals as goal

pub returns-then-count-k : goal.returns-then-count-k
returns-then-count-k c = row_out _ _ _ c.requires.1 c.walled_is.ensures _ c.if-count-k.true

pub returns : goal.returns
returns c =
    let args = c.args in
    let pre = c.requires in
    let walled-is = c.walled_is in
    let if1 = c.if-count-k in
    c.with.ensures ∙
    ap (over (blocks_of args.b))
    (row_in _ _ _ pre.1 walled-is.ensures _ _ if1.false c.walled_wall.ensures.0 c.walled_block.ensures.0)
