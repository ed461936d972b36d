-- `told` meets its contract: each field is the result of the function for it.
use borrow.Author.Tests.{eq-eqb, ne_eqb}
use Rattle.opl_turns.proofs.TurnLaws.{few-small}
use Rattle.opl_turns.proofs.told.Goals as goal

pub parts_by-requires : goal.parts_by-requires
parts_by-requires c = (few-small c.args.c c.requires).0

pub walls_by-requires : goal.walls_by-requires
walls_by-requires c = (few-small c.args.c c.requires).1.0

pub blocks_by-requires : goal.blocks_by-requires
blocks_by-requires c = (few-small c.args.c c.requires).1

pub returns-then-kind-eq0 : goal.returns-then-kind-eq0
returns-then-kind-eq0 c =
    let kind-by = c.kind_by-kind in
    let sets-by = c.sets_by in
    let parts-by = c.parts_by in
    rw (
      ← sets-by.ensures,
      ← parts-by.ensures,
      ← c.walls_by.ensures,
      ← c.blocks_by.ensures,
      ← kind-by.ensures,
      eq-eqb _ _ c.if-kind-eq0.true,
    )

pub returns : goal.returns
returns c =
    let kind-by = c.kind_by-kind in
    let sets-by = c.sets_by in
    let parts-by = c.parts_by in
    let walls-by = c.walls_by in
    rw (
      ← sets-by.ensures,
      ← parts-by.ensures,
      ← walls-by.ensures,
      ← c.blocks_by.ensures,
      ← kind-by.ensures,
      ← c.number_by.ensures,
      ne_eqb _ _ c.if-kind-eq0.false,
    )
