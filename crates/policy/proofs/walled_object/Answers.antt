-- `walled_object` meets its contract: it reads the object in the word of the row, if the object's bucket has the row.
use mathlib.Core.Path.{ap}
use mathlib.Core.Bool.{not}
use native.Mathlib.Omega.{arith}
use Rattle.policy.proofs.WallLaws.{object-listed, object-none}
use Rattle.policy.proofs.walled_object.Goals as goal

pub returns-then-not-has : goal.returns-then-not-has
returns-then-not-has c =
    let pre = c.requires in
    (object-none _ _ pre c.wall_rows.ensures c.has.ensures (ap not c.if-not-has.true), omega arith)

pub returns : goal.returns
returns c =
    let pre = c.requires in
    (object-listed _ _ pre c.wall_rows.ensures c.has.ensures (ap not c.if-not-has.false), omega arith)
