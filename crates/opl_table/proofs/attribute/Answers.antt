-- `attribute` meets its contract: it searches the places of the list.
use Rattle.opl_table.proofs.Ways.{attribute-known, attribute-unknown, attribute-past}
use Rattle.opl_table.proofs.attribute.Goals as goal

pub returns-then-list-ge33 : goal.returns-then-list-ge33
returns-then-list-ge33 c = attribute-past c.args.v.now c.args.list c.if-list-ge33.true

pub returns-in_err-k : goal.returns-in_err-k
returns-in_err-k c =
    rw c.from_residual.ensures
    (attribute-unknown c.args.v.now c.args.list _ _ c.if-list-ge33.false c.number_at.ensures c.number_at-2.ensures _ c.pick.ensures c.in_err-k.was)

pub returns : goal.returns
returns c =
    attribute-known c.args.v.now c.args.list _ _ c.if-list-ge33.false c.number_at.ensures c.number_at-2.ensures _ c.pick.ensures _ _ c.in_ok-k.was
    c.number_at-then.ensures
