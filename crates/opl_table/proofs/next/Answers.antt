-- `next` meets its contract: it searches the places of the state.
use Rattle.opl_table.proofs.Ways.{child-known, child-unknown, child-past}
use Rattle.opl_table.proofs.next.Goals as goal

pub returns-then-left-ge60 : goal.returns-then-left-ge60
returns-then-left-ge60 c = child-past c.args.v.now c.args.left c.if-left-ge60.true

pub returns-in_err-k : goal.returns-in_err-k
returns-in_err-k c =
    rw c.from_residual.ensures
    (child-unknown c.args.v.now c.args.left _ _ c.if-left-ge60.false c.number_at.ensures c.number_at-2.ensures _ c.pick.ensures c.in_err-k.was)

pub returns : goal.returns
returns c =
    child-known c.args.v.now c.args.left _ _ c.if-left-ge60.false c.number_at.ensures c.number_at-2.ensures _ c.pick.ensures _ _ _ c.in_ok-k.was
    c.number_at-3.ensures c.number_at-4.ensures
