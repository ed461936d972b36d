-- `next` meets its contract: the tasks that may come next are those of m that are neither in `had` nor waiting.
use Rattle.order_stuck.proofs.Walk.{next-is}
use Rattle.order_stuck.proofs.next.Goals as goal

pub returns : goal.returns
returns c =
    let waiting = c.waiting-wait in
    next-is _ _ _ waiting.ensures c.union.ensures c.others.ensures c.lowest.ensures
