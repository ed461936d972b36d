-- `with_pair` meets its contract, by cases of whether the earlier task is in `had`.
use Rattle.order_stuck.proofs.WaitLaws.{is-had, is-waiting}
use Rattle.order_stuck.proofs.with_pair.Goals as goal

pub returns-then-has : goal.returns-then-has
returns-then-has c = is-had _ _ _ c.pair_a-a.ensures.0 c.has.ensures c.if-has.true

pub returns-else-has : goal.returns-else-has
returns-else-has c =
    let pair-a = c.pair_a-a in
    let pair-b = c.pair_b-b in
    is-waiting _ _ _ pair-a.ensures.0 c.has.ensures c.if-has.false pair-b.ensures.0 c.with.ensures
