use mathlib.Core.Path.{refl}
use native.Mathlib.Omega.{arith}
use borrow.Author.Rules.{rules}
use Rattle.order_stuck.proofs.LowestLaws.{found_below}
use Rattle.order_stuck.proofs.Walk.{begin, turn, none_left, all_done}
use Rattle.order_stuck.proofs.list.Goals.{else-loop-n-test, then-loop-n-test+in_default}
use Rattle.order_stuck.proofs.list.Goals as goal

pub loop-n-init : goal.loop-n-init
loop-n-init c = record { counted = refl; going = begin _ _ _ }

pub with-had-requires : goal.with-had-requires
with-had-requires c = found_below 64 _ _ c.in-Some.ensures

pub loop-n-preserved : goal.loop-n-preserved
loop-n-preserved c =
    record { counted = omega arith; going = rw c.with-had.ensures (turn _ _ _ _ _ _ _ (search rules) c.in-Some.ensures c.loop-n.invariant.going) }

pub returns : goal.returns
returns c =
    rw c.loop-n.invariant.counted
    (elim c.loop-n-test.branch [
      | else-loop-n-test w ↦ all_done _ _ _ _ _ _ w.loop-n-test.false c.loop-n.invariant.going
      | then-loop-n-test+in_default w ↦ none_left _ _ _ _ _ _ w.loop-n-test.true w.in_default.ensures c.loop-n.invariant.going
    ])
