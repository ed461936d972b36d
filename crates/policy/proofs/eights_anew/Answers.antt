-- `eights_anew` meets its contract: the lower half of the word stays the same, and the upper half gets one more group.
use Prim.Native.Nat.{◌/◌}
use native.Mathlib.Omega.{arith}
use Rattle.sets.proofs.SetLaws.{plus-lt}
use Rattle.policy.proofs.eights_anew.Goals as goal

pub overflow_mul-result : goal.overflow_mul-result
overflow_mul-result c =
    let args = c.args in
    let small = plus-lt 32 _ (args.a / 8) c.eights_in.ensures.1 (omega arith) in
    omega (arith, c.with-eights.ensures, small)

pub overflow_add-result : goal.overflow_add-result
overflow_add-result c =
    let args = c.args in
    let small = plus-lt 32 _ (args.a / 8) c.eights_in.ensures.1 (omega arith) in
    omega (arith, c.with-eights.ensures, small)
