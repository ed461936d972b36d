-- `others` meets its contract: the mask clears the bits of k.
use native.Mathlib.Omega.{arith}
use Rattle.order_stuck.proofs.Words.{others-are}
use Rattle.order_stuck.proofs.others.Goals as goal

pub returns : goal.returns
returns c =
    let args = c.args in
    others-are args.m.bits args.k.bits (omega arith) (omega arith)
