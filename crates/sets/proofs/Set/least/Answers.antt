-- `least` meets its contract: the number of trailing zeros is the number of the lowest bit that is 1, and all bits below it are 0.
use native.Mathlib.Omega.{arith}
use lib.Count.{trailing_le}
use Rattle.sets.proofs.Bits.{lowest-bit, zeros-below}
use Rattle.sets.proofs.SetLaws.{bit-has, bit-hasnt}
use Rattle.sets.proofs.Set.least.Goals as goal

pub overflow_cast-result : goal.overflow_cast-result
overflow_cast-result c = omega (arith, trailing_le 64 c.args.self.bits)

pub returns : goal.returns
returns c =
    let low = lowest-bit 64 c.args.self.bits (omega arith) (omega arith) in
    (bit-has _ _ low.0, (low.1, λ i h. bit-hasnt _ _ (zeros-below 64 c.args.self.bits i h)))
