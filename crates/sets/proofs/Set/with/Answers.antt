-- `with` meets its contract. The shift loses no bit, since i is below 64.
use mathlib.Core.Path.{ap}
use lib.Bits.{bit_or}
use Rattle.paper_lower.specs.Sets.{plus}
use Rattle.sets.proofs.Bits.{one_shl}
use Rattle.sets.proofs.Set.with.Goals as goal

pub returns : goal.returns
unfolding plus
returns c = ap (bit_or c.args.self.bits) (one_shl c.args.i c.requires)
