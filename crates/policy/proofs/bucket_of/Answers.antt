-- `bucket_of` meets its contract: the code is the definition, and no product wraps.
use mathlib.Core.Path.{refl}
use native.Mathlib.Omega.{arith}
use Rattle.policy.specs.Layout.{bucket_of}
use Rattle.policy.proofs.bucket_of.Goals as goal

pub returns : goal.returns
unfolding bucket_of
returns c = (refl, omega arith)
