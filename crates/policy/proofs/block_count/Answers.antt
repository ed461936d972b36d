-- `block_count` meets its contract: it reads the number kept, capped at its limit.
use native.Mathlib.Omega.{arith}
use Rattle.policy.specs.Layout.{block_count}
use Rattle.policy.proofs.block_count.Goals as goal

pub returns : goal.returns
unfolding block_count
returns c = (c.cut.ensures, omega arith)
