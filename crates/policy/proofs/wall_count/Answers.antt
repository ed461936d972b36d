-- `wall_count` meets its contract: it reads the number kept, capped at its limit.
use native.Mathlib.Omega.{arith}
use Rattle.policy.specs.Layout.{wall_count}
use Rattle.policy.proofs.wall_count.Goals as goal

pub returns : goal.returns
unfolding wall_count
returns c = (c.cut.ensures, omega arith)
