-- `down` meets its contract: if no role of m has a role below it, m is the result, and otherwise `gathered` gives it.
use mathlib.Core.Bool.{not}
use mathlib.Core.Path.{ap}
use Rattle.policy_seniors.proofs.Counting.{alone}
use Rattle.policy_seniors.proofs.down.Goals as goal

pub returns-then-not-meets : goal.returns-then-not-meets
returns-then-not-meets c = alone _ _ c.seniors.ensures c.meets.ensures (ap not c.if-not-meets.true)
