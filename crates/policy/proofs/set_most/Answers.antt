-- `set_most` meets its contract: its store replaces the row and leaves every other table unchanged.
use Rattle.policy.proofs.StoreLaws.{most-set}
use Rattle.policy.proofs.set_most.Goals as goal

pub returns : goal.returns
returns c = most-set _ c.told-p _ _ c.requires.0 c.requires.1.0 c.requires.1.1
