-- `set_holders` meets its contract: its store replaces the row and leaves every other table unchanged.
use Rattle.policy.proofs.StoreLaws.{holders-set}
use Rattle.policy.proofs.set_holders.Goals as goal

pub returns : goal.returns
returns c = holders-set _ c.told-p _ _ c.requires
