-- `set_open_to` meets its contract: its store replaces the row and leaves every other table unchanged.
use Rattle.policy.proofs.StoreLaws.{open-to-set}
use Rattle.policy.proofs.set_open_to.Goals as goal

pub returns : goal.returns
returns c = open-to-set _ c.told-p _ _ c.requires
