-- `set_carriers` meets its contract: its store replaces the row and leaves every other table unchanged.
use Rattle.policy.proofs.StoreLaws.{carriers-set}
use Rattle.policy.proofs.set_carriers.Goals as goal

pub returns : goal.returns
returns c = carriers-set _ c.told-p _ _ c.requires
