-- `set_banned` meets its contract: its store replaces the row and leaves every other table unchanged.
use Rattle.policy.proofs.StoreLaws.{banned-set}
use Rattle.policy.proofs.set_banned.Goals as goal

pub returns : goal.returns
returns c = banned-set _ c.told-p _ c.requires
