-- `set_juniors` meets its contract: its store replaces the row and leaves every other table unchanged.
use Rattle.policy.proofs.StoreLaws.{juniors-set}
use Rattle.policy.proofs.set_juniors.Goals as goal

pub returns : goal.returns
returns c = juniors-set _ c.told-p _ _ c.requires
