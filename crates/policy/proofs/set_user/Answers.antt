-- `set_user` meets its contract: its two stores replace the flag and the roles of the user.
use Rattle.policy.proofs.StoreLaws.{user-set}
use Rattle.policy.proofs.set_user.Goals as goal

pub returns : goal.returns
returns c = user-set _ c.told-p _ _ _ c.requires
