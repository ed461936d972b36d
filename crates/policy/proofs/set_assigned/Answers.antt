-- `set_assigned` meets its contract: its store replaces the row and leaves every other table unchanged.
use Rattle.policy.proofs.StoreLaws.{assigned-set}
use Rattle.policy.proofs.set_assigned.Goals as goal

pub returns : goal.returns
returns c = assigned-set _ c.told-p _ _ c.requires
