-- `set_declared_roles` meets its contract: it stores word 0.
use Rattle.policy.proofs.StoreLaws.{roles-set}
use Rattle.policy.proofs.set_declared_roles.Goals as goal

pub returns : goal.returns
returns c = roles-set _ c.told-p _
