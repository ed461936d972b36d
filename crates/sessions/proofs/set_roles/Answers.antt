-- `set_roles` meets its contract: its two stores replace the rows of the subject in the two tables of roles.
use Rattle.sessions.proofs.StoreLaws.{roles-set}
use Rattle.sessions.proofs.set_roles.Goals as goal

pub returns : goal.returns
returns c = roles-set c.args.s.now c.told-s c.args.a c.requires c.args.active.bits c.args.had.bits
