-- `create` meets its contract: its three stores replace the row of the subject.
use Rattle.sessions.proofs.StoreLaws.{create-set}
use Rattle.sessions.proofs.create.Goals as goal

pub returns : goal.returns
returns c = create-set c.args.s.now c.told-s c.args.a c.requires.0 c.args.u c.args.roles.bits c.requires.1
