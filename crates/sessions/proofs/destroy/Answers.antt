-- `destroy` meets its contract: its three stores empty the row of the subject.
use Rattle.sessions.proofs.StoreLaws.{destroy-set}
use Rattle.sessions.proofs.destroy.Goals as goal

pub returns : goal.returns
returns c = destroy-set c.args.s.now c.told-s c.args.a c.requires
