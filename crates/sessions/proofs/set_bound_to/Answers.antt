-- `set_bound_to` meets its contract: its two stores replace the blocks of the user.
use Rattle.sessions.proofs.StoreLaws.{bound-set}
use Rattle.sessions.proofs.set_bound_to.Goals as goal

pub returns : goal.returns
returns c = bound-set c.args.s.now c.told-s c.args.u c.requires c.args.to.walls c.args.to.blocks
