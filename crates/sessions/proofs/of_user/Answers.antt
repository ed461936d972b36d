-- `of_user` meets its contract: comparing the lowest eleven bits of the word compares the live bit and the user.
use Rattle.sessions.proofs.SessionLaws.{of-user-at}
use Rattle.sessions.proofs.of_user.Goals as goal

pub returns : goal.returns
returns c = of-user-at c.args.s.now c.args.a c.requires.1 c.args.u c.requires.0
