-- `quarter_of` meets its contract: comparing the lowest eleven bits of the word compares the live bit and the user, and they are in its lowest 16 bits.
use Rattle.sessions.proofs.SessionLaws.{of-user-at}
use Rattle.sessions.proofs.quarter_of.Goals as goal

pub returns : goal.returns
returns c = of-user-at c.args.s.now c.args.a c.requires.1 c.args.u c.requires.0
