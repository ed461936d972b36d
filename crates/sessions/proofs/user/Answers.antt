-- `user` meets its contract: the user is the lowest ten bits of the word, whatever the bits above them are.
use mathlib.Core.Path.{sym}
use native.Mathlib.Omega.{arith}
use Rattle.sessions.proofs.SessionLaws.{user-at}
use Rattle.sessions.proofs.user.Goals as goal

pub returns : goal.returns
returns c = (sym (user-at c.args.s.now c.args.a c.requires), omega arith)
