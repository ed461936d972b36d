-- `active` meets its contract: the active roles are the word itself.
use mathlib.Core.Path.{sym}
use Rattle.sessions.proofs.SessionLaws.{active-at}
use Rattle.sessions.proofs.active.Goals as goal

pub returns : goal.returns
returns c = sym (active-at c.args.s.now c.args.a c.requires)
