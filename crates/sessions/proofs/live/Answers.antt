-- `live` meets its contract: the row is bit 10 of the word.
use mathlib.Core.Path.{sym}
use Rattle.sessions.proofs.SessionLaws.{live_at}
use Rattle.sessions.proofs.live.Goals as goal

pub returns : goal.returns
returns c = sym (live_at c.args.s.now c.args.a c.requires)
