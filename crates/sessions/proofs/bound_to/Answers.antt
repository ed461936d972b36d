-- `bound_to` meets its contract: it returns the two words of the user.
use mathlib.Core.Path.{sym}
use Rattle.sessions.proofs.SessionLaws.{bound_at}
use Rattle.sessions.proofs.bound_to.Goals as goal

pub returns : goal.returns
returns c =
    let args = c.args in
    sym (bound_at args.s.now args.u c.requires)
