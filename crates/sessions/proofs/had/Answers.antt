-- `had` meets its contract: it returns the union of the word with the active roles.
use mathlib.Core.Path.{sym, ◌∙◌}
use Rattle.sessions.proofs.SessionLaws.{active-at, had-at}
use Rattle.sessions.proofs.had.Goals as goal

pub returns : goal.returns
returns c =
    let args = c.args in
    let pre = c.requires in
    c.union.ensures ∙ rw (c.active.ensures, active-at args.s.now args.a pre) (sym (had-at args.s.now args.a pre))
