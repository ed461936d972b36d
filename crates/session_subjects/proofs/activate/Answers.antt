-- `activate` meets its contract: if `activate_reply` refuses, nothing is stored, and
-- otherwise role b is added to the active roles and to those that the subject has had active.
use mathlib.Core.Path.{◌∙◌}
use Rattle.replies.proofs.DoneLaws.{done}
use Rattle.sessions.proofs.StoreLaws.{activated}
use Rattle.session_subjects.proofs.activate.Goals as goal

pub returns : goal.returns
returns c =
    done c.in_ok-activate_reply.ensures
    (c.set_roles.ensures ∙ rw (c.with-roles.ensures, c.active.ensures, c.with-had.ensures, c.had.ensures) (activated c.args.s.now c.args.a c.args.b))
