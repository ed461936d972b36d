-- `deactivate` meets its contract: if `deactivate_reply` refuses, nothing is stored, and otherwise
-- role b is removed from the active roles. Those that the subject has had active stay the same.
use mathlib.Core.Path.{◌∙◌}
use Rattle.replies.proofs.DoneLaws.{done}
use Rattle.sessions.proofs.StoreLaws.{deactivated}
use Rattle.session_subjects.proofs.deactivate.Goals as goal

pub returns : goal.returns
returns c =
    done c.in_ok-deactivate_reply.ensures
    (c.set_roles.ensures ∙ rw (c.without-roles.ensures, c.active.ensures, c.had-had.ensures) (deactivated c.args.s.now c.args.a c.args.b))
