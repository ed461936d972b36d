-- `user_exceeds` meets its contract: it tests whether the user is declared, and compares n with the number of the roles m that the user has.
use Rattle.paper_lower.specs.Policy.{breaks}
use Rattle.policy_lookups.proofs.user_exceeds.Goals as goal

pub returns : goal.returns
unfolding breaks
returns c =
    let user-declared = c.user_declared in
    rw (user-declared.ensures, c.overlap.ensures, c.down.ensures, c.assigned.ensures)
