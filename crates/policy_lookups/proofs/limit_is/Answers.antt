-- `limit_is` meets its contract: it compares both fields of the row.
use Rattle.paper_lower.specs.Policy.{same_limit}
use Rattle.policy_lookups.proofs.limit_is.Goals as goal

pub returns : goal.returns
unfolding same_limit
returns c = rw (c.limit_n.ensures, c.limit_members.ensures)
