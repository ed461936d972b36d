-- `limit_breaks` meets its contract: it compares the row's n with the number of members that m has of the row's set.
use Rattle.paper_lower.specs.Policy.{breaks}
use Rattle.policy_lookups.proofs.limit_breaks.Goals as goal

pub returns : goal.returns
unfolding breaks
returns c = rw (c.limit_n.ensures, c.overlap.ensures, c.limit_members.ensures)
