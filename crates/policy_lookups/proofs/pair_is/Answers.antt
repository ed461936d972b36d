-- `pair_is` meets its contract: it compares both fields of the row.
use Rattle.paper_lower.specs.Policy.{same_pair}
use Rattle.policy_lookups.proofs.pair_is.Goals as goal

pub returns : goal.returns
unfolding same_pair
returns c = rw (c.pair_a.ensures.0, c.pair_b.ensures.0)
