-- `is_missing` meets its contract: its tests of the pair are those of the definition.
use Rattle.paper_upper.specs.Rules.{missing}
use Rattle.order_rules.proofs.is_missing.Goals as goal

pub returns : goal.returns
unfolding missing
returns c = rw (c.has.ensures, c.pair_a-a.ensures.0, c.pair_b-b.ensures.0)
