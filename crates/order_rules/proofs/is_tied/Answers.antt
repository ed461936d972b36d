-- `is_tied` meets its contract: its tests of the pair, from either side, are those of the definition.
use Rattle.order_rules.proofs.Looks.{none-side}
use Rattle.paper_upper.specs.Rules.{tied}
use Rattle.order_rules.proofs.is_tied.Goals as goal

pub returns-then-a-t : goal.returns-then-a-t
returns-then-a-t c = none-side _ _ _ c.pair_a-a.ensures.0 c.pair_b-b.ensures.0 c.if-a-t.true

pub returns : goal.returns
unfolding tied
returns c =
    let pair-a = c.pair_a-a in
    let pair-b = c.pair_b-b in
    rw (c.has.ensures, c.has-2.ensures, pair-a.ensures.0, pair-b.ensures.0)
