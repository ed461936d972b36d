-- `is_crowded` meets its contract: its tests of the task set are those of the definition.
use mathlib.Core.Bool.{not}
use mathlib.Core.Path.{ap}
use Rattle.order_rules.proofs.Looks.{none-crowded, one-crowded}
use Rattle.order_rules.proofs.is_crowded.Goals as goal

pub returns-then-not-has : goal.returns-then-not-has
returns-then-not-has c = none-crowded _ _ _ c.limit_members-members.ensures c.has.ensures (ap not c.if-not-has.true)

pub returns : goal.returns
returns c =
    let limit-members = c.limit_members-members in
    let has = c.has in
    let if1 = c.if-not-has in
    one-crowded _ _ _ limit-members.ensures has.ensures (ap not if1.false)
    (rw (c.overlap.ensures, c.without-others.ensures, c.limit_n-n.ensures, limit-members.ensures))
