-- `judge` meets its contract: at each return the rules before it did not apply, and the laws of Chain give the verdict.
use mathlib.Core.Path.{refl}
use Rattle.replies.specs.declared.Refusal.TheVariants.{Before, Separation, Block, Alone, Bound, Count}
use Rattle.order_rules.proofs.Chain.{by_place, no_place, by-test, not-by-test}
use Rattle.paper_upper.specs.Rules.{spent, gathered_checks, rule_place}
use Rattle.order_rules.proofs.judge.Goals as goal

pub returns-in-Some : goal.returns-in-Some
unfolding gathered_checks rule_place spent
returns-in-Some c = by_place Before c.in-Some.ensures refl refl

pub returns-in-Some-separation : goal.returns-in-Some-separation
unfolding gathered_checks rule_place spent
returns-in-Some-separation c =
    no_place _ c.in_default.ensures
    (by_place Separation c.in-Some-separation.ensures refl refl)

pub returns-in-Some-block : goal.returns-in-Some-block
unfolding gathered_checks rule_place spent
returns-in-Some-block c =
    no_place _ c.in_default.ensures
    (no_place _ c.in_default-separation.ensures
    (by_place Block c.in-Some-block.ensures refl refl))

pub returns-then-alone : goal.returns-then-alone
unfolding gathered_checks rule_place spent
returns-then-alone c =
    no_place _ c.in_default.ensures
    (no_place _ c.in_default-separation.ensures
    (no_place _ c.in_default-block.ensures
    (by-test Alone (cc) refl refl c.alone.ensures c.if-alone.true)))

pub returns-in-Some-bound : goal.returns-in-Some-bound
unfolding gathered_checks rule_place spent
returns-in-Some-bound c =
    no_place _ c.in_default.ensures
    (no_place _ c.in_default-separation.ensures
    (no_place _ c.in_default-block.ensures
    (not-by-test c.alone.ensures c.if-alone.false
    (by_place Bound c.in-Some-bound.ensures refl refl))))

pub returns-then-limit_reached : goal.returns-then-limit_reached
unfolding gathered_checks rule_place spent
returns-then-limit_reached c =
    no_place _ c.in_default.ensures
    (no_place _ c.in_default-separation.ensures
    (no_place _ c.in_default-block.ensures
    (not-by-test c.alone.ensures c.if-alone.false
    (no_place _ c.in_default-bound.ensures
    (by-test Count (cc) refl refl c.limit_reached.ensures c.if-limit_reached.true)))))

pub returns : goal.returns
unfolding gathered_checks rule_place spent
returns c =
    no_place _ c.in_default.ensures
    (no_place _ c.in_default-separation.ensures
    (no_place _ c.in_default-block.ensures
    (not-by-test c.alone.ensures c.if-alone.false
    (no_place _ c.in_default-bound.ensures
    (not-by-test c.limit_reached.ensures c.if-limit_reached.false
    (record { replies = refl; places = refl }))))))
