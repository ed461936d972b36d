use mathlib.Core.Path.{refl}
use borrow.Author.Rules.{rules}
use borrow.Author.Tests.{tests}
use Rattle.policy.specs.Layout.{block_at}
use Rattle.policy.proofs.RuleLaws.{blocks-are}
use Rattle.paper_upper.specs.Rules.{strange, block_within}
use Rattle.order_rules.proofs.Places.{place-found}
use Rattle.order_rules.proofs.block_within.Goals as goal

pub returns-then-not-has_own : goal.returns-then-not-has_own
unfolding block_within
returns-then-not-has_own c = rw (← c.has_own.ensures, c.if-not-has_own.true)

pub returns : goal.returns
unfolding block_within
returns c =
    rw (← c.has_own.ensures, c.if-not-has_own.false)
    (place-found (strange _ _ _) (block_at _) (blocks-are _) c.block_count-count.ensures.0 refl _ _ _ c.position-strange.ensures.ran
    (λ x b q k. search (rules, tests)) (search rules))
