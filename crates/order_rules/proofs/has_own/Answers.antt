use mathlib.Core.Path.{refl}
use borrow.Author.Rules.{rules}
use borrow.Author.Tests.{tests}
use Rattle.policy.specs.Layout.{block_at}
use Rattle.policy.proofs.RuleLaws.{blocks-are}
use Rattle.paper_upper.specs.Rules.{own}
use Rattle.order_rules.proofs.Places.{some-found}
use Rattle.order_rules.proofs.has_own.Goals as goal

pub returns : goal.returns
returns c =
    some-found (own _ _) (block_at _) (blocks-are _) c.block_count-count.ensures.0 refl _ _ _ c.any.ensures.ran (λ x b q k. search (rules, tests))
