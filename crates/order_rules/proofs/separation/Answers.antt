use mathlib.Core.Path.{refl}
use native.Mathlib.Omega.{arith}
use borrow.Author.Rules.{rules}
use borrow.Author.Tests.{tests}
use Rattle.policy.specs.Layout.{limit_at}
use Rattle.policy.proofs.RuleLaws.{limits-are}
use Rattle.paper_upper.specs.Rules.{crowded, separation}
use Rattle.order_rules.proofs.Places.{place-found}
use Rattle.order_rules.proofs.separation.Goals as goal

pub returns : goal.returns
unfolding separation
returns c =
    place-found (crowded _ _) (limit_at 2 _) (limits-are _ 2 (omega arith)) c.limit_count-count.ensures.0 refl _ _ _ c.position-crowded.ensures.ran
    (λ x b q k. search (rules, tests)) (search rules)
