use mathlib.Core.Bool.{not}
use mathlib.Core.Path.{refl, ap}
use native.Mathlib.Omega.{arith}
use borrow.Author.Rules.{rules}
use borrow.Author.Tests.{tests}
use Rattle.policy.specs.Layout.{pair_at}
use Rattle.policy.proofs.RuleLaws.{pairs-are}
use Rattle.paper_upper.specs.Rules.{missing, before}
use Rattle.order_rules.specs.Judging.{place_if_any}
use Rattle.order_rules.proofs.Looks.{none_before}
use Rattle.order_rules.proofs.Places.{place-found}
use Rattle.order_rules.proofs.before.Goals as goal

pub returns-then-not-has_before : goal.returns-then-not-has_before
returns-then-not-has_before c = ap place_if_any (none_before _ _ _ c.has_before.ensures (ap not c.if-not-has_before.true))

pub returns : goal.returns
unfolding before
returns c =
    place-found (missing _ _) (pair_at 1 _) (pairs-are _ 1 (omega arith)) c.pair_count-count.ensures.0 refl _ _ _ c.position-missing.ensures.ran
    (λ x b q k. search (rules, tests)) (search rules)
