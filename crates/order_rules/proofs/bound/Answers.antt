use mathlib.Core.Path.{refl, sym, ap, ◌∙◌}
use native.Mathlib.Omega.{arith}
use borrow.Author.Rules.{rules}
use borrow.Author.Tests.{tests}
use Rattle.policy.specs.Layout.{pair_at}
use Rattle.policy.proofs.RuleLaws.{pairs-are}
use Rattle.paper_upper.specs.Rules.{tied, bound}
use Rattle.order_rules.specs.Judging.{place_if_any}
use Rattle.order_rules.proofs.Looks.{none-tied}
use Rattle.order_rules.proofs.Places.{place-found}
use Rattle.order_rules.proofs.bound.Goals as goal

pub returns-then-is_empty : goal.returns-then-is_empty
returns-then-is_empty c = ap place_if_any (none-tied _ _ _ (sym c.is_empty.ensures ∙ c.if-is_empty.true))

pub returns : goal.returns
unfolding bound
returns c =
    place-found (tied _ _) (pair_at 0 _) (pairs-are _ 0 (omega arith)) c.pair_count-count.ensures.0 refl _ _ _ c.position-tied.ensures.ran
    (λ x b q k. search (rules, tests)) (search rules)
