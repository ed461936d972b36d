-- `broken` meets its contract: it asks for such a set among the rows kept.
use mathlib.Core.Path.{refl, ◌∙◌}
use borrow.Author.Rules.{rules}
use borrow.Author.Tests.{tests}
use Rattle.std.proofs.lemmas.Iterator.{YieldsList-from_range}
use Rattle.std.proofs.lemmas.Iterator.Search.{any_from_yields_List}
use Rattle.paper_lower.specs.Policy.{breaks}
use Rattle.policy.specs.Layout.{limit_at}
use Rattle.policy.specs.Kinds.{set_index}
use Rattle.policy.proofs.RuleLaws.{set-small, limits-are}
use Rattle.policy_lookups.proofs.Searches.{any-rows}
use Rattle.policy_lookups.proofs.broken.Goals as goal

pub returns : goal.returns
returns c =
    any_from_yields_List (λ k. breaks c.args.m.bits (limit_at (set_index c.args.which) c.args.p.now k)) _ _ _ c.any.ensures.ran (YieldsList-from_range 0 _ _ refl refl) (λ x b q k. search (rules, tests))
    ∙ any-rows _ _ (limits-are _ _ (set-small c.args.which)) c.limit_count.ensures.0
