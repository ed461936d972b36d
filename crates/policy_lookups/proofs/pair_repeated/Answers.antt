-- `pair_repeated` meets its contract: it asks for such a pair among the rows kept.
use mathlib.Core.Path.{refl, ◌∙◌}
use borrow.Author.Rules.{rules}
use borrow.Author.Tests.{tests}
use Rattle.std.proofs.lemmas.Iterator.{YieldsList-from_range}
use Rattle.std.proofs.lemmas.Iterator.Search.{any_from_yields_List}
use Rattle.paper_lower.specs.Policy.{same_pair}
use Rattle.policy.specs.Layout.{pair_at}
use Rattle.policy.specs.Kinds.{pair_index}
use Rattle.policy.proofs.RuleLaws.{pair-small, pairs-are}
use Rattle.policy_lookups.proofs.Searches.{any-rows}
use Rattle.policy_lookups.proofs.pair_repeated.Goals as goal

pub returns : goal.returns
returns c =
    any_from_yields_List (λ k. same_pair c.args.a c.args.b (pair_at (pair_index c.args.which) c.args.p.now k)) _ _ _ c.any.ensures.ran (YieldsList-from_range 0 _ _ refl refl) (λ x b q k. search (rules, tests))
    ∙ any-rows _ _ (pairs-are _ _ (pair-small c.args.which)) c.pair_count.ensures.0
