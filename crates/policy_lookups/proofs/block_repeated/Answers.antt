-- `block_repeated` meets its contract: it asks for such a block among the rows kept.
use mathlib.Core.Path.{refl, ◌∙◌}
use borrow.Author.Rules.{rules}
use borrow.Author.Tests.{tests}
use Rattle.std.proofs.lemmas.Iterator.{YieldsList-from_range}
use Rattle.std.proofs.lemmas.Iterator.Search.{any_from_yields_List}
use Rattle.paper_lower.specs.Policy.{is_same_block}
use Rattle.policy.specs.Layout.{block_at}
use Rattle.policy.proofs.RuleLaws.{blocks-are}
use Rattle.policy_lookups.proofs.Searches.{any-rows}
use Rattle.policy_lookups.proofs.block_repeated.Goals as goal

pub returns : goal.returns
returns c =
    any_from_yields_List (λ k. is_same_block c.args.a c.args.m.bits (block_at c.args.p.now k)) _ _ _ c.any.ensures.ran (YieldsList-from_range 0 _ _ refl refl) (λ x b q k. search (rules, tests))
    ∙ any-rows _ _ (blocks-are _) c.block_count.ensures.0
