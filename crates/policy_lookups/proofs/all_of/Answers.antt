-- `all_of` meets its contract: no number below 64 is in m without being a task of template j.
use mathlib.Core.Bool.{not}
use mathlib.Core.Path.{refl, ap, ◌∙◌}
use borrow.Author.Rules.{rules}
use borrow.Author.Tests.{tests}
use Rattle.std.proofs.lemmas.Iterator.{YieldsList-from_range}
use Rattle.std.proofs.lemmas.Iterator.Search.{any_from_yields_List}
use Rattle.policy.specs.Reading.{policy_of}
use Rattle.policy_lookups.specs.Rows.{strays}
use Rattle.policy_lookups.proofs.Tasks.{none-stray}
use Rattle.policy_lookups.proofs.Searches.{any-below}
use Rattle.policy_lookups.proofs.all_of.Goals as goal

pub returns : goal.returns
returns c =
    let found =
    any_from_yields_List (strays (policy_of c.args.p.now).tasks c.args.m.bits c.args.j) _ _ _ c.any.ensures.ran (YieldsList-from_range 0 64 64 refl refl) (λ x b q k. search (rules, tests))
    ∙ any-below _ 64 in
    ap not found ∙ none-stray _ _ _ (search rules)
