-- `others_within` meets its contract: no task of template j other than t is missing in d.
use mathlib.Core.Bool.{not}
use mathlib.Core.Path.{refl, ap, ◌∙◌}
use borrow.Author.Rules.{rules}
use borrow.Author.Tests.{tests}
use Rattle.std.proofs.lemmas.Iterator.{YieldsList-from_range}
use Rattle.std.proofs.lemmas.Iterator.Search.{any_from_yields_List}
use Rattle.policy.specs.Reading.{policy_of}
use Rattle.policy_lookups.specs.Rows.{lacks}
use Rattle.policy_lookups.proofs.Tasks.{none-lacking}
use Rattle.policy_lookups.proofs.Searches.{any-below}
use Rattle.policy_lookups.proofs.others_within.Goals as goal

pub returns : goal.returns
returns c =
    let found =
    any_from_yields_List (lacks (policy_of c.args.p.now).tasks c.args.j c.args.t c.args.d.bits) _ _ _ c.any.ensures.ran (YieldsList-from_range 0 64 64 refl refl) (λ x b q k. search (rules, tests))
    ∙ any-below _ 64 in
    ap not found ∙ none-lacking _ _ _ _
