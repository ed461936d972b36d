-- `has_task` meets its contract: it asks for a task of the template among the numbers below 64.
use mathlib.Core.Path.{refl, ◌∙◌}
use borrow.Author.Rules.{rules}
use borrow.Author.Tests.{tests}
use Rattle.std.proofs.lemmas.Iterator.{YieldsList-from_range}
use Rattle.std.proofs.lemmas.Iterator.Search.{any_from_yields_List}
use Rattle.paper_lower.specs.Lists.{is}
use Rattle.paper_lower.specs.Policy.{tasks_of, has_task}
use Rattle.sets.proofs.SetLaws.{some-collected}
use Rattle.policy.specs.Reading.{policy_of}
use Rattle.policy_lookups.proofs.Searches.{any-below}
use Rattle.policy_lookups.proofs.has_task.Goals as goal

pub returns : goal.returns
unfolding has_task tasks_of
returns c =
    any_from_yields_List (λ t. is c.args.j ((policy_of c.args.p.now).tasks.template t)) _ _ _ c.any.ensures.ran (YieldsList-from_range 0 64 64 refl refl)
    (λ x b q k. search (rules, tests))
    ∙ any-below _ 64 ∙ some-collected 64 _
