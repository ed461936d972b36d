-- `one_template` meets its contract: it asks for a template that has all tasks of m among the numbers below 16.
use mathlib.Core.Path.{refl, ◌∙◌}
use borrow.Author.Rules.{rules}
use borrow.Author.Tests.{tests}
use Rattle.std.proofs.lemmas.Iterator.{YieldsList-from_range}
use Rattle.std.proofs.lemmas.Iterator.Search.{any_from_yields_List}
use Rattle.paper_lower.specs.Sets.{within}
use Rattle.paper_lower.specs.Policy.{tasks_of, one_template}
use Rattle.policy.specs.Reading.{policy_of}
use Rattle.policy_lookups.proofs.Searches.{any-below}
use Rattle.policy_lookups.proofs.one_template.Goals as goal

pub returns : goal.returns
unfolding one_template
returns c =
    any_from_yields_List (λ j. within c.args.m.bits (tasks_of (policy_of c.args.p.now).tasks j)) _ _ _ c.any.ensures.ran (YieldsList-from_range 0 16 16 refl refl) (λ x b q k. search (rules, tests))
    ∙ any-below _ 16
