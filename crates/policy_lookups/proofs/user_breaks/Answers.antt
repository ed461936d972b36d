-- `user_breaks` meets its contract: it asks for such a user among the numbers below 1024.
use mathlib.Core.Path.{refl, ◌∙◌}
use borrow.Author.Rules.{rules}
use borrow.Author.Tests.{tests}
use Rattle.std.proofs.lemmas.Iterator.{YieldsList-from_range}
use Rattle.std.proofs.lemmas.Iterator.Search.{any_from_yields_List}
use Rattle.policy.specs.Reading.{policy_of}
use Rattle.policy_lookups.specs.Rows.{exceeds}
use Rattle.policy_lookups.proofs.Searches.{any-below}
use Rattle.policy_lookups.proofs.user_breaks.Goals as goal

pub returns : goal.returns
returns c =
    any_from_yields_List (exceeds (policy_of c.args.p.now) c.args.n c.args.m.bits) _ _ _ c.any.ensures.ran (YieldsList-from_range 0 1024 1024 refl refl) (λ x b q k. search (rules, tests))
    ∙ any-below _ 1024
