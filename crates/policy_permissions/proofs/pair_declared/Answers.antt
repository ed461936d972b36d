-- `pair_declared` meets its contract: it asks the rows that the word of the pair lists.
use mathlib.Core.Path.{refl, sym, ◌∙◌}
use borrow.Author.Rules.{rules}
use borrow.Author.Tests.{tests}
use Rattle.policy.specs.Layout.{row_holds}
use Rattle.policy_permissions.proofs.Eights.{suits-by-word}
use Rattle.policy_permissions.proofs.pair_declared.Goals as goal

pub returns : goal.returns
returns c =
    let args = c.args in
    c.some_listed.ensures (row_holds args.p.now args.operation args.object) (λ b x h k. search (rules, tests))
    ∙ sym (suits-by-word args.p.now args.operation args.object c.listing_for-w.ensures refl refl)
