-- `carried` meets its contract: it asks the rows that the word of the pair lists.
use mathlib.Core.Path.{refl, sym, ◌∙◌}
use borrow.Author.Rules.{rules}
use borrow.Author.Tests.{tests}
use Rattle.paper_lower.specs.Sets.{has}
use Rattle.policy.specs.Reading.{policy_of}
use Rattle.policy_permissions.specs.Rows.{bears}
use Rattle.policy_permissions.proofs.Eights.{more-by-word}
use Rattle.policy_permissions.proofs.carried.Goals as goal

pub returns : goal.returns
returns c =
    let args = c.args in
    c.some_listed.ensures (bears args.p.now args.t args.operation args.object) (λ b x h k. search (rules, tests))
    ∙ sym (more-by-word args.p.now args.operation args.object c.listing_for-w.ensures (λ b. has ((policy_of args.p.now).permissions.carriers b) args.t) refl refl)
