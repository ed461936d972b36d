-- `allowed_by_two` meets its contract: the word lists no group, so that the two rows are all permissions for the pair.
use mathlib.Core.Bool.{◌||◌, or-false}
use mathlib.Core.Path.{◌≡◌, refl, sym, ap, ◌∙◌}
use native.Mathlib.Omega.{arith}
use borrow.Author.Rules.{rules}
use borrow.Author.Tests.{tests}
use Rattle.paper_lower.specs.Sets.{meets}
use Rattle.paper_lower.specs.Sessions.{allowed}
use Rattle.policy.specs.Layout.{eights_in}
use Rattle.policy.specs.Reading.{policy_of}
use Rattle.policy_permissions.specs.Rows.{opens}
use Rattle.policy_permissions.proofs.Eights.{no-eights, more-by-word}
use Rattle.policy_permissions.proofs.allowed_by_two.Goals as goal

pub returns : goal.returns
unfolding allowed
returns c =
    let args = c.args in
    let none : eights_in args.w ≡ 0 = omega arith in
    let two = c.in_two.ensures (opens args.p.now args.m.bits args.operation args.object) (λ b x h k. search (rules, tests)) in
    sym (more-by-word _ _ _ c.requires.1.1.0 (λ b. meets ((policy_of args.p.now).permissions.holders b) args.m.bits) two refl
    ∙ ap (λ t. c.in_two.result || t) (no-eights _ _ none) ∙ or-false c.in_two.result)
