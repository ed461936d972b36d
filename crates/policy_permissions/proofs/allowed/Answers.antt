use mathlib.Core.Bool.{◌||◌, or-false}
use mathlib.Core.Path.{sym, ap, ◌∙◌}
use Rattle.paper_lower.specs.Sets.{meets}
use Rattle.paper_lower.specs.Sessions.{allowed}
use Rattle.policy.specs.Reading.{policy_of}
use Rattle.policy_permissions.specs.Rows.{opens}
use Rattle.policy_permissions.proofs.Eights.{eight-taken, no-eights, more-by-word}
use Rattle.sets.proofs.SetLaws.{minus-less, minus-lt, member_below}
use borrow.Author.Rules.{rules}
use borrow.Author.Tests.{tests}
use Rattle.policy_permissions.proofs.allowed.Goals as goal

pub loop-eight-init : goal.loop-eight-init
unfolding allowed
loop-eight-init c =
    let args = c.args in
    let left = c.eights_in-left.ensures in
    let two = c.in_two-found.ensures (opens args.p.now args.m.bits args.operation args.object) (λ b x h k. search (rules, tests)) in
    (more-by-word _ _ _ c.listing_for-w.ensures (λ b. meets ((policy_of args.p.now).permissions.holders b) args.m.bits) two left.0, left.1)

pub in_eight-found-requires : goal.in_eight-found-requires
in_eight-found-requires c = (member_below 32 _ _ c.loop-eight.invariant.1 c.in-Some.ensures.0, search rules)

pub loop-eight-smaller : goal.loop-eight-smaller
loop-eight-smaller c = let taken = c.in-Some.ensures in rw taken.1.1.1 (minus-less _ _ taken.0)

pub loop-eight-preserved : goal.loop-eight-preserved
loop-eight-preserved c =
    let args = c.args in
    let loop = c.loop-eight in
    let taken = c.in-Some.ensures in
    let eight = c.in_eight-found.ensures (opens args.p.now args.m.bits args.operation args.object) (λ b x h k. search (rules, tests)) in (
      rw (taken.1.1.1, eight)
          (loop.invariant.0 ∙ eight-taken _ _ c.in-Some.eight (member_below 32 _ _ loop.invariant.1 taken.0) taken.0 loop.found),
      rw taken.1.1.1 (minus-lt 32 _ _ loop.invariant.1),
    )

pub returns : goal.returns
returns c =
    let loop = c.loop-eight in
    sym (loop.invariant.0 ∙ ap (λ b. loop.found || b) (no-eights _ _ c.in_default.ensures.0) ∙ or-false loop.found)
