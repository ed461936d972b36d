use mathlib.Core.Path.{sym, ◌∙◌}
use Rattle.policy_permissions.proofs.Eights.{eight-found, eight-past, no-eights}
use Rattle.sets.proofs.SetLaws.{minus-less, minus-lt, member_below}
use Rattle.policy_permissions.proofs.some_listed.Goals as goal

pub in_eight-requires : goal.in_eight-requires
in_eight-requires g c = (member_below 32 _ _ c.loop-eight.invariant.1 c.in-Some.ensures.0, c.requires)

pub returns-then-in_eight : goal.returns-then-in_eight
returns-then-in_eight g c row is =
    let loop = c.loop-eight in
    let taken = c.in-Some.ensures in
    sym (loop.invariant.0 row is ∙ eight-found _ row c.in-Some.eight (member_below 32 _ _ loop.invariant.1 taken.0) taken.0
    (sym (c.in_eight.ensures row is) ∙ c.if-in_eight.true))

pub loop-eight-smaller : goal.loop-eight-smaller
loop-eight-smaller g c = let taken = c.in-Some.ensures in rw taken.1.1.1 (minus-less _ _ taken.0)

pub loop-eight-preserved : goal.loop-eight-preserved
loop-eight-preserved g c =
    let loop = c.loop-eight in
    let taken = c.in-Some.ensures in (
      λ row is. rw taken.1.1.1 (loop.invariant.0 row is ∙ eight-past _ row c.in-Some.eight (sym (c.in_eight.ensures row is) ∙ c.if-in_eight.false)),
      rw taken.1.1.1 (minus-lt 32 _ _ loop.invariant.1),
    )

pub returns : goal.returns
returns g c row is = sym (c.loop-eight.invariant.0 row is ∙ no-eights _ row c.in_default.ensures.0)
