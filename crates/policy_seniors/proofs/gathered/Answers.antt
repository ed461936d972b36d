use mathlib.Core.Path.{sym, ◌∙◌}
use Rattle.policy.specs.Reading.{policy_of}
use Rattle.sets.proofs.SetLaws.{minus-less, within_has, within-trans, within-minus}
use Rattle.sets.proofs.DownLaws.{walk_more, walk_end}
use Rattle.policy_seniors.proofs.Counting.{seniors-start, seniors-alone}
use Rattle.policy_seniors.proofs.gathered.Goals as goal

pub loop-role-init : goal.loop-role-init
loop-role-init c =
    let args = c.args in
    let seniors = c.seniors in (
      seniors-start args.p.now args.m.bits seniors.ensures c.beyond-lowest.ensures c.beyond-left.ensures,
      seniors-alone args.p.now args.m.bits seniors.ensures c.beyond-lowest.ensures c.beyond-left.ensures,
    )

pub below_senior-requires : goal.below_senior-requires
below_senior-requires c =
    let taken = c.in-Some.ensures in
    (taken.1.0, within_has _ _ c.in-Some.role c.loop-role.invariant.1 taken.0)

pub loop-role-smaller : goal.loop-role-smaller
loop-role-smaller c = let taken = c.in-Some.ensures in rw taken.1.1.1 (minus-less _ _ taken.0)

pub loop-role-preserved : goal.loop-role-preserved
loop-role-preserved c =
    let args = c.args in
    let loop = c.loop-role in
    let taken = c.in-Some.ensures in (
      rw (taken.1.1.1, c.union-all.ensures, c.below_senior.ensures)
          (loop.invariant.0 ∙ walk_more (policy_of args.p.now).seniority _ _ c.in-Some.role taken.1.0 taken.0),
      rw taken.1.1.1 (within-trans _ _ _ (within-minus _ _) loop.invariant.1),
    )

pub returns : goal.returns
returns c = sym (c.loop-role.invariant.0 ∙ walk_end (policy_of c.args.p.now).seniority _ _ c.in_default.ensures.0)
