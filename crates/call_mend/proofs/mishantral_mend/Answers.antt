-- `mishantral_mend` meets its contract: each turn preserves the loop's invariant (Going.antt), and at the end the contract follows from it.
use mathlib.Core.Path.{refl}
use Rattle.std.proofs.Common.{add-one}
use Rattle.call_mend.proofs.Going.{same-lengths, stop, within, less, goes_on}
use Rattle.call_mend.proofs.mishantral_mend.Goals as goal

pub returns-then-d-eq0 : goal.returns-then-d-eq0
returns-then-d-eq0 c =
    let going = c.loop-d.invariant in
    let kept = c.step-d.auto in
    stop _ _ _ _ _ going _ _ _ _ _ (same-lengths _ _ _ _ _ going kept.output kept.policy kept.sessions kept.orders) c.step-d.ensures c.if-d-eq0.true refl

pub bounds-report-k : goal.bounds-report-k
bounds-report-k c =
    let going = c.loop-d.invariant in
    let kept = c.step-d.auto in
    within _ _ _ _ _ going _ _ _ _ _ (same-lengths _ _ _ _ _ going kept.output kept.policy kept.sessions kept.orders) c.step-d.ensures c.if-d-eq0.false refl

pub loop-d-smaller : goal.loop-d-smaller
loop-d-smaller c =
    let going = c.loop-d.invariant in
    let kept = c.step-d.auto in
    rw add-one
    (less _ _ _ _ _ going _ _ _ _ _ (same-lengths _ _ _ _ _ going kept.output kept.policy kept.sessions kept.orders) c.step-d.ensures c.if-d-eq0.false)

pub loop-d-preserved : goal.loop-d-preserved
loop-d-preserved c =
    let going = c.loop-d.invariant in
    let kept = c.step-d.auto in
    rw add-one
    (goes_on _ _ _ _ _ going _ _ _ _ _ (same-lengths _ _ _ _ _ going kept.output kept.policy kept.sessions kept.orders) c.step-d.ensures c.if-d-eq0.false refl)
