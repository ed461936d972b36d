-- `settle` meets its contract: a wrong length gets ROOM, sound links stay as they are, and on other links all three buffers are emptied.
use mathlib.Core.Path.{sym, ◌∙◌}
use Rattle.engine.proofs.Ways.{sessions-unfit, orders-unfit, fits}
use Rattle.engine.proofs.SettleLaws.{no-settle, settled-sound, settled-broken}
use Rattle.engine.proofs.settle.Goals as goal

pub returns-in_default-as_mut_array : goal.returns-in_default-as_mut_array
returns-in_default-as_mut_array c =
    rw c.in-Some.ensures.cases.same (no-settle _ (sessions-unfit _ _ _ c.in_default-as_mut_array.ensures.cases))

pub returns-in_default-as_mut_array-2 : goal.returns-in_default-as_mut_array-2
returns-in_default-as_mut_array-2 c =
    rw (c.in-Some.ensures.cases.same, c.in-Some-as_mut_array.ensures.cases.same)
    (no-settle _ (orders-unfit c.args.policy.now c.args.sessions.now c.args.orders.now c.in_default-as_mut_array-2.ensures.cases))

pub returns-then-is_sound : goal.returns-then-is_sound
returns-then-is_sound c =
    let p = c.in-Some.ensures.cases in
    let s = c.in-Some-as_mut_array.ensures.cases in
    let o = c.in-Some-as_mut_array-2.ensures.cases in
    let sound = rw o.same at c.is_sound.ensures in
    rw (p.same, s.same, o.same) (settled-sound _ (fits _ _ _ p.long s.long o.long) (sym sound ∙ c.if-is_sound.true))

pub returns : goal.returns
returns c =
    let p = c.in-Some.ensures.cases in
    let s = c.in-Some-as_mut_array.ensures.cases in
    let o = c.in-Some-as_mut_array-2.ensures.cases in
    let sound = rw o.same at c.is_sound.ensures in
    settled-broken _ _ _ _ _ _ (fits _ _ _ p.long s.long o.long) (sym sound ∙ c.if-is_sound.false) c.clear.ensures c.clear-2.ensures c.clear-3.ensures
