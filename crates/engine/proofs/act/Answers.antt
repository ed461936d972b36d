-- `act` meets its contract: on sound links it is a `step`; other links read as the empty engine, and there it is `as_empty`.
use mathlib.Core.Path.{sym, ◌∙◌}
use Rattle.engine.specs.Buffers.{buffers}
use Rattle.engine.proofs.EmptyLaws.{broken-step, sound-step}
use Rattle.engine.proofs.act.Goals as goal

pub as_empty-requires : goal.as_empty-requires
as_empty-requires c =
    let pre = c.requires in
    let is-sound = c.is_sound in
    let if1 = c.if-not-is_sound in
    (pre, sym is-sound.ensures ∙ if1.true)

pub returns-then-not-is_sound : goal.returns-then-not-is_sound
returns-then-not-is_sound c =
    let is-sound = c.is_sound in
    let if1 = c.if-not-is_sound in
    let as-empty = c.as_empty in
    let z = c.args in
    broken-step z.r (buffers z.p.now z.s.now z.o.now) _ (sym is-sound.ensures ∙ if1.true) as-empty.ensures

pub step-requires : goal.step-requires
step-requires c = c.requires

pub returns : goal.returns
returns c =
    let is-sound = c.is_sound in
    let if1 = c.if-not-is_sound in
    let step = c.step in
    let z = c.args in
    let x = buffers z.p.now z.s.now z.o.now in
    let w = sym is-sound.ensures ∙ if1.false in
    let d = step.ensures.sound w in
    (sound-step z.r x _ w d, λ _. d.1)
