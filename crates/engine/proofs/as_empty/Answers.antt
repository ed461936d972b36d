-- `as_empty` meets its contract: the reply is UNKNOWN, except to a new user without roles. That request empties the buffers and is a `step` on them.
use Rattle.records.specs.Reading.{paper_of}
use Rattle.engine.specs.Buffers.{buffers}
use Rattle.engine.proofs.EmptyLaws.{unknown-step, all-unknown, joined_step, other-kind, that-kind, emptied, that-step}
use Rattle.engine.proofs.as_empty.Goals as goal

pub returns-then-r : goal.returns-then-r
returns-then-r c =
    let pre = c.requires in
    let z = c.args in
    rw c.from.ensures (unknown-step z.r (buffers z.p.now z.s.now z.o.now) pre.1
    (all-unknown (paper_of z.r) pre.0.known (other-kind z.r.kind z.r.m c.if-r.true)))

pub returns : goal.returns
returns c =
    let if1 = c.if-r in
    let clear = c.clear in
    let clear2 = c.clear-2 in
    let clear3 = c.clear-3 in
    let step = c.step in
    let z = c.args in
    let e = that-kind z.r.kind z.r.m if1.false in
    let d = step.ensures.sound clear3.ensures.sound in
    joined_step z.r (buffers z.p.now z.s.now z.o.now) _ _
    (emptied _ _ _ clear.ensures.tables clear2.ensures.tables clear3.ensures.tables) d.1
    (that-step z.r e.0 e.1) d.0
