-- `content` and `element`, which call each other, meet their contracts (Cycle.antt).
use Rattle.std.proofs.Common.{arith, ◌∙◌}
use Rattle.opl_reader.proofs.Cycle.{onward}
use Rattle.opl_reader.proofs.+content_element.Goals as goal

pub content-loop-i-smaller : goal.content-loop-i-smaller
content-loop-i-smaller t c =
    let loop = c.loop-i in
    let onto = rw (c.is_at.ensures, c.is_at-in-loop-i.ensures) at c.if-is_at.false in
    let h = onward c.args.s.now c.args.d c.args.id loop.l loop.i _ c.in_ok-j.ensures onto _ c.in_ok-start.ensures _ c.in_ok-i.ensures in
    let past = h.past in
    let inside = h.inside in
    omega arith

pub content-loop-i-preserved : goal.content-loop-i-preserved
content-loop-i-preserved t c =
    let loop = c.loop-i in
    let from = loop.invariant.0 in
    let onto = rw (c.is_at.ensures, c.is_at-in-loop-i.ensures) at c.if-is_at.false in
    let h = onward c.args.s.now c.args.d c.args.id loop.l loop.i _ c.in_ok-j.ensures onto _ c.in_ok-start.ensures _ c.in_ok-i.ensures in
    let past = h.past in
    (omega arith, h.inside, loop.invariant.2 ∙ h.rest)
