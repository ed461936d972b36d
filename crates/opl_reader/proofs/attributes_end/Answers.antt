use native.Mathlib.Omega.{arith}
use Rattle.opl_reader.proofs.Attributes.{attribute_taken}
use Rattle.opl_reader.proofs.attributes_end.Goals as goal

pub loop-i-smaller : goal.loop-i-smaller
loop-i-smaller c =
    let loop = c.loop-i in
    let none = rw (c.is_at.ensures, c.is_at-in-loop-i.ensures) at c.if-is_at.false in
    let h = attribute_taken c.args.s.now loop.i loop.l _ c.loop-i-test.true c.skip_space-j.ensures none c.if-j-i.false _ c.in_ok-taken.ensures in
    let past = h.past in
    let inside = h.inside in
    omega arith
