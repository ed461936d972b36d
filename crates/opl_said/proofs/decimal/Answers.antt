use native.Mathlib.Omega.{arith}
use Rattle.opl_said.proofs.NumberLaws.{digits-end, digits_more, digits-small}
use Rattle.opl_said.proofs.decimal.Goals as goal

pub overflow_mul-n : goal.overflow_mul-n
overflow_mul-n c =
    let loop = c.loop-b in
    let h = digits-small c.args.v.now loop.n loop.b-index loop.invariant (omega arith) c.requires in
    omega (arith, h)

pub overflow_add-n : goal.overflow_add-n
overflow_add-n c =
    let loop = c.loop-b in
    let h = digits-small c.args.v.now loop.n loop.b-index loop.invariant (omega arith) c.requires in
    omega (arith, h, c.from.ensures, c.saturating_sub.ensures)

pub loop-b-preserved : goal.loop-b-preserved
loop-b-preserved c =
    let loop = c.loop-b in
    rw (c.from.ensures, c.saturating_sub.ensures) (digits_more c.args.v.now loop.n loop.b-index loop.invariant (omega arith))

pub returns : goal.returns
returns c = digits-end c.args.v.now c.loop-b.n c.loop-b.b-index c.loop-b.invariant (omega arith)
