use mathlib.Core.Path.{◌≡◌}
use native.Mathlib.Omega.{arith}
use Rattle.opl_naming.proofs.NamingLaws.{empty-on, empty-end}
use Rattle.opl_naming.proofs.empty_all.Goals as goal

pub loop-i-preserved : goal.loop-i-preserved
loop-i-preserved c =
    let loop = c.loop-i in
    empty-on c.args.w.now loop.w c.empty.new.w loop.i (omega arith) loop.invariant c.empty.ensures

pub returns : goal.returns
returns c =
    let loop = c.loop-i in
    let z : loop.i ≡ 7 = omega arith in
    empty-end c.args.w.now loop.w c.requires (rw z at loop.invariant)
