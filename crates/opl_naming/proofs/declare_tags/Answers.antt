use mathlib.Core.Path.{ap}
use Rattle.std.specs.Prelude.{Ok}
use Rattle.opl_naming.proofs.NamingLaws.{names-first, names-done}
use Rattle.opl_naming.proofs.declare_tags.Goals as goal

pub loop-next-init : goal.loop-next-init
loop-next-init c = names-first c.args.s.now c.args.from c.args.w.now c.requires.1.1 c.requires.1.0

pub returns : goal.returns
returns c =
    let args = c.args in
    let loop = c.loop-next in
    names-done args.s.now args.from args.w.now loop.at loop.w loop.invariant _ c.declare_tag.new.w c.in_ok-next.ensures (ap Ok c.in_default.is)
