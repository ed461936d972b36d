use mathlib.Core.Path.{ap}
use Rattle.std.specs.Prelude.{Ok}
use Rattle.opl_line_names.specs.Names.{line_names}
use Rattle.opl_line_names.proofs.DeclaredLaws.{left-done}
use Rattle.opl_line_names.proofs.declare_lines.Goals as goal

pub returns : goal.returns
returns c =
    let args = c.args in
    let loop = c.loop-next in
    left-done args.t.now args.i (line_names args.t.now args.i) 0 loop.at args.w.now loop.w loop.invariant.left c.declare_line.new.w _
    c.in_ok-next.ensures.walking (ap Ok c.in_default.is)
