use native.Mathlib.Omega.{arith}
use mathlib.Core.Path.{◌≡◌}
use Rattle.policy_writing.specs.Lines.{height_in, row_in, kind_in}
use Rattle.policy_writing.proofs.Laws.{weaker, begins, turns}
use Rattle.policy_writing.proofs.lines.Goals as goal

pub loop-a-init : goal.loop-a-init
loop-a-init c = begins _ _ _

pub loop-a-preserved : goal.loop-a-preserved
loop-a-preserved c =
    let loop = c.loop-a in
    turns (row_in c.args.p.now c.args.kind) loop.a loop.invariant c.line-at.ensures (omega arith)

pub returns : goal.returns
unfolding kind_in
returns c =
    let height = c.height-rows in
    let e : c.loop-a.a ≡ height_in c.args.p.now c.args.kind = omega (arith, height.ensures.0) in
    weaker (rw e at c.loop-a.invariant) (omega (arith, height.ensures.0, height.ensures.1))
