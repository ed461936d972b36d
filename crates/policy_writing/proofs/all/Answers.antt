use native.Mathlib.Omega.{arith}
use mathlib.Core.Path.{◌≡◌}
use Rattle.policy_writing.specs.Lines.{kind_in}
use Rattle.policy_writing.specs.Laying.{far}
use Rattle.policy_writing.proofs.Laws.{as_row, begins, turns}
use Rattle.policy_writing.proofs.LineLaws.{all_lines}
use Rattle.policy_writing.proofs.all.Goals as goal

pub loop-kind-init : goal.loop-kind-init
loop-kind-init c = begins _ _ _

pub loop-kind-preserved : goal.loop-kind-preserved
loop-kind-preserved c =
    let loop = c.loop-kind in
    turns (kind_in c.args.p.now) loop.kind loop.invariant c.lines-at.ensures (omega arith)

pub returns : goal.returns
returns c =
    let e : c.loop-kind.kind ≡ 19 = omega arith in
    as_row far (rw e at c.loop-kind.invariant) (all_lines c.args.p.now) (omega arith)
