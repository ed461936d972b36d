use native.Mathlib.Omega.{arith}
use mathlib.Core.Path.{◌≡◌}
use Rattle.paper_lower.specs.Sets.{has}
use Rattle.paper_lower.specs.Written.{when, row}
use Rattle.policy_writing.specs.Lines.{side_in}
use Rattle.policy_writing.proofs.Laws.{begins, turns, as_row}
use Rattle.policy_writing.proofs.permissions.Goals as goal

pub loop-b-init : goal.loop-b-init
loop-b-init c = begins _ _ _

pub loop-b-preserved : goal.loop-b-preserved
loop-b-preserved c =
    let args = c.args in
    let loop = c.loop-b in
    turns (λ b. when (has (side_in args.p.now args.kind b) args.a) (row args.kind 0 args.a b 0 0)) loop.b loop.invariant
    (as_row 1 c.put-at.ensures (rw (c.has-there.ensures, c.side.ensures)) (omega arith)) (omega arith)

pub returns : goal.returns
returns c = let e : c.loop-b.b ≡ 256 = omega arith in rw e at c.loop-b.invariant
