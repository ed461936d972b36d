use native.Mathlib.Omega.{arith}
use mathlib.Core.Path.{◌≡◌, sym, ◌∙◌}
use Rattle.paper_lower.specs.Sets.{has}
use Rattle.paper_lower.specs.Written.{when, row}
use Rattle.policy_writing.proofs.Laws.{nothing, begins, turns, as_row}
use Rattle.policy_writing.proofs.LineLaws.{no-members}
use Rattle.policy_writing.proofs.members.Goals as goal

pub returns-then-is_empty : goal.returns-then-is_empty
returns-then-is_empty c =
    let args = c.args in
    as_row 64 (nothing args.output.now args.place)
    (no-members args.kind args.a args.m.bits (sym c.is_empty.ensures ∙ c.if-is_empty.true)) (omega arith)

pub loop-b-init : goal.loop-b-init
loop-b-init c = begins _ _ _

pub loop-b-preserved : goal.loop-b-preserved
loop-b-preserved c =
    let args = c.args in
    let loop = c.loop-b in
    turns (λ b. when (has args.m.bits b) (row args.kind 0 args.a b 0 0)) loop.b loop.invariant
    (as_row 1 c.put-at.ensures (rw c.has.ensures) (omega arith)) (omega arith)

pub returns : goal.returns
returns c = let e : c.loop-b.b ≡ 64 = omega arith in rw e at c.loop-b.invariant
