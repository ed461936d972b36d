use mathlib.Core.Path.{◌≡◌, ◌∙◌}
use Prim.Native.Nat.{◌/◌}
use native.Mathlib.Omega.{arith}
use lib.ListN.{length}
use Rattle.policy_mending.proofs.Rests.{goes_on, stops, is-over, ends, cut, onto}
use Rattle.policy_mending.proofs.next.Goals as goal

pub returns-then-whole-first : goal.returns-then-whole-first
returns-then-whole-first c = is-over c.args.dropped c.args.input.now c.args.output.now _ c.args.place c.if-whole-first.true

pub returns-in-Err : goal.returns-in-Err
returns-in-Err c =
    let loop = c.loop-i in
    rw c.from.ensures
    (onto loop.invariant
    (stops loop.i c.args.dropped c.args.input.now loop.output loop.p _ _ (omega arith) (omega arith) (omega arith) c.in-Err.ensures))

pub loop-i-preserved : goal.loop-i-preserved
loop-i-preserved c =
    let loop = c.loop-i in
    goes_on loop.i c.args.dropped c.args.input.now loop.output loop.p _ _ (omega arith) (omega arith) (omega arith) c.in_default.ensures
    ∙ loop.invariant

pub returns-then-whole-input : goal.returns-then-whole-input
returns-then-whole-input c =
    let loop = c.loop-i in
    let all : loop.i ≡ length c.args.input.now / 16 = omega arith in
    rw (c.from-then-whole-input.ensures, ← all)
    (onto loop.invariant (cut c.args.dropped c.args.input.now loop.output _ loop.i all (omega arith) (omega arith)))

pub returns : goal.returns
returns c =
    let loop = c.loop-i in
    let all : loop.i ≡ length c.args.input.now / 16 = omega arith in
    rw (← all) (onto loop.invariant (ends c.args.dropped c.args.input.now loop.output _ loop.i all (omega arith)))
