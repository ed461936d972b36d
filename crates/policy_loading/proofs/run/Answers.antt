use mathlib.Core.Path.{◌≡◌, refl, sym, ap, ◌∙◌}
use mathlib.Core.Bool.{true≢false}
use Prim.Native.Nat.{◌+◌, ◌<◌, ◌/◌}
use native.Mathlib.Omega.{arith}
use lib.ListN.{length, length-append}
use Rattle.policy.specs.Reading.{policy_of}
use Rattle.policy_loading.proofs.Turns.{more, stop, cut, whole}
use Rattle.policy_loading.proofs.run.Goals as goal

pub returns-in-Err : goal.returns-in-Err
returns-in-Err c =
    let s = c.in-Some.ensures.steps in
    let i = c.loop-passed.invariant in
    rw s.1
    (stop (c.loop-passed.passed-iterator.count + 1) _ c.in-Some.chunk.now _ c.loop-passed.p c.record.new.p s.0.1.0 (s.0.1.1 ∙ i.size)
    c.in-Err.ensures ∙ i.same)

pub loop-passed-preserved : goal.loop-passed-preserved
loop-passed-preserved c =
    let s = c.in-Some.ensures.steps in
    let i = c.loop-passed.invariant in
    let both : length c.loop-passed.passed-iterator.iter.rest.now ≡ length c.in-Some.chunk.now + length c.next.new.self.iter.rest.now
    = ap length s.0.1.0 ∙ length-append c.in-Some.chunk.now c.next.new.self.iter.rest.now in
    record {
      size = s.0.0 ∙ i.size;
      left = omega arith;
      same =
          rw s.2
          (more (c.loop-passed.passed-iterator.count + 1) _ c.in-Some.chunk.now c.next.new.self.iter.rest.now c.loop-passed.p c.record.new.p s.0.1.0
          (s.0.1.1 ∙ i.size) c.in_default.ensures ∙ i.same);
    }

pub returns-then-not-is_multiple_of : goal.returns-then-not-is_multiple_of
returns-then-not-is_multiple_of c =
    let s = c.in-None.ensures.steps in
    let i = c.loop-passed.invariant in
    let m = c.if-not-is_multiple_of.ensures in
    let rest = c.loop-passed.passed-iterator.iter.rest.now in
    let few : length rest < 16 = omega arith in
    let place : length c.args.bytes.now / 16 + 1 ≡ c.loop-passed.passed-iterator.count + 1 = omega arith in
    let some : length rest ≡ 0 → ⊥ = λ h. true≢false (sym (m.1 (omega arith))) in
    rw place (sym (cut (c.loop-passed.passed-iterator.count + 1) rest (policy_of c.loop-passed.p) few some) ∙ i.same)

pub returns : goal.returns
returns c =
    let s = c.in-None.ensures.steps in
    let i = c.loop-passed.invariant in
    let m = c.if-not-is_multiple_of.ensures in
    let rest = c.loop-passed.passed-iterator.iter.rest.now in
    let few : length rest < 16 = omega arith in
    let none : length rest ≡ 0 = let even = m.0 refl in omega arith in
    sym (whole (c.loop-passed.passed-iterator.count + 1) rest (policy_of c.loop-passed.p) few none) ∙ i.same
