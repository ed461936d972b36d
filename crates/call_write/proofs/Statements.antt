-- What follows from the contract of the call: it writes what the rules define, it is refused for lack of room only, and no second answer fits.
use Prim.Native.Nat.{ℕ, ◌*◌, ◌/◌, ◌%◌, ◌≤◌, ◌<◌}
use mathlib.Core.Bool.{Bool, true, false, cond, ◌&&◌}
use mathlib.Core.List.{◌++◌}
use mathlib.Core.Path.{◌≡◌, refl, sym, ap, ◌∙◌}
use native.Mathlib.Omega.{arith}
use borrow.Author.Tests.{le-leb, leb-true}
use lib.Dec.{leb}
use lib.ListN.{length, drop}
use Rattle.paper_lower.specs.Checks.{GRANTED, ROOM}
use Rattle.paper_lower.specs.Records.{Bytes}
use Rattle.paper_lower.specs.Tables.{Policy, Lower}
use Rattle.paper_lower.specs.Written.{written}
use Rattle.policy_writing.specs.Answers.{Answer, answer, records_of, write_of}
use Rattle.engine.specs.Buffers.{Buffers, fit}
use Rattle.call_write.specs.Promises.{policy_in, WrittenBy, WritesAsDefined, RefusedForRoom, OneAnswer}
use Rattle.call_write.specs.Promises.WrittenBy.{within, exported}

-- The answer, by either of the two functions: `write` and `mishantral_write`.
pub small-reply : (t : Bool) (p : Policy) (out : Bytes)
    → (cond t (answer GRANTED (records_of p) (written p ++ drop (16 * records_of p) out)) (answer ROOM 0 out)).reply < 256
small-reply true p out = omega arith
small-reply false p out = omega arith

as-answer : {x : Buffers} {output output' : Bytes} {reply records : ℕ} → WrittenBy x output output' reply records
    → answer reply records output' ≡ write_of (fit x) (policy_in x) output
unfolding write_of
as-answer (within d) = d.answers
as-answer {x} {output} (exported {n} d) =
    let l = small-reply (fit x && leb (16 * records_of (policy_in x)) (length output)) (policy_in x) output in
    let e = d.answers in
    let reply : n % 256 ≡ (write_of (fit x) (policy_in x) output).reply = omega arith in
    let records : n / 256 ≡ (write_of (fit x) (policy_in x) output).records = omega arith in
    λ i. answer (reply i) (records i) (d.bytes i)

-- If the reply is GRANTED, the number of records and the output are those that the rules define.
pub granted-is : (t : Bool) (p : Policy) (out : Bytes) {reply records : ℕ} {out' : Bytes}
    → answer reply records out' ≡ cond t (answer GRANTED (records_of p) (written p ++ drop (16 * records_of p) out)) (answer ROOM 0 out) → reply ≡ GRANTED
    → (records ≡ records_of p) × (out' ≡ written p ++ drop (16 * records_of p) out)
granted-is true p out e g = (ap (λ (x : Answer). x.records) e, ap (λ (x : Answer). x.output) e)
granted-is false p out e g = let z : ⊥ = omega (arith, ap (λ (x : Answer). x.reply) e) in absurd z

pub writes-as-defined : WritesAsDefined
unfolding write_of
writes-as-defined x output output' reply records d g =
    let r = granted-is (fit x && leb (16 * records_of (policy_in x)) (length output)) (policy_in x) output (as-answer d) g in
    (r.0, r.1 ∙ ap (λ (n : ℕ). written (policy_in x) ++ drop (16 * n) output) (sym r.0))

pub refused-for-room : RefusedForRoom
unfolding write_of
refused-for-room x output output' reply records d = (
  λ f r. ap (λ (y : Answer). y.reply) (as-answer d) ∙ (rw (f, le-leb (16 * records_of (policy_in x)) (length output) r)),
  λ short. go (fit x) refl (leb (16 * records_of (policy_in x)) (length output)) refl short (as-answer d),
)
  where
    go : (f : Bool) → fit x ≡ f → (t : Bool) → leb (16 * records_of (policy_in x)) (length output) ≡ t →
        (fit x ≡ true → 16 * records_of (policy_in x) ≤ length output → ⊥)
        → {reply records : ℕ} →
        answer reply records output' ≡
        cond (f && t) (answer GRANTED (records_of (policy_in x)) (written (policy_in x) ++ drop (16 * records_of (policy_in x)) output)) (answer ROOM 0 output)
        → (reply ≡ ROOM) × (output' ≡ output)
    go true a true b short e = absurd (short a (leb-true _ _ b))
    go true a false b short e = (ap (λ (y : Answer). y.reply) e, ap (λ (y : Answer). y.output) e)
    go false a t b short e = (ap (λ (y : Answer). y.reply) e, ap (λ (y : Answer). y.output) e)

pub one_answer : OneAnswer
one_answer x y output a b m n f t d e =
    let p : policy_in x ≡ policy_in y = ap (λ (l : Lower). l.policy) t.lower in
    (d.answers ∙ (rw (f, p)) ∙ sym e.answers, d.bytes ∙ (rw (f, p)) ∙ sym e.bytes)
