-- The results of writing: ROOM for a buffer of the wrong length or an output that is too short, and otherwise all records from the start of the output on.
use Prim.Native.Nat.{ℕ, ◌+◌, ◌*◌, ◌≤◌, ◌<◌}
use mathlib.Core.Bool.{Bool, true, false, ◌&&◌}
use mathlib.Core.List.{List}
use mathlib.Core.Path.{◌≡◌, refl, sym, ap, ◌∙◌}
use native.Mathlib.Omega.{arith}
use borrow.Author.Tests.{eq-eqb, ne_eqb, le-leb, lt-leb}
use lib.Dec.{eqb}
use lib.ListN.{length}
use Rattle.paper_lower.specs.Checks.{GRANTED, ROOM}
use Rattle.paper_lower.specs.Lists.{many, each}
use Rattle.paper_lower.specs.Records.{Bytes}
use Rattle.paper_lower.specs.Tables.{Policy, no_policy}
use Rattle.paper_lower.specs.Words.{joined}
use Rattle.paper_lower.specs.Written.{records_written, written}
use Rattle.paper_lower.proofs.ListLaws.{and-false}
use Rattle.policy.specs.Layout.{policy_words}
use Rattle.policy.specs.Reading.{policy_of}
use Rattle.sessions.specs.Reading.{sessions_words}
use Rattle.policy_writing.specs.Laying.{Laid}
use Rattle.policy_writing.specs.Answers.{Answer, answer, records_of, write_of, Written, written_number, written_records, fit, Wrote, Exported}
use Rattle.policy_writing.proofs.Laws.{filled}
use Rattle.policy_writing.proofs.LineLaws.{nothing_written}

module _ (l : List ℕ) (out : Bytes) where
  pub no_buffer : (length l ≡ policy_words → ⊥) → answer ROOM 0 out ≡ write_of (eqb (length l) policy_words) (policy_of l) out
  unfolding write_of
  no_buffer h = rw (ne_eqb (length l) policy_words h)

  module _ (words : length l ≡ policy_words) {n : ℕ} (all : n ≡ records_of (policy_of l)) where
    pub too_short : length out < 16 * n → answer ROOM 0 out ≡ write_of (eqb (length l) policy_words) (policy_of l) out
    unfolding write_of
    too_short h = rw (eq-eqb (length l) policy_words words, lt-leb (16 * records_of (policy_of l)) (length out) (rw all at h))

    pub all-written : {most next : ℕ} {out' : Bytes} → 16 * n ≤ length out → Laid (records_written (policy_of l)) most out out' 0 next
        → answer GRANTED n out' ≡ write_of (eqb (length l) policy_words) (policy_of l) out
    unfolding write_of written
    all-written h d =
        let room : 16 * records_of (policy_of l) ≤ length out = rw all at h in
        rw (eq-eqb (length l) policy_words words, le-leb (16 * records_of (policy_of l)) (length out) room)
        (λ i. answer GRANTED (all i) ((d.bytes ∙ filled (records_written (policy_of l)) out room) i))

-- ---- The empty policy: nothing is written.
pub nothing-out : (out : Bytes) → answer GRANTED 0 out ≡ write_of true no_policy out
unfolding write_of written many joined each
nothing-out out = rw (nothing_written, le-leb 0 (length out) (omega arith))

-- ---- The answer as one number, the reply plus 256 times the number of records.
module _ (fits : Bool) (p : Policy) (out : Bytes) where
  pub as_number : {reply records number : ℕ} {out' : Bytes} → answer reply records out' ≡ write_of fits p out → number ≡ reply + 256 * records →
      Exported fits p out out' number
  as_number d e = record { answers = e ∙ ap (λ (x : Answer). x.reply + 256 * x.records) d; bytes = ap (λ (x : Answer). x.output) d }

-- ---- The two buffers of the lower part.
and-true : (b : Bool) → b && true ≡ b
and-true true = refl
and-true false = refl

module _ (p s : List ℕ) (out : Bytes) where
  pub no-sessions : (length s ≡ sessions_words → ⊥) → Exported (fit p s) (policy_of p) out out 1
  unfolding write_of
  no-sessions h = rw (ne_eqb (length s) sessions_words h, and-false (eqb (length p) policy_words)) (record { answers = refl; bytes = refl })

  pub with-sessions : length s ≡ sessions_words → {x : Written} {out' : Bytes} {number : ℕ} → Wrote p out out' x →
      number ≡ written_number x + 256 * written_records x → Exported (fit p s) (policy_of p) out out' number
  with-sessions h d e =
      let both : fit p s ≡ eqb (length p) policy_words =
      ap (λ (b : Bool). eqb (length p) policy_words && b) (eq-eqb (length s) sessions_words h) ∙ and-true (eqb (length p) policy_words) in
      as_number (fit p s) (policy_of p) out (d.answers ∙ sym (ap (λ (b : Bool). write_of b (policy_of p) out) both)) e
