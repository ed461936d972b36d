-- For the proofs of `step`, `record`, `run` and `load`: the answer to one record, one turn of the loop over the records, and the two results of a load.
use mathlib.Core.Path.{◌≡◌, refl, sym, ap, ◌∙◌}
use mathlib.Core.List.{List, ◌++◌}
use Prim.Native.Nat.{ℕ, zero, suc, ◌+◌, ◌<◌, ◌/◌}
use native.Mathlib.Numerals.{add-one}
use native.Mathlib.Omega.{arith}
use lib.ListN.{length, length-append}
use borrow.Author.Tests.{eq-eqb, ne_eqb}
use mathlib.Core.Bool.{true, false, true≢false}
use Rattle.std.specs.Prelude.{Ok, Err}
use Rattle.std.specs.Result.{is_err}
use Rattle.std.proofs.lemmas.List.{take_at, drop_at}
use Rattle.paper_lower.specs.Checks.{SHAPE, granted}
use Rattle.paper_lower.specs.Records.{Bytes}
use Rattle.paper_lower.specs.Tables.{Policy, no_policy}
use Rattle.paper_lower.specs.Kinds.{chosen}
use Rattle.paper_lower.specs.Policy.{policy_kinds}
use Rattle.paper_lower.specs.Load.{accepted, refused, policy_answer, load_on, load}
use Rattle.records.specs.Limits.{limits_open}
use Rattle.replies.specs.Replies.{Reply, Outcome, refusal_number, outcome_reply, outcome_place}
use Rattle.replies.specs.declared.Refusal.{Refusal}
use Rattle.replies.specs.Done.{Done}
use Rattle.replies.proofs.ReplyLaws.{not-granted}
use Rattle.replies.proofs.DoneLaws.{granted-old}
use Rattle.policy.specs.Layout.{policy_words}
use Rattle.policy.specs.Reading.{policy_of, Cleared}
use Rattle.policy_loading.specs.LoadDone.{LoadDone, leaves}

-- Unfolds what the kinds and their limits are computed from, for `step`.
unfoldable pub step_open : Unit {0}
unfolding chosen policy_kinds limits_open
step_open = tt

-- ---- The answer to one record: its tables are `next` if the reply is GRANTED, otherwise the old ones.
granted-twice : {T : Type 0} (k : ℕ) (new old : T) → granted k new old ≡ granted k (granted k new old) old
granted-twice zero new old = refl
granted-twice (suc k) new old = refl

pub settles : {T : Type 0} {read : List ℕ → T} {k : ℕ} {next : T} {l l' : List ℕ} {r : Reply} → Done read k next l l' r →
    Done read k (granted k next (read l)) l l' r
settles {read = read} {k = k} {next = next} {l = l} d =
    record { replies = d.replies; tables = d.tables ∙ granted-twice k next (read l); kept = d.kept }

-- ---- A refused load leaves the empty policy.
left-empty : (e : Refusal) (place : ℕ) (t : Policy) → leaves (Err e) place t ≡ refused (refusal_number e) place
left-empty e place t = rw (← granted-old t no_policy (refusal_number e) (not-granted e))

-- ---- One turn of the loop, over the record x. `rest` are the bytes behind it, and bs are both.
module _ (place : ℕ) (bs x rest : Bytes) (p p' : List ℕ) (both : bs ≡ x ++ rest) (sixteen : length x ≡ 16) where
  longer : length bs / 16 ≡ suc (length rest / 16)
  longer = let n : length bs ≡ 16 + length rest = ap length both ∙ length-append x rest ∙ ap (λ (k : ℕ). k + length rest) sixteen in omega arith

  one-more : load_on (length bs / 16) place bs (policy_of p) ≡
      granted (policy_answer (policy_of p) x).reply
      (load_on (length rest / 16) (suc place) rest (policy_answer (policy_of p) x).tables)
      (refused (policy_answer (policy_of p) x).reply place)
  unfolding load_on
  one-more = rw (longer, both, take_at x rest 16 sixteen, drop_at x rest 16 sixteen)

  pub more : {u : Unit {0}} → Done policy_of (policy_answer (policy_of p) x).reply (policy_answer (policy_of p) x).tables p p' (Ok u) →
      load_on (length rest / 16) (place + 1) rest (policy_of p') ≡ load_on (length bs / 16) place bs (policy_of p)
  more d =
      let z : (policy_answer (policy_of p) x).reply ≡ 0 = sym d.replies in
      let t : policy_of p' ≡ (policy_answer (policy_of p) x).tables = rw z at d.tables in
      rw (one-more, z, t, add-one)

  pub stop : {e : Refusal} → Done policy_of (policy_answer (policy_of p) x).reply (policy_answer (policy_of p) x).tables p p' (Err e) →
      leaves (Err e) place (policy_of p') ≡ load_on (length bs / 16) place bs (policy_of p)
  stop {e} d = left-empty e place (policy_of p') ∙ rw (one-more, ← d.replies) (granted-old _ _ (refusal_number e) (not-granted e))

-- ---- The end of the loop, when no whole record is left: SHAPE if some bytes are left, otherwise the load is accepted.
module _ (place : ℕ) (bs : Bytes) (t : Policy) (few : length bs < 16) where
  none-whole : length bs / 16 ≡ 0
  none-whole = omega arith

  pub cut : (length bs ≡ 0 → ⊥) → load_on (length bs / 16) place bs t ≡ refused SHAPE place
  unfolding load_on
  cut q = rw (none-whole, ne_eqb _ _ q)

  pub whole : length bs ≡ 0 → load_on (length bs / 16) place bs t ≡ accepted t
  unfolding load_on
  whole q = rw (none-whole, eq-eqb _ _ q)

-- ---- The returns of `load`, after the records ran on the emptied buffer p₀.
module _ (bs : Bytes) (p p₀ : List ℕ) (t : Policy) (words : length p ≡ policy_words) (empty : Cleared p₀) where
  loaded : (r : Reply) (place : ℕ) → leaves r place t ≡ load_on (length bs / 16) 1 bs (policy_of p₀) → leaves r place t ≡ load bs
  unfolding load
  loaded r place ran = ran ∙ rw empty.tables

  pub ends-refused : (o : Outcome) → true ≡ is_err o → leaves (outcome_reply o) (outcome_place o) t ≡ load_on (length bs / 16) 1 bs (policy_of p₀) →
      (p' : List ℕ) → Cleared p' → LoadDone bs p p' (outcome_reply o) (outcome_place o)
  ends-refused (Ok u) n ran p' c = absurd (true≢false n)
  ends-refused (Err e) n ran p' c =
      record {
        answers = λ _. rw c.tables (sym (left-empty e.refusal e.place t)) ∙ loaded (Err e.refusal) e.place ran;
        emptied = λ _ _. c;
        room = λ h. absurd (h words);
      }

  pub ends-accepted : (o : Outcome) → false ≡ is_err o → leaves (outcome_reply o) (outcome_place o) t ≡ load_on (length bs / 16) 1 bs (policy_of p₀) →
      (p' : List ℕ) → t ≡ policy_of p' → LoadDone bs p p' (outcome_reply o) (outcome_place o)
  ends-accepted (Ok u) n ran p' e =
      record {
        answers = λ _. rw (← e) (loaded (Ok u) 0 ran);
        emptied = λ _ h. absurd (h refl);
        room = λ h. absurd (h words);
      }
  ends-accepted (Err e) n ran p' q = absurd (true≢false (sym n))
