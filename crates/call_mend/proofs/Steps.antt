-- The checks of a mend, in order, and the ways in which one step (`turn`) returns, each with its contract.
use Prim.Native.Nat.{ℕ, zero, suc, ◌+◌, ◌*◌, ◌/◌, ◌%◌, ◌≤◌, ◌<◌}
use mathlib.Core.Bool.{Bool, true, false, not}
use mathlib.Core.List.{List, [], ◌∷◌}
use mathlib.Core.Path.{◌≡◌, refl, sym, ap, subst, ◌∙◌}
use native.Mathlib.Omega.{arith}
use lib.Dec.{ltb}
use lib.ListN.{length}
use borrow.Author.Tests.{eq-eqb, ne_eqb, lt-ltb, le-ltb, ltb-false, not-false}
use Rattle.paper_lower.specs.Checks.{first, granted, GRANTED, ROOM}
use Rattle.paper_lower.specs.Records.{Bytes}
use Rattle.paper_lower.specs.Tables.{Policy}
use Rattle.paper_lower.specs.Sessions.{lower_of}
use Rattle.paper_upper.specs.Engine.{engine_of}
use Rattle.replies.specs.Replies.{refusal_number}
use Rattle.replies.specs.declared.Refusal.{Refusal}
use Rattle.replies.proofs.ReplyLaws.{not-granted}
use Rattle.policy.specs.Layout.{policy_words}
use Rattle.policy.specs.Reading as policy
use Rattle.policy.specs.Reading.{policy_of}
use Rattle.sessions.specs.Reading as sessions
use Rattle.sessions.specs.Reading.{sessions_words}
use Rattle.order_links.specs.Chains.{orders_words}
use Rattle.order_entries.specs.Reading as entries
use Rattle.policy_mending.specs.declared.Dropped.{Dropped}
use Rattle.policy_mending.specs.Rest.{told, rest_from, Found}
use Rattle.lower.specs.Exports.{inside_one}
use Rattle.engine.specs.Buffers.{Buffers, buffers, tables_of, fit}
use Rattle.engine.proofs.Ways.{fit-lengths, tables-sound}
use Rattle.call_mend.specs.Mend.{mend_checks}
use Rattle.call_mend.specs.Promises.{checked, numbered, ending, told_of, tables_at, Alone, Turned}

-- ---- The checks, one after the other: each law gives the reply when one check applies and those before it do not.
module _ (s out : Bytes) (room : ℕ) (x : Buffers) where
  pub no-state : fit x ≡ false → ROOM ≡ checked s out room x
  unfolding mend_checks
  no-state h = rw h

  module _ (f : fit x ≡ true) where
    pub short-output : length out < length s → ROOM ≡ checked s out room x
    unfolding mend_checks
    short-output h = rw (f, lt-ltb (length out) (length s) h)

    module _ (fits : length s ≤ length out) where
      pub short-report : room < length s / 16 + 1 → ROOM ≡ checked s out room x
      unfolding mend_checks
      short-report h = rw (f, le-ltb (length out) (length s) fits, lt-ltb room (length s / 16 + 1) h)

      pub taken : length s / 16 + 1 ≤ room → GRANTED ≡ checked s out room x
      unfolding mend_checks
      taken h = rw (f, le-ltb (length out) (length s) fits, le-ltb room (length s / 16 + 1) h)

  -- ---- No check applies: all lengths are right.
  pub record Room : Type 0 where
    pub fits : fit x ≡ true
    pub words : length x.policy ≡ policy_words
    pub session-words : length x.sessions ≡ sessions_words
    pub order-words : length x.orders ≡ orders_words
    pub output : length s ≤ length out
    pub report : length s / 16 + 1 ≤ room

  none_of : (a b c : Bool) → first ((a, 1) ∷ (b, 1) ∷ (c, 1) ∷ []) ≡ 0 → (a ≡ false) × (b ≡ false) × (c ≡ false)
  none_of true b c h = absurd (omega arith)
  none_of false true c h = absurd (omega arith)
  none_of false false true h = absurd (omega arith)
  none_of false false false h = (refl, refl, refl)

  pub there-is : checked s out room x ≡ 0 → Room
  unfolding mend_checks
  there-is h =
      let e = none_of (not (fit x)) (ltb (length out) (length s)) (ltb room (length s / 16 + 1)) h in
      let f : fit x ≡ true = not-false (fit x) e.0 in
      let w = fit-lengths x f in
      record {
        fits = f;
        words = w.0;
        session-words = w.1.0;
        order-words = w.1.1;
        output = ltb-false _ _ e.1;
        report = ltb-false _ _ e.2;
      }

-- ---- The answer of a step, with the number of the call as the place when it ends the call.
pub zero_number : (d : Dropped) (n : ℕ) → d.reply ≡ 0 → n ≡ 256 * (d.place % 36028797018963968) → record { place = n; reply = 0 } ≡ numbered d
zero_number d n e f =
    rw (e, f)
    (let z : 256 * (d.place % 36028797018963968) ≡ 0 + 256 * (d.place % 36028797018963968) = omega arith in ap (λ (i : ℕ). record { place = i; reply = 0 }) z)

pub same_number : (d : Dropped) → (d.reply ≡ 0 → ⊥) → d ≡ numbered d
same_number d n = go d.reply n
  where
    go : (r : ℕ) → (r ≡ 0 → ⊥) → d ≡ granted r (record { place = inside_one 0 d.place; reply = 0 }) d
    go zero n = absurd (n refl)
    go (suc r) n = refl

module _ (k : ℕ) (s out : Bytes) (t : Policy) where
  in-the-end : (place reply : ℕ) →
      told_of k s out t (numbered (record { place = place; reply = reply })) ≡ ending (told k s out t (record { place = place; reply = reply }))
  unfolding told_of told
  in-the-end place zero = refl
  in-the-end place (suc r) = refl

keeps_on : (place reply : ℕ) → ((numbered (record { place = place; reply = reply })).reply ≡ 0 → ⊥) →
    numbered (record { place = place; reply = reply }) ≡ record { place = place; reply = reply }
keeps_on place zero n = absurd (n refl)
keeps_on place (suc r) n = refl

-- With empty sessions and orders, the state reads as the policy alone.
emptied : (s o : List ℕ) → sessions.Cleared s → entries.Cleared o → (p : List ℕ) → tables_of (buffers p s o) ≡ engine_of (policy_of p)
unfolding engine_of lower_of
emptied s o c d p =
    tables-sound (buffers p s o) d.sound ∙ (λ i. record { lower = record { policy = policy_of p; sessions = c.tables i }; orders = d.tables i })

-- ---- The ways in which a step returns: refused, as the first step on emptied buffers, or as a later step.
pub no-turn : (s out : Bytes) (room place k : ℕ) (x : Buffers) (e : Refusal) {n : ℕ} → refusal_number e ≡ checked s out room x → n ≡ refusal_number e
    → Turned room place k s out x out x (record { place = n; reply = 0 })
no-turn s out room place k x e {n} q m =
    let z : checked s out room x ≡ 0 → ⊥ = λ h. not-granted e (q ∙ h) in
    record {
      refused = λ _. (ap (λ (i : ℕ). record { place = i; reply = 0 }) (m ∙ q), (refl, refl));
      told = λ h. absurd (z h);
      further = λ h. absurd (z h);
      alone = λ h. absurd (z h);
    }

module _ (s out : Bytes) (room place k : ℕ) (x : Buffers) (judged : 0 ≡ checked s out room x) where
  none : checked s out room x ≡ 0
  none = sym judged

  pub roomed : Room s out room x
  roomed = there-is s out room x none

  turned : (out' : Bytes) (p₁ p' s' o' : List ℕ) (d₀ d : Dropped) → policy_of p₁ ≡ tables_at k x.policy
      → Found place k s out (policy_of p₁) out' (policy_of p') d₀ → d ≡ numbered d₀ → ((0 < k → Alone x) → Alone (buffers p' s' o')) →
      Turned room place k s out x out' (buffers p' s' o') d
  turned out' p₁ p' s' o' d₀ d at found is only =
      record {
        refused = λ h. absurd (h none);
        told =
            λ _. ap (told_of k s out' (policy_of p')) is ∙ in-the-end k s out' (policy_of p') d₀.place d₀.reply ∙ ap ending found.rest ∙
            ap (λ (t : Policy). ending (rest_from place k s out t)) at;
        further = λ _ n. still d₀ d is n found;
        alone = λ _. only;
      }
    where
      still : (d₀ d : Dropped) → d ≡ numbered d₀ → (d.reply ≡ 0 → ⊥) → {t t' : Policy} {u : Bytes} → Found place k s out t u t' d₀ →
          (k < d.place) × (d.place ≤ length s / 16 + 1)
      still d₀ d is n found =
          let m : (numbered d₀).reply ≡ 0 → ⊥ = λ z. n (ap (λ (y : Dropped). y.reply) is ∙ z) in
          let g : d ≡ d₀ = is ∙ keeps_on d₀.place d₀.reply m in
          let h = found.ahead (λ z. n (ap (λ (y : Dropped). y.reply) g ∙ z)) in
          subst (λ (y : Dropped). (k < y.place) × (y.place ≤ length s / 16 + 1)) (sym g) h

  pub first-turn : {out' : Bytes} {p₁ p' s' o' : List ℕ} {d₀ d : Dropped} → k ≡ 0 → policy.Cleared p₁ → sessions.Cleared s' → entries.Cleared o'
      → Found place k s out (policy_of p₁) out' (policy_of p') d₀ → d ≡ numbered d₀ → Turned room place k s out x out' (buffers p' s' o') d
  first-turn {out'} {p₁} {p'} {s'} {o'} {d₀} {d} z c cs co found is =
      turned out' p₁ p' s' o' d₀ d (c.tables ∙ rw (eq-eqb k 0 z)) found is (λ _. record { tables = emptied s' o' cs co; sound = co.sound })

  pub later-turn : {out' : Bytes} {p' : List ℕ} {d₀ d : Dropped} → (k ≡ 0 → ⊥) →
      Found place k s out (policy_of x.policy) out' (policy_of p') d₀ → d ≡ numbered d₀
      → Turned room place k s out x out' (buffers p' x.sessions x.orders) d
  later-turn {out'} {p'} {d₀} {d} n found is =
      turned out' x.policy p' x.sessions x.orders d₀ d (rw (ne_eqb k 0 n)) found is
      (λ h. let w = h (omega arith) in record { tables = w.tables; sound = w.sound })
