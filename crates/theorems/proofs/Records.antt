-- The theorems EveryRecord and EveryLoad: for every kind of policy record, each reply is
-- given exactly when the table of specs/Records.antt says so; and where a load stops.
use Prim.Native.Nat.{ℕ, zero, suc, ◌+◌, ◌*◌, ◌/◌, ◌≤◌, ◌<◌}
use mathlib.Core.Path.{◌≡◌, refl, sym, ap, subst, ◌∙◌}
use mathlib.Core.Bool.{Bool, true, false, not, cond, ◌||◌}
use mathlib.Core.List.{List, [], ◌∷◌, ◌++◌, append-nil}
use native.Mathlib.Omega.{arith}
use borrow.Author.Tests.{eqb-true, eqb-false, ne_eqb}
use lib.Dec.{eqb}
use lib.ListN.{length, take, drop, length-take, length-drop}
use Rattle.paper_lower.specs.Lists.{Maybe, Every}
use Rattle.paper_lower.specs.Lists.Maybe.{just}
use Rattle.paper_lower.specs.Checks.{first, granted, SHAPE, RANGE}
use Rattle.paper_lower.specs.Records.{Bytes, Record, decode}
use Rattle.paper_lower.specs.Forms.{Form, policy_forms, form_of, misshapen, out_of_range, form_checks}
use Rattle.paper_lower.specs.Kinds.{chosen, reply_to, answer}
use Rattle.paper_lower.specs.Tables.{Policy, no_policy}
use Rattle.paper_lower.specs.Policy.{policy_kinds}
use Rattle.paper_lower.specs.Load.{Loaded, accepted, refused, policy_answer, load_on, load, records_from, records_of}
use Rattle.paper_lower.proofs.ListLaws.{every_map, ◌⨾◌}
use Rattle.paper_lower.proofs.KindLaws.{reply-passed}
use Rattle.theorems.specs.Replies.{rank}
use Rattle.theorems.specs.Exactly.{Not}
use Rattle.theorems.specs.Records.{JudgedExactly, Ruled, refusals_of, policy_kinds_ruled, Judged, record_at, EveryRecord, EveryLoad}
use Rattle.theorems.proofs.Replies.{policy-order, numbered}
use Rattle.theorems.proofs.Loads.{step, filled, Fits, Accepted, load-accepted}
use Rattle.theorems.proofs.Exactly.{misshaped, too_large, unlisted}
use Rattle.theorems.proofs.RecordsKinds.{check, user, role, permission, assignment, role-has, task, opening, carrying, static, dynamic, task-set, block, ban, count, binding, before, senior, wall}

-- ---- One kind: its form is the one of the table, and each of its checks applies exactly when the table says so. Then its replies are those of the table.
module _ (rs : List Record) (a : Accepted no_policy rs) (s : Bytes) where
  abbrev p : Policy
  p = filled no_policy rs

  abbrev r : Record
  r = decode s

  -- The kind's form and replies are those of the table's row k.
  record Agrees (k : Ruled) : Type 0 where
    form : form_of policy_forms k.fields.kind ≡ just k.fields
    low : Every (λ j. rank RANGE < rank j.reply) (k.refusals rs r)
    replies : r.kind ≡ k.fields.kind → JudgedExactly (k.refusals rs r) (first ((chosen policy_kinds k.fields.kind).checks p r))

  of-kind : (k : Ruled) → Agrees k → r.kind ≡ k.fields.kind → JudgedExactly (refusals_of k rs s) (reply_to policy_forms policy_kinds p s)
  unfolding reply_to form_checks rank
  of-kind k h e =
      subst (λ (n : ℕ). JudgedExactly (refusals_of k rs s)
      (first ((not (eqb (length s) 16) || misshapen (form_of policy_forms n) r, SHAPE)
      ∷ (out_of_range (form_of policy_forms n) r, RANGE)
      ∷ (chosen policy_kinds n).checks p r))) (sym e)
      (subst (λ (f : Maybe Form). JudgedExactly (refusals_of k rs s)
      (first ((not (eqb (length s) 16) || misshapen f r, SHAPE)
      ∷ (out_of_range f r, RANGE)
      ∷ (chosen policy_kinds k.fields.kind).checks p r))) (sym h.form)
      (check (omega arith) (omega arith, every_map (k.refusals rs r) (λ j l. omega arith) h.low) _ (misshaped k.fields s) (λ _.
      check (omega arith) h.low _ (too_large k.fields s) (λ _. h.replies e))))

  of-kinds : (table : List Ruled) → Every Agrees table
      → Every (λ k. r.kind ≡ k.fields.kind → JudgedExactly (refusals_of k rs s) (reply_to policy_forms policy_kinds p s)) table
  of-kinds [] h = tt
  of-kinds (k ∷ table) h = (of-kind k h.0, of-kinds table h.1)

  table : Every Agrees policy_kinds_ruled
  unfolding policy_forms form_of policy_kinds chosen rank
  table =
      record { form = refl; low = omega arith; replies = λ _. user rs a r }
      ⨾ record { form = refl; low = omega arith; replies = λ _. role rs a r }
      ⨾ record { form = refl; low = omega arith; replies = λ _. permission rs a r }
      ⨾ record { form = refl; low = omega arith; replies = λ _. assignment rs a r }
      ⨾ record { form = refl; low = omega arith; replies = λ _. role-has rs a r }
      ⨾ record { form = refl; low = omega arith; replies = λ _. task rs a r }
      ⨾ record { form = refl; low = omega arith; replies = λ _. opening rs a r }
      ⨾ record { form = refl; low = omega arith; replies = λ _. carrying rs a r }
      ⨾ record { form = refl; low = omega arith; replies = λ _. static rs a r }
      ⨾ record { form = refl; low = omega arith; replies = λ _. dynamic rs a r }
      ⨾ record { form = refl; low = omega arith; replies = λ _. task-set rs a r }
      ⨾ record { form = refl; low = omega arith; replies = λ _. block rs a r }
      ⨾ record { form = refl; low = omega arith; replies = λ _. ban rs a r }
      ⨾ record { form = refl; low = omega arith; replies = λ _. count rs a r }
      ⨾ record { form = refl; low = omega arith; replies = λ _. binding rs a r }
      ⨾ record { form = refl; low = omega arith; replies = λ _. before rs a r }
      ⨾ record { form = refl; low = omega arith; replies = λ e. senior rs a r e }
      ⨾ record { form = refl; low = omega arith; replies = λ _. wall rs a r }
      ⨾ tt

  judged : Judged rs s (policy_answer p s).reply
  unfolding policy_answer answer policy_forms
  judged = record {
    kinds = of-kinds policy_kinds_ruled table;
    others = λ n. unlisted policy_forms policy_kinds p s n;
  }

pub every-record : EveryRecord
every-record policy h s =
    let x = load-accepted policy h in
    subst (λ (p : Policy). Judged (records_of policy) s (policy_answer p s).reply) (sym x.1) (judged (records_of policy) x.0 s)

-- ---- The load, record by record.
accepted-more : (p : Policy) (rs : List Record) (r : Record) → Accepted p rs → Fits (filled p rs) r → Accepted p (rs ++ (r ∷ []))
unfolding filled
accepted-more p [] r a f = (f, tt)
accepted-more p (x ∷ rs) r a f = (a.0, accepted-more (step p x) rs r a.1 f)

filled_more : (p : Policy) (rs : List Record) (r : Record) → filled p (rs ++ (r ∷ [])) ≡ step (filled p rs) r
unfolding filled
filled_more p [] r = refl
filled_more p (x ∷ rs) r = filled_more (step p x) rs r

one-behind : {A : Type 0} (xs : List A) (y : A) (zs : List A) → (xs ++ (y ∷ [])) ++ zs ≡ xs ++ (y ∷ zs)
one-behind [] y zs = refl
one-behind (x ∷ xs) y zs = ap (λ (ws : List _). x ∷ ws) (one-behind xs y zs)

drop_more : {A : Type 0} (m n : ℕ) (l : List A) → drop (m + n) l ≡ drop n (drop m l)
drop_more zero n l = let e : zero + n ≡ n = omega arith in ap (λ (k : ℕ). drop k l) e
drop_more (suc m) n [] = let e : suc m + n ≡ suc (m + n) = omega arith in ap (λ (k : ℕ). drop k []) e ∙ nothing n
  where
    nothing : {A : Type 0} (n : ℕ) → [] ≡ drop {A = A} n []
    nothing zero = refl
    nothing (suc n) = refl
drop_more (suc m) n (x ∷ l) = let e : suc m + n ≡ suc (m + n) = omega arith in ap (λ (k : ℕ). drop k (x ∷ l)) e ∙ drop_more m n l

next-at : (s : Bytes) (k : ℕ) → record_at (drop 16 s) k ≡ record_at s (suc k)
next-at s k = let e : 16 + 16 * k ≡ 16 * suc k = omega arith in ap (take 16) (sym (drop_more 16 (16 * k) s) ∙ ap (λ (n : ℕ). drop n s) e)

-- A record that is accepted passed its checks, and the tables are those of its kind.
passed-one : (p : Policy) (t : Bytes) → (policy_answer p t).reply ≡ 0 → Fits p (decode t) × ((policy_answer p t).tables ≡ step p (decode t))
unfolding policy_answer answer form_checks
passed-one p t e =
    let x = reply-passed policy_forms policy_kinds (numbered policy_kinds policy-order) p t e in
    (record { range = x.0.1.0; checks = x.1 }, ap (λ (q : ℕ). granted q (step p (decode t)) p) e)

-- Bytes of another length than sixteen get SHAPE.
too_short : (p : Policy) (s : Bytes) → Not (length s ≡ 16) → (policy_answer p s).reply ≡ SHAPE
unfolding policy_answer answer reply_to form_checks
too_short p s n = rw (ne_eqb (length s) 16 n) refl

-- The reply to record k of the bytes s, counted from 0, after the records rs and those before it in s.
abbrev At : List Record → Bytes → ℕ → ℕ → Type 0
At rs s k reply = Judged (rs ++ records_from k s) (record_at s k) reply

-- The answer x of a load of the bytes s, the first record of which has this place: if it is accepted, so
-- is each record; if it is refused, the record at its place is the first that is refused, with this reply.
record Walked (rs : List Record) (s : Bytes) (place : ℕ) (x : Loaded) : Type 0 where
  accepts : x.reply ≡ 0 → (x.place ≡ 0) × ((k : ℕ) → 16 * k < length s → At rs s k 0)
  refuses : Not (x.reply ≡ 0) → (k : ℕ) × (x.place ≡ place + k) × (16 * k < length s) × ((j : ℕ) → j < k → At rs s j 0) × At rs s k x.reply

at_first : (rs : List Record) (s : Bytes) (reply : ℕ) → Judged rs (take 16 s) reply → At rs s 0 reply
unfolding records_from
at_first rs s reply h = subst (λ (qs : List Record). Judged qs (take 16 s) reply) (sym (append-nil rs)) h

at_next : (rs : List Record) (s : Bytes) (k reply : ℕ) → At (rs ++ (decode (take 16 s) ∷ [])) (drop 16 s) k reply → At rs s (suc k) reply
unfolding records_from
at_next rs s k reply h =
    subst (λ (t : Bytes). Judged (rs ++ records_from (suc k) s) t reply) (next-at s k)
    (subst (λ (qs : List Record). Judged qs (record_at (drop 16 s) k) reply) (one-behind rs (decode (take 16 s)) (records_from k (drop 16 s))) h)

stopped : (rs : List Record) (s : Bytes) (place q : ℕ) → 0 < length s → Judged rs (take 16 s) (suc q) → Walked rs s place (refused (suc q) place)
stopped rs s place q l h = record {
  accepts = λ e. let z : ⊥ = omega arith in absurd z;
  refuses = λ _. (0, omega arith, omega arith, (λ j k. let z : ⊥ = omega arith in absurd z), at_first rs s (suc q) h);
}

walked : (n place : ℕ) (s : Bytes) (rs : List Record) → Accepted no_policy rs → n * 16 ≤ length s → length s < n * 16 + 16
    → Walked rs s place (load_on n place s (filled no_policy rs))
unfolding load_on
walked zero place s rs a low high = go (eqb (length s) 0) refl
  where
    go : (b : Bool) → eqb (length s) 0 ≡ b → Walked rs s place (cond b (accepted (filled no_policy rs)) (refused SHAPE place))
    go true e =
        let z = eqb-true (length s) 0 e in
        record { accepts = λ _. (refl, λ k l. let w : ⊥ = omega arith in absurd w); refuses = λ n. absurd (n refl) }
    go false e =
        let z = eqb-false (length s) 0 e in
        let l = length-take 16 s in
        stopped rs s place 1 (omega arith)
        (subst (Judged rs (take 16 s)) (too_short (filled no_policy rs) (take 16 s) (λ q. let w : ⊥ = omega arith in w)) (judged rs a (take 16 s)))
walked (suc n) place s rs a low high =
    go (policy_answer p (take 16 s)).reply refl (walked n (suc place) (drop 16 s) (rs ++ (decode (take 16 s) ∷ [])))
  where
    p : Policy
    p = filled no_policy rs

    go : (q : ℕ) → (policy_answer p (take 16 s)).reply ≡ q
        → (Accepted no_policy (rs ++ (decode (take 16 s) ∷ [])) → n * 16 ≤ length (drop 16 s) → length (drop 16 s) < n * 16 + 16
        → Walked (rs ++ (decode (take 16 s) ∷ [])) (drop 16 s) (suc place)
        (load_on n (suc place) (drop 16 s) (filled no_policy (rs ++ (decode (take 16 s) ∷ [])))))
        → Walked rs s place (granted q (load_on n (suc place) (drop 16 s) (policy_answer p (take 16 s)).tables) (refused q place))
    go (suc q) e ih = stopped rs s place q (omega arith) (subst (Judged rs (take 16 s)) e (judged rs a (take 16 s)))
    go zero e ih =
        let x = passed-one p (take 16 s) e in
        let l = length-drop 16 s in
        let y = ih (accepted-more no_policy rs (decode (take 16 s)) a x.0) (omega arith) (omega arith) in
        onward (subst (λ (t : Policy). Walked (rs ++ (decode (take 16 s) ∷ [])) (drop 16 s) (suc place) (load_on n (suc place) (drop 16 s) t))
        (filled_more no_policy rs (decode (take 16 s)) ∙ sym x.1) y)
      where
        here : At rs s 0 0
        here = at_first rs s 0 (subst (Judged rs (take 16 s)) e (judged rs a (take 16 s)))

        all : (m : ℕ) → ((k : ℕ) → k < m → At (rs ++ (decode (take 16 s) ∷ [])) (drop 16 s) k 0) → (k : ℕ) → k < suc m → At rs s k 0
        all m f zero l = here
        all m f (suc k) l = at_next rs s k 0 (f k (omega arith))

        onward : {x : Loaded} → Walked (rs ++ (decode (take 16 s) ∷ [])) (drop 16 s) (suc place) x → Walked rs s place x
        onward {x} w = record {
          accepts = λ q. let y = w.accepts q in (y.0, λ k. each k y.1);
          refuses = λ q.
              let y = w.refuses q in
              let l = length-drop 16 s in
              let i = y.1 in
              let j = y.2 in
              (suc y.0, omega arith, omega arith, all y.0 y.3, at_next rs s y.0 x.reply y.4);
        }
          where
            each : (k : ℕ) → ((k : ℕ) → 16 * k < length (drop 16 s) → At (rs ++ (decode (take 16 s) ∷ [])) (drop 16 s) k 0) → 16 * k < length s → At rs s k 0
            each zero f l = here
            each (suc k) f l = let e = length-drop 16 s in at_next rs s k 0 (f k (omega arith))

pub every-load : EveryLoad
unfolding load filled
every-load s =
    let w = walked (length s / 16) 1 s [] tt (omega arith) (omega arith) in
    record {
      accepted = λ e. w.accepts e;
      refused = λ n. let y = w.refuses n in (y.0, y.1 ∙ omega arith, y.2, y.3, y.4);
    }
