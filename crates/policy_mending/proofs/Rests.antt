-- For the proof of `next`: the mending of the rest of a file, record by record. A record that is accepted is
-- written after those kept before, one that is refused is an entry of the report; and the end of the file.
use Prim.Native.Nat.{ℕ, suc, ◌+◌, ◌-◌, ◌*◌, ◌/◌, ◌≤◌, ◌<◌}
use mathlib.Core.Bool.{false, cond}
use mathlib.Core.List.{List, [], ◌∷◌, ◌++◌, append_assoc}
use mathlib.Core.Path.{◌≡◌, refl, sym, ap, ◌∙◌}
use native.Mathlib.Omega.{arith}
use native.Mathlib.Numerals.{add-one}
use lib.Dec.{eqb, ltb}
use lib.ListN.{length, take, drop, length-drop, length-append, take-append-drop}
use borrow.Rule.Slice.PartMut.{put_mid}
use Rattle.std.proofs.lemmas.List.{take-take}
use Rattle.std.proofs.lemmas.Slice.{put_mid-paste}
use lib.Seq.{paste, take-paste, drop-paste, drop-drop, length-take-le}
use borrow.Author.Tests.{eq-eqb, ne_eqb, lt-ltb, le-ltb}
use Rattle.paper_lower.specs.Lists.{each}
use Rattle.paper_lower.specs.Checks.{SHAPE, granted}
use Rattle.paper_lower.specs.Records.{Bytes}
use Rattle.paper_lower.specs.Tables.{Policy}
use Rattle.paper_lower.specs.Load.{policy_answer}
use Rattle.paper_lower.specs.Mend.{Mended, dropped, keeping, dropping, mend_from}
use Rattle.std.specs.Prelude.{Ok, Err}
use Rattle.replies.specs.Replies.{refusal_number}
use Rattle.replies.specs.declared.Refusal.{Refusal}
use Rattle.replies.specs.Done.{Done}
use Rattle.replies.proofs.ReplyLaws.{not-granted}
use Rattle.replies.proofs.DoneLaws.{granted-old}
use Rattle.policy.specs.Reading.{policy_of}
use Rattle.policy_mending.specs.declared.Dropped.{Dropped}
use Rattle.policy_mending.specs.Rest.{Kept, entries, rest_of, laid, rest_by, rest_from, over, before, told, Found}

-- ---- The rest of a file with its first record split off.
one : (i : ℕ) (s : Bytes) (t : Policy) → i < length s / 16
    → rest_of i s t ≡ granted (policy_answer t (take 16 (drop (16 * i) s))).reply
    (keeping (take 16 (drop (16 * i) s)) (rest_of (suc i) s (policy_answer t (take 16 (drop (16 * i) s))).tables))
    (dropping (dropped (suc i) (policy_answer t (take 16 (drop (16 * i) s))).reply) (rest_of (suc i) s t))
unfolding rest_of mend_from
one i s t h =
    let a : ltb (length s / 16) i ≡ false = le-ltb (length s / 16) i (omega arith) in
    let b : ltb (length s / 16) (suc i) ≡ false = le-ltb (length s / 16) (suc i) (omega arith) in
    let c : length s / 16 - i ≡ suc (length s / 16 - suc i) = omega arith in
    let d : 16 * i + 16 ≡ 16 * suc i = omega arith in
    rw (a, b, c, drop-drop 16 (16 * i) s, d)

-- ---- A record that is kept: its bytes are written after those of the records kept before.
module _ (kept : ℕ) (out r : Bytes) (h : 16 * kept + 16 ≤ length out) (l : 16 ≤ length r) where
  abbrev next-out : Bytes
  next-out = paste out (16 * kept) r 16

  lays : (w : Bytes) → laid kept (take 16 r ++ w) out ≡ laid (suc kept) w next-out
  lays w =
      let n : length (take 16 r) ≡ 16 = length-take-le 16 r l in
      let e : length (take 16 r ++ w) ≡ 16 + length w = length-append (take 16 r) w ∙ ap (λ (k : ℕ). k + length w) n in
      let m : 16 * kept + (16 + length w) ≡ 16 * kept + 16 + length w = omega arith in
      let f : 16 * suc kept ≡ 16 * kept + 16 = omega arith in
      let a : take (16 * kept + 16) next-out ≡ take (16 * kept) out ++ take 16 r = take-paste out (16 * kept) r 16 (omega arith) l in
      let b : drop (16 * kept + 16 + length w) next-out ≡ drop (16 * kept + 16 + length w) out =
      sym (drop-drop (length w) (16 * kept + 16) next-out) ∙ ap (drop (length w)) (drop-paste out (16 * kept) r 16 (omega arith) l) ∙
      drop-drop (length w) (16 * kept + 16) out in
      rw (e, m, f, a, b)
      (ap (λ (x : Bytes). take (16 * kept) out ++ x) (append_assoc (take 16 r) w (drop (16 * kept + 16 + length w) out))
      ∙ sym (append_assoc (take (16 * kept) out) (take 16 r) (w ++ drop (16 * kept + 16 + length w) out)))

  counts : (w : Bytes) → kept + length (take 16 r ++ w) / 16 ≡ suc kept + length w / 16
  counts w =
      let n : length (take 16 r) ≡ 16 = length-take-le 16 r l in
      let e = length-append (take 16 r) w in omega arith

  keeps : (x : Mended) → rest_by kept out (keeping (take 16 r) x) ≡ rest_by (suc kept) next-out x
  keeps x = λ i. record { kept = counts x.written i; output = lays x.written i; report = entries x.report; tables = x.tables }

-- ---- One turn of the loop: the record is kept and the rest is the same, or it is refused and `next` returns.
module _ (i k : ℕ) (s out : Bytes) (p : List ℕ) (out' : Bytes) (p' : List ℕ) (h : i < length s / 16) (f : k ≤ i) (room : length s ≤ length out) where
  pub goes_on : {u : Unit {0}} → Kept s (16 * i) out (16 * (i - k)) p out' p' (Ok u) → rest_from (i + 1) k s out' (policy_of p') ≡ rest_from i k s out (policy_of p)
  unfolding rest_from
  goes_on d =
      let q : (policy_answer (policy_of p) (take 16 (drop (16 * i) s))).reply ≡ 0 = sym d.judged.replies in
      let t : policy_of p' ≡ (policy_answer (policy_of p) (take 16 (drop (16 * i) s))).tables = rw q at d.judged.tables in
      let w : out' ≡ paste out (16 * (i - k)) (drop (16 * i) s) 16 = d.written in
      let e : i + 1 - k ≡ suc (i - k) = omega arith in
      let o = one i s (policy_of p) h in
      let g : rest_of i s (policy_of p) ≡ keeping (take 16 (drop (16 * i) s)) (rest_of (suc i) s (policy_of p')) = rw (q, ← t) at o in
      let m : 16 ≤ length (drop (16 * i) s) = let v = length-drop (16 * i) s in omega arith in
      sym (ap (rest_by (i - k) out) g ∙ keeps (i - k) out (drop (16 * i) s) (omega arith) m (rest_of (suc i) s (policy_of p')) ∙ rw (w, e, add-one))

  pub stops : {r : Refusal} → Kept s (16 * i) out (16 * (i - k)) p out' p' (Err r) →
      Found i k s out (policy_of p) out' (policy_of p') (record { place = i + 1; reply = refusal_number r })
  unfolding rest_from told each
  stops {r} d =
      let z : refusal_number r ≡ 0 → ⊥ = not-granted r in
      let pe : p' ≡ p = d.judged.kept z in
      let w : out' ≡ out = d.written ∙ sym (granted-old (paste out (16 * (i - k)) (drop (16 * i) s) 16) out (refusal_number r) z) in
      let e : i + 1 - suc k ≡ i - k = omega arith in
      let o : rest_of i s (policy_of p) ≡ granted (refusal_number r)
      (keeping (take 16 (drop (16 * i) s)) (rest_of (suc i) s (policy_answer (policy_of p) (take 16 (drop (16 * i) s))).tables))
      (dropping (dropped (suc i) (refusal_number r)) (rest_of (suc i) s (policy_of p))) = rw d.judged.replies (one i s (policy_of p) h) in
      let g : rest_of i s (policy_of p) ≡ dropping (dropped (suc i) (refusal_number r)) (rest_of (suc i) s (policy_of p)) =
      o ∙ sym (granted-old (keeping (take 16 (drop (16 * i) s)) (rest_of (suc i) s (policy_answer (policy_of p) (take 16 (drop (16 * i) s))).tables))
      (dropping (dropped (suc i) (refusal_number r)) (rest_of (suc i) s (policy_of p))) (refusal_number r) z) in
      record {
        rest =
            sym (granted-old (over (i + 1) out' (policy_of p'))
            (before (record { place = i + 1; reply = refusal_number r }) (rest_by (i + 1 - suc k) out' (rest_of (i + 1) s (policy_of p')))) (refusal_number r) z)
            ∙ rw (pe, w, e, add-one) (sym (ap (rest_by (i - k) out) g));
        ahead = λ _. (omega arith, omega arith);
      }

-- ---- The returns of `next` when no whole record is left: nothing follows, or an incomplete record, which gets SHAPE.
module _ (k : ℕ) (s out : Bytes) (t : Policy) where
  abbrev none : Mended
  none = record { written = []; report = []; tables = t }

  nothing : (kept : ℕ) → rest_by kept out none ≡ over kept out t
  unfolding each
  nothing kept =
      let e : 16 * kept + 0 ≡ 16 * kept = omega arith in
      let o : laid kept [] out ≡ out = rw e (take-append-drop (16 * kept) out) in
      let n : kept + 0 / 16 ≡ kept = omega arith in
      λ j. record { kept = n j; output = o j; report = []; tables = t }

  past : (i : ℕ) → length s / 16 < i → rest_of i s t ≡ none
  unfolding rest_of
  past i h = rw (lt-ltb _ _ h)

  at-end : (i : ℕ) → i ≡ length s / 16 →
      rest_of i s t ≡ record { written = []; report = cond (eqb (length (drop (16 * i) s)) 0) [] (dropped (suc i) SHAPE ∷ []); tables = t }
  unfolding rest_of mend_from
  at-end i e =
      let l : ltb (length s / 16) i ≡ false = le-ltb (length s / 16) i (omega arith) in
      let z : length s / 16 - i ≡ 0 = omega arith in
      rw (l, z)

  told_over : (kept : ℕ) → told k s out t (record { place = kept; reply = 0 }) ≡ over kept out t
  unfolding told
  told_over kept = refl

  pub is-over : (i : ℕ) → length s / 16 < i → Found i k s out t out t (record { place = i - k; reply = 0 })
  unfolding rest_from
  is-over i h = record { rest = told_over (i - k) ∙ sym (ap (rest_by (i - k) out) (past i h) ∙ nothing (i - k)); ahead = λ f. absurd (f refl) }

  pub ends : (i : ℕ) → i ≡ length s / 16 → length s ≤ 16 * i → Found i k s out t out t (record { place = i - k; reply = 0 })
  unfolding rest_from
  ends i e h =
      let z : length (drop (16 * i) s) ≡ 0 = let v = length-drop (16 * i) s in omega arith in
      let g : rest_of i s t ≡ none = at-end i e ∙ rw (eq-eqb _ _ z) in
      record { rest = told_over (i - k) ∙ sym (ap (rest_by (i - k) out) g ∙ nothing (i - k)); ahead = λ f. absurd (f refl) }

  pub cut : (i : ℕ) → i ≡ length s / 16 → 16 * i < length s → k ≤ i → Found i k s out t out t (record { place = i + 1; reply = SHAPE })
  unfolding rest_from told each
  cut i e h f =
      let z : length (drop (16 * i) s) ≡ 0 → ⊥ = λ q. let v = length-drop (16 * i) s in omega arith in
      let g : rest_of i s t ≡ record { written = []; report = dropped (suc i) SHAPE ∷ []; tables = t } = at-end i e ∙ rw (ne_eqb _ _ z) in
      let l : length s / 16 < suc i = omega arith in
      let m : suc i - suc k ≡ i - k = omega arith in
      record {
        rest = rw (add-one, m, past (suc i) l, g);
        ahead = λ _. (omega arith, omega arith);
      }

-- ---- The returns of `keep`. k is the length of the part of the bytes that was passed.
module _ (s : Bytes) (at : ℕ) (out : Bytes) (to : ℕ) (p p' : List ℕ) (k : ℕ) (k16 : k ≡ 16) where
  pub not-kept : {e : Refusal} → Done policy_of (policy_answer (policy_of p) (take k (drop at s))).reply (policy_answer (policy_of p) (take k (drop at s))).tables p p' (Err e) →
      Kept s at out to p out p' (Err e)
  not-kept {e} d = record { judged = rw k16 at d; written = granted-old (paste out to (drop at s) 16) out (refusal_number e) (not-granted e) }

  -- The sixteen bytes as they were written.
  sixteen : (j : ℕ) → j ≡ 16 → at + 16 ≤ length s → put_mid to j out (take k (drop at s)) ≡ paste out to (drop at s) 16
  sixteen j e h =
      let few : length (take 16 (drop at s)) ≡ 16 = length-take-le 16 (drop at s) (let v = length-drop at s in omega arith) in
      put_mid-paste to j out (take k (drop at s)) (take 16 (drop at s)) 16 (ap (λ (n : ℕ). take n (drop at s)) k16) (sym e) (sym few)
      ∙ ap (λ (x : Bytes). take to out ++ x ++ drop (to + 16) out) (take-take 16 16 (drop at s) (omega arith))

  pub is-kept : {u : Unit {0}} (w : Bytes) (j : ℕ) → w ≡ take k (drop at s) → j ≡ 16 → at + 16 ≤ length s →
      Done policy_of (policy_answer (policy_of p) (take k (drop at s))).reply (policy_answer (policy_of p) (take k (drop at s))).tables p p' (Ok u) →
      Kept s at out to p (put_mid to j out w) p' (Ok u)
  is-kept w j e j16 h d = record { judged = rw k16 at d; written = ap (put_mid to j out) e ∙ sixteen j j16 h }

-- If the rest from i on is that from `place` on, then what was found from i on answers for `place`.
pub onto : {i place k : ℕ} {s out out₀ out' : Bytes} {t t₀ t' : Policy} {d : Dropped} → rest_from i k s out t ≡ rest_from place k s out₀ t₀ →
    Found i k s out t out' t' d → Found place k s out₀ t₀ out' t' d
onto e f = record { rest = f.rest ∙ e; ahead = f.ahead }
