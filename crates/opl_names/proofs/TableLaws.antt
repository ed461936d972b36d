-- Laws about the words of a table of names: the mark of a name, and the search through one bucket.
use Prim.Native.Nat.{ℕ, zero, suc, ◌+◌, ◌*◌, ◌-◌, ◌/◌, ◌%◌, ◌≤◌, ◌<◌}
use mathlib.Core.Path.{◌≡◌, refl, sym, ap, ◌∙◌}
use mathlib.Core.Bool.{Bool, true, false, cond, ◌&&◌, false≢true}
use mathlib.Core.List.{List, []}
use native.Mathlib.Nat.{not-suc-le-zero}
use native.Mathlib.Numerals.{add-one}
use native.Mathlib.Omega.{arith}
use lib.Dec.{eqb, ltb}
use lib.ListN.{length, get_or, take, drop, drop_of_length-le}
use lib.Seq.{drop-cons}
use borrow.Author.Tests.{eqb-true, eqb-false, eq-eqb, ltb-true, ltb-false}
use Rattle.paper_lower.specs.Lists.Maybe.{none, just}
use Rattle.paper_lower.proofs.ListLaws.{not-both, both}
use Rattle.paper_opl.specs.Reading.{Text, same}
use Rattle.paper_opl.specs.Naming.{place_of}
use Rattle.paper_opl.proofs.Conforms.{same_true}
use Rattle.paper_opl.proofs.TreeBack.{same_self}
use Rattle.opl_names.specs.Table.{quad_at, turned, mark_to, rest_from, mark_of, bucket_of, kept, place_at, word_at, size_within, link_in, mark_in, name_at, names_in, bucket_at, in_bucket, last_below, start_of, Sound}
use Rattle.opl_names.proofs.NameLaws.{same_not, place_none}

-- ---- The mark of a name: the bytes after the groups of four.
module _ (s : Text) (h i : ℕ) {x : ℕ} where
  pub rest_turn : {r v : ℕ} → i < length s → v ≡ get_or s i 0 → r ≡ (256 * h + v) % 4294967296 → rest_from h (drop i s) ≡ x → rest_from r (drop (i + 1) s) ≡ x
  unfolding rest_from
  rest_turn l v e f = rw (add-one, e, v) (rw (drop-cons s i 0 l) at f)

  pub rest_end : length s ≤ i → rest_from h (drop i s) ≡ x → h ≡ x
  unfolding rest_from
  rest_end l f = let e : drop i s ≡ [] = drop_of_length-le s l in rw e at f

-- The groups of four bytes.
module _ (s : Text) (k : ℕ) where
  pub quads-on : {h r x : ℕ} → h ≡ mark_to s k → x ≡ quad_at s (4 * k) → r ≡ turned h x → r ≡ mark_to s (k + 1)
  unfolding mark_to
  quads-on e q t = t ∙ rw (e, q, add-one)

  pub quads-end : {h r x : ℕ} → h ≡ mark_to s k → k ≡ length s / 4 → x ≡ rest_from 0 (drop (4 * k) s) → r ≡ turned h x → r ≡ mark_of s
  unfolding mark_of
  quads-end e l q f = f ∙ rw (q, e, l)

-- ---- The name with number k, compared with another.
pub is_last : (s : Text) (l : List ℕ) (k m : ℕ) (name : Text) {r : Bool} → mark_in (word_at l k) ≡ m →
    r ≡ same (take (place_at l k + size_within (word_at l k) - place_at l k) (drop (place_at l k) s)) name → r ≡ eqb (mark_in (word_at l k)) m && same (name_at s l k) name
unfolding name_at
is_last s l k m name e f =
    let z : place_at l k + size_within (word_at l k) - place_at l k ≡ size_within (word_at l k) = omega arith in
    rw (eq-eqb (mark_in (word_at l k)) m e) (rw z at f)

-- ---- The last number below k with a property.
module _ (p : ℕ → Bool) where
  pub last-le : (k : ℕ) → last_below p k ≤ k
  unfolding last_below
  last-le zero = omega arith
  last-le (suc k) = go (p k) (last-le k)
    where
      go : (b : Bool) → last_below p k ≤ k → cond b (suc k) (last_below p k) ≤ suc k
      go true h = omega arith
      go false h = omega arith

  -- No number between it and k has the property.
  pub last-gap : (k j : ℕ) → last_below p k ≤ j → j < k → p j ≡ false
  unfolding last_below
  last-gap zero j h l = absurd (not-suc-le-zero l)
  last-gap (suc k) j h l = go (p k) refl h (last-gap k j)
    where
      at : p k ≡ false → (last_below p k ≤ j → j < k → p j ≡ false) → last_below p k ≤ j → (b : Bool) → eqb j k ≡ b → p j ≡ false
      at e rest h true q = ap p (eqb-true j k q) ∙ e
      at e rest h false q = let d = eqb-false j k q in rest h (omega arith)

      go : (b : Bool) → p k ≡ b → cond b (suc k) (last_below p k) ≤ j → (last_below p k ≤ j → j < k → p j ≡ false) → p j ≡ false
      go true e h rest = let z : ⊥ = omega arith in absurd z
      go false e h rest = at e rest h (eqb j k) refl

  pub last-again : (k : ℕ) → last_below p k ≡ last_below p (last_below p k)
  unfolding last_below
  last-again zero = refl
  last-again (suc k) = go (p k) refl (last-again k)
    where
      go : (b : Bool) → p k ≡ b → last_below p k ≡ last_below p (last_below p k) → cond b (suc k) (last_below p k) ≡ last_below p (cond b (suc k) (last_below p k))
      go true e rest = sym (rw e)
      go false e rest = rest

  pub last-here : (k : ℕ) → 0 < k → k ≡ last_below p k → p (k - 1) ≡ true
  unfolding last_below
  last-here zero l h = absurd (not-suc-le-zero l)
  last-here (suc k) l h = let e : suc k - 1 ≡ k = omega arith in rw e (go (p k) refl h (last-le k))
    where
      go : (b : Bool) → p k ≡ b → suc k ≡ cond b (suc k) (last_below p k) → last_below p k ≤ k → p k ≡ true
      go true e h l = e
      go false e h l = let z : ⊥ = omega arith in absurd z

pub last-same : (p q : ℕ → Bool) (k : ℕ) → ((j : ℕ) → j < k → p j ≡ q j) → last_below p k ≡ last_below q k
unfolding last_below
last-same p q zero h = refl
last-same p q (suc k) h = rw (h k (omega arith), last-same p q k (λ j l. h j (omega arith)))

-- ---- The search for the name w in its bucket: the numbers from `next` on have been compared, and none of them is the number of w.
pub record Walking (s : Text) (n : ℕ) (l : List ℕ) (w : Text) (b next : ℕ) : Type 0 where
  pub within : next ≤ kept l
  pub stands : next ≡ last_below (in_bucket n l b) next
  pub passed : (j : ℕ) → next ≤ j → j < kept l → same (name_at s l j) w ≡ false

module _ (s : Text) (n : ℕ) (l : List ℕ) (w : Text) (m b : ℕ) (sound : Sound s n l) (marked : m ≡ mark_of w) (bucket : b ≡ bucket_of n m) where
  other-bucket : (j : ℕ) → j < kept l → in_bucket n l b j ≡ false → same (name_at s l j) w ≡ false
  other-bucket j h e =
      same_not (name_at s l j) w (λ q. eqb-false (bucket_at n l j) b e (ap (bucket_of n) (sound.marks j h ∙ ap mark_of q ∙ sym marked) ∙ sym bucket))

  pub walk_start : (r : ℕ) → b < n → r ≡ start_of n l b → Walking s n l w b r
  walk_start r h e =
      let is : r ≡ last_below (in_bucket n l b) (kept l) = e ∙ sound.starts b h in
      record {
        within = rw is (last-le (in_bucket n l b) (kept l));
        stands = rw is (last-again (in_bucket n l b) (kept l));
        passed = λ j q u. other-bucket j u (last-gap (in_bucket n l b) (kept l) j (rw is at q) u);
      }

  module _ (next : ℕ) (more : 0 < next) (walking : Walking s n l w b next) where
    here : next - 1 < kept l
    here = omega (arith, walking.within)

    pub walk-found : true ≡ eqb (mark_in (word_at l (next - 1))) m && same (name_at s l (next - 1)) w → just (next - 1) ≡ place_of 0 w (names_in s l)
    walk-found e =
        let q = same_true (name_at s l (next - 1)) w (both (eqb (mark_in (word_at l (next - 1))) m) (same (name_at s l (next - 1)) w) (sym e)).1 in
        sym (rw q at (sound.firsts (next - 1) here))

    module _ (on : ℕ) (differs : false ≡ eqb (mark_in (word_at l (next - 1))) m && same (name_at s l (next - 1)) w)
        (leads : on ≡ link_in (word_at l (next - 1))) where
      not-here : same (name_at s l (next - 1)) w ≡ false
      not-here =
          same_not (name_at s l (next - 1)) w
          (λ q. false≢true (sym (not-both (eqb (mark_in (word_at l (next - 1))) m) (same (name_at s l (next - 1)) w) (sym differs)
          (eq-eqb _ _ (sound.marks (next - 1) here ∙ ap mark_of q ∙ sym marked))) ∙ rw q (same_self w)))

      older : on ≡ last_below (in_bucket n l b) (next - 1)
      older =
          leads ∙ sound.links (next - 1) here ∙
          ap (λ h. last_below (in_bucket n l h) (next - 1)) (eqb-true _ _ (last-here (in_bucket n l b) next more walking.stands))

      pub walk-less : on < next
      walk-less = omega (arith, older, last-le (in_bucket n l b) (next - 1))

      all-passed : (j : ℕ) → on ≤ j → j < kept l → (x y : Bool) → ltb j (next - 1) ≡ x → eqb j (next - 1) ≡ y → same (name_at s l j) w ≡ false
      all-passed j h u true y e f = other-bucket j u (last-gap (in_bucket n l b) (next - 1) j (rw older at h) (ltb-true j (next - 1) e))
      all-passed j h u false true e f = ap (λ i. same (name_at s l i) w) (eqb-true j (next - 1) f) ∙ not-here
      all-passed j h u false false e f =
          let low = ltb-false j (next - 1) e in
          let apart = eqb-false j (next - 1) f in
          walking.passed j (omega arith) u

      pub walk-on : Walking s n l w b on
      walk-on =
          record {
            within = omega (arith, here, walk-less);
            stands = rw older (last-again (in_bucket n l b) (next - 1));
            passed = λ j h u. all-passed j h u (ltb j (next - 1)) (eqb j (next - 1)) refl refl;
          }

  pub walk_end : (next : ℕ) → next ≤ 0 → Walking s n l w b next → none ≡ place_of 0 w (names_in s l)
  unfolding names_in
  walk_end next z walking = sym (place_none (name_at s l) w 0 0 (kept l) (λ j a h. walking.passed j (omega arith) (omega arith)))
