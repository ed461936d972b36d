-- The lowest number for which f holds: of a set it is the number of trailing zeros of its word, and it is below the bound.
use Prim.Native.Nat.{ℕ, zero, suc, ◌+◌, ◌^◌, ◌≤◌, ◌<◌}
use mathlib.Core.Bool.{Bool, true, false, cond}
use mathlib.Core.Logic.{⊎_elim}
use mathlib.Core.Path.{◌≡◌, refl, sym, ap}
use native.Mathlib.Omega.{arith}
use Rattle.std.specs.Int.{w64}
use lib.Count.{count_trailing_zeros}
use borrow.Author.Tests.{eq-eqb, ne_eqb}
use Rattle.std.specs.Prelude.{Some, None}
use Rattle.std.proofs.lemmas.Nat.Bits.{bit_at-trailing_zeros}
use Rattle.paper_lower.specs.Sets.{Set, empty, has}
use Rattle.paper_lower.specs.Lists.{Maybe}
use Rattle.paper_lower.specs.Lists.Maybe.{none, just}
use Rattle.sets.proofs.Bits.{same-or-other}
use Rattle.sets.proofs.SetLaws.{has-empty}
use Rattle.paper_upper.specs.Stuck.{lowest_from}
use Rattle.order_stuck.specs.Listing.{optional}

pub lowest-same : (k n : ℕ) (f g : ℕ → Bool) → ((i : ℕ) → k ≤ i → i < k + n → f i ≡ g i) → lowest_from k n f ≡ lowest_from k n g
unfolding lowest_from
lowest-same k zero f g h = refl
lowest-same k (suc n) f g h = rw (h k (omega arith) (omega arith), lowest-same (suc k) n f g (λ i a b. h i (omega arith) (omega arith)))

lowest-none : (k n : ℕ) (f : ℕ → Bool) → ((i : ℕ) → f i ≡ false) → lowest_from k n f ≡ none
unfolding lowest_from
lowest-none k zero f miss = refl
lowest-none k (suc n) f miss = rw (miss k, lowest-none (suc k) n f miss)

lowest-at : (k n i : ℕ) (f : ℕ → Bool) → k ≤ i → i < k + n → f i ≡ true → ((j : ℕ) → j < i → f j ≡ false) → lowest_from k n f ≡ just i
unfolding lowest_from
lowest-at k zero i f a b hit miss = let z : ⊥ = omega arith in absurd z
lowest-at k (suc n) i f a b hit miss =
    ⊎_elim (λ (e : k ≡ i). rw (e, hit)) (λ other. rw (miss k (omega arith), lowest-at (suc k) n i f (omega arith) (omega arith) hit miss)) (same-or-other k i)

-- ---- The lowest member of a set.
pub no-member : (m : Set) → m ≡ empty → None ≡ optional (lowest_from 0 64 (has m))
no-member m e = rw e (sym (ap optional (lowest-none 0 64 (has empty) has-empty)))

pub first-member : (m : Set) → m < 2 ^ 64 → (m ≡ empty → ⊥) → Some (count_trailing_zeros 64 m) ≡ optional (lowest_from 0 64 (has m))
unfolding has
first-member m l some =
    let t = bit_at-trailing_zeros w64 m (omega arith) l in
    sym (ap optional (lowest-at 0 64 (count_trailing_zeros 64 m) (has m) (omega arith) (omega (arith, t.0)) (eq-eqb _ _ t.1) (λ i h. ne_eqb _ _ (λ e. omega (arith, t.2 i h, e)))))

-- ---- A number that was found, and none.
lies : (k n : ℕ) (f : ℕ → Bool) (t : ℕ) → lowest_from k n f ≡ just t → t < k + n
unfolding lowest_from
lies k zero f t e = let z : ◌≡◌ {A = ℕ} 0 1 = cc in omega arith
lies k (suc n) f t e = go (f k) e (lies (suc k) n f t)
  where
    go : (b : Bool) → cond b (just k) (lowest_from (suc k) n f) ≡ just t → (lowest_from (suc k) n f ≡ just t → t < suc k + n) → t < k + suc n
    go true q r = let s : k ≡ t = cc in omega arith
    go false q r = let l = r q in omega arith

pub is_found : (x : Maybe ℕ) (t : ℕ) → Some t ≡ optional x → x ≡ just t
is_found none t e = absurd (cc e)
is_found (just u) t e = cc e

pub none_found : (x : Maybe ℕ) → None ≡ optional x → x ≡ none
none_found none e = refl
none_found (just u) e = absurd (cc e)

pub found_below : (n : ℕ) (f : ℕ → Bool) (t : ℕ) → Some t ≡ optional (lowest_from 0 n f) → t < n
found_below n f t e = let l = lies 0 n f t (is_found (lowest_from 0 n f) t e) in omega arith
