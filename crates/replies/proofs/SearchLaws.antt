-- The invariants of loops that search or gather: each holds at the start, a turn keeps it, and at the end it gives the result.
use Prim.Native.Nat.{ℕ, suc, ◌+◌, ◌-◌, ◌≤◌, ◌<◌}
use mathlib.Core.Bool.{Bool, true, false, cond}
use mathlib.Core.List.{List}
use mathlib.Core.Path.{◌≡◌, ap}
use native.Mathlib.Numerals.{add-one}
use native.Mathlib.Omega.{arith}
use borrow.Author.Tests.{eq-eqb, ne_eqb}
use Rattle.paper_lower.specs.Sets.{Set, plus, union, collect, union_below}
use Rattle.paper_lower.specs.Lists.{some_number_below, some, place_from, place, first_of}
use Rattle.paper_lower.proofs.ListLaws.{some_below}
use Rattle.replies.specs.Cells.{rows_from, rows}
use Rattle.replies.proofs.RowLaws.{rows-up, rows_end}

-- ---- The start of a loop over the rows kept: what is left are all rows.
module _ {A : Type 0} (f : ℕ → A) {all : List A} {n count : ℕ} (are : all ≡ rows f count) (e : n ≡ count) where
  pub all_left : all ≡ rows_from f 0 (n - 0)
  all_left = let z : n - 0 ≡ n = omega arith in rw (z, e) are

  pub some-start : (p : A → Bool) → some p all ≡ some p (rows_from f 0 (n - 0))
  some-start p = ap (some p) all_left

  pub place-start : (p : A → Bool) → place p all ≡ place_from (0 + 1) p (rows_from f 0 (n - 0))
  unfolding place
  place-start p = ap (place_from 1 p) all_left

-- ---- Whether p holds for some row. The invariant: some p (rows f n) ≡ some p (rows_from f k (n - k)).
module _ {A : Type 0} (p : A → Bool) (f : ℕ → A) (n k : ℕ) where
  pub some-here : k < n → p (f k) ≡ true → some p (rows_from f k (n - k)) ≡ true
  unfolding some
  some-here h e = rw (rows-up f k n h, e)

  pub some-later : k < n → p (f k) ≡ false → some p (rows_from f k (n - k)) ≡ some p (rows_from f (k + 1) (n - (k + 1)))
  unfolding some
  some-later h e = rw (rows-up f k n h, e)

  pub some_end : n ≤ k → some p (rows_from f k (n - k)) ≡ false
  unfolding some
  some_end h = rw (rows_end f k n h)

  -- The place of the first row for which p holds. The invariant: place p (rows f n) ≡ place_from (k + 1) p (rows_from f k (n - k)).
  pub place_here : k < n → p (f k) ≡ true → place_from (k + 1) p (rows_from f k (n - k)) ≡ k + 1
  unfolding place_from
  place_here h e = rw (rows-up f k n h, e)

  pub place-later : k < n → p (f k) ≡ false → place_from (k + 1) p (rows_from f k (n - k)) ≡ place_from (k + 1 + 1) p (rows_from f (k + 1) (n - (k + 1)))
  unfolding place_from
  place-later h e = rw (rows-up f k n h, e) (let s : suc (k + 1) ≡ k + 1 + 1 = omega arith in rw s)

  pub place_end : n ≤ k → place_from (k + 1) p (rows_from f k (n - k)) ≡ 0
  unfolding place_from
  place_end h = rw (rows_end f k n h)

-- ---- Whether f holds for some number below n. The invariant: some_number_below k f ≡ false.
module _ (f : ℕ → Bool) (k : ℕ) where
  pub below_more : some_number_below k f ≡ false → f k ≡ false → some_number_below (k + 1) f ≡ false
  unfolding some_number_below
  below_more h e = rw add-one (simp (e, h))

  pub below-found : (n : ℕ) → k < n → f k ≡ true → some_number_below n f ≡ true
  below-found n h e = some_below n f k h e

-- ---- The first of f 0 to f (n - 1) that is not 0. The invariant: first_of 0 n f ≡ first_of k (n - k) f.
module _ (f : ℕ → ℕ) (n k : ℕ) where
  left : k < n → n - k ≡ suc (n - (k + 1))
  left h = omega arith

  pub first-here : k < n → (f k ≡ 0 → ⊥) → first_of k (n - k) f ≡ f k
  unfolding first_of
  first-here h e = rw (left h, ne_eqb (f k) 0 e)

  pub first-later : k < n → f k ≡ 0 → first_of k (n - k) f ≡ first_of (k + 1) (n - (k + 1)) f
  unfolding first_of
  first-later h e = rw (left h, eq-eqb (f k) 0 e, add-one)

  pub first-end : n ≤ k → first_of k (n - k) f ≡ 0
  unfolding first_of
  first-end h = let e : n - k ≡ 0 = omega arith in rw e

-- ---- Gathering while counting up. The invariant: what was gathered ≡ union_below k f, or collect k f.
pub union_more : (f : ℕ → Set) (k : ℕ) → union_below (k + 1) f ≡ union (union_below k f) (f k)
unfolding union_below
union_more f k = rw add-one

pub collect-more : (f : ℕ → Bool) (k : ℕ) → collect (k + 1) f ≡ cond (f k) (plus (collect k f) k) (collect k f)
unfolding collect
collect-more f k = rw add-one
