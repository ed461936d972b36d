-- A search by `position` or `any` through the rows kept, and one by `find_map` through numbers: what it returns is what the definitions say.
use Prim.Native.Nat.{ℕ, zero, suc, ◌+◌, ◌-◌, ◌≤◌, ◌<◌}
use mathlib.Core.Bool.{Bool, true, false, cond, ◌||◌}
use mathlib.Core.List.{List}
use mathlib.Core.Path.{◌≡◌, refl, sym, ap, subst, ◌∙◌}
use native.Mathlib.Numerals.{add-one}
use native.Mathlib.Omega.{arith}
use denote.Param.Members.{Mut, Called}
use Rattle.std.specs.Prelude.{Option, None, Some}
use Rattle.std.specs.declared.ops.Range.{Range}
use Rattle.std.specs.List.{range_with_len, list_any, position_from}
use Rattle.std.specs.Option.{option_map, IfSome, IsSomeAnd, MatchOption}
use Rattle.std.specs.Iterator.Runs.{Run, SomeRun, AllItemsGive, IsFirstToGive}
use Rattle.std.proofs.iter.runs.Sources.{range_runs}
use Rattle.std.specs.Iterator.{FindsPosition, ChecksAny}
use Rattle.std.proofs.iter.Yields.{nat_range_steps}
use Rattle.std.proofs.lemmas.Iterator.{YieldsList-from_range}
use Rattle.std.proofs.lemmas.Iterator.Adapters.{position_from-zero}
use Rattle.std.proofs.lemmas.Iterator.Search.{position_from_yields_List, any_from_yields_List}
use Rattle.paper_lower.specs.Lists.{some, place_from, place, first_of}
use Rattle.replies.specs.Cells.{rows_from, rows}
use Rattle.replies.proofs.SearchLaws.{first-here, first-later, first-end}
use Rattle.order_rules.specs.Judging.{place_if_any}

module _ {A : Type 0} (p : A → Bool) (f : ℕ → A) where
  place-at : (k n : ℕ) → option_map (λ i. i + 1) (position_from (λ i. p (f i)) k (range_with_len k n)) ≡ place_if_any (place_from (suc k) p (rows_from f k n))
  unfolding place_from rows_from
  place-at k zero = refl
  place-at k (suc n) = go (p (f k)) (rw add-one (place-at (suc k) n))
    where
      go : (b : Bool) → option_map (λ i. i + 1) (position_from (λ i. p (f i)) (k + 1) (range_with_len (k + 1) n)) ≡ place_if_any (place_from (suc (suc k)) p (rows_from f (suc k) n))
          → option_map (λ i. i + 1) (cond b (Some k) (position_from (λ i. p (f i)) (k + 1) (range_with_len (k + 1) n)))
          ≡ place_if_any (cond b (suc k) (place_from (suc (suc k)) p (rows_from f (suc k) n)))
      go true h = rw add-one
      go false h = h

  some-at : (k n : ℕ) → list_any (λ i. p (f i)) (range_with_len k n) ≡ some p (rows_from f k n)
  unfolding some rows_from
  some-at k zero = refl
  some-at k (suc n) = ap (λ (b : Bool). p (f k) || b) (rw add-one (some-at (suc k) n))

  module _ {F : Type 0} {g : Mut F (ℕ × Unit {0}) Bool} {s : Range ℕ} {all : List A} {n count : ℕ} (are : all ≡ rows f count) (e : n ≡ count)
      (from : s ≡ record { start = 0; end = n }) (u : Range ℕ) (h : F) where
    -- r is what `position` returned, and o the place made of it.
    pub place-found : (r : Option ℕ) → FindsPosition nat_range_steps g s h r u → ((x : ℕ) (b : Bool) (q : F) → Called g h (x, tt) b q → (q ≡ h) × (b ≡ p (f x)))
        → {o : Option ℕ} → o ≡ option_map (λ i. i + 1) r → o ≡ place_if_any (place p all)
    unfolding place
    place-found r ran tests made =
        let found = position_from_yields_List (λ i. p (f i)) u h r ran (YieldsList-from_range 0 n n from (omega arith)) tests ∙ position_from-zero (λ i. p (f i)) (range_with_len 0 n) in
        made ∙ ap (option_map (λ i. i + 1)) found ∙ place-at 0 n ∙ rw (are, e)

    pub some-found : (r : Bool) → ChecksAny nat_range_steps g s h r u → ((x : ℕ) (b : Bool) (q : F) → Called g h (x, tt) b q → (q ≡ h) × (b ≡ p (f x))) → r ≡ some p all
    some-found r ran tests = any_from_yields_List (λ i. p (f i)) u h r ran (YieldsList-from_range 0 n n from (omega arith)) tests ∙ some-at 0 n ∙ rw (are, e)

-- ---- The first number with a place, by `find_map`.
none-is : (v : ℕ) → None ≡ place_if_any v → v ≡ 0
none-is zero e = refl
none-is (suc v) e = absurd (cc e)

some-is : (v y : ℕ) → Some y ≡ place_if_any v → v ≡ 0 → ⊥
some-is zero y e z = absurd (cc e)
some-is (suc v) y e z = omega (arith, z)

same-item : (o : Option ℕ) {n k : ℕ} → option_map (λ y. y) o ≡ Some n → n ≡ k → o ≡ Some k
same-item None e q = absurd (cc e)
same-item (Some m) e q = e ∙ ap Some q

module _ (f : ℕ → ℕ) (n : ℕ) where
  passed-by : (i : ℕ) → i ≤ n → ((j : ℕ) → j < i → f j ≡ 0) → first_of 0 n f ≡ first_of i (n - i) f
  passed-by zero l h = let e : n - 0 ≡ n = omega arith in rw e
  passed-by (suc i) l h = rw add-one at (passed-by i (omega arith) (λ j b. h j (omega arith)) ∙ first-later f n i (omega arith) (h i (omega arith)))

  module _ {F : Type 0} {g : Mut F (ℕ × Unit {0}) (Option ℕ)} {s : Range ℕ} (from : s ≡ record { start = 0; end = n }) (h : F) where
    -- r is what `find_map` returned.
    pub first-found : (r : Option ℕ)
        → SomeRun nat_range_steps s (λ p. MatchOption r ((p.whole ≡ true) × AllItemsGive p g h None) (λ y. (i : ℕ) × (i < p.len) × (p.len ≡ i + 1) × IsFirstToGive p g h (Some y) None i))
        → ((x : ℕ) (b : Option ℕ) (q : F) → Called g h (x, tt) b q → (q ≡ h) × (b ≡ place_if_any (f x))) → r ≡ place_if_any (first_of 0 n f)
    first-found r run tests = go r run.2
      where
        p : Run nat_range_steps
        p = run.0

        start : p.from.start ≡ 0
        start = ap (λ (k : Range ℕ). k.start) (run.1 ∙ from)

        end : p.from.end ≡ n
        end = ap (λ (k : Range ℕ). k.end) (run.1 ∙ from)

        item : (k : ℕ) → k < p.len → p.at k ≡ Some k
        item k l = same-item (p.at k) ((range_runs p p.seen).3 k l) (omega (arith, start))

        keeps : (a : ℕ × Unit {0}) (b : Option ℕ) (q : F) → Called g h a b q → q ≡ h
        keeps a b q z = (tests a.0 b q z).0

        go : (r : Option ℕ) → MatchOption r ((p.whole ≡ true) × AllItemsGive p g h None) (λ y. (i : ℕ) × (i < p.len) × (p.len ≡ i + 1) × IsFirstToGive p g h (Some y) None i)
            → r ≡ place_if_any (first_of 0 n f)
        go None w =
            let all : p.len ≡ n = omega (arith, (range_runs p p.seen).1 w.0, start, end) in
            let misses : (k : ℕ) → k < n → f k ≡ 0 =
            λ k l. none-is (f k) (tests k None h (subst (λ o. IfSome o (λ x. Called g h (x, tt) None h)) (item k (omega arith)) (w.1 keeps k))).1 in
            sym (ap place_if_any (passed-by n (omega arith) misses ∙ first-end f n n (omega arith)))
        go (Some y) w =
            let l : w.0 < n = omega (arith, w.1, (range_runs p p.seen).0, start, end) in
            let hit : Some y ≡ place_if_any (f w.0) = (tests w.0 (Some y) h (subst (λ o. IsSomeAnd o (λ x. Called g h (x, tt) (Some y) h)) (item w.0 w.1) (w.3 keeps).0)).1 in
            let misses : (k : ℕ) → k < w.0 → f k ≡ 0 =
            λ k b. none-is (f k) (tests k None h (subst (λ o. IsSomeAnd o (λ x. Called g h (x, tt) None h)) (item k (omega (arith, w.1))) ((w.3 keeps).1 k b))).1 in
            hit ∙ sym (ap place_if_any (passed-by w.0 (omega arith) misses ∙ first-here f n w.0 l (some-is (f w.0) y hit)))
