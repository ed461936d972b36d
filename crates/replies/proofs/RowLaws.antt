-- Laws of lists of rows: their number, rows that agree, a row added at the end, and the rows from k on with the first one split off.
use Prim.Native.Nat.{ℕ, zero, suc, ◌+◌, ◌-◌, ◌≤◌, ◌<◌}
use mathlib.Core.List.{List, [], ◌∷◌}
use mathlib.Core.Path.{◌≡◌, refl, ap, ◌∙◌}
use native.Mathlib.Nat.{add-zero}
use native.Mathlib.Numerals.{add-one}
use native.Mathlib.Omega.{arith}
use Rattle.paper_lower.specs.Lists.{many, add}
use Rattle.replies.specs.Cells.{rows_from, rows}

pub many-rows : {A : Type 0} (f : ℕ → A) (k n : ℕ) → many (rows_from f k n) ≡ n
unfolding many rows_from
many-rows f k zero = refl
many-rows f k (suc n) = ap suc (many-rows f (suc k) n)

rows-same-from : {A : Type 0} (f g : ℕ → A) (k n : ℕ) → ((i : ℕ) → k ≤ i → i < k + n → f i ≡ g i) → rows_from f k n ≡ rows_from g k n
unfolding rows_from
rows-same-from f g k zero h = refl
rows-same-from f g k (suc n) h = rw (h k (omega arith) (omega arith), rows-same-from f g (suc k) n (λ i a b. h i (omega arith) (omega arith)))

-- Two tables that agree on the rows below n have the same first n rows.
pub rows_same : {A : Type 0} (f g : ℕ → A) (n : ℕ) → ((i : ℕ) → i < n → f i ≡ g i) → rows f n ≡ rows g n
rows_same f g n h = rows-same-from f g 0 n (λ i a b. h i (omega arith))

rows-more-from : {A : Type 0} (f : ℕ → A) (k n : ℕ) → rows_from f k (suc n) ≡ add (rows_from f k n) (f (k + n))
unfolding rows_from add
rows-more-from f k zero = rw (add-zero k)
rows-more-from f k (suc n) =
    let e : suc k + n ≡ k + suc n = omega arith in
    ap (λ (xs : List _). f k ∷ xs) (rows-more-from f (suc k) n ∙ rw e)

-- The first n + 1 rows are the first n rows with row n added at the end.
pub rows_more : {A : Type 0} (f : ℕ → A) (n : ℕ) → rows f (n + 1) ≡ add (rows f n) (f n)
rows_more f n = let e : 0 + n ≡ n = omega arith in rw add-one (rows-more-from f 0 n ∙ rw e)

-- The rows from k on, with the first of them split off: `rows-up` for a loop that counts up, `rows-down` for one that counts down.
pub rows-up : {A : Type 0} (f : ℕ → A) (k n : ℕ) → k < n → rows_from f k (n - k) ≡ f k ∷ rows_from f (k + 1) (n - (k + 1))
unfolding rows_from
rows-up f k n h =
    let e : n - k ≡ suc (n - (k + 1)) = omega arith in
    rw (e, add-one)

pub rows-down : {A : Type 0} (f : ℕ → A) (k n : ℕ) → 0 < k → k ≤ n → rows_from f (k - 1) (n - (k - 1)) ≡ f (k - 1) ∷ rows_from f k (n - k)
unfolding rows_from
rows-down f k n p h =
    let e : n - (k - 1) ≡ suc (n - k) = omega arith in
    let s : suc (k - 1) ≡ k = omega arith in
    rw (e, s)

pub rows_end : {A : Type 0} (f : ℕ → A) (k n : ℕ) → n ≤ k → rows_from f k (n - k) ≡ []
unfolding rows_from
rows_end f k n h = let e : n - k ≡ 0 = omega arith in rw e
