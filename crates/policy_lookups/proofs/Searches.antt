-- Searches by `any` over a range: over the numbers below n it asks whether the test holds for one of them, and over the rows kept whether it holds for one.
use Prim.Native.Nat.{ℕ, zero, suc, ◌+◌, ◌-◌}
use mathlib.Core.Bool.{Bool, true, false, ◌||◌}
use mathlib.Core.List.{List}
use mathlib.Core.Path.{◌≡◌, refl, sym, ap, ◌∙◌}
use native.Mathlib.Numerals.{add-one}
use native.Mathlib.Omega.{arith}
use Rattle.std.specs.List.{list_any, range_with_len}
use Rattle.paper_lower.specs.Lists.{some_number_below, some}
use Rattle.replies.specs.Cells.{rows_from, rows}
use Rattle.replies.proofs.SearchLaws.{all_left}

swap : (x y z : Bool) → x || (y || z) ≡ y || (x || z)
swap true true z = refl
swap true false z = refl
swap false y z = refl

-- The last number of a range comes last in the search, and first in the definition.
last_first : (test : ℕ → Bool) (k n : ℕ) → list_any test (range_with_len k (suc n)) ≡ test (k + n) || list_any test (range_with_len k n)
last_first test k zero = let e : k ≡ k + 0 = omega arith in ap (λ i. test i || false) e
last_first test k (suc n) =
    let e : k + 1 + n ≡ k + suc n = omega arith in
    ap (λ b. test k || b) (last_first test (k + 1) n) ∙ swap (test k) (test (k + 1 + n)) (list_any test (range_with_len (k + 1) n))
    ∙ ap (λ i. test i || (test k || list_any test (range_with_len (k + 1) n))) e

pub any-below : (test : ℕ → Bool) (n : ℕ) → list_any test (range_with_len 0 n) ≡ some_number_below n test
unfolding some_number_below
any-below test zero = refl
any-below test (suc n) = let e : 0 + n ≡ n = omega arith in last_first test 0 n ∙ (λ z. test (e z) || any-below test n z)

any_from : {A : Type 0} (test : A → Bool) (f : ℕ → A) (k n : ℕ) → list_any (λ i. test (f i)) (range_with_len k n) ≡ some test (rows_from f k n)
unfolding some rows_from
any_from test f k zero = refl
any_from test f k (suc n) = ap (λ b. test (f k) || b) (any_from test f (k + 1) n ∙ rw add-one refl)

-- The rows are all elements of a list, and n is their number.
pub any-rows : {A : Type 0} (test : A → Bool) (f : ℕ → A) {all : List A} {n count : ℕ} → all ≡ rows f count → n ≡ count →
    list_any (λ i. test (f i)) (range_with_len 0 (n - 0)) ≡ some test all
any-rows test f {n = n} are e = any_from test f 0 (n - 0) ∙ ap (some test) (sym (all_left f are e))
