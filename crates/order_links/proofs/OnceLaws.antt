-- A law of counting: a list of m numbers from 1 to m in which none occurs twice has each of them exactly once.
use Prim.Native.Nat.{ℕ, zero, suc, ◌+◌, ◌≤◌, ◌<◌}
use mathlib.Core.Bool.{Bool, true, false, cond}
use mathlib.Core.List.{List, [], ◌∷◌, ◌++◌}
use mathlib.Core.Path.{◌≡◌, refl, sym, ap, ◌∙◌}
use native.Mathlib.Numerals.{add-one}
use native.Mathlib.Omega.{arith}
use borrow.Author.Tests.{eq-eqb, ne_eqb, eqb-true, eqb-false}
use lib.Dec.{eqb}
use Rattle.paper_lower.specs.Lists.{many, Every}
use Rattle.paper_lower.proofs.ListLaws.{many-append}
use Rattle.order_links.specs.Chains.{sum_to, times, joined}

-- ---- Sums.
pub sum_more : (f : ℕ → ℕ) (k : ℕ) {s : ℕ} → s ≡ sum_to f k → s + f k ≡ sum_to f (k + 1)
unfolding sum_to
sum_more f k e = rw (add-one, e) (omega arith)

pub sum_same : (f g : ℕ → ℕ) (n : ℕ) → ((k : ℕ) → k < n → f k ≡ g k) → sum_to f n ≡ sum_to g n
unfolding sum_to
sum_same f g zero h = refl
sum_same f g (suc n) h = rw (h n (omega arith), sum_same f g n (λ k l. h k (omega arith)))

sum_both : (f g h : ℕ → ℕ) (n : ℕ) → ((k : ℕ) → k < n → h k ≡ f k + g k) → sum_to h n ≡ sum_to f n + sum_to g n
unfolding sum_to
sum_both f g h zero e = refl
sum_both f g h (suc n) e =
    let a = e n (omega arith) in
    let b = sum_both f g h n (λ k l. e k (omega arith)) in
    omega arith

pub sum-none : (f : ℕ → ℕ) (n : ℕ) → ((k : ℕ) → k < n → f k ≡ 0) → sum_to f n ≡ 0
unfolding sum_to
sum-none f zero h = refl
sum-none f (suc n) h = let a = h n (omega arith) in let b = sum-none f n (λ k l. h k (omega arith)) in omega arith

-- A sum in which only one summand is not 0.
pub sum_one : (f : ℕ → ℕ) (i n : ℕ) → i < n → ((k : ℕ) → k < n → (k ≡ i → ⊥) → f k ≡ 0) → sum_to f n ≡ f i
unfolding sum_to
sum_one f i zero l h = let z : ⊥ = omega arith in absurd z
sum_one f i (suc n) l h = go (eqb i n) refl (sum_one f i n)
  where
    go : (b : Bool) → eqb i n ≡ b → (i < n → ((k : ℕ) → k < n → (k ≡ i → ⊥) → f k ≡ 0) → sum_to f n ≡ f i) → f n + sum_to f n ≡ f i
    go true e rest =
        let same = eqb-true i n e in
        let none = sum-none f n (λ k less. h k (omega arith) (λ q. omega arith)) in
        rw (none, same) (omega arith)
    go false e rest =
        let other = eqb-false i n e in
        let a = h n (omega arith) (λ q. other (sym q)) in
        let b = rest (omega arith) (λ k less d. h k (omega arith) d) in
        omega arith

-- A sum in which one summand changes.
pub sum_step : (f g : ℕ → ℕ) (i n a b : ℕ) → i < n → ((k : ℕ) → k < n → (k ≡ i → ⊥) → g k ≡ f k) → g i + a ≡ f i + b → sum_to g n + a ≡ sum_to f n + b
unfolding sum_to
sum_step f g i zero a b l h e = let z : ⊥ = omega arith in absurd z
sum_step f g i (suc n) a b l h e = go (eqb i n) refl (sum_step f g i n a b)
  where
    go : (c : Bool) → eqb i n ≡ c → (i < n → ((k : ℕ) → k < n → (k ≡ i → ⊥) → g k ≡ f k) → g i + a ≡ f i + b → sum_to g n + a ≡ sum_to f n + b) →
        g n + sum_to g n + a ≡ f n + sum_to f n + b
    go true q rest =
        let same = eqb-true i n q in
        let here : g n + a ≡ f n + b = rw same at e in
        let others = sum_same g f n (λ k less. h k (omega arith) (λ d. omega arith)) in
        omega arith
    go false q rest =
        let other = eqb-false i n q in
        let here = h n (omega arith) (λ d. other (sym d)) in
        let others = rest (omega arith) (λ k less d. h k (omega arith) d) e in
        omega arith

pub sum-ge : (f : ℕ → ℕ) (i n : ℕ) → i < n → f i ≤ sum_to f n
unfolding sum_to
sum-ge f i zero l = let z : ⊥ = omega arith in absurd z
sum-ge f i (suc n) l = go (eqb i n) refl (sum-ge f i n)
  where
    go : (c : Bool) → eqb i n ≡ c → (i < n → f i ≤ sum_to f n) → f i ≤ f n + sum_to f n
    go true q rest = let same : f i ≡ f n = ap f (eqb-true i n q) in omega arith
    go false q rest = let other = eqb-false i n q in let less = rest (omega arith) in omega arith

-- ---- How often a number occurs in lists that are joined.
pub times-append : (k : ℕ) (xs ys : List ℕ) → times k (xs ++ ys) ≡ times k xs + times k ys
unfolding times
times-append k [] ys = omega arith
times-append k (x ∷ xs) ys = go (eqb x k) (times-append k xs ys)
  where
    go : (b : Bool) → times k (xs ++ ys) ≡ times k xs + times k ys →
        cond b (suc (times k (xs ++ ys))) (times k (xs ++ ys)) ≡ cond b (suc (times k xs)) (times k xs) + times k ys
    go true e = omega arith
    go false e = e

pub times-joined : (k : ℕ) (f : ℕ → List ℕ) (n : ℕ) → times k (joined f n) ≡ sum_to (λ i. times k (f i)) n
unfolding joined sum_to times
times-joined k f zero = refl
times-joined k f (suc n) = times-append k (f n) (joined f n) ∙ ap (λ (x : ℕ). times k (f n) + x) (times-joined k f n)

pub many-joined : {A : Type 0} (f : ℕ → List A) (n : ℕ) → many (joined f n) ≡ sum_to (λ i. many (f i)) n
unfolding joined sum_to many
many-joined f zero = refl
many-joined f (suc n) = many-append (f n) (joined f n) ∙ ap (λ (x : ℕ). many (f n) + x) (many-joined f n)

-- ---- The numbers of occurrences of 1 to m add up to the length of the list.
abbrev pub Within : ℕ → ℕ → Type 0
Within m x = (0 < x) × (x ≤ m)

pub count-both : (m : ℕ) (xs : List ℕ) → Every (Within m) xs → sum_to (λ k. times (suc k) xs) m ≡ many xs
unfolding many times
count-both m [] h = sum-none (λ k. times (suc k) []) m (λ k l. refl)
count-both m (x ∷ xs) h =
    let one : ℕ → ℕ = λ k. cond (eqb x (suc k)) 1 0 in
    let split = sum_both one (λ k. times (suc k) xs) (λ k. times (suc k) (x ∷ xs)) m (λ k l. apart k (eqb x (suc k))) in
    let single = here x h.0.0 h.0.1 in
    let rest = count-both m xs h.1 in
    split ∙ rw (single, rest) (omega arith)
  where
    apart : (k : ℕ) (b : Bool) → cond b (suc (times (suc k) xs)) (times (suc k) xs) ≡ cond b 1 0 + times (suc k) xs
    apart k true = omega arith
    apart k false = omega arith

    here : (x : ℕ) → 0 < x → x ≤ m → sum_to (λ k. cond (eqb x (suc k)) 1 0) m ≡ 1
    here zero p l = let z : ⊥ = omega arith in absurd z
    here (suc y) p l =
        sum_one (λ k. cond (eqb (suc y) (suc k)) 1 0) y m l (λ k less d. ap (λ (b : Bool). cond b 1 0) (ne_eqb (suc y) (suc k) (λ q. d (omega arith))))
        ∙ ap (λ (b : Bool). cond b 1 0) (eq-eqb (suc y) (suc y) refl)

sum-le : (f : ℕ → ℕ) (n : ℕ) → ((k : ℕ) → f k ≤ 1) → sum_to f n ≤ n
unfolding sum_to
sum-le f zero h = omega arith
sum-le f (suc n) h = let a = h n in let b = sum-le f n h in omega arith

each-one : (f : ℕ → ℕ) (n : ℕ) → ((k : ℕ) → f k ≤ 1) → sum_to f n ≡ n → (k : ℕ) → k < n → f k ≡ 1
unfolding sum_to
each-one f zero h e k l = let z : ⊥ = omega arith in absurd z
each-one f (suc n) h e k l = go (eqb k n) refl (each-one f n h)
  where
    go : (b : Bool) → eqb k n ≡ b → (sum_to f n ≡ n → (k : ℕ) → k < n → f k ≡ 1) → f k ≡ 1
    go true q rest =
        let a = h n in
        let b = sum-le f n h in
        let full : f n ≡ 1 = omega arith in
        ap f (eqb-true k n q) ∙ full
    go false q rest =
        let a = h n in
        let b = sum-le f n h in
        let d = eqb-false k n q in
        rest (omega arith) k (omega arith)

pub all_once : (m : ℕ) (xs : List ℕ) → Every (Within m) xs → many xs ≡ m → ((k : ℕ) → times k xs ≤ 1) → (k : ℕ) → 0 < k → k ≤ m → times k xs ≡ 1
all_once m xs h e once zero p l = let z : ⊥ = omega arith in absurd z
all_once m xs h e once (suc k) p l = each-one (λ k. times (suc k) xs) m (λ k. once (suc k)) (count-both m xs h ∙ e) k l
