-- For proofs of a `match` over numbers: what the default of the `match` knows of its number gives the value
-- of a definition over the same numbers. Each law asks for one test that antt computes, the `tt` at its use.
use mathlib.Core.Path.{◌≡◌, refl, subst, sym}
use mathlib.Core.Bool.{Bool, true, false, not}
use mathlib.Core.List.{List, [], ◌∷◌}
use mathlib.Core.Logic.{◌⊎◌, inl, inr, ⊎_elim}
use Prim.Native.Nat.{ℕ, zero, suc, ◌<◌, ◌≤◌}
use native.Mathlib.Nat.{not-suc-le-zero, eq-or-lt_of_le, le_of_suc-le-suc}
use lib.Dec.{T, leb, eqb, eqb→eq, le→leb, not_T}
use types.Run.{OneOf}
use borrow.Author.Tests.{ne_eqb}
use Rattle.paper_lower.specs.Lists.{Every}

-- ---- Tests over lists and ranges of numbers.

-- `both` and `imp` are "and" and "implies".
abbrev pub both : Bool → Bool → Bool
both true b = b
both false b = false

abbrev pub imp : Bool → Bool → Bool
imp true b = b
imp false b = true

pub both_left : (a b : Bool) → T (both a b) → T a
both_left true b t = tt
both_left false b t = t

pub both_right : (a b : Bool) → T (both a b) → T b
both_right true b t = t
both_right false b t = absurd t

pub holds-true : (b : Bool) → T b → b ≡ true
holds-true true t = refl
holds-true false t = absurd t

imp-to : (a b : Bool) → T (imp a b) → T a → T b
imp-to true b t u = t
imp-to false b t u = absurd u

not-not : (b : Bool) → T (imp (not b) false) → T b
not-not true t = tt
not-not false t = t

split : (a b : Bool) → T (imp (not a) b) → T a ⊎ T b
split true b t = inl tt
split false b t = inr t

-- Whether the test holds for every number below n.
abbrev pub all_to : (ℕ → Bool) → ℕ → Bool
all_to f zero = true
all_to f (suc n) = both (f n) (all_to f n)

pub at : (f : ℕ → Bool) (n : ℕ) → T (all_to f n) → (k : ℕ) → k < n → T (f k)
at f zero t k h = absurd (not-suc-le-zero h)
at f (suc n) t k h =
    ⊎_elim
    (λ (e : k ≡ n). subst (λ (m : ℕ). T (f m)) (sym e) (both_left (f n) (all_to f n) t))
    (λ (l : k < n). at f n (both_right (f n) (all_to f n) t) k l)
    (eq-or-lt_of_le (le_of_suc-le-suc h))

-- Whether k is a key of the arm; `hits`: of some arm.
abbrev pub hit : List ℕ → ℕ → Bool
hit [] k = false
hit (x ∷ xs) k = imp (not (eqb k x)) (hit xs k)

abbrev pub hits : List (List ℕ) → ℕ → Bool
hits [] k = false
hits (ks ∷ arms) k = imp (not (hit ks k)) (hits arms k)

-- ---- The default.

-- What the default of a `match` knows, its `.match .rest`. `arms` has the keys of each arm, the last arm first.
abbrev pub Rest : List (List ℕ) → ℕ → Type 0
Rest [] k = Unit
Rest (ks ∷ arms) k = Rest arms k × (OneOf ks k → ⊥)

-- The arms of a `match` with one key in each arm, from the keys in the order of the arms.
abbrev onto : List ℕ → List (List ℕ) → List (List ℕ)
onto [] arms = arms
onto (k ∷ ks) arms = onto ks ((k ∷ []) ∷ arms)

-- The arms with one key each, for a list of keys in the order of the arms.
abbrev pub one_each : List ℕ → List (List ℕ)
one_each ks = onto ks []

hit-one : (x : ℕ) (xs : List ℕ) (k : ℕ) → T (hit (x ∷ xs) k) → OneOf (x ∷ xs) k
hit-one x [] k t = eqb→eq k x (not-not (eqb k x) t)
hit-one x (y ∷ xs) k t =
    ⊎_elim (λ (e : T (eqb k x)). inl (eqb→eq k x e)) (λ (u : T (hit (y ∷ xs) k)). inr (hit-one y xs k u)) (split (eqb k x) (hit (y ∷ xs) k) t)

one_of : (ks : List ℕ) (k : ℕ) → T (hit ks k) → OneOf ks k
one_of [] k t = t
one_of (x ∷ xs) k t = hit-one x xs k t

no-hits : (arms : List (List ℕ)) (k : ℕ) → Rest arms k → T (hits arms k) → ⊥
no-hits [] k r t = t
no-hits (ks ∷ arms) k r t =
    ⊎_elim (λ (h : T (hit ks k)). r.1 (one_of ks k h)) (λ (u : T (hits arms k)). no-hits arms k r.0 u) (split (hit ks k) (hits arms k) t)

-- The number of the default differs from every key.
pub others : (ks : List ℕ) (k : ℕ) → Rest (one_each ks) k → Every (λ x. eqb x k ≡ false) ks
others ks k r = (go ks [] r).1
  where
    go : (ks : List ℕ) (arms : List (List ℕ)) → Rest (onto ks arms) k → Rest arms k × Every (λ x. eqb x k ≡ false) ks
    go [] arms r = (r, tt)
    go (x ∷ xs) arms r = let p = go xs ((x ∷ []) ∷ arms) r in (p.0.0, (ne_eqb x k (λ e. p.0.1 (sym e)), p.1))

-- A default that is never reached: every number for which the test holds has a key. `key k` is the number that the `match` takes.
pub no_other : (test : ℕ → Bool) (key : ℕ → ℕ) (arms : List (List ℕ)) (hi : ℕ) → T (all_to (λ k. imp (test k) (hits arms (key k))) hi)
    → (k : ℕ) → k < hi → T (test k) → Rest arms (key k) → ⊥
no_other test key arms hi t k h u r =
    no-hits arms (key k) r (imp-to (test k) (hits arms (key k)) (at (λ k. imp (test k) (hits arms (key k))) hi t k h) u)

-- ---- Values, of any type with a test for equality.
module _ {A : Type 0} (same : A → A → Bool) (sound : (x y : A) → T (same x y) → x ≡ y) (f : ℕ → A) (v : A) where
  -- f has the value v at all numbers from lo to hi - 1 that are no key: for a default, or for an arm that the code tests as a range.
  pub rest : (arms : List (List ℕ)) (lo hi : ℕ) → T (all_to (λ k. imp (leb lo k) (imp (not (hits arms k)) (same v (f k)))) hi)
      → (k : ℕ) → Rest arms k → lo ≤ k → k < hi → v ≡ f k
  rest arms lo hi t k r l h =
      sound v (f k)
      (imp-to (not (hits arms k)) (same v (f k))
      (imp-to (leb lo k) (imp (not (hits arms k)) (same v (f k)))
      (at (λ k. imp (leb lo k) (imp (not (hits arms k)) (same v (f k)))) hi t k h) (le→leb lo k l))
      (not_T (hits arms k) (no-hits arms k r)))
