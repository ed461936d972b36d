-- Two lists of entries that have the same entries in the same order within each instance: the operations of the rules keep this relation, and it implies that
-- one list is a permutation of the other. At the end, laws of `SameTables`.
use Prim.Native.Nat.{ℕ}
use mathlib.Core.Path.{◌≡◌, refl, sym, ap, ◌∙◌}
use mathlib.Core.Bool.{Bool, true, false, cond}
use mathlib.Core.List.{List, [], ◌∷◌}
use native.Mathlib.Omega.{arith}
use borrow.Author.Tests.{eq-eqb, eqb-true, eqb-false}
use lib.Dec.{eqb}
use Rattle.paper_lower.specs.Lists.{keep, each}
use Rattle.paper_upper.specs.Orders.{Entry, Engine, SameTables, are_in_order, of_order}

-- ---- Permutations: two lists with the same entries, in any order.
pub data Same : List Entry → List Entry → Type 0 where
  all : Same [] []
  one : {e : Entry} {xs ys : List Entry} → Same xs ys → Same (e ∷ xs) (e ∷ ys)
  swap : {e f : Entry} {xs : List Entry} → Same (e ∷ f ∷ xs) (f ∷ e ∷ xs)
  then : {xs ys zs : List Entry} → Same xs ys → Same ys zs → Same xs zs

pub same_refl : (xs : List Entry) → Same xs xs
same_refl [] = all
same_refl (x ∷ xs) = one (same_refl xs)

pub same-sym : {xs ys : List Entry} → Same xs ys → Same ys xs
same-sym all = all
same-sym (one h) = one (same-sym h)
same-sym swap = swap
same-sym (then h k) = then (same-sym k) (same-sym h)

pub same-path : {xs ys : List Entry} → xs ≡ ys → Same xs ys
same-path {xs} {ys} e = rw (← e) (same_refl xs)

-- ---- Lists with the same order within each instance.

-- The entries of each instance are the same list in both.
abbrev pub Ordered : List Entry → List Entry → Type 0
Ordered xs ys = (i : ℕ) → of_order i xs ≡ of_order i ys

pub ordered-more : (e : Entry) (xs ys : List Entry) → Ordered xs ys → Ordered (e ∷ xs) (e ∷ ys)
unfolding keep
ordered-more e xs ys h i = ap (λ (zs : List Entry). cond (are_in_order i e) (e ∷ zs) zs) (h i)

keep-keep : (p q : Entry → Bool) (xs : List Entry) → keep p (keep q xs) ≡ keep q (keep p xs)
unfolding keep
keep-keep p q [] = refl
keep-keep p q (x ∷ xs) = go (p x) refl (q x) refl (keep-keep p q xs)
  where
    go : (a : Bool) → p x ≡ a → (b : Bool) → q x ≡ b → keep p (keep q xs) ≡ keep q (keep p xs)
        → keep p (cond (q x) (x ∷ keep q xs) (keep q xs)) ≡ keep q (cond (p x) (x ∷ keep p xs) (keep p xs))
    go true e true f h = rw (e, f, e) (ap (◌∷◌ x) h)
    go true e false f h = rw (e, f) h
    go false e true f h = rw (e, f, e) h
    go false e false f h = rw (e, f) h

pub ordered-keep : (q : Entry → Bool) (xs ys : List Entry) → Ordered xs ys → Ordered (keep q xs) (keep q ys)
ordered-keep q xs ys h i = keep-keep (are_in_order i) q xs ∙ ap (keep q) (h i) ∙ keep-keep q (are_in_order i) ys

keep-each : (p : Entry → Bool) (g : Entry → Entry) → ((e : Entry) → p (g e) ≡ p e) → (xs : List Entry) → keep p (each g xs) ≡ each g (keep p xs)
unfolding keep each
keep-each p g h [] = refl
keep-each p g h (x ∷ xs) = rw (h x) (go (p x) (keep-each p g h xs))
  where
    go : (b : Bool) → keep p (each g xs) ≡ each g (keep p xs)
        → cond b (g x ∷ keep p (each g xs)) (keep p (each g xs)) ≡ each g (cond b (x ∷ keep p xs) (keep p xs))
    go true e = ap (◌∷◌ (g x)) e
    go false e = e

pub ordered-each : (g : Entry → Entry) → ((i : ℕ) (e : Entry) → are_in_order i (g e) ≡ are_in_order i e) → (xs ys : List Entry) → Ordered xs ys →
    Ordered (each g xs) (each g ys)
ordered-each g f xs ys h i = keep-each (are_in_order i) g (f i) xs ∙ ap (each g) (h i) ∙ sym (keep-each (are_in_order i) g (f i) ys)

-- Two neighbours of different instances may be swapped: the entries of each instance stay the same list.
pub swapped : (i : ℕ) (e f : Entry) (es : List Entry) → (e.instance ≡ f.instance → ⊥) → of_order i (e ∷ f ∷ es) ≡ of_order i (f ∷ e ∷ es)
unfolding keep are_in_order
swapped i e f es n = go (eqb e.instance i) refl (eqb f.instance i) refl
  where
    go : (a : Bool) → eqb e.instance i ≡ a → (b : Bool) → eqb f.instance i ≡ b
        → cond a (e ∷ cond b (f ∷ of_order i es) (of_order i es)) (cond b (f ∷ of_order i es) (of_order i es))
        ≡ cond b (f ∷ cond a (e ∷ of_order i es) (of_order i es)) (cond a (e ∷ of_order i es) (of_order i es))
    go true p true q = absurd (n (eqb-true _ _ p ∙ sym (eqb-true _ _ q)))
    go true p false q = refl
    go false p true q = refl
    go false p false q = refl

-- ---- Lists with the same order within each instance are permutations of each other. The proof takes the first entry of one list out of the other.
not_none : (e : Entry) (es : List Entry) → [] ≡ e ∷ es → ⊥
not_none e es h = let z : ◌≡◌ {A = ℕ} 0 1 = cc in omega arith

not-of : (i : ℕ) (e : Entry) → are_in_order i e ≡ false → e.instance ≡ i → ⊥
unfolding are_in_order
not-of i e q = eqb-false e.instance i q

-- The entry x can be taken out of ys: `rest` is what remains, and putting x before it keeps the order within each instance.
record TakenOut (x : Entry) (ys : List Entry) : Type 0 where
  pub rest : List Entry
  pub same : Same ys (x ∷ rest)
  pub ordered : Ordered (x ∷ rest) ys

first_of : (x : Entry) (zs ys : List Entry) → of_order x.instance ys ≡ x ∷ zs → TakenOut x ys
unfolding keep
first_of x zs [] h = absurd (not_none x zs h)
first_of x zs (y ∷ ys) h = go (are_in_order x.instance y) refl (first_of x zs ys)
  where
    go : (b : Bool) → are_in_order x.instance y ≡ b → (of_order x.instance ys ≡ x ∷ zs → TakenOut x ys) → TakenOut x (y ∷ ys)
    go true e deeper =
        let own : y ∷ of_order x.instance ys ≡ x ∷ zs = sym (ap (λ (b : Bool). cond b (y ∷ of_order x.instance ys) (of_order x.instance ys)) e) ∙ h in
        let is : y ≡ x = cc in
        record { rest = ys; same = same-path (ap (λ (z : Entry). z ∷ ys) is); ordered = λ i. ap (λ (z : Entry). of_order i (z ∷ ys)) (sym is) }
    go false e deeper =
        let other : of_order x.instance ys ≡ x ∷ zs = sym (ap (λ (b : Bool). cond b (y ∷ of_order x.instance ys) (of_order x.instance ys)) e) ∙ h in
        let d = deeper other in
        let n = not-of x.instance y e in
        record {
          rest = y ∷ d.rest;
          same = then (one d.same) swap;
          ordered = λ i. swapped i x y d.rest (λ q. n (sym q)) ∙ ordered-more y (x ∷ d.rest) ys d.ordered i;
        }

own_first : (x : Entry) (xs : List Entry) → of_order x.instance (x ∷ xs) ≡ x ∷ of_order x.instance xs
unfolding keep are_in_order
own_first x xs = rw (eq-eqb x.instance x.instance refl)

less_one : (x : Entry) (xs ys : List Entry) → Ordered (x ∷ xs) (x ∷ ys) → Ordered xs ys
unfolding keep
less_one x xs ys h i = go (are_in_order i x) (h i)
  where
    go : (b : Bool) → cond b (x ∷ of_order i xs) (of_order i xs) ≡ cond b (x ∷ of_order i ys) (of_order i ys) → of_order i xs ≡ of_order i ys
    go true e = cc
    go false e = e

pub ordered_same : (xs ys : List Entry) → Ordered xs ys → Same xs ys
unfolding keep
ordered_same [] [] h = all
ordered_same [] (y ∷ ys) h = absurd (not_none y _ (h y.instance ∙ own_first y ys))
ordered_same (x ∷ xs) ys h =
    let d = first_of x _ ys (sym (h x.instance) ∙ own_first x xs) in
    then (one (ordered_same xs d.rest (less_one x xs d.rest (λ i. h i ∙ sym (d.ordered i))))) (same-sym d.same)

-- ---- Engines with the same tables.
pub tables-bag : {t t' : Engine} → SameTables t t' → Same t.orders.entries t'.orders.entries
tables-bag {t} {t'} h = ordered_same t.orders.entries t'.orders.entries h.entries

pub tables-refl : (t : Engine) → SameTables t t
tables-refl t = record { lower = refl; opened = refl; entries = λ i. refl }

pub tables-sym : {t t' : Engine} → SameTables t t' → SameTables t' t
tables-sym h = record { lower = sym h.lower; opened = sym h.opened; entries = λ i. sym (h.entries i) }

pub tables_then : {t u v : Engine} → SameTables t u → SameTables u v → SameTables t v
tables_then h k = record { lower = h.lower ∙ k.lower; opened = h.opened ∙ k.opened; entries = λ i. h.entries i ∙ k.entries i }
