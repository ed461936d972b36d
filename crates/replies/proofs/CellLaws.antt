-- Laws of tables in a buffer: how a row reads, what a store of one word does to a table, and how a buffer of zeros reads.
use Prim.Native.Nat.{ℕ, zero, suc, ◌+◌, ◌≤◌, ◌<◌}
use mathlib.Core.Bool.{Bool, true, false, cond, ◌&&◌}
use mathlib.Core.List.{List}
use mathlib.Core.Path.{◌≡◌, refl, ap, fun_ext}
use native.Mathlib.Omega.{arith}
use borrow.Author.Tests.{lt-ltb, ltb-true, eq-eqb, ne_eqb, eqb-true, eqb-false}
use lib.Dec.{ltb, eqb}
use lib.ListN.{length, get_or, set, replicate}
use lib.Seq.{get_or-set_same, get_or-set_other}
use Rattle.paper_lower.specs.Lists.{upd}
use Rattle.replies.specs.Cells.{column}

module _ {A : Type 0} (g : ℕ → A) (d : A) (b n : ℕ) (l : List ℕ) where
  pub column-at : (i : ℕ) → i < n → column g d b n l i ≡ g (get_or l (b + i) 0)
  unfolding column
  column-at i h = simp (lt-ltb i n h)

  -- A store of v in word i of the table replaces row i.
  pub column-same : (i v : ℕ) → i < n → b + n ≤ length l → column g d b n (set l (b + i) v) ≡ upd (column g d b n l) i (g v)
  unfolding column upd
  column-same i v h fits = fun_ext (λ k. at k (eqb k i) refl)
    where
      in_row : (k : ℕ) → k ≡ i → cond (ltb k n) (g (get_or (set l (b + i) v) (b + k) 0)) d ≡ g v
      in_row k e = rw e (simp (lt-ltb i n h, get_or-set_same l (b + i) v 0 (omega arith)))

      at : (k : ℕ) (t : Bool) → eqb k i ≡ t → cond (ltb k n) (g (get_or (set l (b + i) v) (b + k) 0)) d ≡ cond t (g v) (cond (ltb k n) (g (get_or l (b + k) 0)) d)
      at k true e = in_row k (eqb-true k i e)
      at k false e = rw (get_or-set_other l (b + i) (b + k) v 0 (λ q. eqb-false k i e (omega arith)))

  -- A store outside the table changes no row.
  off : (j v : ℕ) → ((k : ℕ) → k < n → b + k ≡ j → ⊥) → column g d b n (set l j v) ≡ column g d b n l
  unfolding column
  off j v far = fun_ext (λ k. at k (ltb k n) refl)
    where
      at : (k : ℕ) (t : Bool) → ltb k n ≡ t → cond t (g (get_or (set l j v) (b + k) 0)) d ≡ cond t (g (get_or l (b + k) 0)) d
      at k true e = rw (get_or-set_other l j (b + k) v 0 (far k (ltb-true k n e)))
      at k false e = refl

  pub column-below : (j v : ℕ) → j < b → column g d b n (set l j v) ≡ column g d b n l
  column-below j v h = off j v (λ k k' e. omega arith)

  pub column-above : (j v : ℕ) → b + n ≤ j → column g d b n (set l j v) ≡ column g d b n l
  column-above j v h = off j v (λ k k' e. omega arith)

pub zeros-at : (n i : ℕ) → ◌≡◌ {A = ℕ} (get_or (replicate n 0) i 0) 0
zeros-at zero i = refl
zeros-at (suc n) zero = refl
zeros-at (suc n) (suc i) = zeros-at n i

pub column-zeros : {A : Type 0} (g : ℕ → A) (b n k : ℕ) → column g (g 0) b n (replicate k 0) ≡ (λ i. g 0)
unfolding column
column-zeros g b n k = fun_ext (λ i. at i (ltb i n))
  where
    at : (i : ℕ) (t : Bool) → cond t (g (get_or (replicate k 0) (b + i) 0)) (g 0) ≡ g 0
    at i true = ap g (zeros-at k (b + i))
    at i false = refl

-- Whether a packed word equals another is decided by its two parts, if the parts determine the word and the word determines them.
pub two-parts : (x a p q r s : ℕ) → (p ≡ q → r ≡ s → x ≡ a) → (x ≡ a → (p ≡ q) × (r ≡ s)) → eqb x a ≡ eqb p q && eqb r s
two-parts x a p q r s join split = at (eqb p q) refl (eqb r s) refl
  where
    at : (t : Bool) → eqb p q ≡ t → (u : Bool) → eqb r s ≡ u → eqb x a ≡ t && u
    at true e true f = eq-eqb x a (join (eqb-true p q e) (eqb-true r s f))
    at true e false f = ne_eqb x a (λ h. eqb-false r s f (split h).1)
    at false e u f = ne_eqb x a (λ h. eqb-false p q e (split h).0)
