-- Laws about tables: two tables that agree at every number, and the lengths of the lists.
use mathlib.Core.Path.{◌≡◌, refl, sym, subst}
use mathlib.Core.List.{List, [], ◌∷◌}
use mathlib.Core.Bool.{Bool, true, false}
use Prim.Native.Nat.{ℕ, zero, suc, ◌<◌, ◌≤◌}
use native.Mathlib.Omega.{arith}
use lib.Dec.{eqb, leb}
use lib.ListN.{length}
use borrow.Author.Tests.{eqb-true, eqb-false, leb-true, leb-false}
use Rattle.paper_lower.specs.Lists.{each}
use Rattle.paper_opl.specs.Elements.{elements}
use Rattle.opl_table.specs.Numbers.{names, stages, joined, lefts, lists}

-- ---- Two tables agree if their values for all numbers below n are the same list. One computation shows that.

abbrev pub values_to : {A : Type 0} → (ℕ → A) → ℕ → List A
values_to f zero = []
values_to f (suc n) = f n ∷ values_to f n

module _ {A : Type 0} (f g : ℕ → A) where
  pick : (n k : ℕ) (b : Bool) → eqb k n ≡ b → k < suc n → f n ≡ g n → (k < n → f k ≡ g k) → f k ≡ g k
  pick n k true e h p rest = subst (λ (m : ℕ). f m ≡ g m) (sym (eqb-true k n e)) p
  pick n k false e h p rest = let z = eqb-false k n e in rest (omega arith)

  pub agree : (n : ℕ) → values_to f n ≡ values_to g n → (k : ℕ) → k < n → f k ≡ g k
  agree zero e k h = absurd (omega arith)
  agree (suc n) e k h = pick n k (eqb k n) refl h (cc) (λ l. agree n (cc) k l)

  -- Two tables agree everywhere: below n by that computation, and from n on by a given law.
  pub agree-everywhere : (n : ℕ) → values_to f n ≡ values_to g n → ((k : ℕ) → n ≤ k → f k ≡ g k) → (k : ℕ) → f k ≡ g k
  agree-everywhere n e law k = go (leb n k) refl
    where
      go : (b : Bool) → leb n k ≡ b → f k ≡ g k
      go true q = law k (leb-true n k q)
      go false q = agree n e k (leb-false n k q)

-- ---- The lengths of the lists.

pub names-length : length names ≡ 76
unfolding names each elements
names-length = refl

pub lefts-length : length lefts ≡ 60
unfolding lefts stages joined each elements
lefts-length = refl

pub lists_length : length lists ≡ 33
unfolding lists
lists_length = refl
