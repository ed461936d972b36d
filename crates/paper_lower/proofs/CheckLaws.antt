-- Laws of a list of checks: if the reply is GRANTED then no check applies, and the converse; and the reply of two lists of checks appended.
use mathlib.Core.Path.{◌≡◌, refl, subst}
use mathlib.Core.Bool.{Bool, true, false, not, cond}
use mathlib.Core.List.{List, [], ◌∷◌, ◌++◌}
use Prim.Native.Nat.{ℕ}
use lib.Dec.{eqb, T}
use Rattle.paper_lower.specs.Lists.{Every}
use Rattle.paper_lower.specs.Checks.{Check, first}

-- Every check of the list gives a number other than 0, that is a refusal.
abbrev pub Numbered : List Check → Type 0
Numbered = Every (λ x. T (not (eqb x.1 0)))

-- No check of the list applies.
abbrev pub Passed : List Check → Type 0
Passed = Every (λ x. x.0 ≡ false)

-- If the reply is GRANTED and every check gives a refusal, no check applies.
pub passed : (xs : List Check) → Numbered xs → first xs ≡ 0 → Passed xs
passed [] n h = tt
passed (x ∷ xs) n h = go x.0 refl h (passed xs n.1)
  where
    go : (b : Bool) → x.0 ≡ b → cond b x.1 (first xs) ≡ 0 → (first xs ≡ 0 → Passed xs) → (x.0 ≡ false) × Passed xs
    go true e q rest = absurd (subst (λ (k : ℕ). T (not (eqb k 0))) q n.0)
    go false e q rest = (e, rest q)

-- If no check applies, the reply is GRANTED.
pub none-applies : (xs : List Check) → Passed xs → first xs ≡ 0
none-applies [] p = refl
none-applies (x ∷ xs) p = rw p.0 (none-applies xs p.1)

-- The reply of two lists appended: if no check of the first applies it is that of the second, and if the first refuses it is that of the first.
pub first-passed : (xs ys : List Check) → Passed xs → first (xs ++ ys) ≡ first ys
first-passed [] ys p = refl
first-passed (x ∷ xs) ys p = rw p.0 (first-passed xs ys p.1)

pub first_stops : (xs ys : List Check) → (first xs ≡ 0 → ⊥) → first (xs ++ ys) ≡ first xs
first_stops [] ys h = absurd (h refl)
first_stops (x ∷ xs) ys h = go x.0 refl (first_stops xs ys)
  where
    go : (b : Bool) → x.0 ≡ b → ((first xs ≡ 0 → ⊥) → first (xs ++ ys) ≡ first xs) → cond b x.1 (first (xs ++ ys)) ≡ cond b x.1 (first xs)
    go true e rest = refl
    go false e rest = rest (λ z. h (rw e z))
