-- Checks and rules: if each check applies exactly when its rule is broken, the reply is that of the first rule broken.
use Prim.Native.Nat.{ℕ, ◌<◌}
use mathlib.Core.Path.{◌≡◌, refl, sym, subst, ◌∙◌}
use mathlib.Core.Bool.{Bool, true, false, not, cond, true≢false}
use mathlib.Core.List.{List, [], ◌∷◌, ◌++◌}
use mathlib.Core.Logic.{◌⊎◌, inl, inr, ⊎_elim, ◌↔◌}
use native.Mathlib.Omega.{arith}
use lib.Dec.{eqb, T}
use Rattle.paper_lower.specs.Lists.{Every}
use Rattle.paper_lower.specs.Checks.{Check, first}
use Rattle.paper_lower.specs.Records.{Record}
use Rattle.paper_lower.proofs.ListLaws.{every_map, every-left}
use Rattle.paper_lower.proofs.CheckLaws.{Numbered, Passed, passed, first_stops}
use Rattle.sets.proofs.Bits.{same-or-other}
use Rattle.paper_upper.specs.Orders.{Orders}
use Rattle.theorems.specs.OverEntries.{Rule}
use Rattle.theorems.specs.Theorems.{Reaches, FirstBroken}

-- ---- Checks in the order of their numbers.
abbrev pub Above : ℕ → List Check → Type 0
Above n [] = Unit {0}
Above n (x ∷ xs) = (n < x.1) × Above x.1 xs

all_above : (n : ℕ) (xs : List Check) → Above n xs → Every (λ x. n < x.1) xs
all_above n [] a = tt
all_above n (x ∷ xs) a = (a.0, every_map xs (λ y l. let b = a.0 in omega arith) (all_above x.1 xs a.1))

first_above : (n : ℕ) (xs : List Check) → Above n xs → (first xs ≡ 0) ⊎ (n < first xs)
first_above n [] a = inl refl
first_above n (x ∷ xs) a = go x.0 (first_above x.1 xs a.1)
  where
    go : (b : Bool) → (first xs ≡ 0) ⊎ (x.1 < first xs) → (cond b x.1 (first xs) ≡ 0) ⊎ (n < cond b x.1 (first xs))
    go true h = inr a.0
    go false h = ⊎_elim (λ e. inl e) (λ l. inr (let b = a.0 in omega arith)) h

-- What the reply q says of a check: a check with a lower number does not apply, and the check with number q does.
abbrev pub Says : ℕ → Check → Type 0
Says q x = (x.1 < q → x.0 ≡ false) × (q ≡ x.1 → x.0 ≡ true)

pub first_says : (n : ℕ) (xs : List Check) → Above n xs → Every (Says (first xs)) xs
first_says n [] a = tt
first_says n (x ∷ xs) a = go x.0 refl (first_says x.1 xs a.1)
  where
    go : (b : Bool) → x.0 ≡ b → Every (Says (first xs)) xs → Every (Says (cond b x.1 (first xs))) (x ∷ xs)
    go true e h = (
      (λ l. let z : ⊥ = omega arith in absurd z, λ q. e),
      every_map xs (λ y l. (λ m. let z : ⊥ = omega arith in absurd z, λ q. let z : ⊥ = omega arith in absurd z)) (all_above x.1 xs a.1),
    )
    go false e h = (
      (
        λ l. e,
        λ q. let b = a.0 in ⊎_elim (λ z. let w : ⊥ = omega arith in absurd w) (λ l. let w : ⊥ = omega arith in absurd w)
            (first_above x.1 xs a.1),
      ),
      h,
    )

-- A reply other than 0 is the number of a check.
first-among : (xs : List Check) → Every (λ x. first xs ≡ x.1 → ⊥) xs → first xs ≡ 0
first-among [] h = refl
first-among (x ∷ xs) h = go x.0 h (first-among xs)
  where
    go : (b : Bool) → Every (λ y. cond b x.1 (first xs) ≡ y.1 → ⊥) (x ∷ xs) → (Every (λ y. first xs ≡ y.1 → ⊥) xs → first xs ≡ 0)
        → cond b x.1 (first xs) ≡ 0
    go true h rest = absurd (h.0 refl)
    go false h rest = rest h.1

-- If the reply does not come from a check before number k, those checks did not apply.
pub reaches-passed : (k : ℕ) (xs ys : List Check) → Every (λ x. x.1 < k) xs → Numbered xs → Reaches k (first (xs ++ ys)) → Passed xs
reaches-passed k [] ys l n h = tt
reaches-passed k (x ∷ xs) ys l n h = go x.0 refl h (reaches-passed k xs ys l.1 n.1)
  where
    go : (b : Bool) → x.0 ≡ b → Reaches k (cond b x.1 (first (xs ++ ys))) → (Reaches k (first (xs ++ ys)) → Passed xs)
        → (x.0 ≡ false) × Passed xs
    go true e h rest = absurd (subst (λ (i : ℕ). T (not (eqb i 0))) (h l.0) n.0)
    go false e h rest = (e, rest h)

-- ---- Each check has the number of its rule, and applies exactly if the rule is not kept.
abbrev pub Meet : (Rule → Type 0) → List Check → List Rule → Type 0
Meet K [] [] = Unit {0}
Meet K [] (k ∷ ks) = ⊥
Meet K (x ∷ xs) [] = ⊥
Meet K (x ∷ xs) (k ∷ ks) = ((x.1 ≡ k.reply) × ((x.0 ≡ false) ↔ K k)) × Meet K xs ks

module _ (K : Rule → Type 0) (P : Check → Type 0) (Q : Rule → Type 0) where
  meet-every : ((x : Check) (k : Rule) → x.1 ≡ k.reply → (x.0 ≡ false) ↔ K k → P x → Q k) → (xs : List Check) (ks : List Rule) → Meet K xs ks
      → Every P xs → Every Q ks
  meet-every f [] [] m h = tt
  meet-every f [] (k ∷ ks) m h = absurd m
  meet-every f (x ∷ xs) [] m h = tt
  meet-every f (x ∷ xs) (k ∷ ks) m h = (f x k m.0.0 m.0.1 h.0, meet-every f xs ks m.1 h.1)

  meet-back : ((x : Check) (k : Rule) → x.1 ≡ k.reply → Q k → P x) → (xs : List Check) (ks : List Rule) → Meet K xs ks → Every Q ks → Every P xs
  meet-back f [] ks m h = tt
  meet-back f (x ∷ xs) [] m h = absurd m
  meet-back f (x ∷ xs) (k ∷ ks) m h = (f x k m.0.0 h.0, meet-back f xs ks m.1 h.1)

pub meet-passed : (K : Rule → Type 0) (xs : List Check) (ks : List Rule) → Meet K xs ks → Passed xs → Every K ks
meet-passed K xs ks m p = meet-every K (λ x. x.0 ≡ false) K (λ x k e i h. i.0 h) xs ks m p

pub first-broken : (policy : List Record) (o : Orders) (xs ys : List Check) (ks : List Rule) → Meet (λ k. k.Kept policy o) xs ks → Above 0 (xs ++ ys)
    → Numbered xs → FirstBroken ks policy o (first (xs ++ ys))
first-broken policy o xs ys ks m a n = record {
  refused = meet-every K (Says q) _ (λ x k e i h z. (
    λ w. true≢false (sym (h.1 (z ∙ sym e)) ∙ i.1 w),
    meet-every K (Says q) _ (λ y j c g s l. g.0 (s.0 (omega arith))) xs ks m says,
  )) xs ks m says;
  others = λ h. meet-passed K xs ks m (passed xs n (none (same-or-other (first xs) 0) h));
}
  where
    K : Rule → Type 0
    K k = k.Kept policy o

    q : ℕ
    q = first (xs ++ ys)

    says : Every (Says q) xs
    says = every-left (Says q) xs ys (first_says 0 (xs ++ ys) a)

    none : (first xs ≡ 0) ⊎ (first xs ≡ 0 → ⊥) → Every (λ k. q ≡ k.reply → ⊥) ks → first xs ≡ 0
    none (inl e) h = e
    none (inr d) h = first-among xs (meet-back K _ _ (λ x k e w z. w (first_stops xs ys d ∙ z ∙ e)) xs ks m h)
