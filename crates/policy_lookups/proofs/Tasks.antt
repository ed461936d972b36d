-- Laws of the tasks of a template: a search that finds no stray or lacking task decides `within`, and how the number of tasks found grows.
use Prim.Native.Nat.{ℕ, zero, suc, ◌+◌, ◌≤◌, ◌<◌, ◌^◌}
use mathlib.Core.Bool.{Bool, true, false, not, ◌&&◌}
use mathlib.Core.Path.{◌≡◌, refl, sym, ap, ◌∙◌}
use native.Mathlib.Nat.{le_refl}
use native.Mathlib.Omega.{arith}
use lib.Bits.{bit_or}
use lib.Dec.{eqb}
use Rattle.paper_lower.specs.Sets.{Set, has, plus, minus, size, within, collect}
use Rattle.paper_lower.specs.Lists.{some_number_below}
use Rattle.paper_lower.specs.Tables.{Tasks}
use Rattle.paper_lower.specs.Policy.{tasks_of}
use Rattle.sets.proofs.Bits.{ones-or}
use Rattle.sets.proofs.SetLaws.{hasnt-bit, collect-above, collect-below, collect-lt, has-minus, minus-lt, none-astray, size-ones}
use Rattle.policy_lookups.specs.Rows.{strays, lacks}

module _ (k : Tasks) where
  pub none-stray : (m : Set) (j : ℕ) → m < 2 ^ 64 → not (some_number_below 64 (strays k m j)) ≡ within m (tasks_of k j)
  unfolding tasks_of
  none-stray m j h = none-astray 64 m _ (strays k m j) h (λ t l. ap (λ x. has m t && not x) (sym (collect-below 64 _ t l)))

  pub none-lacking : (j t : ℕ) (d : Set) → not (some_number_below 64 (lacks k j t d)) ≡ within (minus (tasks_of k j) t) d
  unfolding tasks_of
  none-lacking j t d =
      none-astray 64 _ d (lacks k j t d) (minus-lt 64 _ t (collect-lt 64 _))
      (λ i l. ap (λ x. x && not (has d i)) (ap (λ x. x && not (eqb i t)) (sym (collect-below 64 _ i l)) ∙ sym (has-minus _ t i)))

-- ---- The number of numbers below n for which f holds: it grows by one if f holds for n, and otherwise stays the same.
size-plus : (m : Set) (t : ℕ) → has m t ≡ false → size (plus m t) ≡ size m + 1
unfolding plus
size-plus m t h = let a = size-ones (bit_or m (2 ^ t)) in let b = size-ones m in let c = ones-or t m in let d = hasnt-bit m t h in omega arith

next : (n : ℕ) (f : ℕ → Bool) → size (collect (n + 1) f) ≡ size (collect (suc n) f)
next n f = let e : n + 1 ≡ suc n = omega arith in ap (λ k. size (collect k f)) e

pub size_in : (n : ℕ) (f : ℕ → Bool) → f n ≡ true → size (collect (n + 1) f) ≡ size (collect n f) + 1
unfolding collect
size_in n f e = next n f ∙ rw e (size-plus (collect n f) n (collect-above n f n (le_refl n)))

pub size-out : (n : ℕ) (f : ℕ → Bool) → f n ≡ false → size (collect (n + 1) f) ≡ size (collect n f)
unfolding collect
size-out n f e = next n f ∙ rw e refl

-- There are at most as many below n as below n + m.
pub size-grows : (n m : ℕ) (f : ℕ → Bool) → size (collect n f) ≤ size (collect (n + m) f)
size-grows n zero f = let e : n + 0 ≡ n = omega arith in rw e (le_refl _)
size-grows n (suc m) f =
    let e : n + suc m ≡ n + m + 1 = omega arith in
    let h = size-grows n m f in
    rw e (go (f (n + m)) refl h)
  where
    go : (b : Bool) → f (n + m) ≡ b → size (collect n f) ≤ size (collect (n + m) f) → size (collect n f) ≤ size (collect (n + m + 1) f)
    go true q h = let s = size_in (n + m) f q in omega arith
    go false q h = let s = size-out (n + m) f q in omega arith
