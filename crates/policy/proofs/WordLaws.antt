-- Packed words: the comparisons by which getters read a word, and how the words of setters read.
use Prim.Native.Nat.{ℕ, ◌+◌, ◌*◌, ◌<◌, ◌/◌, ◌%◌}
use mathlib.Core.Bool.{Bool, true, false, not, cond, ◌&&◌, true≢false, false≢true}
use mathlib.Core.Path.{◌≡◌, refl, sym, ap, ◌∙◌}
use native.Mathlib.Omega.{arith}
use borrow.Author.Tests.{eqb-true, ne_eqb}
use lib.Dec.{eqb, leb}
use Rattle.paper_lower.specs.Lists.{Maybe, holds, there, is}
use Rattle.paper_lower.specs.Lists.Maybe.{none, just}
use Rattle.paper_lower.specs.Tables.{Permission}
use Rattle.paper_lower.specs.Policy.{is_for}
use Rattle.replies.proofs.CellLaws.{two-parts}
use Rattle.policy.specs.Layout.{same, permission_of, template_of, most_of}
use Rattle.policy.specs.Reading.{value_of}

there-if : {A : Type 0} (t : Bool) (x : A) → t ≡ there (cond t (just x) none)
unfolding holds
there-if true x = refl
there-if false x = refl

holds-if : {A : Type 0} (p : A → Bool) (t : Bool) (x : A) → t && p x ≡ holds p (cond t (just x) none)
unfolding holds
holds-if p true x = refl
holds-if p false x = refl

-- ---- A number of an optional value, or 0 if it is absent.
module _ {A : Type 0} (f : A → ℕ) where
  value_there : (t : Bool) (x : A) → there (cond t (just x) none) ≡ true → value_of f (cond t (just x) none) ≡ f x
  unfolding holds value_of
  value_there true x h = refl
  value_there false x h = absurd (false≢true h)

  pub value_none : (x : Maybe A) → there x ≡ false → value_of f x ≡ 0
  unfolding holds value_of
  value_none none h = refl
  value_none (just x) h = absurd (true≢false h)

module _ (w : ℕ) where
  pub template-value : eqb (w / 16 % 2) 1 ≡ true → w % 16 ≡ value_of same (template_of w)
  unfolding template_of value_of
  template-value e = rw e

  pub template-none : eqb (w / 16 % 2) 1 ≡ false → 0 ≡ value_of same (template_of w)
  unfolding template_of value_of
  template-none e = rw e

  -- 0 means no limit.
  pub most-value : w % 256 ≡ value_of same (most_of w)
  unfolding most_of value_of
  most-value = at (eqb (w % 256) 0) refl
    where
      at : (t : Bool) → eqb (w % 256) 0 ≡ t → w % 256 ≡ value_of same (cond (not t) (just (w % 256)) none)
      at true e = eqb-true (w % 256) 0 e
      at false e = refl

  pub permission-value : (f : Permission → ℕ) → there (permission_of w) ≡ true →
      f (record { operation = w % 65536; object = w / 65536 % 65536 }) ≡ value_of f (permission_of w)
  unfolding permission_of
  permission-value f h = sym (value_there f (eqb (w / 4294967296) 1) (record { operation = w % 65536; object = w / 65536 % 65536 }) h)

  pub permission-holds : (p : Permission → Bool) →
      eqb (w / 4294967296) 1 && p (record { operation = w % 65536; object = w / 65536 % 65536 }) ≡ holds p (permission_of w)
  unfolding permission_of
  permission-holds p = holds-if p (eqb (w / 4294967296) 1) (record { operation = w % 65536; object = w / 65536 % 65536 })

  pub permission-is : (operation object : ℕ) → operation < 65536 → object < 65536 →
      eqb w (4294967296 + operation + 65536 * object) ≡ holds (is_for operation object) (permission_of w)
  unfolding permission_of is_for
  permission-is operation object h k =
      two-parts w (4294967296 + operation + 65536 * object) (w / 4294967296) 1 (w % 4294967296) (operation + 65536 * object) (omega arith)
      (omega arith)
      ∙ ap (◌&&◌ (eqb (w / 4294967296) 1))
      (two-parts (w % 4294967296) (operation + 65536 * object) (w % 65536) operation (w / 65536 % 65536) object (omega arith) (omega arith))
      ∙ permission-holds (is_for operation object)

  pub template-there : eqb (w / 16 % 2) 1 ≡ there (template_of w)
  unfolding template_of
  template-there = there-if _ _

  pub template-is : (j : ℕ) → j < 16 → eqb (w % 32) (16 + j) ≡ is j (template_of w)
  unfolding template_of
  template-is j h = two-parts (w % 32) (16 + j) (w / 16 % 2) 1 (w % 16) j (omega arith) (omega arith) ∙ holds-if (λ n. eqb n j) (eqb (w / 16 % 2) 1) (w % 16)

  pub most-there : not (eqb (w % 256) 0) ≡ there (most_of w)
  unfolding most_of
  most-there = there-if _ _

  pub most-reached : (times : ℕ) → not (eqb (w % 256) 0) && leb (w % 256) times ≡ holds (λ n. leb n times) (most_of w)
  unfolding most_of
  most-reached times = holds-if (λ n. leb n times) (not (eqb (w % 256) 0)) (w % 256)

-- Two tasks are of the same template: one comparison of both words, if the first has a template.
pub template-same : (w v : ℕ) → eqb (w / 16 % 2) 1 && eqb (v % 32) (w % 32) ≡ holds (λ j. is j (template_of v)) (template_of w)
unfolding template_of holds
template-same w v = at (eqb (w / 16 % 2) 1) refl
  where
    at : (t : Bool) → eqb (w / 16 % 2) 1 ≡ t → t && eqb (v % 32) (w % 32) ≡ holds (λ j. is j (template_of v)) (cond t (just (w % 16)) none)
    at true e =
        let bit : w / 16 % 2 ≡ 1 = eqb-true _ _ e in
        let whole : w % 32 ≡ 16 + w % 16 = omega arith in
        rw whole (template-is v (w % 16) (omega arith))
    at false e = refl

-- ---- How the words of the setters read.
pub permission-word : (operation object : ℕ) → operation < 65536 → object < 65536 →
    permission_of (4294967296 + operation + 65536 * object) ≡ just (record { operation = operation; object = object })
unfolding permission_of
permission-word operation object h k =
    let w = 4294967296 + operation + 65536 * object in
    let bit : w / 4294967296 ≡ 1 = omega arith in
    let high : w / 65536 ≡ 65536 + object = omega arith in
    let low : w % 65536 ≡ operation = omega arith in
    let mid : (65536 + object) % 65536 ≡ object = omega arith in
    simp (bit, low, high, mid)

pub template-word : (j : ℕ) → j < 16 → template_of (16 + j) ≡ just j
unfolding template_of
template-word j h =
    let bit : (16 + j) / 16 % 2 ≡ 1 = omega arith in
    let low : (16 + j) % 16 ≡ j = omega arith in
    simp (bit, low)

pub most-word : (n : ℕ) → 0 < n → n < 256 → most_of n ≡ just n
unfolding most_of
most-word n h k =
    let low : n % 256 ≡ n = omega arith in
    rw (low, ne_eqb n 0 (omega arith))
