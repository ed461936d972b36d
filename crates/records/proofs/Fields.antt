-- A field against its form: the definitions' tests for SHAPE and RANGE equal the tests on bits and limits that the code makes.
use mathlib.Core.Path.{◌≡◌, refl, sym, ◌∙◌, ap}
use mathlib.Core.Bool.{Bool, true, false, not, ◌||◌, true≢false}
use Prim.Native.Nat.{ℕ, zero, suc, ◌+◌, ◌-◌, ◌*◌, ◌^◌, ◌<◌, ◌≤◌}
use native.Mathlib.Nat.{mod-eq_of_lt}
use native.Mathlib.Omega.{arith}
use lib.Bits.{bit_and, and_mask, and_block, and_zero_r}
use lib.Dec.{T, eqb, ltb, leb}
use borrow.Author.Tests.{ne_eqb, lt-leb, lt-ltb, le-ltb, eqb-true, leb-true, leb-false, not-false}
use Rattle.paper_lower.specs.Records.{Record}
use Rattle.paper_lower.specs.Forms.{Field, Form, misplaced, above}
use Rattle.paper_lower.specs.Forms.Field.{·, to, any, pair}
use Rattle.records.specs.Reading.{of_paper, Small}
use Rattle.records.specs.Table.{barred, barred_first, limit}
use Rattle.records.proofs.Lines.{free}

-- If none of the tests of the five fields holds, each of them is false.
pub none_of : (n a b c m : Bool) → n || a || b || c || m ≡ false → (n ≡ false) × (a ≡ false) × (b ≡ false) × (c ≡ false) × (m ≡ false)
none_of false false false false m e = (refl, refl, refl, refl, e)
none_of false false false true m e = absurd (true≢false e)
none_of false false true c m e = absurd (true≢false e)
none_of false true b c m e = absurd (true≢false e)
none_of true a b c m e = absurd (true≢false e)

-- ---- SHAPE: "unused field not zero, m of kind 57 too large".

none-set : (x : ℕ) → false ≡ not (eqb (bit_and x 0) 0)
none-set x = sym (ap (λ y. not (eqb y 0)) (and_zero_r x))

-- A field of w bits, with w too small for a pair, is misplaced exactly if it has a bit that must be zero.
field-bits : (w : ℕ) {x : ℕ} → x < 2 ^ w → x < 2 ^ 32 → (f : Field) → misplaced f x ≡ not (eqb (bit_and x (barred (2 ^ w - 1) f)) 0)
unfolding misplaced
field-bits w {x} h k · = sym (ap (λ y. not (eqb y 0)) (and_mask x w ∙ mod-eq_of_lt h))
field-bits w {x} h k (to n) = none-set x
field-bits w {x} h k any = none-set x
field-bits w {x} h k pair = lt-leb (2 ^ 32) x k ∙ none-set x

-- m, for which RANGE has no limit, is misplaced exactly if it is above its limit in the table.
pub m-limit : {x : ℕ} → x < 2 ^ 64 → (f : Field) → T (free f) → misplaced f x ≡ ltb (limit (2 ^ 64 - 1) f) x
unfolding misplaced
m-limit {x} h · t = positive x
  where
    positive : (x : ℕ) → not (eqb x 0) ≡ ltb 0 x
    positive zero = refl
    positive (suc x) = simp (ne_eqb (suc x) 0 (omega arith), lt-ltb 0 (suc x) (omega arith))
m-limit h (to k) t = absurd t
m-limit {x} h any t = sym (le-ltb (2 ^ 64 - 1) x (omega arith))
m-limit {x} h pair t = by (leb (2 ^ 32) x) refl
  where
    by : (b : Bool) → leb (2 ^ 32) x ≡ b → b ≡ ltb (2 ^ 32 - 1) x
    by true e = sym (lt-ltb (2 ^ 32 - 1) x (omega (arith, leb-true (2 ^ 32) x e)))
    by false e = sym (le-ltb (2 ^ 32 - 1) x (omega (arith, leb-false (2 ^ 32) x e)))

-- The first word and the bits that must be zero in it are sums over the fields.
barred-le : (ones : ℕ) (f : Field) → barred ones f ≤ ones
barred-le ones · = omega arith
barred-le ones (to k) = omega arith
barred-le ones any = omega arith
barred-le ones pair = omega arith

module _ (k n a b c y₁ y₂ y₃ y₄ : ℕ) (hk : k < 256) (hn : n < 256) (ha : a < 65536) (hb : b < 65536)
    (h₁ : y₁ ≤ 255) (h₂ : y₂ ≤ 65535) (h₃ : y₃ ≤ 65535) where
  by-fields : bit_and (k + 256 * n + 65536 * a + 4294967296 * b + 281474976710656 * c) (2 ^ 8 * y₁ + 2 ^ 16 * y₂ + 2 ^ 32 * y₃ + 2 ^ 48 * y₄)
      ≡ 256 * bit_and n y₁ + 65536 * bit_and a y₂ + 4294967296 * bit_and b y₃ + 281474976710656 * bit_and c y₄
  by-fields =
      let e : k + 256 * n + 65536 * a + 4294967296 * b + 281474976710656 * c ≡ (((c * 2 ^ 16 + b) * 2 ^ 16 + a) * 2 ^ 8 + n) * 2 ^ 8 + k = omega arith in
      let f : 2 ^ 8 * y₁ + 2 ^ 16 * y₂ + 2 ^ 32 * y₃ + 2 ^ 48 * y₄ ≡ (((y₄ * 2 ^ 16 + y₃) * 2 ^ 16 + y₂) * 2 ^ 8 + y₁) * 2 ^ 8 + 0 = omega arith in
      rw (
        e,
        f,
        and_block 8 (((c * 2 ^ 16 + b) * 2 ^ 16 + a) * 2 ^ 8 + n) (((y₄ * 2 ^ 16 + y₃) * 2 ^ 16 + y₂) * 2 ^ 8 + y₁) k 0 (omega arith) (omega arith),
        and_block 8 ((c * 2 ^ 16 + b) * 2 ^ 16 + a) ((y₄ * 2 ^ 16 + y₃) * 2 ^ 16 + y₂) n y₁ (omega arith) (omega arith),
        and_block 16 (c * 2 ^ 16 + b) (y₄ * 2 ^ 16 + y₃) a y₂ (omega arith) (omega arith),
        and_block 16 c y₄ b y₃ (omega arith) (omega arith),
        and_zero_r k,
      )
      (omega arith)

-- Some of four numbers is not zero exactly if their weighted sum is not.
some-set : (a b c d : ℕ)
    → not (eqb a 0) || not (eqb b 0) || not (eqb c 0) || not (eqb d 0) ≡ not (eqb (256 * a + 65536 * b + 4294967296 * c + 281474976710656 * d) 0)
some-set zero zero zero zero = refl
some-set zero zero zero (suc d) = simp (ne_eqb (suc d) 0 (omega arith), ne_eqb (256 * 0 + 65536 * 0 + 4294967296 * 0 + 281474976710656 * suc d) 0 (omega arith))
some-set zero zero (suc c) d = simp (ne_eqb (suc c) 0 (omega arith), ne_eqb (256 * 0 + 65536 * 0 + 4294967296 * suc c + 281474976710656 * d) 0 (omega arith))
some-set zero (suc b) c d = simp (ne_eqb (suc b) 0 (omega arith), ne_eqb (256 * 0 + 65536 * suc b + 4294967296 * c + 281474976710656 * d) 0 (omega arith))
some-set (suc a) b c d = simp (ne_eqb (suc a) 0 (omega arith), ne_eqb (256 * suc a + 65536 * b + 4294967296 * c + 281474976710656 * d) 0 (omega arith))

pub first-bits : (p : Record) → Small (of_paper p) → (f : Form) {x : ℕ}
    → x ≡ p.kind + 256 * p.n + 65536 * p.a + 4294967296 * p.b + 281474976710656 * p.c
    → misplaced f.n p.n || misplaced f.a p.a || misplaced f.b p.b || misplaced f.c p.c
    ≡ not (eqb (bit_and x (barred_first f)) 0)
first-bits p h f e =
    rw (
      field-bits 8 h.n (omega (arith, h.n)) f.n,
      field-bits 16 h.a (omega (arith, h.a)) f.a,
      field-bits 16 h.b (omega (arith, h.b)) f.b,
      field-bits 16 h.c (omega (arith, h.c)) f.c,
      some-set _ _ _ _,
      e,
      by-fields p.kind p.n p.a p.b p.c (barred 255 f.n) (barred 65535 f.a) (barred 65535 f.b) (barred 65535 f.c)
          h.kind h.n h.a h.b (barred-le 255 f.n) (barred-le 65535 f.a) (barred-le 65535 f.b),
    )

-- ---- RANGE: "a number above its limit", for a field that is not misplaced.
pub above-limit : {x : ℕ} → x < 65536 → (f : Field) → misplaced f x ≡ false → above f x ≡ ltb (limit 65535 f) x
unfolding misplaced above
above-limit {x} h · e = sym (le-ltb 0 x (omega (arith, eqb-true x 0 (not-false (eqb x 0) e))))
above-limit h (to k) e = refl
above-limit {x} h any e = sym (le-ltb 65535 x (omega arith))
above-limit {x} h pair e = sym (le-ltb (2 ^ 32 - 1) x (omega arith))
