-- Laws of blocks of walls: the planes of a word, bits picked from two words, and blocks that are others.
use Prim.Native.Nat.{ℕ, zero, suc, ◌+◌, ◌*◌, ◌/◌, ◌%◌, ◌^◌, ◌<◌, ◌≤◌, min}
use mathlib.Core.Bool.{Bool, true, false, not, cond, ◌&&◌, ◌||◌, false≢true}
use mathlib.Core.Logic.{⊎_elim}
use mathlib.Core.Path.{◌≡◌, refl, sym, ap, ap₂, fun_ext, ◌∙◌}
use native.Mathlib.Omega.{arith}
use borrow.Author.Tests.{eq-eqb, ne_eqb, eqb-true, eqb-false, ltb-true, ltb-false}
use native.Mathlib.Nat.{zero-mul, one-mul, add-mul, mul_assoc}
use lib.Bits.{bit_and, bit_or, bit_xor, differ, and_shr, or_shr, xor_shr, and_mod, or_mod, xor_mod}
use lib.Dec.{eqb, ltb}
use lib.Pow.{pow-lt, shl_exact}
use Rattle.paper_lower.specs.Sets.{Set, has, union, collect}
use Rattle.paper_lower.specs.Lists.{some_number_below, holds, or_else}
use Rattle.paper_lower.specs.Lists.Maybe.{none, just}
use Rattle.paper_lower.specs.Policy.{another}
use Rattle.sets.proofs.Bits.{bit-and, bit-xor, bit-one, bit-other, one_shl, same-or-other}
use Rattle.sets.proofs.SetLaws.{digit, digit-has, has-digit, bit-has, bit-hasnt, has-empty, has-union, has_above, union-lt, same-members, some-collected, collect-below, collect-above}
use Rattle.blocks.specs.Reading.{told, block_within, blocks_in, only, spread, over, apart}

-- ---- members
differs : Bool → Bool → Bool
differs true q = not q
differs false q = q

has-and : (a b : Set) (i : ℕ) → has (bit_and a b) i ≡ has a i && has b i
has-and a b i = has-digit _ i _ (bit-and i a b ∙ ap₂ min (digit-has a i) (digit-has b i) ∙ go (has a i) (has b i))
  where
    go : (p q : Bool) → min (digit p) (digit q) ≡ digit (p && q)
    go true true = refl
    go true false = refl
    go false true = refl
    go false false = refl

has-or : (a b : Set) (i : ℕ) → has (bit_or a b) i ≡ has a i || has b i
unfolding union
has-or a b i = has-union a b i

has-xor : (a b : Set) (i : ℕ) → has (bit_xor a b) i ≡ differs (has a i) (has b i)
unfolding differs
has-xor a b i = has-digit _ i _ (bit-xor i a b ∙ ap₂ differ (digit-has a i) (digit-has b i) ∙ go (has a i) (has b i))
  where
    go : (p q : Bool) → differ (digit p) (digit q) ≡ digit (differs p q)
    go true true = refl
    go true false = refl
    go false true = refl
    go false false = refl

-- the bits of a in w, and those of b elsewhere
abbrev picked : Set → Set → Set → Set
picked w a b = bit_or (bit_and a w) (bit_xor b (bit_and b w))

has-picked : (w a b : Set) (i : ℕ) → has (picked w a b) i ≡ cond (has w i) (has a i) (has b i)
unfolding differs
has-picked w a b i =
    has-or (bit_and a w) (bit_xor b (bit_and b w)) i
    ∙ ap₂ ◌||◌ (has-and a w i) (has-xor b (bit_and b w) i ∙ ap (differs (has b i)) (has-and b w i))
    ∙ go (has w i) (has a i) (has b i)
  where
    go : (u p q : Bool) → (p && u) || differs q (q && u) ≡ cond u p q
    go true true true = refl
    go true true false = refl
    go true false true = refl
    go true false false = refl
    go false true true = refl
    go false true false = refl
    go false false true = refl
    go false false false = refl

-- part by part
picked-shr : (k w a b : ℕ) → picked w a b / 2 ^ k ≡ picked (w / 2 ^ k) (a / 2 ^ k) (b / 2 ^ k)
picked-shr k w a b =
    or_shr (bit_and a w) (bit_xor b (bit_and b w)) k
    ∙ ap₂ bit_or (and_shr a w k) (xor_shr b (bit_and b w) k ∙ ap (bit_xor (b / 2 ^ k)) (and_shr b w k))

picked-mod : (k w a b : ℕ) → picked w a b % 2 ^ k ≡ picked (w % 2 ^ k) (a % 2 ^ k) (b % 2 ^ k)
picked-mod k w a b =
    or_mod (bit_and a w) (bit_xor b (bit_and b w)) k
    ∙ ap₂ bit_or (and_mod a w k) (xor_mod b (bit_and b w) k ∙ ap (bit_xor (b % 2 ^ k)) (and_mod b w k))

picked-part : (k w a b : ℕ) → picked w a b / 2 ^ k % 2 ^ 16 ≡ picked (w / 2 ^ k % 2 ^ 16) (a / 2 ^ k % 2 ^ 16) (b / 2 ^ k % 2 ^ 16)
picked-part k w a b = ap (λ (x : ℕ). x % 2 ^ 16) (picked-shr k w a b) ∙ picked-mod 16 (w / 2 ^ k) (a / 2 ^ k) (b / 2 ^ k)

or-below : (a b : Set) → a < 65536 → b < 65536 → bit_or a b < 65536
unfolding union
or-below a b h k = union-lt 16 a b h k

-- ---- a word of four planes
low_part : (p q : ℕ) → p < 65536 → (p + 65536 * q) % 65536 ≡ p
low_part p q h = omega arith

high_part : (p q : ℕ) → p < 65536 → (p + 65536 * q) / 65536 ≡ q
high_part p q h = omega arith

halves : (p q : ℕ) → p < 4294967296 → (p + 4294967296 * q) / 4294967296 ≡ q
halves p q h = omega arith

top : (p q : ℕ) → p < 281474976710656 → (p + 281474976710656 * q) / 281474976710656 ≡ q
top p q h = omega arith

module _ (p₀ p₁ p₂ p₃ : ℕ) (h₀ : p₀ < 65536) (h₁ : p₁ < 65536) (h₂ : p₂ < 65536) (h₃ : p₃ < 65536) (x : ℕ)
    (is : x ≡ p₀ + 65536 * p₁ + 4294967296 * p₂ + 281474976710656 * p₃) where
  planes : (x % 65536 ≡ p₀) × ((x / 65536 % 65536 ≡ p₁) × ((x / 4294967296 % 65536 ≡ p₂) × (x / 281474976710656 % 65536 ≡ p₃)))
  planes =
      let y = p₁ + 65536 * (p₂ + 65536 * p₃) in
      let z = p₂ + 65536 * p₃ in
      let r₁ : x ≡ p₀ + 65536 * y = omega arith in
      let r₂ : x ≡ p₀ + 65536 * p₁ + 4294967296 * z = omega arith in (
        ap (λ (k : ℕ). k % 65536) r₁ ∙ low_part p₀ y h₀,
        (
          ap (λ (k : ℕ). k / 65536 % 65536) r₁ ∙ ap (λ (k : ℕ). k % 65536) (high_part p₀ y h₀) ∙ low_part p₁ z h₁,
          (
            ap (λ (k : ℕ). k / 4294967296 % 65536) r₂ ∙ ap (λ (k : ℕ). k % 65536) (halves (p₀ + 65536 * p₁) z (omega arith)) ∙ low_part p₂ p₃ h₂,
            ap (λ (k : ℕ). k / 281474976710656 % 65536) is ∙ ap (λ (k : ℕ). k % 65536) (top (p₀ + 65536 * p₁ + 4294967296 * p₂) p₃ (omega arith)) ∙
                (let m : p₃ % 65536 ≡ p₃ = omega arith in m),
          ),
        ),
      )

  in-planes : (w : ℕ) → block_within x w ≡ told (has p₀ w) (has p₁ w) (has p₂ w) (has p₃ w)
  unfolding block_within
  in-planes w = λ i. told (has (planes.0 i) w) (has (planes.1.0 i) w) (has (planes.1.1.0 i) w) (has (planes.1.1.1 i) w)

pub no_words : blocks_in 0 0 ≡ (λ w. none)
unfolding blocks_in
no_words = fun_ext (λ w. ap (λ (t : Bool). cond t (just (block_within 0 w)) none) (has-empty w))

-- ---- the blocks of one, and else of the other
-- what `over` gives a wall, by which of the two has it
chosen : (u v : Bool) (a₀ a₁ a₂ a₃ b₀ b₁ b₂ b₃ : Bool)
    → cond (u || v) (just (told (cond u a₀ b₀) (cond u a₁ b₁) (cond u a₂ b₂) (cond u a₃ b₃))) none
    ≡ or_else (cond u (just (told a₀ a₁ a₂ a₃)) none) (cond v (just (told b₀ b₁ b₂ b₃)) none)
unfolding or_else
chosen true v a₀ a₁ a₂ a₃ b₀ b₁ b₂ b₃ = refl
chosen false true a₀ a₁ a₂ a₃ b₀ b₁ b₂ b₃ = refl
chosen false false a₀ a₁ a₂ a₃ b₀ b₁ b₂ b₃ = refl

-- the walls of the first word in every plane pick
pub over-words : (u a v b : ℕ) → blocks_in (bit_or (u % 65536) (v % 65536)) (picked (u % 65536 * 281479271743489) a b) ≡ over (blocks_in u a) (blocks_in v b)
unfolding blocks_in block_within
over-words u a v b = fun_ext at
  where
    mask : ℕ
    mask = u % 65536 * 281479271743489

    every : (mask % 65536 ≡ u % 65536) ×
        ((mask / 65536 % 65536 ≡ u % 65536) × ((mask / 4294967296 % 65536 ≡ u % 65536) × (mask / 281474976710656 % 65536 ≡ u % 65536)))
    every = planes (u % 65536) (u % 65536) (u % 65536) (u % 65536) (omega arith) (omega arith) (omega arith) (omega arith) mask (omega arith)

    at-plane : (p m x y w : ℕ) → p ≡ picked m x y → m ≡ u % 65536 → has p w ≡ cond (has (u % 65536) w) (has x w) (has y w)
    at-plane p m x y w e is = ap (λ (k : ℕ). has k w) (e ∙ ap (λ (k : ℕ). picked k x y) is) ∙ has-picked (u % 65536) x y w

    low : bit_or (u % 65536) (v % 65536) % 65536 ≡ bit_or (u % 65536) (v % 65536)
    low = let l = or-below (u % 65536) (v % 65536) (omega arith) (omega arith) in omega arith

    at : (w : ℕ) → blocks_in (bit_or (u % 65536) (v % 65536)) (picked mask a b) w ≡ or_else (blocks_in u a w) (blocks_in v b w)
    at w =
        let walls = ap (λ (k : ℕ). has k w) low ∙ has-or (u % 65536) (v % 65536) w in
        let q₀ = at-plane (picked mask a b % 65536) (mask % 65536) (a % 65536) (b % 65536) w (picked-mod 16 mask a b) every.0 in
        let q₁ =
        at-plane (picked mask a b / 65536 % 65536) (mask / 65536 % 65536) (a / 65536 % 65536) (b / 65536 % 65536) w (picked-part 16 mask a b)
        every.1.0 in
        let q₂ =
        at-plane (picked mask a b / 4294967296 % 65536) (mask / 4294967296 % 65536) (a / 4294967296 % 65536) (b / 4294967296 % 65536) w
        (picked-part 32 mask a b) every.1.1.0 in
        let q₃ =
        at-plane (picked mask a b / 281474976710656 % 65536) (mask / 281474976710656 % 65536) (a / 281474976710656 % 65536) (b / 281474976710656 % 65536) w
        (picked-part 48 mask a b) every.1.1.1 in
        ap₂ (λ (t : Bool) (k : ℕ). cond t (just k) none) walls (λ i. told (q₀ i) (q₁ i) (q₂ i) (q₃ i))
        ∙ chosen (has (u % 65536) w) (has (v % 65536) w) _ _ _ _ _ _ _ _

-- ---- a single block
power : (i t : ℕ) → has (2 ^ t) i ≡ eqb t i
power i t =
    ⊎_elim (λ e. bit-has (2 ^ t) i (rw e (bit-one t)) ∙ sym (eq-eqb t i (sym e)))
    (λ n. bit-hasnt (2 ^ t) i (bit-other i t n) ∙ sym (ne_eqb t i (λ e. n (sym e)))) (same-or-other i t)

low_digit : (x : ℕ) → cond (eqb (x % 2) 1) 1 0 ≡ x % 2
low_digit x = go (eqb (x % 2) 1) refl
  where
    go : (b : Bool) → eqb (x % 2) 1 ≡ b → cond b 1 0 ≡ x % 2
    go true e = sym (eqb-true (x % 2) 1 e)
    go false e = let n = eqb-false (x % 2) 1 e in omega arith

digits : (x : ℕ) → x < 16 → told (eqb (x % 2) 1) (eqb (x / 2 % 2) 1) (eqb (x / 4 % 2) 1) (eqb (x / 8 % 2) 1) ≡ x
unfolding told
digits x h =
    let a = low_digit x in
    let b = low_digit (x / 2) in
    let c = low_digit (x / 4) in
    let d = low_digit (x / 8) in
    let p : x ≡ x % 2 + 2 * (x / 2) = omega arith in
    let q : x / 2 ≡ x / 2 % 2 + 2 * (x / 4) = omega arith in
    let r : x / 4 ≡ x / 4 % 2 + 2 * (x / 8) = omega arith in
    let t : x / 8 % 2 ≡ x / 8 = omega arith in
    omega arith

below_power : (wall : ℕ) → wall < 16 → 2 ^ wall < 65536
below_power wall h = let s : 2 ^ wall < 2 ^ 16 = pow-lt h in s

-- `1 << wall` in the code
one-wall : (wall : ℕ) → wall < 16 → (1 * 2 ^ wall) % 2 ^ 64 ≡ 2 ^ wall
one-wall wall h = one_shl wall (omega arith)

-- the wall's bit, or none
digit-times : (digit one : ℕ) → digit < 2 → digit * one ≡ cond (eqb digit 1) one 0
digit-times zero one h = zero-mul one
digit-times (suc zero) one h = one-mul one
digit-times (suc (suc d)) one h = let z : ⊥ = omega arith in absurd z

digit-plane : (digit one : ℕ) → digit < 2 → (digit * one ≡ cond (eqb digit 1) one 0) × (digit * one ≤ one)
digit-plane digit one h = (digit-times digit one h, rw (digit-times digit one h) (go (eqb digit 1)))
  where
    go : (t : Bool) → cond t one 0 ≤ one
    go true = omega arith
    go false = omega arith

single-words : (wall block one p₀ p₁ p₂ p₃ : ℕ) → wall < 16 → block < 16 → one ≡ 2 ^ wall
    → p₀ ≡ cond (eqb (block % 2) 1) one 0 → p₁ ≡ cond (eqb (block / 2 % 2) 1) one 0
    → p₂ ≡ cond (eqb (block / 4 % 2) 1) one 0 → p₃ ≡ cond (eqb (block / 8 % 2) 1) one 0
    → p₀ ≤ one → p₁ ≤ one → p₂ ≤ one → p₃ ≤ one
    → blocks_in one (p₀ + 65536 * p₁ + 4294967296 * p₂ + 281474976710656 * p₃) ≡ only wall block
unfolding blocks_in only
single-words wall block one p₀ p₁ p₂ p₃ h k o e₀ e₁ e₂ e₃ l₀ l₁ l₂ l₃ = fun_ext at
  where
    small : one < 65536
    small = rw o (below_power wall h)

    walls : (w : ℕ) → has (one % 65536) w ≡ eqb wall w
    walls w = ap (λ (x : ℕ). has x w) (let s = small in let z : one % 65536 ≡ one = omega arith in z) ∙ rw o (power w wall)

    set-in : (b : Bool) → has (cond b one 0) wall ≡ b
    set-in true = rw o (bit-has (2 ^ wall) wall (bit-one wall))
    set-in false = has-empty wall

    plane-in : (p : ℕ) (b : Bool) → p ≡ cond b one 0 → has p wall ≡ b
    plane-in p b e = ap (λ (x : ℕ). has x wall) e ∙ set-in b

    block_in : block_within (p₀ + 65536 * p₁ + 4294967296 * p₂ + 281474976710656 * p₃) wall ≡ block
    block_in =
        let s = small in
        let q₀ = plane-in p₀ _ e₀ in
        let q₁ = plane-in p₁ _ e₁ in
        let q₂ = plane-in p₂ _ e₂ in
        let q₃ = plane-in p₃ _ e₃ in
        in-planes p₀ p₁ p₂ p₃ (omega arith) (omega arith) (omega arith) (omega arith) (p₀ + 65536 * p₁ + 4294967296 * p₂ + 281474976710656 * p₃) refl wall
        ∙ (λ i. told (q₀ i) (q₁ i) (q₂ i) (q₃ i)) ∙ digits block k

    at : (w : ℕ) →
        cond (has (one % 65536) w) (just (block_within (p₀ + 65536 * p₁ + 4294967296 * p₂ + 281474976710656 * p₃) w)) none ≡ cond (eqb wall w) (just block) none
    at w = ap (λ (t : Bool). cond t (just (block_within (p₀ + 65536 * p₁ + 4294967296 * p₂ + 281474976710656 * p₃) w)) none) (walls w) ∙ go (eqb wall w) refl
      where
        go : (t : Bool) → eqb wall w ≡ t → cond t (just (block_within (p₀ + 65536 * p₁ + 4294967296 * p₂ + 281474976710656 * p₃) w)) none ≡ cond t (just block) none
        go true e = ap just (ap (block_within (p₀ + 65536 * p₁ + 4294967296 * p₂ + 281474976710656 * p₃)) (sym (eqb-true wall w e)) ∙ block_in)
        go false e = refl

-- ---- a block's number spread over the planes
both : (x y : Bool) → x && y ≡ true → (x ≡ true) × (y ≡ true)
both true y e = (refl, e)
both false y e = absurd (false≢true e)

same_below : ℕ → (ℕ → ℕ) → (ℕ → ℕ) → Bool
same_below zero f g = true
same_below (suc n) f g = eqb (f n) (g n) && same_below n f g

same-below : (n : ℕ) (f g : ℕ → ℕ) → same_below n f g ≡ true → (i : ℕ) → i < n → f i ≡ g i
unfolding same_below
same-below zero f g e i h = let z : ⊥ = omega arith in absurd z
same-below (suc n) f g e i h = at (eqb i n) refl (λ k. same-below n f g (both (eqb (f n) (g n)) (same_below n f g) e).1 i k)
  where
    at : (b : Bool) → eqb i n ≡ b → (i < n → f i ≡ g i) → f i ≡ g i
    at true q less = let p = eqb-true i n q in ap f p ∙ eqb-true (f n) (g n) (both (eqb (f n) (g n)) (same_below n f g) e).0 ∙ sym (ap g p)
    at false q less = let p = eqb-false i n q in less (omega arith)

pub spread-word : (x : ℕ) → x < 16 → bit_and (x * 35185445863425) 281479271743489 ≡ spread x
unfolding spread same_below
spread-word x h = same-below 16 (λ y. bit_and (y * 35185445863425) 281479271743489) spread refl x h

spread-small : (x : ℕ) → spread x < 2 ^ 49
unfolding spread
spread-small x = omega arith

each-plane : (a b c d one : ℕ) →
    (a + 65536 * b + 4294967296 * c + 281474976710656 * d) * one ≡ a * one + 65536 * (b * one) + 4294967296 * (c * one) + 281474976710656 * (d * one)
each-plane a b c d one = simp (add-mul, mul_assoc)

pub spread-single : (wall block n : ℕ) → wall < 16 → block < 16 → n ≡ spread block →
    blocks_in ((1 * 2 ^ wall) % 2 ^ 64) ((n * 2 ^ wall) % 2 ^ 64) ≡ only wall block
unfolding spread
spread-single wall block n h k e =
    let one = 2 ^ wall in
    let d₀ = digit-plane (block % 2) one (omega arith) in
    let d₁ = digit-plane (block / 2 % 2) one (omega arith) in
    let d₂ = digit-plane (block / 4 % 2) one (omega arith) in
    let d₃ = digit-plane (block / 8 % 2) one (omega arith) in
    let word =
    ap (λ (x : ℕ). (x * one) % 2 ^ 64) e
    ∙ shl_exact 49 wall 64 (spread-small block) (omega arith)
    ∙ each-plane (block % 2) (block / 2 % 2) (block / 4 % 2) (block / 8 % 2) one in
    (λ i. blocks_in (one-wall wall h i) (word i))
    ∙ single-words wall block one _ _ _ _ h k refl d₀.0 d₁.0 d₂.0 d₃.0 d₀.1 d₁.1 d₂.1 d₃.1

-- ---- blocks that are others
same-sums : (d n m : ℕ) → eqb (d + 2 * n) (d + 2 * m) ≡ eqb n m
same-sums d n m = go (eqb n m) refl
  where
    go : (t : Bool) → eqb n m ≡ t → eqb (d + 2 * n) (d + 2 * m) ≡ t
    go true e = eq-eqb (d + 2 * n) (d + 2 * m) (let q = eqb-true n m e in omega arith)
    go false e = ne_eqb (d + 2 * n) (d + 2 * m) (λ (q : d + 2 * n ≡ d + 2 * m). eqb-false n m e (omega arith))

digit-apart : (p q : Bool) (m n : ℕ) → not (eqb (cond q 1 0 + 2 * n) (cond p 1 0 + 2 * m)) ≡ differs p q || not (eqb n m)
unfolding differs
digit-apart true true m n = ap not (same-sums 1 n m)
digit-apart true false m n = ap not (ne_eqb (0 + 2 * n) (1 + 2 * m) (λ e. omega arith))
digit-apart false true m n = ap not (ne_eqb (1 + 2 * n) (0 + 2 * m) (λ e. omega arith))
digit-apart false false m n = ap not (same-sums 0 n m)

last_apart : (p q : Bool) → not (eqb (cond q 1 0) (cond p 1 0)) ≡ differs p q
unfolding differs
last_apart true true = refl
last_apart true false = refl
last_apart false true = refl
last_apart false false = refl

told-apart : (a₀ a₁ a₂ a₃ b₀ b₁ b₂ b₃ : Bool)
    → not (eqb (told b₀ b₁ b₂ b₃) (told a₀ a₁ a₂ a₃)) ≡ differs a₀ b₀ || (differs a₁ b₁ || (differs a₂ b₂ || differs a₃ b₃))
unfolding told
told-apart a₀ a₁ a₂ a₃ b₀ b₁ b₂ b₃ =
    digit-apart a₀ b₀ _ _ ∙
    ap (λ (x : Bool). differs a₀ b₀ || x)
    (digit-apart a₁ b₁ _ _ ∙ ap (λ (x : Bool). differs a₁ b₁ || x) (digit-apart a₂ b₂ _ _ ∙ ap (λ (x : Bool). differs a₂ b₂ || x) (last_apart a₃ b₃)))

and-true : (x : Bool) → (x && true) ≡ x
and-true true = refl
and-true false = refl

and-false : (x : Bool) → (x && false) ≡ false
and-false true = refl
and-false false = refl

-- the planes in which two words differ, joined
abbrev pub unlike : ℕ → ℕ → Set
unlike a b =
    bit_or
    (bit_or (bit_or (bit_xor (a % 65536) (b % 65536)) (bit_xor (a / 65536 % 65536) (b / 65536 % 65536))) (bit_xor (a / 4294967296 % 65536) (b / 4294967296 % 65536)))
    (bit_xor (a / 281474976710656 % 65536) (b / 281474976710656 % 65536))

or_right : (p q r s : Bool) → (((p || q) || r) || s) ≡ p || (q || (r || s))
or_right true q r s = refl
or_right false true r s = refl
or_right false false true s = refl
or_right false false false s = refl

has-unlike : (a b i : ℕ) → has (unlike a b) i ≡ not (eqb (block_within b i) (block_within a i))
unfolding block_within
has-unlike a b i =
    has-or _ _ i
    ∙ ap₂ ◌||◌ (has-or _ _ i ∙
    ap₂ ◌||◌ (has-or _ _ i ∙ ap₂ ◌||◌ (has-xor (a % 65536) (b % 65536) i) (has-xor (a / 65536 % 65536) (b / 65536 % 65536) i))
    (has-xor (a / 4294967296 % 65536) (b / 4294967296 % 65536) i))
    (has-xor (a / 281474976710656 % 65536) (b / 281474976710656 % 65536) i)
    ∙ or_right (differs (in₀ a) (in₀ b)) (differs (in₁ a) (in₁ b)) (differs (in₂ a) (in₂ b)) (differs (in₃ a) (in₃ b))
    ∙ sym (told-apart (in₀ a) (in₁ a) (in₂ a) (in₃ a) (in₀ b) (in₁ b) (in₂ b) (in₃ b))
  where
    in₀ : ℕ → Bool
    in₀ x = has (x % 65536) i

    in₁ : ℕ → Bool
    in₁ x = has (x / 65536 % 65536) i

    in₂ : ℕ → Bool
    in₂ x = has (x / 4294967296 % 65536) i

    in₃ : ℕ → Bool
    in₃ x = has (x / 281474976710656 % 65536) i

apart-at : (u a v b i : ℕ) → has (bit_and (unlike a b) (bit_and (u % 65536) (v % 65536))) i ≡ apart (blocks_in u a) (blocks_in v b) i
unfolding blocks_in holds another
apart-at u a v b i =
    has-and (unlike a b) (bit_and (u % 65536) (v % 65536)) i
    ∙ ap₂ ◌&&◌ (has-unlike a b i) (has-and (u % 65536) (v % 65536) i)
    ∙ go (has (u % 65536) i) (has (v % 65536) i)
  where
    go : (p q : Bool) →
        not (eqb (block_within b i) (block_within a i)) && (p && q) ≡
        holds (λ k. holds (λ n. not (eqb n k)) (cond q (just (block_within b i)) none)) (cond p (just (block_within a i)) none)
    go true true = and-true (not (eqb (block_within b i) (block_within a i)))
    go true false = and-false (not (eqb (block_within b i) (block_within a i)))
    go false q = and-false (not (eqb (block_within b i) (block_within a i)))

pub between-words : (u a v b : ℕ) → not (eqb (bit_and (unlike a b) (bit_and (u % 65536) (v % 65536))) 0) ≡ some_number_below 16 (apart (blocks_in u a) (blocks_in v b))
between-words u a v b =
    ap (λ (m : Set). not (eqb m 0)) (same-members _ _ (λ i. at i (ltb i 16) refl)) ∙ sym (some-collected 16 (apart (blocks_in u a) (blocks_in v b)))
  where
    at : (i : ℕ) (t : Bool) → ltb i 16 ≡ t →
        has (bit_and (unlike a b) (bit_and (u % 65536) (v % 65536))) i ≡ has (collect 16 (apart (blocks_in u a) (blocks_in v b))) i
    at i true e = apart-at u a v b i ∙ sym (collect-below 16 (apart (blocks_in u a) (blocks_in v b)) i (ltb-true i 16 e))
    at i false e =
        let far = ltb-false i 16 e in
        has-and (unlike a b) (bit_and (u % 65536) (v % 65536)) i
        ∙ ap (λ (x : Bool). has (unlike a b) i && x)
        (has-and (u % 65536) (v % 65536) i ∙ ap (λ (x : Bool). x && has (v % 65536) i) (has_above 16 (u % 65536) i (omega arith) far))
        ∙ and-false (has (unlike a b) i)
        ∙ sym (collect-above 16 (apart (blocks_in u a) (blocks_in v b)) i far)
