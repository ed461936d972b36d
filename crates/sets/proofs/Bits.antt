-- The bits of a number, lowest first: the bits of each bit operation, the law that numbers with the same bits are equal, and counts of bits.
use mathlib.Core.Path.{◌≡◌, refl, sym, ap, ◌∙◌}
use mathlib.Core.Logic.{◌⊎◌, inl, inr, ⊎_elim}
use Prim.Native.Nat.{ℕ, zero, suc, ◌+◌, ◌-◌, ◌*◌, ◌/◌, ◌%◌, ◌^◌, ◌<◌, ◌≤◌, min, max}
use native.Mathlib.Nat.{pow-suc, one-mul, not-suc-le-zero}
use native.Mathlib.Numerals.{one-add}
use native.Mathlib.Omega.{arith}
use native.Mathlib.Decide.{ℕ_discrete}
use lib.Arith.{bin_ind}
use lib.Pow.{shr-shr, shl_exact}
use lib.Dec.{lit<}
use lib.Bits.{bit_and, bit_or, bit_xor, differ, or_step, and_step, xor_step, or_zero_r}
use lib.Count.{ones, ones_step, count_trailing_zeros, under}

-- `1 << i` in the code is 2 ^ i.
pub one_shl : (i : ℕ) → i < 64 → (1 * 2 ^ i) % 2 ^ 64 ≡ 2 ^ i
one_shl i h = shl_exact 1 i 64 (lit< tt) (omega arith) ∙ one-mul (2 ^ i)

-- Bit i of s.
unfoldable pub bit : ℕ → ℕ → ℕ
bit zero s = s % 2
bit (suc i) s = bit i (s / 2)

pub bit_le : (i s : ℕ) → bit i s ≤ 1
unfolding bit
bit_le zero s = omega arith
bit_le (suc i) s = bit_le i (s / 2)

-- The test of the code, a shift and a remainder, is the bit.
pub bit-shr : (i s : ℕ) → s / 2 ^ i % 2 ≡ bit i s
unfolding bit
bit-shr zero s = omega arith
bit-shr (suc i) s = ap (λ (k : ℕ). s / 2 ^ k % 2) (sym (one-add i)) ∙ ap (λ (k : ℕ). k % 2) (sym (shr-shr s 1 i)) ∙ bit-shr i (s / 2)

pub bit-zero : (i : ℕ) → bit i 0 ≡ 0
unfolding bit
bit-zero zero = refl
bit-zero (suc i) = bit-zero i

-- ---- Numbers compared by their bits.
pub same-or-other : (i t : ℕ) → (i ≡ t) ⊎ (i ≡ t → ⊥)
same-or-other i t = elim (ℕ_discrete i t) [ yes e ↦ inl e | no n ↦ inr n ]

pub le-bits : (a b : ℕ) → ((i : ℕ) → bit i a ≤ bit i b) → a ≤ b
unfolding bit
le-bits =
    bin_ind (λ (a : ℕ). (b : ℕ) → ((i : ℕ) → bit i a ≤ bit i b) → a ≤ b) (λ b h. omega arith)
    (λ a ih b h.
    let p = ih (b / 2) (λ i. h (suc i)) in
    let q = h 0 in
    omega arith)

pub ext-bits : (a b : ℕ) → ((i : ℕ) → bit i a ≡ bit i b) → a ≡ b
ext-bits a b h =
    let p = le-bits a b (λ i. let e = h i in omega arith) in
    let q = le-bits b a (λ i. let e = h i in omega arith) in
    omega arith

pub ones-bits : (a b : ℕ) → ((i : ℕ) → bit i a ≤ bit i b) → ones a ≤ ones b
unfolding bit
ones-bits =
    bin_ind (λ (a : ℕ). (b : ℕ) → ((i : ℕ) → bit i a ≤ bit i b) → ones a ≤ ones b)
    (λ b h. let z : ones 0 ≡ 0 = unfold ones in refl in omega arith)
    (λ a ih b h.
    let p = ih (b / 2) (λ i. h (suc i)) in
    let q = h 0 in
    let x = ones_step a in
    let y = ones_step b in
    omega arith)

-- A number other than 0 has a bit that is 1.
pub some-bit : (a : ℕ) → (a ≡ 0 → ⊥) → (i : ℕ) × (bit i a ≡ 1)
unfolding bit
some-bit =
    bin_ind (λ (a : ℕ). (a ≡ 0 → ⊥) → (i : ℕ) × (bit i a ≡ 1)) (λ n. absurd (n refl))
    (λ a ih n.
    ⊎_elim (λ (e : a % 2 ≡ 1). (0, e))
    (λ e. let below = ih (λ z. n (let l : a % 2 ≤ 1 = omega arith in omega arith)) in (suc below.0, below.1))
    (same-or-other (a % 2) 1))

-- The number of zeros below the lowest bit that is 1 is the number of that bit.
pub lowest-bit : (k m : ℕ) → m < 2 ^ k → 0 < m → (bit (count_trailing_zeros k m) m ≡ 1) × (count_trailing_zeros k m < k)
unfolding bit count_trailing_zeros
lowest-bit zero m h n = let z : ⊥ = omega arith in absurd z
lowest-bit (suc k) m h n = go (m % 2) refl (lowest-bit k (m / 2) (let p = pow-suc 2 k in omega arith))
  where
    go : (d : ℕ) → m % 2 ≡ d → (0 < m / 2 → (bit (count_trailing_zeros k (m / 2)) (m / 2) ≡ 1) × (count_trailing_zeros k (m / 2) < k)) →
        (bit (under d (count_trailing_zeros k (m / 2))) m ≡ 1) × (under d (count_trailing_zeros k (m / 2)) < suc k)
    go zero q rest = let r = rest (omega arith) in (r.0, omega arith)
    go (suc d) q rest = (omega arith, omega arith)

-- All bits below that bit are 0.
pub zeros-below : (k m i : ℕ) → i < count_trailing_zeros k m → bit i m ≡ 0
unfolding bit count_trailing_zeros
zeros-below zero m i h = absurd (not-suc-le-zero h)
zeros-below (suc k) m i h = go (m % 2) refl i h (zeros-below k (m / 2))
  where
    go : (d : ℕ) → m % 2 ≡ d → (i : ℕ) → i < under d (count_trailing_zeros k (m / 2)) → ((i : ℕ) → i < count_trailing_zeros k (m / 2) → bit i (m / 2) ≡ 0) → bit i m ≡ 0
    go zero q zero h rest = q
    go zero q (suc i) h rest = rest i (omega arith)
    go (suc d) q i h rest = absurd (not-suc-le-zero h)

-- A number below 2 ^ n has only zeros from bit n on, and a number with only zeros from bit n on is below 2 ^ n.
pub bit-above : (n i m : ℕ) → m < 2 ^ n → n ≤ i → bit i m ≡ 0
unfolding bit
bit-above zero i m h l = ap (bit i) (let z : m ≡ 0 = omega arith in z) ∙ bit-zero i
bit-above (suc n) zero m h l = let z : ⊥ = omega arith in absurd z
bit-above (suc n) (suc i) m h l = bit-above n i (m / 2) (let p = pow-suc 2 n in omega arith) (omega arith)

pub below-bits : (n m : ℕ) → ((i : ℕ) → n ≤ i → bit i m ≡ 0) → m < 2 ^ n
unfolding bit
below-bits zero m h = let z = ext-bits m 0 (λ i. h i (omega arith) ∙ sym (bit-zero i)) in omega arith
below-bits (suc n) m h =
    let p = below-bits n (m / 2) (λ i l. h (suc i) (omega arith)) in
    let q = pow-suc 2 n in
    omega arith

-- ---- The bits of the operations.
or-half : (a b : ℕ) → bit_or a b / 2 ≡ bit_or (a / 2) (b / 2)
or-half a b = omega (arith, or_step a b)

or-low : (a b : ℕ) → bit_or a b % 2 ≡ max (a % 2) (b % 2)
or-low a b = omega (arith, or_step a b)

and-half : (a b : ℕ) → bit_and a b / 2 ≡ bit_and (a / 2) (b / 2)
and-half a b = omega (arith, and_step a b)

and_low : (a b : ℕ) → bit_and a b % 2 ≡ min (a % 2) (b % 2)
and_low a b = omega (arith, and_step a b)

differ-le : (x y : ℕ) → x ≤ 1 → y ≤ 1 → differ x y ≤ 1
differ-le zero y h k = k
differ-le (suc x) zero h k = h
differ-le (suc zero) (suc zero) h k = omega arith
differ-le (suc zero) (suc (suc y)) h k = let z : ⊥ = omega arith in absurd z
differ-le (suc (suc x)) (suc y) h k = let z : ⊥ = omega arith in absurd z

xor-half : (a b : ℕ) → bit_xor a b / 2 ≡ bit_xor (a / 2) (b / 2)
xor-half a b =
    let l = differ-le (a % 2) (b % 2) (omega arith) (omega arith) in
    omega (arith, xor_step a b)

xor_low : (a b : ℕ) → bit_xor a b % 2 ≡ differ (a % 2) (b % 2)
xor_low a b =
    let l = differ-le (a % 2) (b % 2) (omega arith) (omega arith) in
    omega (arith, xor_step a b)

pub bit-or : (i a b : ℕ) → bit i (bit_or a b) ≡ max (bit i a) (bit i b)
unfolding bit
bit-or zero a b = or-low a b
bit-or (suc i) a b = ap (bit i) (or-half a b) ∙ bit-or i (a / 2) (b / 2)

pub bit-and : (i a b : ℕ) → bit i (bit_and a b) ≡ min (bit i a) (bit i b)
unfolding bit
bit-and zero a b = and_low a b
bit-and (suc i) a b = ap (bit i) (and-half a b) ∙ bit-and i (a / 2) (b / 2)

pub bit-xor : (i a b : ℕ) → bit i (bit_xor a b) ≡ differ (bit i a) (bit i b)
unfolding bit
bit-xor zero a b = xor_low a b
bit-xor (suc i) a b = ap (bit i) (xor-half a b) ∙ bit-xor i (a / 2) (b / 2)

-- `!a` in the code, for a word of n bits, changes every bit.
pub bit_not : (n i a : ℕ) → a < 2 ^ n → i < n → bit i (2 ^ n - 1 - a) + bit i a ≡ 1
unfolding bit
bit_not zero i a h l = absurd (not-suc-le-zero l)
bit_not (suc n) zero a h l = let p = pow-suc 2 n in omega arith
bit_not (suc n) (suc i) a h l =
    let p = pow-suc 2 n in
    let e : (2 ^ suc n - 1 - a) / 2 ≡ 2 ^ n - 1 - a / 2 = omega arith in
    ap (λ (x : ℕ). bit i x + bit i (a / 2)) e ∙ bit_not n i (a / 2) (omega arith) (omega arith)

-- ---- Powers of two: one bit is 1.
pow-half : (t : ℕ) → 2 ^ suc t / 2 ≡ 2 ^ t
pow-half t = omega (arith, pow-suc 2 t)

pow_low : (t : ℕ) → 2 ^ suc t % 2 ≡ 0
pow_low t = omega (arith, pow-suc 2 t)

pub bit-one : (t : ℕ) → bit t (2 ^ t) ≡ 1
unfolding bit
bit-one zero = refl
bit-one (suc t) = ap (bit t) (pow-half t) ∙ bit-one t

pub bit-other : (i t : ℕ) → (i ≡ t → ⊥) → bit i (2 ^ t) ≡ 0
unfolding bit
bit-other zero zero h = absurd (h refl)
bit-other zero (suc t) h = pow_low t
bit-other (suc i) zero h = bit-zero i
bit-other (suc i) (suc t) h = ap (bit i) (pow-half t) ∙ bit-other i t (λ e. h (ap suc e))

-- Setting bit t adds one to the number of ones, unless the bit was 1 before.
pub ones-or : (t s : ℕ) → ones (bit_or s (2 ^ t)) + bit t s ≡ ones s + 1
unfolding bit
ones-or zero s =
    let a = ones_step (bit_or s 1) in
    let b = ones_step s in
    let c = or-low s 1 in
    let d : bit_or s 1 / 2 ≡ s / 2 = or-half s 1 ∙ or_zero_r (s / 2) in
    let e = ap ones d in
    omega arith
ones-or (suc t) s =
    let a = ones_step (bit_or s (2 ^ suc t)) in
    let b = ones_step s in
    let c = or-low s (2 ^ suc t) in
    let p = pow_low t in
    let d : bit_or s (2 ^ suc t) / 2 ≡ bit_or (s / 2) (2 ^ t) = or-half s (2 ^ suc t) ∙ ap (bit_or (s / 2)) (pow-half t) in
    let e = ap ones d in
    let ih = ones-or t (s / 2) in
    omega arith

-- Setting bit t before or after the `and` with m makes no difference if m has the bit. If m does not have it, setting it before changes nothing.
pub and-or-in : (m d t : ℕ) → bit t m ≡ 1 → bit_and m (bit_or d (2 ^ t)) ≡ bit_or (bit_and m d) (2 ^ t)
and-or-in m d t h =
    ext-bits _ _ (λ i.
    let p = bit-and i m (bit_or d (2 ^ t)) in
    let q = bit-or i d (2 ^ t) in
    let r = bit-or i (bit_and m d) (2 ^ t) in
    let u = bit-and i m d in
    let v = bit_le i m in
    ⊎_elim (λ e.
    let x : bit i (2 ^ t) ≡ 1 = rw e (bit-one t) in
    let y : bit i m ≡ 1 = rw e h in
    let z = bit_le i d in
    omega arith) (λ n.
    let x = bit-other i t n in
    omega arith) (same-or-other i t))

pub and-or-out : (m d t : ℕ) → bit t m ≡ 0 → bit_and m (bit_or d (2 ^ t)) ≡ bit_and m d
and-or-out m d t h =
    ext-bits _ _ (λ i.
    let p = bit-and i m (bit_or d (2 ^ t)) in
    let q = bit-or i d (2 ^ t) in
    let u = bit-and i m d in
    ⊎_elim (λ e.
    let y : bit i m ≡ 0 = rw e h in
    omega arith) (λ n.
    let x = bit-other i t n in
    omega arith) (same-or-other i t))
