-- Comparing an entry's word with a key under a mask is a test of the entry.
use Prim.Native.Nat.{ℕ, zero, suc, ◌+◌, ◌*◌, ◌/◌, ◌%◌, ◌<◌}
use mathlib.Core.Bool.{Bool, true, false, not, cond, ◌&&◌, and-true, and-false}
use mathlib.Core.Path.{◌≡◌, refl, sym, ap, ap₂, ◌∙◌}
use native.Mathlib.Omega.{arith}
use borrow.Author.Tests.{eq-eqb, ne_eqb, eqb-true, eqb-false}
use lib.Bits.{bit_and, and_zero_r, and_mask, and_high, and_block}
use lib.Dec.{eqb, lit<}
use Rattle.paper_upper.specs.Orders.{is_held, is_held_by, are_in_order, of_task, held_of}
use Rattle.paper_upper.specs.Orders.Standing.{held, done}
use Rattle.order_links.specs.Chains.{standing_of, entry_of}
use Rattle.order_entries.specs.Reading.{key_of, fits}

-- ---- Numbers made of two parts: they are equal exactly if both parts are.
parts : (m k lo hi x y : ℕ) → (m ≡ k → (lo ≡ x) × (hi ≡ y)) → (lo ≡ x → hi ≡ y → m ≡ k) → eqb m k ≡ (eqb lo x && eqb hi y)
parts m k lo hi x y apart joint = go (eqb lo x) (eqb hi y) refl refl
  where
    go : (a b : Bool) → eqb lo x ≡ a → eqb hi y ≡ b → eqb m k ≡ (a && b)
    go true true e f = eq-eqb m k (joint (eqb-true _ _ e) (eqb-true _ _ f))
    go true false e f = ne_eqb m k (λ q. eqb-false _ _ f (apart q).1)
    go false b e f = ne_eqb m k (λ q. eqb-false _ _ e (apart q).0)

regroup : (o h t s : Bool) → ((o && h) && t) && s ≡ ((o && t) && (h && s))
regroup true true true s = refl
regroup true true false s = refl
regroup true false true s = refl
regroup true false false s = refl
regroup false h t s = refl

holder-part : (d s a : ℕ) → d < 2 → eqb (s * 8192 + d * 64) (8192 * a) ≡ (eqb d 0 && eqb s a)
holder-part zero s a h = parts (s * 8192 + 0) (8192 * a) 0 s 0 a (λ e. (refl, omega arith)) (λ e f. omega arith)
holder-part (suc zero) s a h = ne_eqb (s * 8192 + 64) (8192 * a) (λ e. omega arith)
holder-part (suc (suc d)) s a h = let z : ⊥ = omega arith in absurd z

-- The same with the flag of free entries above the subject.
free_part : (b d s a : ℕ) → b < 2 → d < 2 → s < 128 → a < 128 → eqb ((b * 131072 + s) * 8192 + d * 64) (8192 * a) ≡ ((eqb d 0 && eqb s a) && eqb b 0)
free_part zero d s a hb hd hs ha = let e : 0 * 131072 + s ≡ s = omega arith in
    ap (λ (n : ℕ). eqb (n * 8192 + d * 64) (8192 * a)) e ∙ holder-part d s a hd ∙ sym (and-true (eqb d 0 && eqb s a))
free_part (suc zero) d s a hb hd hs ha = ne_eqb ((131072 + s) * 8192 + d * 64) (8192 * a) (λ e. omega arith) ∙ sym (and-false (eqb d 0 && eqb s a))
free_part (suc (suc b)) d s a hb hd hs ha = let z : ⊥ = omega arith in absurd z

user-part : (x u : ℕ) → u < 1024 → eqb (x % 2048 * 1048576) (1048576 * u) ≡ (eqb (x % 1024) u && eqb (x / 1024 % 2) 0)
user-part x u h =
    scaled (x % 2048) (eqb (x % 2048) u) refl ∙ parts (x % 2048) u (x % 1024) (x / 1024 % 2) u 0 (λ e. (omega arith, omega arith)) (λ e f. omega arith)
  where
    scaled : (y : ℕ) (b : Bool) → eqb y u ≡ b → eqb (y * 1048576) (1048576 * u) ≡ eqb y u
    scaled y true e = let same = eqb-true y u e in eq-eqb (y * 1048576) (1048576 * u) (omega arith) ∙ sym e
    scaled y false e = let other = eqb-false y u e in ne_eqb (y * 1048576) (1048576 * u) (λ (z : y * 1048576 ≡ 1048576 * u). other (omega arith)) ∙ sym e

-- A mask of 32 bits depends on the lower half of the word only.
pub half-word : (w mask key : ℕ) → mask < 4294967296 → eqb (bit_and (w % 4294967296) mask) key ≡ fits mask key w
unfolding fits
half-word w mask key h =
    let e : w ≡ w / 4294967296 * 4294967296 + w % 4294967296 = omega arith in
    let m : mask ≡ 0 * 4294967296 + mask = omega arith in
    ap (λ (n : ℕ). eqb n key)
    (sym (ap₂ bit_and e m ∙ and_block 32 (w / 4294967296) 0 (w % 4294967296) mask (omega arith) h ∙ (let z = and_zero_r (w / 4294967296) in omega arith)))

module _ (w : ℕ) where
  not-done-bit : not (eqb (w / 64 % 2) 1) ≡ eqb (w / 64 % 2) 0
  not-done-bit = go (eqb (w / 64 % 2) 1) refl
    where
      go : (b : Bool) → eqb (w / 64 % 2) 1 ≡ b → not b ≡ eqb (w / 64 % 2) 0
      go true e = let d = eqb-true (w / 64 % 2) 1 e in sym (ne_eqb (w / 64 % 2) 0 (λ q. omega arith))
      go false e = let d = eqb-false (w / 64 % 2) 1 e in sym (eq-eqb (w / 64 % 2) 0 (omega arith))

  is-held : is_held (standing_of w) ≡ eqb (w / 64 % 2) 0
  unfolding is_held standing_of
  is-held = rw (← not-done-bit) (go (eqb (w / 64 % 2) 1))
    where
      go : (b : Bool) → is_held (cond b done (held (w / 8192 % 128))) ≡ not b
      go true = refl
      go false = refl

  is-held-by : (a : ℕ) → is_held_by a (standing_of w) ≡ (eqb (w / 64 % 2) 0 && eqb (w / 8192 % 128) a)
  unfolding is_held_by standing_of
  is-held-by a = rw (← not-done-bit) (go (eqb (w / 64 % 2) 1))
    where
      go : (b : Bool) → is_held_by a (cond b done (held (w / 8192 % 128))) ≡ (not b && eqb (w / 8192 % 128) a)
      go true = refl
      go false = refl

  -- ---- The parts of the word, from the lowest on: instance, done, task, subject.
  order-part : (i : ℕ) → i < 64 → eqb (w % 128) i ≡ (eqb (w % 64) i && eqb (w / 64 % 2) 0)
  order-part i hi = parts (w % 128) i (w % 64) (w / 64 % 2) i 0 (λ e. (omega arith, omega arith)) (λ e f. omega arith)

  task-part : (i t : ℕ) → i < 64 → eqb (w % 8192) (i + 128 * t) ≡ (eqb (w % 128) i && eqb (w / 128 % 64) t)
  task-part i t hi = parts (w % 8192) (i + 128 * t) (w % 128) (w / 128 % 64) i t (λ e. (omega arith, omega arith)) (λ e f. omega arith)

  subject-part : (i t a : ℕ) → i < 64 → t < 64 → eqb (w % 1048576) (key_of i t a) ≡ (eqb (w % 8192) (i + 128 * t) && eqb (w / 8192 % 128) a)
  subject-part i t a hi ht =
      parts (w % 1048576) (key_of i t a) (w % 8192) (w / 8192 % 128) (i + 128 * t) a (λ e. (omega arith, omega arith)) (λ e f. omega arith)

  -- ---- The comparisons of the code as tests of the entry.
  pub fits-held : (i : ℕ) → i < 64 → fits 127 i w ≡ (are_in_order i (entry_of w) && is_held (entry_of w).standing)
  unfolding fits are_in_order entry_of
  fits-held i hi = ap (λ (n : ℕ). eqb n i) (and_mask w 7) ∙ order-part i hi ∙ rw is-held

  pub fits-holding : (i t a : ℕ) → i < 64 → t < 64 → fits 1048575 (key_of i t a) w ≡ held_of i t a (entry_of w)
  unfolding fits held_of of_task are_in_order entry_of
  fits-holding i t a hi ht =
      ap (λ (n : ℕ). eqb n (key_of i t a)) (and_mask w 20)
      ∙ subject-part i t a hi ht
      ∙ rw (task-part i t hi, order-part i hi, is-held-by a) (regroup (eqb (w % 64) i) (eqb (w / 64 % 2) 0) (eqb (w / 128 % 64) t) (eqb (w / 8192 % 128) a))

  -- The mask of `holds_any` keeps the flag of free entries, the subject and the done bit.
  holder : bit_and w 1074782272 ≡ (w / 1073741824 % 2 * 131072 + w / 8192 % 128) * 8192 + w / 64 % 2 * 64
  holder =
      let e : w ≡ w / 8192 * 8192 + w % 8192 = omega arith in
      let d : w % 8192 / 64 % 2 ≡ w / 64 % 2 = omega arith in
      ap (λ (n : ℕ). bit_and n 1074782272) e
      ∙ and_block 13 (w / 8192) 131199 (w % 8192) 64 (omega arith) (lit< tt)
      ∙ rw (flagged, and_high (w % 8192) 1 6, d)
    where
      flagged : bit_and (w / 8192) 131199 ≡ w / 1073741824 % 2 * 131072 + w / 8192 % 128
      flagged =
          let e : w / 8192 ≡ w / 1073741824 * 131072 + w / 8192 % 131072 = omega arith in
          let s : w / 8192 % 131072 % 128 ≡ w / 8192 % 128 = omega arith in
          ap (λ (n : ℕ). bit_and n 131199) e
          ∙ and_block 17 (w / 1073741824) 1 (w / 8192 % 131072) 127 (omega arith) (lit< tt)
          ∙ rw (and_mask (w / 1073741824) 1, and_mask (w / 8192 % 131072) 7, s)

  pub fits-holder : (a : ℕ) → a < 128 → fits 1074782272 (8192 * a) w ≡ (is_held_by a (entry_of w).standing && eqb (w / 1073741824 % 2) 0)
  unfolding fits entry_of
  fits-holder a h =
      ap (λ (n : ℕ). eqb n (8192 * a)) holder
      ∙ free_part (w / 1073741824 % 2) (w / 64 % 2) (w / 8192 % 128) a (omega arith) (omega arith) (omega arith) h
      ∙ ap (λ (b : Bool). b && eqb (w / 1073741824 % 2) 0) (sym (is-held-by a))

  pub fits-user : (u : ℕ) → u < 1024 → fits 2146435072 (1048576 * u) w ≡ (eqb (entry_of w).user u && eqb (w / 1073741824 % 2) 0)
  unfolding fits entry_of
  fits-user u h =
      let e : w / 1073741824 % 2 ≡ w / 1048576 / 1024 % 2 = omega arith in
      ap (λ (n : ℕ). eqb n (1048576 * u)) (and_high w 11 20) ∙ rw e (user-part (w / 1048576) u h)
