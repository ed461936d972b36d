-- The check of all chains: what was counted and found sound after each chain, and at the end that the buffer is sound or not.
use Prim.Native.Nat.{ℕ, zero, suc, ◌+◌, ◌-◌, ◌/◌, ◌%◌, ◌≤◌, ◌<◌}
use mathlib.Core.Bool.{Bool, true, false, not, cond, ◌&&◌, ◌||◌, true≢false, false≢true}
use mathlib.Core.List.{List}
use mathlib.Core.Path.{◌≡◌, refl, sym, ap, ◌∙◌}
use native.Mathlib.Numerals.{add-one}
use native.Mathlib.Omega.{arith}
use borrow.Author.Tests.{ne_eqb, eqb-true, eqb-false, lt-ltb, le-ltb, ltb-true, ltb-false}
use lib.Dec.{eqb, ltb}
use Rattle.paper_lower.specs.Sets.{has}
use Rattle.paper_lower.specs.Lists.{some_number_below}
use Rattle.paper_lower.proofs.ListLaws.{and-false, some_below, none_below, below_none}
use Rattle.paper_upper.specs.Orders.{tasks_where, tasks_done}
use Rattle.sets.proofs.Bits.{bit, bit-zero, some-bit, bit-above}
use Rattle.sets.proofs.SetLaws.{bit-has, bit-hasnt}
use Rattle.order_links.specs.Chains.{mark_of, open_of, is_read_as, count_of, chain_word, walk_over, entries_in, leads, figures, chain_sound, sum_to, sound_of, Counted}
use Rattle.order_links.proofs.ReadLaws.{read-closed, chain-closed, done-closed}
use Rattle.order_links.proofs.OnceLaws.{sum_more}

-- ---- A closed instance has no entries, and its chain is sound.
no-count : (l : List ℕ) (i : ℕ) → i < 64 → has (open_of l) i ≡ false → count_of (chain_word l i) ≡ 0
no-count l i h e = let z = chain-closed l i h e in omega arith

closed-sound : (l : List ℕ) (m i : ℕ) → i < 64 → has (open_of l) i ≡ false → chain_sound l m i ≡ true
unfolding chain_sound leads figures entries_in walk_over tasks_done tasks_where
closed-sound l m i h e = rw (chain-closed l i h e, lt-ltb i 64 h, done-closed l i e)

closed-below : (l : List ℕ) (i : ℕ) → i ≤ 65 → is_read_as l i ≡ false → i < 64
unfolding is_read_as
closed-below l i h e = go (ltb 63 i) refl e
  where
    go : (b : Bool) → ltb 63 i ≡ b → (b || has (open_of l) i) ≡ false → i < 64
    go true q z = absurd (true≢false z)
    go false q z = let le = ltb-false 63 i q in omega arith

-- ---- The contract of `counted` in its three cases: not read, too many entries, and links followed.
pub not-read : (l : List ℕ) (m i n : ℕ) → i ≤ 65 → n ≤ m → is_read_as l i ≡ false → Counted l m i n n
not-read l m i n h le e =
    let below = closed-below l i h e in
    let shut = sym (read-closed l i below) ∙ e in
    let z = no-count l i below shut in
    record { fits = λ _. (omega arith, closed-sound l m i below shut); past = λ p. let z : ⊥ = omega arith in absurd z }

pub too_many : (l : List ℕ) (m i n r : ℕ) → r ≡ n + count_of (chain_word l i) → m < r → Counted l m i n r
too_many l m i n r e p = record { fits = λ q. let z : ⊥ = omega arith in absurd z; past = λ _ s. omega arith }

pub walked : (l : List ℕ) (m i n all : ℕ) (b : Bool) → m ≤ 2048 → all ≤ m → all ≡ n + count_of (chain_word l i) → b ≡ chain_sound l m i →
    Counted l m i n (cond b all 2049)
walked l m i n all true le fit e s = record { fits = λ _. (e, sym s); past = λ p. let z : ⊥ = omega arith in absurd z }
walked l m i n all false le fit e s = record { fits = λ q. let z : ⊥ = omega arith in absurd z; past = λ p t. absurd (false≢true (s ∙ t)) }

-- ---- Sums over a part of the chains and over all of them.
sum-up : (f : ℕ → ℕ) (k d : ℕ) → sum_to f k ≤ sum_to f (d + k)
unfolding sum_to
sum-up f k zero = let e : 0 + k ≡ k = omega arith in rw e (omega arith)
sum-up f k (suc d) = let q : suc d + k ≡ suc (d + k) = omega arith in let e = sum-up f k d in rw q (omega arith)

sum-rest : (f : ℕ → ℕ) (k n : ℕ) → k ≤ n → sum_to f k ≤ sum_to f n
sum-rest f k n h = let e : n - k + k ≡ n = omega arith in let u = sum-up f k (n - k) in rw e at u

sum-flat : (f : ℕ → ℕ) (k d : ℕ) → ((j : ℕ) → k ≤ j → j < d + k → f j ≡ 0) → sum_to f (d + k) ≡ sum_to f k
unfolding sum_to
sum-flat f k zero h = let e : 0 + k ≡ k = omega arith in rw e
sum-flat f k (suc d) h = let s : suc d + k ≡ suc (d + k) = omega arith in
    let a = h (d + k) (omega arith) (omega arith) in
    let b = sum-flat f k d (λ j p q. h j p (omega arith)) in
    rw s (omega arith)

sum-end : (f : ℕ → ℕ) (k n : ℕ) → k ≤ n → ((j : ℕ) → k ≤ j → j < n → f j ≡ 0) → sum_to f n ≡ sum_to f k
sum-end f k n h z = let e : n - k + k ≡ n = omega arith in let u = sum-flat f k (n - k) (λ j p q. z j p (omega arith)) in rw e at u

-- ---- The set of open instances, bit by bit. `Left m i rest`: rest has the bits of m from i on.
abbrev pub Left : ℕ → ℕ → ℕ → Type 0
Left m i rest = (j : ℕ) → bit (j + i) m ≡ bit j rest

pub all_left : (m : ℕ) → Left m 0 m
all_left m j = let e : j + 0 ≡ j = omega arith in rw e

pub one_less : (m i rest : ℕ) → Left m i rest → Left m (i + 1) (rest / 2)
unfolding bit
one_less m i rest h j = let e : j + (i + 1) ≡ suc j + i = omega arith in rw e (h (suc j))

pub here : (m i rest : ℕ) → Left m i rest → eqb (rest % 2) 1 ≡ has m i
unfolding bit
here m i rest h = go (eqb (rest % 2) 1) refl
  where
    own : bit i m ≡ rest % 2
    own = let e : 0 + i ≡ i = omega arith in ap (λ (k : ℕ). bit k m) (sym e) ∙ h 0

    go : (b : Bool) → eqb (rest % 2) 1 ≡ b → b ≡ has m i
    go true e = sym (bit-has m i (own ∙ eqb-true _ _ e))
    go false e = let d = eqb-false (rest % 2) 1 e in sym (bit-hasnt m i (own ∙ omega arith))

-- From bit 64 on there is none.
pub all_met : (m i rest : ℕ) → m < 18446744073709551616 → Left m i rest → 64 ≤ i → rest ≡ 0
all_met m i rest small h far = go (eqb rest 0) refl
  where
    go : (b : Bool) → eqb rest 0 ≡ b → rest ≡ 0
    go true e = eqb-true rest 0 e
    go false e =
        let one = some-bit rest (eqb-false rest 0 e) in
        let off = bit-above 64 (one.0 + i) m small (omega arith) in
        let on = h one.0 ∙ one.1 in
        let z : ⊥ = omega arith in
        absurd z

none_left : (m i rest : ℕ) → Left m i rest → rest ≡ 0 → (j : ℕ) → i ≤ j → has m j ≡ false
none_left m i rest h e j le =
    let at : j - i + i ≡ j = omega arith in
    bit-hasnt m j (ap (λ (k : ℕ). bit k m) (sym at) ∙ h (j - i) ∙ ap (bit (j - i)) e ∙ bit-zero (j - i))

-- ---- The loop over the open instances. `SoFar i n`: the chains below i are sound, and n is s plus the number of their entries.
module _ (l : List ℕ) (m s : ℕ) where
  abbrev pub SoFar : ℕ → ℕ → Type 0
  SoFar i n = (n ≡ s + sum_to (λ i. count_of (chain_word l i)) i) × (some_number_below i (λ i. not (chain_sound l m i)) ≡ false)

  pub start : SoFar 0 s
  unfolding sum_to some_number_below
  start = (omega arith, refl)

  pub more : (i n r : ℕ) → SoFar i n → Counted l m i n r → r ≤ m → SoFar (i + 1) r
  unfolding some_number_below
  more i n r h c fit =
      let a = h.0 in
      let b = c.fits fit in
      let f : ℕ → ℕ = λ i. count_of (chain_word l i) in
      let e : sum_to f i + f i ≡ sum_to f (i + 1) = sum_more f i refl in
      let d = b.0 in
      (omega arith, rw (add-one, b.1) h.1)

  pub fails : (i n r : ℕ) → i < 64 → SoFar i n → Counted l m i n r → m < r →
      false ≡ (eqb (s + sum_to (λ i. count_of (chain_word l i)) 64) m && not (some_number_below 64 (λ i. not (chain_sound l m i))))
  fails i n r less h c past = go (chain_sound l m i) refl
    where
      go : (b : Bool) → chain_sound l m i ≡ b → false ≡ (eqb (s + sum_to (λ i. count_of (chain_word l i)) 64) m && not (some_number_below 64 (λ i. not (chain_sound l m i))))
      go true e =
          let f : ℕ → ℕ = λ i. count_of (chain_word l i) in
          let a = h.0 in
          let q = c.past past e in
          let u : sum_to f i + f i ≡ sum_to f (i + 1) = sum_more f i refl in
          let v = sum-rest f (i + 1) 64 (omega arith) in
          rw (ne_eqb (s + sum_to f 64) m (λ z. omega arith))
      go false e = rw (some_below 64 (λ i. not (chain_sound l m i)) i less (ap not e)) (sym (and-false (eqb (s + sum_to (λ i. count_of (chain_word l i)) 64) m)))

  pub ends : (i n rest : ℕ) → i ≤ 64 → SoFar i n → Left (open_of l) i rest → rest ≡ 0 →
      eqb n m ≡ (eqb (s + sum_to (λ i. count_of (chain_word l i)) 64) m && not (some_number_below 64 (λ i. not (chain_sound l m i))))
  ends i n rest le h left none =
      let f : ℕ → ℕ = λ i. count_of (chain_word l i) in
      let shut = none_left (open_of l) i rest left none in
      let same = sum-end f i 64 le (λ j p q. no-count l j q (shut j p)) in
      let all = h.0 ∙ ap (λ (x : ℕ). s + x) (sym same) in
      let found : some_number_below 64 (λ i. not (chain_sound l m i)) ≡ false = below_none 64 (λ i. not (chain_sound l m i)) (λ j q. at j q (ltb j i) refl) in
      rw (found, all) (sym (and-true _))
    where
      and-true : (b : Bool) → (b && true) ≡ b
      and-true true = refl
      and-true false = refl

      at : (j : ℕ) → j < 64 → (b : Bool) → ltb j i ≡ b → not (chain_sound l m j) ≡ false
      at j q true e = none_below i (λ i. not (chain_sound l m i)) h.1 j (ltb-true j i e)
      at j q false e = ap not (closed-sound l m j q (none_left (open_of l) i rest left none j (ltb-false j i e)))

-- ---- All chains: those of the instances, the free entries (64), and the entries set aside (65).
module _ (l : List ℕ) (small : mark_of l ≤ 2048) where
  below_step : (f : ℕ → Bool) (k : ℕ) → some_number_below (suc k) f ≡ (f k || some_number_below k f)
  unfolding some_number_below
  below_step f k = refl

  parts : sound_of l ≡ (eqb (sum_to (λ i. count_of (chain_word l i)) 66) (mark_of l) && not (some_number_below 66 (λ i. not (chain_sound l (mark_of l) i))))
  unfolding sound_of
  parts = rw (le-ltb 2048 (mark_of l) small)

  pub one-fails : (i n r : ℕ) → i < 66 → n ≤ sum_to (λ i. count_of (chain_word l i)) i → Counted l (mark_of l) i n r → mark_of l < r → false ≡ sound_of l
  one-fails i n r less le c past = go (chain_sound l (mark_of l) i) refl
    where
      go : (b : Bool) → chain_sound l (mark_of l) i ≡ b → false ≡ sound_of l
      go true e =
          let f : ℕ → ℕ = λ i. count_of (chain_word l i) in
          let q = c.past past e in
          let u : sum_to f i + f i ≡ sum_to f (i + 1) = sum_more f i refl in
          let v = sum-rest f (i + 1) 66 (omega arith) in
          rw (parts, ne_eqb (sum_to f 66) (mark_of l) (λ z. omega arith))
      go false e =
          rw (parts, some_below 66 (λ i. not (chain_sound l (mark_of l) i)) i less (ap not e))
          (sym (and-false (eqb (sum_to (λ i. count_of (chain_word l i)) 66) (mark_of l))))

  pub all_sound : (n r : ℕ) (b : Bool) → Counted l (mark_of l) 64 0 n → n ≤ mark_of l → Counted l (mark_of l) 65 n r → r ≤ mark_of l
      → b ≡ (eqb (r + sum_to (λ i. count_of (chain_word l i)) 64) (mark_of l) && not (some_number_below 64 (λ i. not (chain_sound l (mark_of l) i)))) → b ≡ sound_of l
  all_sound n r b c p d q e =
      let f : ℕ → ℕ = λ i. count_of (chain_word l i) in
      let g : ℕ → Bool = λ i. not (chain_sound l (mark_of l) i) in
      let u : sum_to f 64 + f 64 ≡ sum_to f 65 = sum_more f 64 refl in
      let v : sum_to f 65 + f 65 ≡ sum_to f 66 = sum_more f 65 refl in
      let x = (c.fits p).0 in
      let y = (d.fits q).0 in
      let sums : r + sum_to f 64 ≡ sum_to f 66 = omega arith in
      let found : some_number_below 66 g ≡ some_number_below 64 g =
      below_step g 65 ∙ ap (λ (z : Bool). not z || some_number_below 65 g) (d.fits q).1 ∙ below_step g 64 ∙
      ap (λ (z : Bool). not z || some_number_below 64 g) (c.fits p).1 in
      e ∙ (λ z. eqb (sums z) (mark_of l) && not (sym found z)) ∙ sym parts
