-- Laws of sets, proved from their bits: members, sizes, overlaps, unions, parts of a set, sets that meet, and bounds on the number that stands for a set.
use mathlib.Core.Path.{◌≡◌, refl, sym, ap, ap₂, ◌∙◌}
use mathlib.Core.Bool.{Bool, true, false, not, cond, ◌&&◌, ◌||◌, or-true, or-false, true≢false}
use mathlib.Core.Logic.{◌⊎◌, inl, inr, ⊎_elim}
use Prim.Native.Nat.{ℕ, zero, suc, ◌+◌, ◌-◌, ◌/◌, ◌%◌, ◌^◌, ◌<◌, ◌≤◌, max}
use native.Mathlib.Omega.{arith}
use native.Mathlib.Nat.{le_refl, not-suc-le-zero}
use borrow.Author.Tests.{eq-eqb, ne_eqb, eqb-true, eqb-false, ltb-true, ltb-false, not-true, not-false}
use lib.Arith.{half_le}
use lib.Dec.{eqb, ltb}
use lib.Pow.{pow-lt}
use lib.Bits.{bit_and, bit_or, bit_xor, differ, and_zero_r, or_lt}
use lib.Count.{ones, ones_step, ones-le}
use Rattle.paper_lower.specs.Lists.{some_number_below}
use Rattle.paper_lower.specs.Sets.{Set, empty, has, plus, minus, union, cut, ones_in, size, overlap, meets, within, collect, union_below}
use Rattle.paper_lower.proofs.ListLaws.{none_below, below_none, and-true, and-false}
use Rattle.sets.proofs.Bits.{bit, bit_le, bit-shr, bit-zero, same-or-other, le-bits, ext-bits, ones-bits, some-bit, bit-above, below-bits, bit-or, bit-and, bit-xor, bit_not, bit-one, bit-other, ones-or, and-or-in, and-or-out}

-- ---- Membership as a bit.

-- 1 for true and 0 for false.
abbrev pub digit : Bool → ℕ
digit b = cond b 1 0

pub has-bit : (m t : ℕ) → has m t ≡ true → bit t m ≡ 1
unfolding has
has-bit m t h = sym (bit-shr t m) ∙ eqb-true _ _ h

pub hasnt-bit : (m t : ℕ) → has m t ≡ false → bit t m ≡ 0
unfolding has
hasnt-bit m t h =
    let n : bit t m ≡ 1 → ⊥ = λ e. eqb-false _ _ h (bit-shr t m ∙ e) in
    let b = bit_le t m in
    omega arith

pub bit-has : (m t : ℕ) → bit t m ≡ 1 → has m t ≡ true
unfolding has
bit-has m t h = eq-eqb _ _ (bit-shr t m ∙ h)

pub bit-hasnt : (m t : ℕ) → bit t m ≡ 0 → has m t ≡ false
unfolding has
bit-hasnt m t h = ne_eqb _ _ (λ (e : m / 2 ^ t % 2 ≡ 1). let z = bit-shr t m in omega arith)

pub digit-has : (m t : ℕ) → bit t m ≡ digit (has m t)
digit-has m t = go (has m t) refl
  where
    go : (b : Bool) → has m t ≡ b → bit t m ≡ digit b
    go true e = has-bit m t e
    go false e = hasnt-bit m t e

pub has-digit : (m t : ℕ) (b : Bool) → bit t m ≡ digit b → has m t ≡ b
has-digit m t true h = bit-has m t h
has-digit m t false h = bit-hasnt m t h

pub same-has : (a b : Set) (i : ℕ) → bit i a ≡ bit i b → has a i ≡ has b i
same-has a b i e = has-digit a i (has b i) (e ∙ digit-has b i)

pub in-or-out : (b : Bool) → (b ≡ true) ⊎ (b ≡ false)
in-or-out true = inl refl
in-or-out false = inr refl

-- Sets with the same members are equal.
pub same-members : (a b : Set) → ((i : ℕ) → has a i ≡ has b i) → a ≡ b
same-members a b h = ext-bits a b (λ i. digit-has a i ∙ ap digit (h i) ∙ sym (digit-has b i))

-- ---- A set without one member.
differ-zero : (x : ℕ) → differ x 0 ≡ x
differ-zero zero = refl
differ-zero (suc x) = refl

pub minus-in : (m t : ℕ) → has m t ≡ true → minus m t ≡ bit_xor m (2 ^ t)
unfolding minus
minus-in m t h = rw h

pub minus-out : (m t : ℕ) → has m t ≡ false → minus m t ≡ m
unfolding minus
minus-out m t h = rw h

pub minus-same : (m t : ℕ) → bit t (minus m t) ≡ 0
minus-same m t =
    ⊎_elim
    (λ h. ap (bit t) (minus-in m t h) ∙ bit-xor t m (2 ^ t) ∙ rw (bit-one t, has-bit m t h))
    (λ h. ap (bit t) (minus-out m t h) ∙ hasnt-bit m t h)
    (in-or-out (has m t))

pub minus-other : (i m t : ℕ) → (i ≡ t → ⊥) → bit i (minus m t) ≡ bit i m
minus-other i m t n =
    ⊎_elim
    (λ h. ap (bit i) (minus-in m t h) ∙ bit-xor i m (2 ^ t) ∙ rw (bit-other i t n) (differ-zero (bit i m)))
    (λ h. ap (bit i) (minus-out m t h))
    (in-or-out (has m t))

-- The mask of the code takes the member out.
pub minus-mask : (n : ℕ) (m : Set) (t : ℕ) → m < 2 ^ n → t < n → bit_and m (2 ^ n - 1 - 2 ^ t) ≡ minus m t
minus-mask n m t h l = ext-bits (bit_and m (2 ^ n - 1 - 2 ^ t)) (minus m t) (λ i. go i (same-or-other i t) (ltb i n) refl)
  where
    go : (i : ℕ) → (i ≡ t) ⊎ (i ≡ t → ⊥) → (b : Bool) → ltb i n ≡ b → bit i (bit_and m (2 ^ n - 1 - 2 ^ t)) ≡ bit i (minus m t)
    go i (inl e) b o =
        let a = bit-and t m (2 ^ n - 1 - 2 ^ t) in
        let b = bit_not n t (2 ^ t) (pow-lt l) l in
        let c = bit-one t in
        let d = minus-same m t in
        rw e (omega arith)
    go i (inr e) false o =
        let a = bit-and i m (2 ^ n - 1 - 2 ^ t) in
        let b = bit-above n i m h (ltb-false i n o) in
        let d = minus-other i m t e in
        omega arith
    go i (inr e) true o =
        let a = bit-and i m (2 ^ n - 1 - 2 ^ t) in
        let b = bit_not n i (2 ^ t) (pow-lt l) (ltb-true i n o) in
        let c = bit-other i t e in
        let d = minus-other i m t e in
        let f = bit_le i m in
        omega arith

-- Adding a member gives the same set whether or not the member was taken out before.
pub plus-minus : (m : Set) (t : ℕ) → plus m t ≡ plus (minus m t) t
unfolding plus
plus-minus m t =
    ext-bits _ _ (λ i.
    let p = bit-or i m (2 ^ t) in
    let q = bit-or i (minus m t) (2 ^ t) in
    let x = bit_le i m in
    let y = bit_le i (minus m t) in
    ⊎_elim (λ e.
    let o : bit i (2 ^ t) ≡ 1 = rw e (bit-one t) in
    omega arith) (λ n.
    let r = minus-other i m t n in
    omega arith) (same-or-other i t))

-- ---- The members of each operation's result.
max-digit : (p q : Bool) → max (digit p) (digit q) ≡ digit (p || q)
max-digit true true = refl
max-digit true false = refl
max-digit false true = refl
max-digit false false = refl

pub has-empty : (x : ℕ) → has empty x ≡ false
has-empty x = bit-hasnt empty x (bit-zero x)

pub has-union : (a b : Set) (x : ℕ) → has (union a b) x ≡ (has a x || has b x)
unfolding union
has-union a b x = has-digit _ x _ (bit-or x a b ∙ ap₂ max (digit-has a x) (digit-has b x) ∙ max-digit (has a x) (has b x))

has-pow : (t x : ℕ) → has (2 ^ t) x ≡ eqb x t
has-pow t x =
    ⊎_elim
    (λ (e : x ≡ t). bit-has (2 ^ t) x (ap (λ (i : ℕ). bit i (2 ^ t)) e ∙ bit-one t) ∙ sym (eq-eqb x t e))
    (λ n. bit-hasnt (2 ^ t) x (bit-other x t n) ∙ sym (ne_eqb x t n))
    (same-or-other x t)

pub has-plus : (m : Set) (t x : ℕ) → has (plus m t) x ≡ (has m x || eqb x t)
unfolding plus union
has-plus m t x = has-union m (2 ^ t) x ∙ ap (λ b. has m x || b) (has-pow t x)

pub has-minus : (m : Set) (t x : ℕ) → has (minus m t) x ≡ (has m x && not (eqb x t))
has-minus m t x =
    ⊎_elim
    (λ (e : x ≡ t). bit-hasnt (minus m t) x (ap (λ (i : ℕ). bit i (minus m t)) e ∙ minus-same m t)
    ∙ sym (ap (λ b. has m x && not b) (eq-eqb x t e) ∙ and-false (has m x)))
    (λ n. same-has (minus m t) m x (minus-other x m t n)
    ∙ sym (ap (λ b. has m x && not b) (ne_eqb x t n) ∙ and-true (has m x)))
    (same-or-other x t)

pub has_new : (d : Set) (c : ℕ) → has (plus d c) c ≡ true
has_new d c = has-plus d c c ∙ ap (λ b. has d c || b) (eq-eqb c c refl) ∙ or-true (has d c)

pub has-old : (d : Set) (c x : ℕ) → has d x ≡ true → has (plus d c) x ≡ true
has-old d c x h = has-plus d c x ∙ ap (λ b. b || eqb x c) h

pub has_other : (d : Set) (c x : ℕ) → (x ≡ c → ⊥) → has (plus d c) x ≡ has d x
has_other d c x n = has-plus d c x ∙ ap (λ b. has d x || b) (ne_eqb x c n) ∙ or-false (has d x)

-- A member of `plus d c` is c or a member of d.
pub plus-member : (d : Set) (c x : ℕ) → has (plus d c) x ≡ true → (x ≡ c) ⊎ (has d x ≡ true)
plus-member d c x h = ⊎_elim (λ e. inl e) (λ n. inr (sym (has_other d c x n) ∙ h)) (same-or-other x c)

pub has-gone : (d : Set) (c : ℕ) → has (minus d c) c ≡ false
has-gone d c = bit-hasnt (minus d c) c (minus-same d c)

pub has_kept : (d : Set) (c x : ℕ) → (x ≡ c → ⊥) → has (minus d c) x ≡ has d x
has_kept d c x n = same-has (minus d c) d x (minus-other x d c n)

-- ---- The numbers below n for which f holds.
collect-step : (n : ℕ) (f : ℕ → Bool) (x : ℕ) → has (collect (suc n) f) x ≡ (has (collect n f) x || (f n && eqb x n))
unfolding collect
collect-step n f x = go (f n)
  where
    go : (b : Bool) → has (cond b (plus (collect n f) n) (collect n f)) x ≡ (has (collect n f) x || (b && eqb x n))
    go true = has-plus (collect n f) n x
    go false = sym (or-false (has (collect n f) x))

pub collect-above : (n : ℕ) (f : ℕ → Bool) (x : ℕ) → n ≤ x → has (collect n f) x ≡ false
unfolding collect
collect-above zero f x l = has-empty x
collect-above (suc n) f x l =
    collect-step n f x ∙ ap₂ ◌||◌ (collect-above n f x (omega arith)) (ap (λ b. f n && b) (ne_eqb x n (omega arith)) ∙ and-false (f n))

pub collect-below : (n : ℕ) (f : ℕ → Bool) (x : ℕ) → x < n → has (collect n f) x ≡ f x
collect-below zero f x l = absurd (not-suc-le-zero l)
collect-below (suc n) f x l =
    ⊎_elim
    (λ (e : x ≡ n). collect-step n f x
    ∙ ap₂ ◌||◌ (collect-above n f x (omega arith)) (ap (λ b. f n && b) (eq-eqb x n e) ∙ and-true (f n) ∙ sym (ap f e)))
    (λ n'. collect-step n f x
    ∙ ap₂ ◌||◌ (collect-below n f x (omega arith)) (ap (λ b. f n && b) (ne_eqb x n n') ∙ and-false (f n)) ∙ or-false (f x))
    (same-or-other x n)

-- f holds for some number below n exactly if the set of these numbers is not empty.
pub some-collected : (n : ℕ) (f : ℕ → Bool) → some_number_below n f ≡ not (eqb (collect n f) empty)
some-collected n f = by (some_number_below n f) refl (eqb (collect n f) empty) refl
  where
    none : collect n f ≡ empty → (k : ℕ) → k < n → f k ≡ false
    none e k l = sym (collect-below n f k l) ∙ ap (λ m. has m k) e ∙ has-empty k

    all : some_number_below n f ≡ false → (x : ℕ) → has (collect n f) x ≡ has empty x
    all h x = at (ltb x n) refl
      where
        at : (b : Bool) → ltb x n ≡ b → has (collect n f) x ≡ has empty x
        at true o = let l = ltb-true x n o in collect-below n f x l ∙ none_below n f h x l ∙ sym (has-empty x)
        at false o = collect-above n f x (ltb-false x n o) ∙ sym (has-empty x)

    by : (s : Bool) → some_number_below n f ≡ s → (e : Bool) → eqb (collect n f) empty ≡ e → s ≡ not e
    by true h true e = absurd (true≢false (sym h ∙ below_none n f (none (eqb-true _ _ e))))
    by true h false e = refl
    by false h true e = refl
    by false h false e = absurd (eqb-false _ _ e (same-members (collect n f) empty (all h)))

pub collect-same : (n : ℕ) (f g : ℕ → Bool) → ((x : ℕ) → x < n → f x ≡ g x) → collect n f ≡ collect n g
unfolding collect
collect-same zero f g h = refl
collect-same (suc n) f g h =
    ap₂ (λ (b : Bool) (m : Set). cond b (plus m n) m) (h n (omega arith)) (collect-same n f g (λ x l. h x (omega arith)))

-- A set below 2 ^ n has only members below n, and a set with only such members is below 2 ^ n.
pub has_above : (n : ℕ) (m : Set) (i : ℕ) → m < 2 ^ n → n ≤ i → has m i ≡ false
has_above n m i h l = bit-hasnt m i (bit-above n i m h l)

pub below-members : (n : ℕ) (m : Set) → ((i : ℕ) → n ≤ i → has m i ≡ false) → m < 2 ^ n
below-members n m h = below-bits n m (λ i l. hasnt-bit m i (h i l))

pub member_below : (n : ℕ) (m : Set) (i : ℕ) → m < 2 ^ n → has m i ≡ true → i < n
member_below n m i h e = at (ltb i n) refl
  where
    at : (b : Bool) → ltb i n ≡ b → i < n
    at true o = ltb-true i n o
    at false o = let z = bit-above n i m h (ltb-false i n o) in let k = has-bit m i e in omega arith

pub plus-lt : (n : ℕ) (m : Set) (i : ℕ) → m < 2 ^ n → i < n → plus m i < 2 ^ n
unfolding plus
plus-lt n m i h l = or_lt n m (2 ^ i) h (pow-lt l)

pub union-lt : (n : ℕ) (a b : Set) → a < 2 ^ n → b < 2 ^ n → union a b < 2 ^ n
unfolding union
union-lt = or_lt

pub collect-lt : (n : ℕ) (f : ℕ → Bool) → collect n f < 2 ^ n
collect-lt n f = below-members n (collect n f) (collect-above n f)

-- ---- Parts of a set.

-- Every member of a is a member of b.
unfoldable pub Part : Set → Set → Type 0
Part a b = (i : ℕ) → bit i a ≤ bit i b

pub part-refl : (a : Set) → Part a a
unfolding Part
part-refl a i = le_refl (bit i a)

pub part-trans : (a b c : Set) → Part a b → Part b c → Part a c
unfolding Part
part-trans a b c p q i = let y = p i in let w = q i in omega arith

pub part_same : (a b : Set) → Part a b → Part b a → a ≡ b
unfolding Part
part_same a b p q = ext-bits a b (λ i. let y = p i in let w = q i in omega arith)

pub part-empty : (a : Set) → Part empty a
unfolding Part
part-empty a i = rw (bit-zero i) (omega arith)

pub part-plus : (a b : Set) (t : ℕ) → Part a b → Part (plus a t) (plus b t)
unfolding Part plus
part-plus a b t h i =
    let p = h i in
    let x = bit-or i a (2 ^ t) in
    let y = bit-or i b (2 ^ t) in
    omega arith

pub part-more : (a b : Set) (t : ℕ) → Part a b → Part a (plus b t)
unfolding Part plus
part-more a b t h i =
    let p = h i in
    let y = bit-or i b (2 ^ t) in
    omega arith

pub part-minus : (a : Set) (t : ℕ) → Part (minus a t) a
unfolding Part
part-minus a t i =
    ⊎_elim (λ e. let x : bit i (minus a t) ≡ 0 = ap (λ (j : ℕ). bit j (minus a t)) e ∙ minus-same a t in omega arith)
    (λ n. let x = minus-other i a t n in omega arith) (same-or-other i t)

pub part-le : (a b : Set) → Part a b → a ≤ b
unfolding Part
part-le a b h = le-bits a b h

pub minus-lt : (n : ℕ) (m : Set) (i : ℕ) → m < 2 ^ n → minus m i < 2 ^ n
minus-lt n m i h = let l = part-le (minus m i) m (part-minus m i) in omega arith

pub minus-less : (m : Set) (t : ℕ) → has m t ≡ true → minus m t < m
minus-less m t h =
    ⊎_elim (λ (e : minus m t ≡ m). absurd (true≢false (sym h ∙ ap (λ (d : Set). has d t) (sym e) ∙ has-gone m t))) (λ n.
    let l = part-le (minus m t) m (part-minus m t) in
    omega arith) (same-or-other (minus m t) m)

pub has_part : (a b : Set) (i : ℕ) → Part a b → has a i ≡ true → has b i ≡ true
unfolding Part
has_part a b i h e =
    let p = h i in
    let q = has-bit a i e in
    let r = bit_le i b in
    bit-has b i (omega arith)

pub part-has : (a b : Set) → ((i : ℕ) → has a i ≡ true → has b i ≡ true) → Part a b
unfolding Part
part-has a b h i =
    ⊎_elim
    (λ e. let p = has-bit b i (h i e) in let l = bit_le i a in omega arith)
    (λ e. let p = hasnt-bit a i e in omega arith)
    (in-or-out (has a i))

-- ---- The test `within`: it holds exactly for parts.
pub within-part : (a b : Set) → within a b ≡ true → Part a b
unfolding within cut Part
within-part a b h i =
    let e : bit i (bit_and a b) ≡ bit i a = ap (bit i) (eqb-true (bit_and a b) a h) in
    let p = bit-and i a b in
    omega arith

pub part-within : (a b : Set) → Part a b → within a b ≡ true
unfolding within cut Part
part-within a b h = eq-eqb (bit_and a b) a (ext-bits (bit_and a b) a (λ i. let p = bit-and i a b in let q = h i in omega arith))

pub within_has : (a b : Set) (i : ℕ) → within a b ≡ true → has a i ≡ true → has b i ≡ true
within_has a b i h = has_part a b i (within-part a b h)

pub has_within : (a b : Set) → ((i : ℕ) → has a i ≡ true → has b i ≡ true) → within a b ≡ true
has_within a b h = part-within a b (part-has a b h)

pub within-refl : (a : Set) → within a a ≡ true
within-refl a = part-within a a (part-refl a)

pub within-trans : (a b c : Set) → within a b ≡ true → within b c ≡ true → within a c ≡ true
within-trans a b c p q = part-within a c (part-trans a b c (within-part a b p) (within-part b c q))

pub within-empty : (a : Set) → within empty a ≡ true
within-empty a = part-within empty a (part-empty a)

-- A search for a number below n that is in a and not in b finds none exactly if a is within b.
pub none-astray : (n : ℕ) (a b : Set) (f : ℕ → Bool) → a < 2 ^ n → ((i : ℕ) → i < n → f i ≡ has a i && not (has b i)) → not (some_number_below n f) ≡ within a b
none-astray n a b f l are = by (some_number_below n f) refl (within a b) refl
  where
    inside : within a b ≡ true → (i : ℕ) → i < n → f i ≡ false
    inside h i k = are i k ∙ ⊎_elim (λ e. ap (λ x. has a i && not x) (within_has a b i h e) ∙ and-false (has a i)) (λ e. rw e) (in-or-out (has a i))

    outside : some_number_below n f ≡ false → (i : ℕ) → has a i ≡ true → has b i ≡ true
    outside h i e =
        let k = member_below n a i l e in
        not-false _ (sym (rw e at (are i k)) ∙ none_below n f h i k)

    by : (s : Bool) → some_number_below n f ≡ s → (w : Bool) → within a b ≡ w → not s ≡ w
    by true e true h = absurd (true≢false (sym e ∙ below_none n f (inside h)))
    by true e false h = refl
    by false e true h = refl
    by false e false h = absurd (true≢false (sym (has_within a b (outside e)) ∙ h))

pub within-minus : (a : Set) (t : ℕ) → within (minus a t) a ≡ true
within-minus a t = part-within (minus a t) a (part-minus a t)

pub within-plus : (a b : Set) (t : ℕ) → within a b ≡ true → within a (plus b t) ≡ true
within-plus a b t h = part-within a (plus b t) (part-more a b t (within-part a b h))

-- ---- The size of a set is the number of ones, which the library counts.
ones_in-ones : (d m : ℕ) → m ≤ d → ones_in d m ≡ ones m
unfolding ones_in ones
ones_in-ones zero zero h = refl
ones_in-ones zero (suc m) h = let z : ⊥ = omega arith in absurd z
ones_in-ones (suc d) zero h = refl
ones_in-ones (suc d) (suc m) h = ap (λ (x : ℕ). suc m % 2 + x) (ones_in-ones d (suc m / 2) (half_le h)) ∙ sym (ones_step (suc m))

pub size-ones : (m : Set) → size m ≡ ones m
unfolding size
size-ones m = ones_in-ones m m (le_refl m)

pub size-le : (n : ℕ) (m : Set) → m < 2 ^ n → size m ≤ n
size-le n m h = let x = size-ones m in let l = ones-le n m h in omega arith

pub size-part : (a b : Set) → Part a b → size a ≤ size b
unfolding Part
size-part a b h = let x = size-ones a in let y = size-ones b in let l = ones-bits a b h in omega arith

-- ---- The size of an overlap.
pub overlap-ones : (m d : Set) → overlap m d ≡ ones (bit_and m d)
unfolding overlap cut
overlap-ones m d = size-ones (bit_and m d)

pub overlap-in : (m d : Set) (t : ℕ) → has m t ≡ true → overlap m (plus d t) ≡ overlap m (minus d t) + 1
unfolding plus
overlap-in m d t h =
    let e : bit_and m (bit_or d (2 ^ t)) ≡ bit_or (bit_and m (minus d t)) (2 ^ t) =
    ap (bit_and m) (plus-minus d t) ∙ and-or-in m (minus d t) t (has-bit m t h) in
    let o = ones-or t (bit_and m (minus d t)) in
    let a = bit-and t m (minus d t) in
    let r = minus-same d t in
    let p = ap ones e in
    let x = overlap-ones m (bit_or d (2 ^ t)) in
    let y = overlap-ones m (minus d t) in
    omega arith

pub overlap-out : (m d : Set) (t : ℕ) → has m t ≡ false → overlap m (plus d t) ≡ overlap m d
unfolding plus
overlap-out m d t h = overlap-ones m (bit_or d (2 ^ t)) ∙ ap ones (and-or-out m d t (hasnt-bit m t h)) ∙ sym (overlap-ones m d)

pub overlap-empty : (m : Set) → overlap m empty ≡ 0
unfolding overlap cut size ones_in
overlap-empty m = ap (λ (x : ℕ). ones_in x x) (and_zero_r m)

pub overlap-part : (m a b : Set) → Part a b → overlap m a ≤ overlap m b
unfolding Part overlap cut
overlap-part m a b h =
    size-part (bit_and m a) (bit_and m b) (unfold Part in λ i.
    let p = bit-and i m a in
    let q = bit-and i m b in
    let r = h i in
    omega arith)

-- ---- Sets that meet.
pub meets-empty : (m : Set) → meets m empty ≡ false
unfolding meets cut
meets-empty m = ap (λ (x : ℕ). not (eqb x 0)) (and_zero_r m)

pub meets-plus : (m d : Set) (c : ℕ) → has m c ≡ false → meets m (plus d c) ≡ meets m d
unfolding meets cut plus
meets-plus m d c h = ap (λ (x : ℕ). not (eqb x 0)) (and-or-out m d c (hasnt-bit m c h))

pub apart : (m k : Set) → meets m k ≡ false → cut m k ≡ empty
unfolding meets
apart m k h = eqb-true _ _ (not-false (eqb (cut m k) 0) h)

pub none-common : (m k : Set) (t : ℕ) → meets m k ≡ false → has m t ≡ true → has k t ≡ true → ⊥
unfolding cut
none-common m k t h p q =
    let a = ap (bit t) (apart m k h) in
    let b = bit-and t m k in
    let x = has-bit m t p in
    let y = has-bit k t q in
    let z = bit-zero t in
    omega arith

pub common-meets : (m k : Set) (t : ℕ) → has m t ≡ true → has k t ≡ true → meets m k ≡ true
common-meets m k t p q = ⊎_elim (λ e. e) (λ e. absurd (none-common m k t e p q)) (in-or-out (meets m k))

pub meets-common : (m k : Set) → meets m k ≡ true → (t : ℕ) × (has m t ≡ true) × (has k t ≡ true)
unfolding meets cut
meets-common m k h =
    let some = some-bit (bit_and m k) (λ e. eqb-false _ _ (not-true (eqb (bit_and m k) 0) h) e) in
    let p = bit-and some.0 m k in
    let q = some.1 in
    let x = bit_le some.0 m in
    let y = bit_le some.0 k in
    (some.0, bit-has m some.0 (omega arith), bit-has k some.0 (omega arith))

pub meets-none : (m k : Set) → ((t : ℕ) → has m t ≡ true → has k t ≡ true → ⊥) → meets m k ≡ false
meets-none m k n =
    ⊎_elim (λ e. let c = meets-common m k e in absurd (n c.0 c.1 c.2)) (λ e. e) (in-or-out (meets m k))

pub meets-part : (m a b : Set) → Part a b → meets m a ≡ true → meets m b ≡ true
meets-part m a b h e = let c = meets-common m a e in common-meets m b c.0 c.1 (has_part a b c.0 h c.2)

pub meets-new : (m d : Set) (c : ℕ) → has m c ≡ true → meets m (plus d c) ≡ true
meets-new m d c h = common-meets m (plus d c) c h (has_new d c)

-- ---- Unions.
pub part_left : (a b : Set) → Part a (union a b)
unfolding Part union
part_left a b i = let x = bit-or i a b in omega arith

pub part_right : (a b : Set) → Part b (union a b)
unfolding Part union
part_right a b i = let x = bit-or i a b in omega arith

pub part-union : (a b z : Set) → Part a z → Part b z → Part (union a b) z
unfolding Part union
part-union a b z p q i = let x = bit-or i a b in let y = p i in let w = q i in omega arith

pub union-le : (n : ℕ) (f : ℕ → Set) (z : Set) → ((k : ℕ) → k < n → Part (f k) z) → Part (union_below n f) z
unfolding union_below
union-le zero f z h = part-empty z
union-le (suc n) f z h = part-union _ _ z (union-le n f z (λ k l. h k (omega arith))) (h n (omega arith))

pub union-ge : (n : ℕ) (f : ℕ → Set) (k : ℕ) → k < n → Part (f k) (union_below n f)
unfolding union_below
union-ge zero f k l = absurd (not-suc-le-zero l)
union-ge (suc n) f k l =
    ⊎_elim (λ e. rw e (part_right _ _)) (λ q. part-trans _ _ _ (union-ge n f k (omega arith)) (part_left _ _)) (same-or-other k n)

pub has-union_below : (n : ℕ) (f : ℕ → Set) (x : ℕ) → has (union_below n f) x ≡ some_number_below n (λ k. has (f k) x)
unfolding union_below some_number_below
has-union_below zero f x = has-empty x
has-union_below (suc n) f x =
    has-union (union_below n f) (f n) x ∙ ap (λ b. b || has (f n) x) (has-union_below n f x) ∙ swap (some_number_below n (λ k. has (f k) x)) (has (f n) x)
  where
    swap : (a b : Bool) → (a || b) ≡ (b || a)
    swap true true = refl
    swap true false = refl
    swap false true = refl
    swap false false = refl
