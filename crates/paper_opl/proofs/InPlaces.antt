-- Records that are written to the next place of their kind, in any order, come out with rising kinds.
use mathlib.Core.Path.{◌≡◌, refl, sym, ap, ◌∙◌, subst}
use mathlib.Core.List.{List, [], ◌∷◌, ◌++◌, append_assoc, append-nil}
use mathlib.Core.Bool.{Bool, cond}
use Prim.Native.Nat.{ℕ, zero, suc, ◌+◌, ◌*◌, ◌-◌, ◌<◌, ◌≤◌}
use native.Mathlib.Omega.{arith}
use lib.Dec.{eqb}
use lib.ListN.{length, take, drop, length-append, length-drop, take-append-drop}
use lib.Seq.{take_at, drop_at, drop-append-le, drop-drop, length-take-le}
use borrow.Author.Tests.{eqb-true, eqb-false, eq-eqb, ne_eqb}
use Rattle.paper_lower.specs.Lists.{upd, many, Every}
use Rattle.paper_lower.specs.Records.{Bytes, Record, encode, put_at}
use Rattle.paper_lower.proofs.ListLaws.{upd_same, upd_other, many-append}
use Rattle.paper_lower.proofs.ReadBack.{sixteen}
use Rattle.paper_opl.specs.Naming.{written}
use Rattle.paper_opl.proofs.Inversion.{on_test}

-- ---- The output as one block for each kind: the bytes already written of it, and the bytes left for it.

body : ℕ → ℕ → (ℕ → Bytes) → (ℕ → Bytes) → Bytes → Bytes
body a zero done left rest = rest
body a (suc n) done left rest = done a ++ (left a ++ body (suc a) n done left rest)

body_same : (a n : ℕ) (d e l m : ℕ → Bytes) (rest : Bytes) → ((k : ℕ) → a ≤ k → k < a + n → (d k ≡ e k) × (l k ≡ m k)) → body a n d l rest ≡ body a n e m rest
unfolding body
body_same a zero d e l m rest h = refl
body_same a (suc n) d e l m rest h =
    let x = h a (omega arith) (omega arith) in
    rw (x.0, x.1, body_same (suc a) n d e l m rest (λ k i j. h k (omega arith) (omega arith)))

-- The number of bytes in the first j blocks.
before : ℕ → ℕ → (ℕ → Bytes) → (ℕ → Bytes) → ℕ
before a zero done left = 0
before a (suc j) done left = length (done a) + length (left a) + before (suc a) j done left

-- A record is written at the front of the bytes that are left.
put-here : (p d l rest : Bytes) (q : ℕ) (r : Record) → 16 * q ≡ length p + length d → 16 ≤ length l →
    put_at (p ++ (d ++ (l ++ rest))) q r ≡ p ++ ((d ++ encode r) ++ (drop 16 l ++ rest))
unfolding put_at
put-here p d l rest q r e h =
    let a = length-append p d in
    let w : (p ++ d) ++ (l ++ rest) ≡ p ++ (d ++ (l ++ rest)) = append_assoc p d (l ++ rest) in
    let t : take (16 * q) (p ++ (d ++ (l ++ rest))) ≡ p ++ d = ap (take (16 * q)) (sym w) ∙ take_at (p ++ d) (l ++ rest) (16 * q) (a ∙ sym e) in
    let u : drop (16 * q) (p ++ (d ++ (l ++ rest))) ≡ l ++ rest = ap (drop (16 * q)) (sym w) ∙ drop_at (p ++ d) (l ++ rest) (16 * q) (a ∙ sym e) in
    let v : drop (16 * q + 16) (p ++ (d ++ (l ++ rest))) ≡ drop 16 l ++ rest =
    sym (drop-drop 16 (16 * q) (p ++ (d ++ (l ++ rest)))) ∙ ap (drop 16) u ∙ drop-append-le 16 l rest h in
    rw (t, v) (append_assoc p d (encode r ++ (drop 16 l ++ rest)) ∙ ap (λ (x : Bytes). p ++ x) (sym (append_assoc d (encode r) (drop 16 l ++ rest))))

-- Changing an earlier block does not change the later ones.
body-other : (a n k : ℕ) (d l : ℕ → Bytes) (x y rest : Bytes) → k < a → body a n d l rest ≡ body a n (upd d k x) (upd l k y) rest
body-other a n k d l x y rest h =
    body_same a n d (upd d k x) l (upd l k y) rest (λ i o z. (sym (upd_other d k i x (λ e. omega arith)), sym (upd_other l k i y (λ e. omega arith))))

put_first : (n a : ℕ) (p : Bytes) (d l : ℕ → Bytes) (rest : Bytes) (q : ℕ) (r : Record) → 16 * q ≡ length p + length (d a) → 16 ≤ length (l a)
    → put_at (p ++ body a (suc n) d l rest) q r ≡ p ++ body a (suc n) (upd d a (d a ++ encode r)) (upd l a (drop 16 (l a))) rest
unfolding body
put_first n a p d l rest q r e h =
    put-here p (d a) (l a) (body (suc a) n d l rest) q r e h
    ∙ rw (
      upd_same d a a (d a ++ encode r) refl,
      upd_same l a a (drop 16 (l a)) refl,
      body-other (suc a) n a d l (d a ++ encode r) (drop 16 (l a)) rest (omega arith),
    )

-- The same with the first block counted among the bytes before.
later : (n a k : ℕ) (p : Bytes) (d l : ℕ → Bytes) (x y rest : Bytes) (q : ℕ) (r : Record) → (a ≡ k → ⊥)
    → put_at ((p ++ (d a ++ l a)) ++ body (suc a) n d l rest) q r ≡ (p ++ (d a ++ l a)) ++ body (suc a) n (upd d k x) (upd l k y) rest
    → put_at (p ++ body a (suc n) d l rest) q r ≡ p ++ body a (suc n) (upd d k x) (upd l k y) rest
unfolding body
later n a k p d l x y rest q r o v =
    ap (λ (z : Bytes). put_at z q r) (sym (three p (d a) (l a) (body (suc a) n d l rest))) ∙ v ∙
    three p (d a) (l a) (body (suc a) n (upd d k x) (upd l k y) rest)
    ∙ rw (upd_other d k a x o, upd_other l k a y o)
  where
    three : (p d l b : Bytes) → (p ++ (d ++ l)) ++ b ≡ p ++ (d ++ (l ++ b))
    three p d l b = append_assoc p (d ++ l) b ∙ ap (λ (z : Bytes). p ++ z) (append_assoc d l b)

-- A record is written into the block of its kind.
put-body : (n j a k : ℕ) (p : Bytes) (d l : ℕ → Bytes) (rest : Bytes) (q : ℕ) (r : Record) → j < n → k ≡ a + j →
    16 * q ≡ length p + before a j d l + length (d k) → 16 ≤ length (l k)
    → put_at (p ++ body a n d l rest) q r ≡ p ++ body a n (upd d k (d k ++ encode r)) (upd l k (drop 16 (l k))) rest
unfolding before
put-body zero j a k p d l rest q r i z e h = absurd (omega arith)
put-body (suc n) zero a k p d l rest q r i z e h =
    let x : k ≡ a = omega arith in
    rw x (put_first n a p d l rest q r (let y = rw x at e in omega arith) (rw x at h))
put-body (suc n) (suc j) a k p d l rest q r i z e h =
    let x = length-append p (d a ++ l a) in
    let y = length-append (d a) (l a) in
    let v = put-body n j (suc a) k (p ++ (d a ++ l a)) d l rest q r (omega arith) (omega arith) (omega arith) h in
    later n a k p d l (d k ++ encode r) (drop 16 (l k)) rest q r (λ w. omega arith) v

before_same : (j a : ℕ) (d l e m : ℕ → Bytes) → ((k : ℕ) → length (d k) + length (l k) ≡ length (e k) + length (m k)) → before a j d l ≡ before a j e m
unfolding before
before_same zero a d l e m h = refl
before_same (suc j) a d l e m h = let x = h a in let y = before_same j (suc a) d l e m h in omega arith

-- ---- Records with their kinds, each written to the next place of its kind.

abbrev pub Kinded : Type 0
Kinded = ℕ × Record

-- Writes each record to the next place of its kind.
unfoldable pub fill_all : (ℕ → ℕ) → List Kinded → Bytes → Bytes
fill_all next [] out = out
fill_all next (y ∷ ys) out = fill_all (upd next y.0 (suc (next y.0))) ys (put_at out (next y.0) y.1)

-- The records of kind k.
unfoldable pub picked : ℕ → List Kinded → List Record
picked k [] = []
picked k (y ∷ ys) = cond (eqb y.0 k) (y.1 ∷ picked k ys) (picked k ys)

-- The next place of each kind is right, and each block has exactly the space for its records.
abbrev Room : (ℕ → ℕ) → List Kinded → (ℕ → Bytes) → (ℕ → Bytes) → Type 0
Room next ys d l = (j k : ℕ) → j < 18 → k ≡ 1 + j → (16 * next k ≡ before 1 j d l + length (d k)) × (length (l k) ≡ 16 * many (picked k ys))

abbrev pub InKinds : Kinded → Type 0
InKinds y = (1 ≤ y.0) × (y.0 < 19)

no_bytes : (s : Bytes) → length s ≡ 0 → s ≡ []
no_bytes [] e = refl
no_bytes (b ∷ s) e = absurd (omega arith)

module _ (next : ℕ → ℕ) (k : ℕ) (r : Record) (ys : List Kinded) (d l : ℕ → Bytes) (room : Room next ((k, r) ∷ ys) d l) (low : 1 ≤ k) (high : k < 19) where
  here : (16 * next k ≡ before 1 (k - 1) d l + length (d k)) × (length (l k) ≡ 16 * suc (many (picked k ys)))
  unfolding picked many
  here = let x = room (k - 1) k (omega arith) (omega arith) in (x.0, x.1 ∙ rw (eq-eqb k k refl))

  -- The blocks afterwards.
  done : ℕ → Bytes
  done = upd d k (d k ++ encode r)

  left : ℕ → Bytes
  left = upd l k (drop 16 (l k))

  put_one : (rest : Bytes) → put_at (body 1 18 d l rest) (next k) r ≡ body 1 18 done left rest
  unfolding done left
  put_one rest = let x = here in
      let y = x.0 in
      let z = x.1 in
      put-body 18 (k - 1) 1 k [] d l rest (next k) r (omega arith) (omega arith) (omega arith) (omega arith)

  same_bytes : (i : ℕ) → length (d i) + length (l i) ≡ length (done i) + length (left i)
  unfolding done left
  same_bytes i =
      on_test (eqb i k)
      (λ q.
      let e = eqb-true i k q in
      let x = here.1 in
      let y = length-append (d k) (encode r) in
      let z = length-drop 16 (l k) in
      let w = sixteen r in
      rw (upd_same d k i (d k ++ encode r) e, upd_same l k i (drop 16 (l k)) e, e) (omega arith))
      (λ q. rw (upd_other d k i (d k ++ encode r) (eqb-false i k q), upd_other l k i (drop 16 (l k)) (eqb-false i k q)))

  room-left : Room (upd next k (suc (next k))) ys done left
  unfolding done left picked many
  room-left j i lt e =
      let b = before_same j 1 d l done left same_bytes in
      let o = room j i lt e in
      on_test (eqb i k)
      (λ q.
      let g = eqb-true i k q in
      let x = here.1 in
      let y = length-append (d k) (encode r) in
      let z = length-drop 16 (l k) in
      let w = sixteen r in
      let o0 : 16 * next k ≡ before 1 j d l + length (d k) = ap (λ (n : ℕ). 16 * next n) (sym g) ∙ o.0 ∙ ap (λ (n : ℕ). before 1 j d l + length (d n)) g in
      (rw (upd_same next k i (suc (next k)) g, upd_same d k i (d k ++ encode r) g) (omega arith), rw (upd_same l k i (drop 16 (l k)) g, g) (omega arith)))
      (λ q.
      let g = eqb-false i k q in
      let x : length (l i) ≡ 16 * many (picked i ys) =
      o.1 ∙ ap (λ (t : Bool). 16 * many (cond t (r ∷ picked i ys) (picked i ys))) (ne_eqb k i (λ h. g (sym h))) in
      let o0 = o.0 in
      (rw (upd_other next k i (suc (next k)) g, upd_other d k i (d k ++ encode r) g) (omega arith), rw (upd_other l k i (drop 16 (l k)) g) x))

  pick_same : (i : ℕ) → done i ++ written (picked i ys) ≡ d i ++ written (picked i ((k, r) ∷ ys))
  unfolding done picked written
  pick_same i =
      on_test (eqb i k)
      (λ q.
      let g = eqb-true i k q in
      subst (λ (j : ℕ). done j ++ written (picked j ys) ≡ d j ++ written (picked j ((k, r) ∷ ys))) (sym g)
      (rw (upd_same d k k (d k ++ encode r) refl, eq-eqb k k refl) (append_assoc (d k) (encode r) (written (picked k ys)))))
      (λ q.
      let g = eqb-false i k q in
      rw (upd_other d k i (d k ++ encode r) g, ne_eqb k i (λ h. g (sym h))))

filled : (ys : List Kinded) (next : ℕ → ℕ) (d l : ℕ → Bytes) (rest : Bytes) → Room next ys d l → Every InKinds ys
    → fill_all next ys (body 1 18 d l rest) ≡ body 1 18 (λ k. d k ++ written (picked k ys)) (λ k. []) rest
unfolding fill_all picked written many
filled [] next d l rest room h =
    body_same 1 18 d (λ k. d k ++ []) l (λ k. []) rest (λ k i j. (sym (append-nil (d k)), no_bytes (l k) (room (k - 1) k (omega arith) (omega arith)).1))
filled (y ∷ ys) next d l rest room h =
    ap (fill_all (upd next y.0 (suc (next y.0))) ys) (put_one next y.0 y.1 ys d l room h.0.0 h.0.1 rest)
    ∙ filled ys (upd next y.0 (suc (next y.0))) (done next y.0 y.1 ys d l room h.0.0 h.0.1)
    (left next y.0 y.1 ys d l room h.0.0 h.0.1) rest
    (room-left next y.0 y.1 ys d l room h.0.0 h.0.1) h.1
    ∙ body_same 1 18 _ (λ k. d k ++ written (picked k (y ∷ ys))) (λ k. []) (λ k. []) rest
    (λ k i j. (pick_same next y.0 y.1 ys d l room h.0.0 h.0.1 k, refl))

-- ---- The output at first, split into a block for each kind.

-- The records of n kinds from a on, by rising kind.
unfoldable pub gather : ℕ → ℕ → List Kinded → List Record
gather a zero ys = []
gather a (suc n) ys = picked a ys ++ gather (suc a) n ys

pub written-append : (rs us : List Record) → written (rs ++ us) ≡ written rs ++ written us
unfolding written
written-append [] us = refl
written-append (r ∷ rs) us = ap (λ (x : Bytes). encode r ++ x) (written-append rs us) ∙ sym (append_assoc (encode r) (written rs) (written us))

body-gathers : (n a : ℕ) (ys : List Kinded) (rest : Bytes) → body a n (λ k. written (picked k ys)) (λ k. []) rest ≡ written (gather a n ys) ++ rest
unfolding body gather written
body-gathers zero a ys rest = refl
body-gathers (suc n) a ys rest =
    ap (λ (x : Bytes). written (picked a ys) ++ x) (body-gathers n (suc a) ys rest) ∙
    sym (append_assoc (written (picked a ys)) (written (gather (suc a) n ys)) rest)
    ∙ ap (λ (x : Bytes). x ++ rest) (sym (written-append (picked a ys) (gather (suc a) n ys)))

module _ (out : Bytes) (s c : ℕ → ℕ) (steps : (k : ℕ) → 1 ≤ k → s (suc k) ≡ s k + c k) where
  segment : ℕ → Bytes
  segment k = take (16 * c k) (drop (16 * s k) out)

  rising-starts : (n a : ℕ) → 1 ≤ a → s a ≤ s (a + n)
  rising-starts zero a h = let z : a + 0 ≡ a = omega arith in rw z (omega arith)
  rising-starts (suc n) a h =
      let z : a + suc n ≡ suc a + n = omega arith in
      let x = rising-starts n (suc a) (omega arith) in
      let y = steps a h in
      rw z (omega arith)

  split-out : (n a : ℕ) → 1 ≤ a → drop (16 * s a) out ≡ body a n (λ k. []) segment (drop (16 * s (a + n)) out)
  unfolding body segment
  split-out zero a h = let z : a + 0 ≡ a = omega arith in rw z
  split-out (suc n) a h =
      let y = steps a h in
      let z : a + suc n ≡ suc a + n = omega arith in
      let w : 16 * s a + 16 * c a ≡ 16 * s (suc a) = omega arith in
      sym (take-append-drop (16 * c a) (drop (16 * s a) out))
      ∙ ap (λ (x : Bytes). take (16 * c a) (drop (16 * s a) out) ++ x) (drop-drop (16 * c a) (16 * s a) out ∙ ap (λ (m : ℕ). drop m out) w ∙
      split-out n (suc a) (omega arith) ∙ ap (λ (m : ℕ). body (suc a) n (λ k. []) segment (drop (16 * s m) out)) (sym z))

  pub starts-count : (ys : List Kinded) → ((k : ℕ) → 1 ≤ k → k < 19 → c k ≡ many (picked k ys)) → (n a : ℕ) → 1 ≤ a → a + n ≤ 19 →
      s a + many (gather a n ys) ≡ s (a + n)
  unfolding gather many
  starts-count ys counts zero a h l = let z : a + 0 ≡ a = omega arith in rw z (omega arith)
  starts-count ys counts (suc n) a h l =
      let z : a + suc n ≡ suc a + n = omega arith in
      let x = starts-count ys counts n (suc a) (omega arith) (omega arith) in
      let y = steps a h in
      let w = counts a h (omega arith) in
      let m = many-append (picked a ys) (gather (suc a) n ys) in
      rw z (omega arith)

  module _ (fits : 16 * s 19 ≤ length out) where
    segment-length : (k : ℕ) → 1 ≤ k → k < 19 → length (segment k) ≡ 16 * c k
    unfolding segment
    segment-length k h l =
        let x = rising-starts (18 - k) (suc k) (omega arith) in
        let z : suc k + (18 - k) ≡ 19 = omega arith in
        let y = steps k h in
        let x2 : s (suc k) ≤ s 19 = subst (λ (m : ℕ). s (suc k) ≤ s m) z x in
        let w = length-drop (16 * s k) out in
        length-take-le (16 * c k) (drop (16 * s k) out) (omega arith)

    before-segments : (j a : ℕ) → 1 ≤ a → a + j < 19 → 16 * s a + before a j (λ k. []) segment ≡ 16 * s (a + j)
    unfolding before
    before-segments zero a h l = let z : a + 0 ≡ a = omega arith in rw z (omega arith)
    before-segments (suc j) a h l =
        let z : a + suc j ≡ suc a + j = omega arith in
        let x = before-segments j (suc a) (omega arith) (omega arith) in
        let y = steps a h in
        let w = segment-length a h (omega arith) in
        rw z (omega arith)

    pub places : (ys : List Kinded) → s 1 ≡ 0 → ((k : ℕ) → 1 ≤ k → k < 19 → c k ≡ many (picked k ys)) → Every InKinds ys →
        fill_all s ys out ≡ written (gather 1 18 ys) ++ drop (16 * s 19) out
    unfolding body
    places ys zero-start counts h =
        let room : Room s ys (λ k. []) segment
        = λ j k i e.
        let x = before-segments j 1 (omega arith) (omega arith) in
        let y = segment-length k (omega arith) (omega arith) in
        let z = counts k (omega arith) (omega arith) in
        let w : 16 * s (1 + j) ≡ 16 * s k = ap (λ (m : ℕ). 16 * s m) (sym e) in
        (omega arith, omega arith) in
        let o : out ≡ body 1 18 (λ k. []) segment (drop (16 * s 19) out) = ap (λ (m : ℕ). drop (16 * m) out) (sym zero-start) ∙ split-out 18 1 (omega arith) in
        ap (fill_all s ys) o ∙ filled ys s (λ k. []) segment (drop (16 * s 19) out) room h ∙ body-gathers 18 1 ys (drop (16 * s 19) out)
