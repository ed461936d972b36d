-- Laws about the seven tables of names: each lies within the scratch buffer, and they do not overlap.
use Prim.Native.Nat.{ℕ, zero, suc, ◌+◌, ◌*◌, ◌-◌, ◌≤◌, ◌<◌}
use mathlib.Core.Path.{◌≡◌, refl, sym, ap, ◌∙◌}
use mathlib.Core.Bool.{Bool, true, false}
use mathlib.Core.List.{List, [], ◌++◌}
use native.Mathlib.Omega.{arith}
use lib.Dec.{eqb, ltb}
use lib.ListN.{length, get_or, take, drop, set, length-drop, length-append, take-append-drop}
use lib.Seq.{length-take-le, take-append-le, drop-append-le, drop-append-add, drop-drop, drop-set-add, drop-set-lt, take-set-le, get_or-drop, take_at, drop_at}
use borrow.Author.Tests.{eqb-true, eqb-false, ltb-true, ltb-false}
use Rattle.opl_spaces.specs.Spaces.{limit_of, base_of, size_of, table_words, list_place, scratch_words, table_of, list_of, Apart, Empties, DeclaresIn}
use Rattle.paper_opl.specs.Reading.{Text}
use Rattle.opl_names.specs.Table.{Emptied, Declares}
use Rattle.std.specs.Prelude.{Option}

-- The table of space i has room for 1 to 65,536 names, and lies before the kept records.
pub record Bounds (i : ℕ) : Type 0 where
  pub some : 0 < limit_of i
  pub few : limit_of i ≤ 65536
  pub fits : base_of i + size_of i ≤ table_words

bound : (i b n : ℕ) → base_of i ≡ b → limit_of i ≡ n → 0 < n → n ≤ 65536 → b + (1 + 3 * n) ≤ table_words → Bounds i
bound i b n p q x y z = record { some = rw q x; few = rw q y; fits = rw (p, q) z }

pub bounds : (i : ℕ) → i < 7 → Bounds i
unfolding base_of limit_of
bounds zero h = bound 0 0 1024 refl refl (omega arith) (omega arith) (omega arith)
bounds (suc zero) h = bound 1 3073 64 refl refl (omega arith) (omega arith) (omega arith)
bounds (suc (suc zero)) h = bound 2 3266 256 refl refl (omega arith) (omega arith) (omega arith)
bounds (suc (suc (suc zero))) h = bound 3 4035 65536 refl refl (omega arith) (omega arith) (omega arith)
bounds (suc (suc (suc (suc zero)))) h = bound 4 200644 65536 refl refl (omega arith) (omega arith) (omega arith)
bounds (suc (suc (suc (suc (suc zero))))) h = bound 5 397253 64 refl refl (omega arith) (omega arith) (omega arith)
bounds (suc (suc (suc (suc (suc (suc zero)))))) h = bound 6 397446 16 refl refl (omega arith) (omega arith) (omega arith)
bounds (suc (suc (suc (suc (suc (suc (suc i))))))) h = absurd (omega arith)

next-base : (i : ℕ) → suc i < 7 → base_of (suc i) ≡ base_of i + size_of i
unfolding base_of limit_of
next-base zero h = refl
next-base (suc zero) h = refl
next-base (suc (suc zero)) h = refl
next-base (suc (suc (suc zero))) h = refl
next-base (suc (suc (suc (suc zero)))) h = refl
next-base (suc (suc (suc (suc (suc zero))))) h = refl
next-base (suc (suc (suc (suc (suc (suc i)))))) h = absurd (omega arith)

-- The table of a lower space ends before that of a higher one begins.
before : (i j : ℕ) → i < j → j < 7 → base_of i + size_of i ≤ base_of j
before i zero l h = absurd (omega arith)
before i (suc j) l h = go (eqb i j) refl (before i j)
  where
    go : (x : Bool) → eqb i j ≡ x → (i < j → j < 7 → base_of i + size_of i ≤ base_of j) → base_of i + size_of i ≤ base_of (suc j)
    go true e rest = let q = eqb-true i j e in rw q (omega (arith, next-base j h))
    go false e rest = let d = eqb-false i j e in omega (arith, next-base j h, rest (omega arith) (omega arith))

-- A part that lies within the first of two joined lists.
inner : (x y : List ℕ) (b k : ℕ) → b + k ≤ length x → take k (drop b (x ++ y)) ≡ take k (drop b x)
inner x y b k h =
    let i : b ≤ length x = omega arith in
    let j : k ≤ length (drop b x) = omega (arith, length-drop b x) in
    rw (drop-append-le b x y i, take-append-le k (drop b x) y j)

-- ---- A store after the tables changes no table.
pub table_kept : (i : ℕ) → i < 7 → (l : List ℕ) (k v : ℕ) → table_words ≤ k → table_of i (set l k v) ≡ table_of i l
unfolding table_of
table_kept i h l k v b =
    let f = (bounds i h).fits in
    let e : base_of i + (k - base_of i) ≡ k = omega (arith, f) in
    ap (λ (z : ℕ). take (size_of i) (drop (base_of i) (set l z v))) (sym e) ∙ ap (take (size_of i)) (drop-set-add (base_of i) l (k - base_of i) v)
    ∙ take-set-le (size_of i) (drop (base_of i) l) (k - base_of i) v (omega (arith, f))

-- ---- A store before the list of tags does not change the list; a store in it changes one word of it.
pub list-kept : (l : List ℕ) (k v : ℕ) → k < list_place → list_of (set l k v) ≡ list_of l
unfolding list_of
list-kept l k v h = drop-set-lt list_place l k v h

pub list_set : (l : List ℕ) (k v : ℕ) → list_of (set l (list_place + k) v) ≡ set (list_of l) k v
unfolding list_of
list_set l k v = drop-set-add list_place l k v

pub list_at : (l : List ℕ) (k : ℕ) → get_or (list_of l) k 0 ≡ get_or l (list_place + k) 0
unfolding list_of
list_at l k = get_or-drop list_place l k 0

pub list_length : (l : List ℕ) → length l ≡ scratch_words → length (list_of l) ≡ 262145
unfolding list_of
list_length l h = omega (arith, length-drop list_place l, h)

-- ---- A part of a list is replaced: what is before it, in it and after it.
module _ (l p : List ℕ) (from to : ℕ) (order : from ≤ to) (inside : to ≤ length l) (same : length p ≡ to - from) where
  front : length (take from l) ≡ from
  front = length-take-le from l (omega arith)

  pub part_length : length (take from l ++ (p ++ drop to l)) ≡ length l
  part_length = simp (length-append, length-drop) (omega (arith, front, same))

  pub part-before : (b k : ℕ) → b + k ≤ from → take k (drop b (take from l ++ (p ++ drop to l))) ≡ take k (drop b l)
  part-before b k h =
      inner (take from l) (p ++ drop to l) b k (omega (arith, front)) ∙ sym (inner (take from l) (drop from l) b k (omega (arith, front)))
      ∙ ap (λ (z : List ℕ). take k (drop b z)) (take-append-drop from l)

  pub part-here : take (to - from) (drop from (take from l ++ (p ++ drop to l))) ≡ p
  part-here = rw (drop_at (take from l) (p ++ drop to l) from front, take_at p (drop to l) (to - from) same)

  pub part-behind : (b : ℕ) → to ≤ b → drop b (take from l ++ (p ++ drop to l)) ≡ drop b l
  part-behind b h =
      let e : b ≡ length (take from l) + (length p + (b - to)) = omega (arith, front, same) in
      let f : to + (b - to) ≡ b = omega arith in
      ap (λ (z : ℕ). drop z (take from l ++ (p ++ drop to l))) e ∙ drop-append-add (take from l) (p ++ drop to l) (length p + (b - to))
      ∙ drop-append-add p (drop to l) (b - to) ∙ drop-drop (b - to) to l ∙ ap (λ (z : ℕ). drop z l) f

-- ---- One table is replaced: the other tables and the list stay.
module _ (i : ℕ) (h : i < 7) (l p : List ℕ) (from to : ℕ) (first : from ≡ base_of i) (last : to ≡ base_of i + size_of i) (room : length l ≡ scratch_words) (size : length p ≡ size_of i) where
  order : from ≤ to
  order = omega arith

  inside : to ≤ length l
  inside = omega (arith, (bounds i h).fits)

  span : length p ≡ to - from
  span = omega arith

  width : to - from ≡ size_of i
  width = omega arith

  pub table_here : table_of i (take from l ++ (p ++ drop to l)) ≡ p
  unfolding table_of
  table_here = rw (← first, ← width) (part-here l p from to order inside span)

  other : (j : ℕ) → j < 7 → (j ≡ i → ⊥) → (x : Bool) → ltb j i ≡ x → table_of j (take from l ++ (p ++ drop to l)) ≡ table_of j l
  unfolding table_of
  other j k d true e = part-before l p from to order inside span (base_of j) (size_of j) (omega (arith, before j i (ltb-true j i e) h))
  other j k d false e =
      let u = ltb-false j i e in
      ap (take (size_of j)) (part-behind l p from to order inside span (base_of j) (omega (arith, before i j (omega arith) k)))

  pub table-apart : Apart i l (take from l ++ (p ++ drop to l))
  unfolding list_of
  table-apart =
      record {
        room = part_length l p from to order inside span;
        others = λ j k d. other j k d (ltb j i) refl;
        list = part-behind l p from to order inside span list_place (omega (arith, (bounds i h).fits));
      }

-- ---- A table as the code lends it: the words for n names, from an index on.
module _ (i : ℕ) (h : i < 7) (l : List ℕ) (n from : ℕ) (limit : n ≡ limit_of i) (base : from ≡ base_of i) (room : length l ≡ scratch_words) where
  pub lent_fits : from + 1 + 3 * n ≤ scratch_words
  lent_fits = omega (arith, (bounds i h).fits)

  lent-width : from + 1 + 3 * n - from ≡ size_of i
  lent-width = omega arith

  pub lent_is : take (from + 1 + 3 * n - from) (drop from l) ≡ table_of i l
  unfolding table_of
  lent_is = rw (lent-width, base)

  pub lent_length : length (take (from + 1 + 3 * n - from) (drop from l)) ≡ 1 + 3 * n
  lent_length = length-take-le (from + 1 + 3 * n - from) (drop from l) (omega (arith, length-drop from l, lent_fits)) ∙ (omega arith)

  behind : (p : List ℕ) → take from l ++ (p ++ drop (from + 1 + 3 * n - from) (drop from l)) ≡ take from l ++ (p ++ drop (from + 1 + 3 * n) l)
  behind p = let e : from + (from + 1 + 3 * n - from) ≡ from + 1 + 3 * n = omega arith in rw (drop-drop (from + 1 + 3 * n - from) from l, e)

  module _ (p : List ℕ) (size : length p ≡ 1 + 3 * n) where
    pub lent-here : table_of i (take from l ++ (p ++ drop (from + 1 + 3 * n - from) (drop from l))) ≡ p
    lent-here = rw (behind p) (table_here i h l p from (from + 1 + 3 * n) base (omega arith) room (omega arith))

    pub lent-apart : Apart i l (take from l ++ (p ++ drop (from + 1 + 3 * n - from) (drop from l)))
    lent-apart = rw (behind p) (table-apart i h l p from (from + 1 + 3 * n) base (omega arith) room (omega arith))

  pub empties : (p : List ℕ) → Emptied n p → Empties i l (take from l ++ (p ++ drop (from + 1 + 3 * n - from) (drop from l)))
  empties p e =
      let size = (e.sound []).room in
      record { emptied = rw (lent-here p size, ← limit) e; apart = lent-apart p size }

  pub declares-in : (s w : Text) (p : List ℕ) (r : Option ℕ) → Declares s n w (take (from + 1 + 3 * n - from) (drop from l)) p r →
      DeclaresIn s i w l (take from l ++ (p ++ drop (from + 1 + 3 * n - from) (drop from l))) r
  declares-in s w p r e =
      let size = e.sound.room in
      record { declares = rw (lent-here p size, ← limit, ← lent_is) e; apart = lent-apart p size }
