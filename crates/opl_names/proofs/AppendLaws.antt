-- A table of names is consistent after it is emptied and after a name is added, and then it has the names that it had before and the new one at the end.
use Prim.Native.Nat.{ℕ, zero, suc, ◌+◌, ◌*◌, ◌-◌, ◌/◌, ◌≤◌, ◌<◌}
use mathlib.Core.Path.{◌≡◌, refl, sym, ap, ◌∙◌}
use mathlib.Core.Bool.{Bool, true, false, cond}
use mathlib.Core.List.{List}
use native.Mathlib.Nat.{mod-lt}
use native.Mathlib.Numerals.{add-one}
use native.Mathlib.Omega.{arith}
use lib.Dec.{eqb, ltb}
use lib.ListN.{length, get_or, set, take, drop, length-set}
use lib.Seq.{get_or-set_same, get_or-set_other}
use borrow.Author.Count.{below_more}
use borrow.Author.Tests.{eqb-true, eqb-false, eq-eqb, ne_eqb, ltb-true, ltb-false, lt-ltb, le-ltb}
use Rattle.paper_lower.specs.Lists.{many, add}
use Rattle.paper_lower.specs.Lists.Maybe.{none, just}
use Rattle.replies.specs.Cells.{rows_from, rows}
use Rattle.replies.proofs.RowLaws.{many-rows, rows_same, rows_more}
use Rattle.paper_opl.specs.Reading.{Text}
use Rattle.paper_opl.specs.Naming.{place_of}
use Rattle.opl_names.specs.Table.{mark_of, bucket_of, kept, head_word, place_at, word_at, size_within, link_in, mark_in, packed, name_at, names_in, bucket_at, in_bucket, last_below, start_of, Sound, Emptied, Declares, with_name}
use Rattle.std.specs.Prelude.{Some, None}
use Rattle.opl_names.proofs.NameLaws.{place_kept, place-new, place-small, added-there, added_new}
use Rattle.opl_names.proofs.TableLaws.{last-le, last-same}

-- ---- A table without names.
start_none : (n : ℕ) (l : List ℕ) (h : ℕ) → kept l ≡ 0 → start_of n l h ≡ 0
unfolding start_of
start_none n l h e = go (head_word l h)
  where
    go : (x : ℕ) → cond (eqb x 0) 0 (cond (ltb (kept l) x) 0 (cond (in_bucket n l h (x - 1)) x 0)) ≡ 0
    go zero = refl
    go (suc x) = rw (e, ne_eqb (suc x) 0 (λ z. omega arith), lt-ltb 0 (suc x) (omega arith))

pub emptied : (n : ℕ) (l : List ℕ) → 0 < n → n ≤ 65536 → length l ≡ 1 + 3 * n → Emptied n (set l 0 0)
unfolding last_below names_in rows_from
emptied n l p q r =
    let e : kept (set l 0 0) ≡ 0 = get_or-set_same l 0 0 0 (omega arith) in
    record {
      sound = λ s. record {
        some = p;
        few = q;
        room = length-set l 0 0 ∙ r;
        within = omega (arith, e);
        inside = λ k h. absurd (omega (arith, e));
        marks = λ k h. absurd (omega (arith, e));
        firsts = λ k h. absurd (omega (arith, e));
        starts = λ h u. start_none n (set l 0 0) h e ∙ sym (ap (last_below (in_bucket n (set l 0 0) h)) e);
        links = λ k h. absurd (omega (arith, e));
      };
      empty = λ s. ap (rows (name_at s (set l 0 0))) e;
    }

-- ---- The words of a table with one more name, in bucket h: what changes, and what does not.
pub record Grown (l l' : List ℕ) (h at w : ℕ) : Type 0 where
  pub size : length l' ≡ length l
  pub count : kept l' ≡ kept l + 1
  pub head : head_word l' h ≡ kept l + 1
  pub heads : (j : ℕ) → (j ≡ h → ⊥) → head_word l' j ≡ head_word l j
  pub place : place_at l' (kept l) ≡ at
  pub places : (j : ℕ) → j < kept l → place_at l' j ≡ place_at l j
  pub word : word_at l' (kept l) ≡ w
  pub words : (j : ℕ) → j < kept l → word_at l' j ≡ word_at l j

-- A store at index i does not change the word at another index.
other : (l : List ℕ) (i v j : ℕ) → (j ≡ i → ⊥) → get_or (set l i v) j 0 ≡ get_or l j 0
other l i v j d = get_or-set_other l i j v 0 d

pub grown : (n : ℕ) (l : List ℕ) (h at w : ℕ) → length l ≡ 1 + 3 * n → kept l < n → h < n → Grown l (with_name l h at w) h at w
grown n l h at w r q u =
    let k = kept l in
    let l1 = set l (2 + 3 * k) at in
    let l2 = set l1 (3 + 3 * k) w in
    let l3 = set l2 (1 + 3 * h) (k + 1) in
    let r1 : length l1 ≡ 1 + 3 * n = length-set l (2 + 3 * k) at ∙ r in
    let r2 : length l2 ≡ 1 + 3 * n = length-set l1 (3 + 3 * k) w ∙ r1 in
    let r3 : length l3 ≡ 1 + 3 * n = length-set l2 (1 + 3 * h) (k + 1) ∙ r2 in
    record {
      size = length-set l3 0 (k + 1) ∙ r3 ∙ sym r;
      count = get_or-set_same l3 0 (k + 1) 0 (omega arith);
      head = other l3 0 (k + 1) (1 + 3 * h) (λ e. omega arith) ∙ get_or-set_same l2 (1 + 3 * h) (k + 1) 0 (omega arith);
      heads =
          λ j d. other l3 0 (k + 1) (1 + 3 * j) (λ e. omega arith) ∙ other l2 (1 + 3 * h) (k + 1) (1 + 3 * j) (λ e. d (omega arith)) ∙
          other l1 (3 + 3 * k) w (1 + 3 * j) (λ e. omega arith) ∙ other l (2 + 3 * k) at (1 + 3 * j) (λ e. omega arith);
      place =
          other l3 0 (k + 1) (2 + 3 * k) (λ e. omega arith) ∙ other l2 (1 + 3 * h) (k + 1) (2 + 3 * k) (λ e. omega arith) ∙
          other l1 (3 + 3 * k) w (2 + 3 * k) (λ e. omega arith) ∙ get_or-set_same l (2 + 3 * k) at 0 (omega arith);
      places =
          λ j d. other l3 0 (k + 1) (2 + 3 * j) (λ e. omega arith) ∙ other l2 (1 + 3 * h) (k + 1) (2 + 3 * j) (λ e. omega arith) ∙
          other l1 (3 + 3 * k) w (2 + 3 * j) (λ e. omega arith) ∙ other l (2 + 3 * k) at (2 + 3 * j) (λ e. omega arith);
      word =
          other l3 0 (k + 1) (3 + 3 * k) (λ e. omega arith) ∙ other l2 (1 + 3 * h) (k + 1) (3 + 3 * k) (λ e. omega arith) ∙
          get_or-set_same l1 (3 + 3 * k) w 0 (omega arith);
      words =
          λ j d. other l3 0 (k + 1) (3 + 3 * j) (λ e. omega arith) ∙ other l2 (1 + 3 * h) (k + 1) (3 + 3 * j) (λ e. omega arith) ∙
          other l1 (3 + 3 * k) w (3 + 3 * j) (λ e. omega arith) ∙ other l (2 + 3 * k) at (3 + 3 * j) (λ e. omega arith);
    }

pub names-many : (s : Text) (l : List ℕ) → 0 + many (names_in s l) ≡ kept l
unfolding names_in
names-many s l = let e = many-rows (name_at s l) 0 (kept l) in omega arith

-- ---- The names that these words read as.
module _ (s : Text) (n : ℕ) (l l' : List ℕ) (at size m : ℕ) (name : Text) (sound : Sound s n l)
    (g : Grown l l' (bucket_of n m) at (packed size (start_of n l (bucket_of n m)) m)) (room : kept l < n) (fits : at + size ≤ length s) (short : size ≤ 64)
    (is : name ≡ take size (drop at s)) (marked : m ≡ mark_of name) (new : place_of 0 name (names_in s l) ≡ none) (lower : bucket_of n m < n) where
  link-small : start_of n l (bucket_of n m) < 131072
  link-small = rw (sound.starts (bucket_of n m) lower) (omega (arith, last-le (in_bucket n l (bucket_of n m)) (kept l), sound.within, sound.few))

  size_is : size_within (word_at l' (kept l)) ≡ size
  size_is = rw g.word (omega arith)

  link-is : link_in (word_at l' (kept l)) ≡ start_of n l (bucket_of n m)
  link-is = rw g.word (omega (arith, link-small))

  mark-is : mark_in (word_at l' (kept l)) ≡ m
  mark-is = rw g.word (omega (arith, link-small))

  name_new : name_at s l' (kept l) ≡ name
  unfolding name_at
  name_new = rw (size_is, g.place) (sym is)

  name-old : (j : ℕ) → j < kept l → name_at s l' j ≡ name_at s l j
  unfolding name_at
  name-old j h = rw (g.words j h, g.places j h)

  pub names_more : names_in s l' ≡ add (names_in s l) name
  unfolding names_in
  names_more =
      ap (rows (name_at s l')) g.count ∙ rows_more (name_at s l') (kept l)
      ∙ rw (name_new, rows_same (name_at s l') (name_at s l) (kept l) name-old)

  bucket-new : bucket_at n l' (kept l) ≡ bucket_of n m
  bucket-new = ap (bucket_of n) mark-is

  bucket-old : (j : ℕ) → j < kept l → bucket_at n l' j ≡ bucket_at n l j
  bucket-old j h = ap (λ x. bucket_of n (mark_in x)) (g.words j h)

  last-old : (h j : ℕ) → j ≤ kept l → last_below (in_bucket n l' h) j ≡ last_below (in_bucket n l h) j
  last-old h j q = last-same (in_bucket n l' h) (in_bucket n l h) j (λ i u. ap (λ x. eqb x h) (bucket-old i (omega arith)))

  -- A property that holds for every number kept before, and for the new one, holds for every number kept now.
  each_number : (P : ℕ → Type 0) → ((j : ℕ) → j < kept l → P j) → P (kept l) → (j : ℕ) → j < kept l' → P j
  each_number P old last j h = below_more P (kept l) old last j (omega (arith, g.count))

  -- Every other bucket still has the same newest number, whatever its word is.
  start-other : (h : ℕ) → (h ≡ bucket_of n m → ⊥) → start_of n l' h ≡ start_of n l h
  unfolding start_of
  start-other h d = rw (g.heads h d, g.count) (go (head_word l h) (ltb (kept l) (head_word l h)) (ltb (kept l + 1) (head_word l h)) refl refl)
    where
      go : (x : ℕ) (low high : Bool) → ltb (kept l) x ≡ low → ltb (kept l + 1) x ≡ high →
          cond (eqb x 0) 0 (cond (ltb (kept l + 1) x) 0 (cond (in_bucket n l' h (x - 1)) x 0)) ≡
          cond (eqb x 0) 0 (cond (ltb (kept l) x) 0 (cond (in_bucket n l h (x - 1)) x 0))
      go zero low high p q = refl
      go (suc y) true true p q = rw (p, q)
      go (suc y) true false p q =
          let e : suc y - 1 ≡ kept l = omega (arith, ltb-true (kept l) (suc y) p, ltb-false (kept l + 1) (suc y) q) in
          rw (p, q, e, ne_eqb (bucket_at n l' (kept l)) h (λ z. d (sym z ∙ bucket-new)))
      go (suc y) false true p q = let z : ⊥ = omega (arith, ltb-false (kept l) (suc y) p, ltb-true (kept l + 1) (suc y) q) in absurd z
      go (suc y) false false p q = rw (p, q, bucket-old (suc y - 1) (omega (arith, ltb-false (kept l) (suc y) p)))

  start-new : start_of n l' (bucket_of n m) ≡ kept l + 1
  unfolding start_of
  start-new =
      let e : kept l + 1 - 1 ≡ kept l = omega arith in
      rw (
        g.head,
        g.count,
        ne_eqb (kept l + 1) 0 (λ z. omega arith),
        le-ltb (kept l + 1) (kept l + 1) (omega arith),
        e,
        eq-eqb (bucket_at n l' (kept l)) (bucket_of n m) bucket-new,
      )

  last-new : last_below (in_bucket n l' (bucket_of n m)) (kept l') ≡ kept l + 1
  unfolding last_below
  last-new = rw (g.count, add-one, eq-eqb (bucket_at n l' (kept l)) (bucket_of n m) bucket-new)

  last-other : (h : ℕ) → (h ≡ bucket_of n m → ⊥) → last_below (in_bucket n l' h) (kept l') ≡ last_below (in_bucket n l h) (kept l)
  unfolding last_below
  last-other h d = rw (g.count, add-one, ne_eqb (bucket_at n l' (kept l)) h (λ e. d (sym e ∙ bucket-new))) (last-old h (kept l) (omega arith))

  starts-now : (h : ℕ) → h < n → (x : Bool) → eqb h (bucket_of n m) ≡ x → start_of n l' h ≡ last_below (in_bucket n l' h) (kept l')
  starts-now h u true e = let q = eqb-true h (bucket_of n m) e in rw q (start-new ∙ sym last-new)
  starts-now h u false e = let d = eqb-false h (bucket_of n m) e in start-other h d ∙ sound.starts h u ∙ sym (last-other h d)

  pub sound_more : Sound s n l'
  sound_more =
      record {
        some = sound.some;
        few = sound.few;
        room = g.size ∙ sound.room;
        within = omega (arith, g.count);
        inside =
            each_number (λ j. place_at l' j + size_within (word_at l' j) ≤ length s) (λ j h. rw (g.places j h, g.words j h) (sound.inside j h))
            (rw (g.place, size_is) fits);
        marks =
            each_number (λ j. mark_in (word_at l' j) ≡ mark_of (name_at s l' j)) (λ j h. rw (name-old j h, g.words j h) (sound.marks j h))
            (mark-is ∙ marked ∙ sym (ap mark_of name_new));
        firsts =
            each_number (λ j. place_of 0 (name_at s l' j) (names_in s l') ≡ just j)
            (λ j h. rw (names_more, name-old j h) (place_kept (name_at s l j) name 0 j (names_in s l) (sound.firsts j h)))
            (rw (names_more, name_new) (place-new name 0 (names_in s l) new ∙ ap just (names-many s l)));
        starts = λ h u. starts-now h u (eqb h (bucket_of n m)) refl;
        links =
            each_number (λ j. link_in (word_at l' j) ≡ last_below (in_bucket n l' (bucket_at n l' j)) j)
            (λ j h. rw (g.words j h) (sound.links j h ∙ sym (last-old (bucket_at n l j) j (omega arith))))
            (link-is ∙ sound.starts (bucket_of n m) lower ∙ sym (rw bucket-new (last-old (bucket_of n m) (kept l) (omega arith))));
      }

-- ---- The results of `declare`: the name is there, the table is full, or the name is added.
module _ (s : Text) (n : ℕ) (l : List ℕ) (w : Text) (sound : Sound s n l) where
  pub declared-there : (k : ℕ) → just k ≡ place_of 0 w (names_in s l) → Declares s n w l l (Some k)
  declared-there k f =
      let h : place_of 0 w (names_in s l) ≡ just k = sym f in
      let small = place-small w 0 k (names_in s l) h in
      record {
        sound = sound;
        number = sym (rw (added-there w (names_in s l) h, h, lt-ltb k n (omega (arith, names-many s l, sound.within))));
        names = rw (added-there w (names_in s l) h);
      }

  pub declared-full : none ≡ place_of 0 w (names_in s l) → n ≤ kept l → Declares s n w l l None
  declared-full f full =
      let h : place_of 0 w (names_in s l) ≡ none = sym f in
      record {
        sound = sound;
        number = sym (rw (added_new w (names_in s l) h, place-new w 0 (names_in s l) h, names-many s l, le-ltb (kept l) n full));
        names = refl;
      }

  module _ (at size m : ℕ) (h : place_of 0 w (names_in s l) ≡ none) (room : kept l < n) (fits : at + size ≤ length s) (short : size ≤ 64)
      (is : w ≡ take size (drop at s)) (marked : m ≡ mark_of w) where
    lower : bucket_of n m < n
    unfolding bucket_of
    lower = mod-lt (m / 16777216) sound.some

    pub declared-new : (l' : List ℕ) → l' ≡ with_name l (bucket_of n m) at (packed size (start_of n l (bucket_of n m)) m) → Declares s n w l l' (Some (kept l))
    declared-new l' e =
        let g : Grown l l' (bucket_of n m) at (packed size (start_of n l (bucket_of n m)) m) =
        rw e (grown n l (bucket_of n m) at (packed size (start_of n l (bucket_of n m)) m) sound.room room lower) in
        record {
          sound = sound_more s n l l' at size m w sound g room fits short is marked h lower;
          number = sym (rw (added_new w (names_in s l) h, place-new w 0 (names_in s l) h, names-many s l, lt-ltb (kept l) n room));
          names = names_more s n l l' at size m w sound g room fits short is marked h lower ∙ sym (added_new w (names_in s l) h);
        }
