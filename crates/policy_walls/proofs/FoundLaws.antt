-- A walk over an object's rows: its start, one row, its end.
use Prim.Native.Nat.{ℕ, zero, suc, ◌+◌, ◌-◌, ◌*◌, ◌/◌, ◌%◌, ◌<◌, ◌≤◌}
use mathlib.Core.Bool.{Bool, true, false, not, cond, ◌&&◌, ◌||◌}
use mathlib.Core.List.{List}
use mathlib.Core.Path.{◌≡◌, refl, sym, ap, ◌∙◌, fun_ext}
use native.Mathlib.Omega.{arith}
use borrow.Author.Tests.{eq-eqb, ne_eqb, eqb-true, eqb-false, leb-true, leb-false, lt-leb}
use lib.Dec.{eqb, leb}
use Rattle.paper_lower.specs.Sets.{Set, empty, has, minus}
use Rattle.paper_lower.specs.Lists.{Maybe, or_else}
use Rattle.paper_lower.specs.Lists.Maybe.{none, just}
use Rattle.paper_lower.specs.Tables.{Walled}
use Rattle.paper_lower.specs.Policy.{block_of}
use Rattle.replies.specs.Cells.{rows_from}
use Rattle.sets.proofs.SetLaws.{has-empty, has-gone, has_kept}
use Rattle.blocks.specs.Reading.{nowhere, only, over}
use Rattle.policy.specs.Layout.{wall_rows, walled_is, wall_count, walled_at}
use Rattle.policy.specs.Reading.{policy_of}
use Rattle.policy.proofs.RuleLaws.{walls-are}
use Rattle.policy.proofs.WallLaws.{walled-for}
use Rattle.policy_walls.specs.Found.{blocks_from, rows_block, found_from, about, blocks_left}

-- ---- One block, or else another.
or-none : (x : Maybe ℕ) → or_else x none ≡ x
unfolding or_else
or-none none = refl
or-none (just k) = refl

or_assoc : (x y z : Maybe ℕ) → or_else x (or_else y z) ≡ or_else (or_else x y) z
unfolding or_else
or_assoc none y z = refl
or_assoc (just k) y z = refl

pub over_none : (f : ℕ → Maybe ℕ) → over f nowhere ≡ f
over_none f = fun_ext (λ w. or-none (f w))

pub none_over : (f : ℕ → Maybe ℕ) → over nowhere f ≡ f
unfolding or_else
none_over f = refl

over-assoc : (f g h : ℕ → Maybe ℕ) → over f (over g h) ≡ over (over f g) h
over-assoc f g h = fun_ext (λ w. or_assoc (f w) (g w) (h w))

-- ---- Rows that count.
module _ (f : ℕ → Walled) (w : ℕ) where
  of-object : (object k n : ℕ) → block_of (rows_from f k n) object w ≡ found_from (λ i. eqb (f i).object object) f k n w
  unfolding block_of rows_from found_from
  of-object object k zero = refl
  of-object object k (suc n) = ap (cond (eqb (f k).object object && eqb (f k).wall w) (just (f k).block)) (of-object object (suc k) n)

  -- by the same rows
  found-same : (p q : ℕ → Bool) (k n : ℕ) → ((i : ℕ) → k ≤ i → i < k + n → p i ≡ q i) → found_from p f k n w ≡ found_from q f k n w
  unfolding found_from
  found-same p q k zero h = refl
  found-same p q k (suc n) h =
      λ x. cond (h k (omega arith) (omega arith) x && eqb (f k).wall w) (just (f k).block)
      (found-same p q (suc k) n (λ i a b. h i (omega arith) (omega arith)) x)

  -- rows that do not count are passed over
  found-later : (q : ℕ → Bool) (j k n : ℕ) → ((i : ℕ) → k ≤ i → i < k + j → q i ≡ false) → found_from q f k n w ≡ found_from q f (k + j) (n - j) w
  unfolding found_from
  found-later q zero k n h = let e : k + 0 ≡ k = omega arith in let z : n - 0 ≡ n = omega arith in rw (e, z)
  found-later q (suc j) k zero h = let z : 0 - suc j ≡ 0 = omega arith in rw z
  found-later q (suc j) k (suc n) h =
      let e : suc k + j ≡ k + suc j = omega arith in
      let z : suc n - suc j ≡ n - j = omega arith in
      rw (h k (omega arith) (omega arith), z, ← e) (found-later q j (suc k) n (λ i a b. h i (omega arith) (omega arith)))

  step : (t : Bool) (b : ℕ) (x y : Maybe ℕ) → x ≡ y → cond t (just b) x ≡ or_else (cond t (just b) none) y
  unfolding or_else
  step true b x y e = refl
  step false b x y e = e

  -- the first that counts, and the others
  found_first : (p q : ℕ → Bool) (r k n : ℕ) → k ≤ r → r < k + n → ((i : ℕ) → k ≤ i → i < r → p i ≡ false) → q r ≡ false → ((i : ℕ) → (i ≡ r → ⊥) → q i ≡ p i)
      → found_from p f k n w ≡ or_else (cond (p r && eqb (f r).wall w) (just (f r).block) none) (found_from q f k n w)
  unfolding found_from
  found_first p q r k zero a b before gone kept = let no : ⊥ = omega arith in absurd no
  found_first p q r k (suc n) a b before gone kept =
      at (eqb k r) refl (λ low. found_first p q r (suc k) n low (omega arith) (λ i c d. before i (omega arith) d) gone kept)
    where
      at : (here : Bool) → eqb k r ≡ here
          → (suc k ≤ r → found_from p f (suc k) n w ≡ or_else (cond (p r && eqb (f r).wall w) (just (f r).block) none) (found_from q f (suc k) n w))
          → found_from p f k (suc n) w ≡ or_else (cond (p r && eqb (f r).wall w) (just (f r).block) none) (found_from q f k (suc n) w)
      at true e later =
          let one = eqb-true k r e in
          rw (one, gone)
          (step (p r && eqb (f r).wall w) (f r).block (found_from p f (suc r) n w) (found_from q f (suc r) n w)
          (found-same p q (suc r) n (λ i c d. sym (kept i (omega arith)))))
      at false e later =
          let other = eqb-false k r e in
          rw (kept k other, before k (omega arith) (omega arith)) (later (omega arith))

-- ---- The walk over the rows of one part.
module _ (l : List ℕ) (object : ℕ) (small : object < 65536) where
  about-in : (part : ℕ) (m : Set) (i : ℕ) → i / 64 ≡ part → about l object part m i ≡ has m (i % 64) && walled_is l object i
  unfolding about
  about-in part m i e = rw (eq-eqb (i / 64) part e)

  about-out : (part : ℕ) (m : Set) (i : ℕ) → (i / 64 ≡ part → ⊥) → about l object part m i ≡ eqb (walled_at l i).object object
  unfolding about
  about-out part m i e = rw (ne_eqb (i / 64) part e) (sym (walled-for l object i small))

  about-other : (part : ℕ) (m : Set) (t i : ℕ) → (i ≡ 64 * part + t → ⊥) → about l object part (minus m t) i ≡ about l object part m i
  unfolding about
  about-other part m t i n = at (eqb (i / 64) part) refl
    where
      at : (here : Bool) → eqb (i / 64) part ≡ here →
          has (cond here (minus m t) (wall_rows l object (i / 64))) (i % 64) && walled_is l object i ≡
          has (cond here m (wall_rows l object (i / 64))) (i % 64) && walled_is l object i
      at true e =
          let one = eqb-true (i / 64) part e in
          ap (λ b. b && walled_is l object i) (has_kept m t (i % 64) (λ q. n (omega arith)))
      at false e = refl

  pub left-start : (part : ℕ) {m : Set} → m ≡ wall_rows l object part → blocks_left l object part m ≡ blocks_from l object part
  unfolding blocks_from blocks_left
  left-start part {m} e =
      fun_ext (λ w.
      found-same (walled_at l) w (about l object part m) (λ i. eqb (walled_at l i).object object) (64 * part) (wall_count l - 64 * part)
      (λ i a b. is i (eqb (i / 64) part) refl)
      ∙ sym (of-object (walled_at l) w object (64 * part) (wall_count l - 64 * part)))
    where
      is : (i : ℕ) (here : Bool) → eqb (i / 64) part ≡ here → about l object part m i ≡ eqb (walled_at l i).object object
      is i true q =
          let one = eqb-true (i / 64) part q in
          about-in part m i one
          ∙ ap (λ k. has k (i % 64) && walled_is l object i) (e ∙ ap (wall_rows l object) (sym one))
          ∙ sym (walled-for l object i small)
      is i false q = about-out part m i (eqb-false (i / 64) part q)

  pub left_end : (part : ℕ) {m : Set} → m ≡ empty → blocks_left l object part m ≡ blocks_from l object (part + 1)
  unfolding blocks_from blocks_left
  left_end part {m} e =
      let first : 64 * part + 64 ≡ 64 * (part + 1) = omega arith in
      let rest : wall_count l - 64 * part - 64 ≡ wall_count l - 64 * (part + 1) = omega arith in
      fun_ext (λ w.
      found-later (walled_at l) w (about l object part m) 64 (64 * part) (wall_count l - 64 * part)
      (λ i a b. about-in part m i (omega arith) ∙ ap (λ k. has k (i % 64) && walled_is l object i) e ∙ ap (λ b. b && walled_is l object i) (has-empty (i % 64)))
      ∙ (λ x. found_from (about l object part m) (walled_at l) (first x) (rest x) w)
      ∙ found-same (walled_at l) w (about l object part m) (λ i. eqb (walled_at l i).object object) (64 * (part + 1)) (wall_count l - 64 * (part + 1))
      (λ i a b. about-out part m i (omega arith))
      ∙ sym (of-object (walled_at l) w object (64 * (part + 1)) (wall_count l - 64 * (part + 1))))

  module _ (part : ℕ) (m : Set) (t : ℕ) (low : t < 64) (here : has m t ≡ true) (least : (i : ℕ) → i < t → has m i ≡ false) where
    row-found : (w : ℕ) → 64 * part + t < wall_count l →
        cond (about l object part m (64 * part + t) && eqb (walled_at l (64 * part + t)).wall w) (just (walled_at l (64 * part + t)).block) none ≡
        rows_block l object (64 * part + t) w
    unfolding rows_block only
    row-found w inside =
        let k = 64 * part + t in
        let bit : k % 64 ≡ t = omega arith in
        let is : about l object part m k ≡ walled_is l object k = about-in part m k (omega arith) ∙ ap (λ b. b && walled_is l object k) (ap (has m) bit ∙ here) in
        ap (λ b. cond (b && eqb (walled_at l k).wall w) (just (walled_at l k).block) none) is
        ∙ at k (walled_is l object k)
        ∙ ap (λ b. cond (b || not (walled_is l object k)) nowhere (only (walled_at l k).wall (walled_at l k).block) w) (sym (lt-leb (wall_count l) k inside))
      where
        at : (k : ℕ) (b : Bool) →
            cond (b && eqb (walled_at l k).wall w) (just (walled_at l k).block) none ≡ cond (not b) nowhere (only (walled_at l k).wall (walled_at l k).block) w
        at k true = refl
        at k false = refl

    row-taken : blocks_left l object part m ≡ over (rows_block l object (64 * part + t)) (blocks_left l object part (minus m t))
    unfolding blocks_left
    row-taken = fun_ext (λ w. at w (leb (wall_count l) (64 * part + t)) refl)
      where
        past : (w : ℕ) → leb (wall_count l) (64 * part + t) ≡ true → (x : Maybe ℕ) → x ≡ or_else (rows_block l object (64 * part + t) w) x
        past w e x = unfold rows_block or_else in rw e

        at : (w : ℕ) (b : Bool) → leb (wall_count l) (64 * part + t) ≡ b →
            blocks_left l object part m w ≡ or_else (rows_block l object (64 * part + t) w) (blocks_left l object part (minus m t) w)
        at w true e =
            let far = leb-true (wall_count l) (64 * part + t) e in
            found-same (walled_at l) w (about l object part m) (about l object part (minus m t)) (64 * part) (wall_count l - 64 * part)
            (λ i a b. sym (about-other part m t i (omega arith)))
            ∙ past w e (blocks_left l object part (minus m t) w)
        at w false e =
            let inside = leb-false (wall_count l) (64 * part + t) e in
            let bit : (64 * part + t) % 64 ≡ t = omega arith in
            found_first (walled_at l) w (about l object part m) (about l object part (minus m t)) (64 * part + t) (64 * part) (wall_count l - 64 * part)
            (omega arith) (omega arith)
            (λ i a b. about-in part m i (omega arith) ∙ ap (λ b. b && walled_is l object i) (least (i % 64) (omega arith)))
            (about-in part (minus m t) (64 * part + t) (omega arith) ∙
            ap (λ b. b && walled_is l object (64 * part + t)) (ap (has (minus m t)) bit ∙ has-gone m t))
            (λ i n. about-other part m t i n)
            ∙ ap (λ x. or_else x (blocks_left l object part (minus m t) w)) (row-found w inside)

    -- one row of the walk
    pub row-turn : (all : ℕ → Maybe ℕ) →
        over all (blocks_left l object part m) ≡ over (over all (rows_block l object (64 * part + t))) (blocks_left l object part (minus m t))
    row-turn all = ap (over all) row-taken ∙ over-assoc all (rows_block l object (64 * part + t)) (blocks_left l object part (minus m t))

-- ---- The walk over the parts.
module _ (l : List ℕ) (object : ℕ) where
  pub from_start : blocks_from l object 0 ≡ block_of (policy_of l).walls object
  unfolding blocks_from
  from_start =
      let all : wall_count l - 64 * 0 ≡ wall_count l = omega arith in
      (λ x. block_of (rows_from (walled_at l) 0 (all x)) object) ∙ ap (λ xs. block_of xs object) (sym (walls-are l))

  pub from_end : (part : ℕ) → wall_count l ≤ 64 * part → blocks_from l object part ≡ nowhere
  unfolding blocks_from
  from_end part h =
      let none_left : wall_count l - 64 * part ≡ 0 = omega arith in
      (λ x. block_of (rows_from (walled_at l) (64 * part) (none_left x)) object) ∙ unfold rows_from block_of in refl

-- ---- One row.
module _ (l : List ℕ) (object k : ℕ) {count : ℕ} {is : Bool} (kept : count ≡ wall_count l) (test : is ≡ walled_is l object k) where
  pub row_out : (f : ℕ → Maybe ℕ) → leb count k || not is ≡ true → f ≡ over f (rows_block l object k)
  unfolding rows_block
  row_out f e = sym (rw (← kept, ← test, e) (over_none f))

  pub row_in : (wall block : ℕ) → leb count k || not is ≡ false → wall ≡ (walled_at l k).wall → block ≡ (walled_at l k).block →
      only wall block ≡ rows_block l object k
  unfolding rows_block
  row_in wall block e p q = rw (← kept, ← test, e, p, q)
