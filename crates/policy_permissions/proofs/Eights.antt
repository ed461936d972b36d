-- The permissions that the word of a pair's bucket lists: the rows of a group of eight,
-- the loop over the groups, and the two rows listed by number together with all groups.
use Prim.Native.Nat.{ℕ, zero, suc, ◌+◌, ◌*◌, ◌/◌, ◌<◌}
use mathlib.Core.Bool.{Bool, true, false, ◌&&◌, ◌||◌}
use mathlib.Core.List.{List}
use mathlib.Core.Path.{◌≡◌, refl, sym, ap, ◌∙◌, fun_ext}
use native.Mathlib.Omega.{arith}
use borrow.Author.Tests.{eq-eqb, eqb-true, eqb-false}
use lib.Dec.{eqb}
use Rattle.paper_lower.specs.Sets.{Set, has, minus}
use Rattle.paper_lower.specs.Lists.{some_number_below, holds}
use Rattle.paper_lower.specs.Policy.{is_for}
use Rattle.paper_lower.proofs.ListLaws.{or-true, or-false, and-false, some_below, below_none}
use Rattle.sets.proofs.SetLaws.{has-empty, has_kept}
use Rattle.policy.specs.Layout.{first_in, second_in, eights_in, among, listing_for, row_holds}
use Rattle.policy.specs.Reading.{policy_of}
use Rattle.policy.proofs.BucketLaws.{among-splits, declared-for}
use Rattle.policy_permissions.specs.Rows.{in_two, in_eight, in_eights}

-- ---- The rows of a group of eight.
pub in-eight : (row : ℕ → Bool) (t : ℕ) {a b c d e f g h : Bool} → h ≡ row (8 * t + 7) → g ≡ row (8 * t + 6) → f ≡ row (8 * t + 5) → e ≡ row (8 * t + 4) →
    d ≡ row (8 * t + 3) → c ≡ row (8 * t + 2) → b ≡ row (8 * t + 1) → a ≡ row (8 * t) →
    h || (g || (f || (e || (d || (c || (b || a)))))) ≡ in_eight row t
unfolding in_eight some_number_below
in-eight row t s r q p o n m l =
    let first : 8 * t ≡ 8 * t + 0 = omega arith in
    λ z. s z || (r z || (q z || (p z || (o z || (n z || (m z || (l ∙ ap row first ∙ sym (or-false (row (8 * t + 0)))) z))))))

-- ---- Some row of a set of groups.
module _ (w : Set) (row : ℕ → Bool) where
  gather : (o a b c d e f g h rest : Bool) →
      (o && h) || ((o && g) || ((o && f) || ((o && e) || ((o && d) || ((o && c) || ((o && b) || ((o && a) || rest))))))) ≡
      (o && (h || (g || (f || (e || (d || (c || (b || (a || false))))))))) || rest
  gather false a b c d e f g h rest = refl
  gather true a b c d e f g true rest = refl
  gather true a b c d e f true false rest = refl
  gather true a b c d e true false false rest = refl
  gather true a b c d true false false false rest = refl
  gather true a b c true false false false false rest = refl
  gather true a b true false false false false false rest = refl
  gather true a true false false false false false false rest = refl
  gather true true false false false false false false false rest = refl
  gather true false false false false false false false false rest = refl

  eights-below : (n : ℕ) → some_number_below (8 * n) (λ b. has w (b / 8) && row b) ≡ some_number_below n (λ t. has w t && in_eight row t)
  unfolding some_number_below in_eight
  eights-below zero = refl
  eights-below (suc n) =
      let more : 8 * suc n ≡ suc (suc (suc (suc (suc (suc (suc (suc (8 * n)))))))) = omega arith in
      ap (λ k. some_number_below k (λ b. has w (b / 8) && row b)) more
      ∙ (λ z. at (suc (suc (suc (suc (suc (suc (suc (8 * n)))))))) 7 (omega arith) (omega arith) z ||
      (at (suc (suc (suc (suc (suc (suc (8 * n))))))) 6 (omega arith) (omega arith) z ||
      (at (suc (suc (suc (suc (suc (8 * n)))))) 5 (omega arith) (omega arith) z ||
      (at (suc (suc (suc (suc (8 * n))))) 4 (omega arith) (omega arith) z ||
      (at (suc (suc (suc (8 * n)))) 3 (omega arith) (omega arith) z ||
      (at (suc (suc (8 * n))) 2 (omega arith) (omega arith) z ||
      (at (suc (8 * n)) 1 (omega arith) (omega arith) z ||
      (at (8 * n) 0 (omega arith) (omega arith) z || eights-below n z))))))))
      ∙ gather (has w n) (row (8 * n + 0)) (row (8 * n + 1)) (row (8 * n + 2)) (row (8 * n + 3)) (row (8 * n + 4)) (row (8 * n + 5))
      (row (8 * n + 6)) (row (8 * n + 7)) (some_number_below n (λ t. has w t && in_eight row t))
    where
      at : (k j : ℕ) → k ≡ 8 * n + j → j < 8 → has w (k / 8) && row k ≡ has w n && row (8 * n + j)
      at k j e l = let eight : k / 8 ≡ n = omega arith in λ z. has w (eight z) && row (e z)

  -- The loop over the groups, with an early exit: a group that has such a row, and one that has none.
  pub eight-found : (t : ℕ) → t < 32 → has w t ≡ true → in_eight row t ≡ true → in_eights w row ≡ true
  eight-found t h e f = some_below 32 (λ t. has w t && in_eight row t) t h (rw (e, f))

  pub eight-past : (t : ℕ) → in_eight row t ≡ false → in_eights w row ≡ in_eights (minus w t) row
  eight-past t out = ap (some_number_below 32) (fun_ext (λ k. at k (eqb k t) refl))
    where
      at : (k : ℕ) (here : Bool) → eqb k t ≡ here → has w k && in_eight row k ≡ has (minus w t) k && in_eight row k
      at k true e =
          let none : in_eight row k ≡ false = ap (in_eight row) (eqb-true k t e) ∙ out in
          rw none (and-false (has w k) ∙ sym (and-false (has (minus w t) k)))
      at k false e = ap (λ h. h && in_eight row k) (sym (has_kept w t k (eqb-false k t e)))

  -- The loop without an early exit.
  pub eight-taken : (t : ℕ) → t < 32 → has w t ≡ true → (found : Bool) → found || in_eights w row ≡ (in_eight row t || found) || in_eights (minus w t) row
  eight-taken t h e found = go (in_eight row t) refl
    where
      go : (here : Bool) → in_eight row t ≡ here → found || in_eights w row ≡ (in_eight row t || found) || in_eights (minus w t) row
      go true f = rw (eight-found t h e f, f) (or-true found)
      go false f = rw (f, eight-past t f)

  pub no-eights : w ≡ 0 → in_eights w row ≡ false
  no-eights z = below_none 32 (λ t. has w t && in_eight row t) (λ t _. rw (z, has-empty t))

-- ---- All rows that a word lists: two by their numbers, and the groups.
swap : (a b c d : Bool) → (a || b) || (c || d) ≡ (a || c) || (b || d)
swap true b c d = refl
swap false true true d = refl
swap false true false d = refl
swap false false c d = refl

or-below : (n : ℕ) (f g : ℕ → Bool) → some_number_below n (λ b. f b || g b) ≡ some_number_below n f || some_number_below n g
unfolding some_number_below
or-below zero f g = refl
or-below (suc n) f g = ap (λ t. (f n || g n) || t) (or-below n f g) ∙ swap (f n) (g n) (some_number_below n f) (some_number_below n g)

one-row : (k n : ℕ) (row : ℕ → Bool) → k < n → some_number_below n (λ b. eqb k b && row b) ≡ row k
one-row k n row h = at (row k) refl
  where
    off : row k ≡ false → (b : ℕ) (t : Bool) → eqb k b ≡ t → eqb k b && row b ≡ false
    off e b true q = ap (λ t. t && row b) q ∙ ap row (sym (eqb-true k b q)) ∙ e
    off e b false q = ap (λ t. t && row b) q

    at : (t : Bool) → row k ≡ t → some_number_below n (λ b. eqb k b && row b) ≡ row k
    at true e = some_below n (λ b. eqb k b && row b) k h ((λ z. eq-eqb k k refl z && row k) ∙ e) ∙ sym e
    at false e = below_none n (λ b. eqb k b && row b) (λ b _. off e b (eqb k b) refl) ∙ sym e

split-and : (x y z r : Bool) → ((x || y) || z) && r ≡ ((x && r) || (y && r)) || (z && r)
split-and true true true true = refl
split-and true true true false = refl
split-and true true false true = refl
split-and true true false false = refl
split-and true false true true = refl
split-and true false true false = refl
split-and true false false true = refl
split-and true false false false = refl
split-and false true true true = refl
split-and false true true false = refl
split-and false true false true = refl
split-and false true false false = refl
split-and false false true true = refl
split-and false false true false = refl
split-and false false false true = refl
split-and false false false false = refl

module _ (w : ℕ) (row : ℕ → Bool) where
  by_word : (all : ℕ → Bool) → ((b : ℕ) → all b ≡ among w b && row b) → some_number_below 256 all ≡ in_two row w || in_eights (eights_in w) row
  by_word all are =
      let one : ℕ → Bool = λ b. eqb (first_in w) b && row b in
      let two : ℕ → Bool = λ b. eqb (second_in w) b && row b in
      let far : ℕ → Bool = λ b. has (eights_in w) (b / 8) && row b in
      ap (some_number_below 256)
      (fun_ext (λ b. are b ∙ ap (λ t. t && row b) (among-splits w b) ∙ split-and (eqb (first_in w) b) (eqb (second_in w) b) (has (eights_in w) (b / 8)) (row b)))
      ∙ or-below 256 (λ b. one b || two b) far
      ∙ (λ z. or-below 256 one two z || eights-below (eights_in w) row 32 z)
      ∙ (λ z. (one-row (first_in w) 256 row (omega arith) z || one-row (second_in w) 256 row (omega arith) z) || in_eights (eights_in w) row)

-- ---- The permissions for a pair, and those of them that have a further property.
and_assoc : (a b c : Bool) → (a && b) && c ≡ a && (b && c)
and_assoc true b c = refl
and_assoc false b c = refl

module _ (l : List ℕ) (operation object : ℕ) {w : ℕ} (is : w ≡ listing_for l operation object) {two : Bool} {left : Set} where
  pub suits-by-word : two ≡ in_two (row_holds l operation object) w → left ≡ eights_in w →
      some_number_below 256 (λ b. holds (is_for operation object) ((policy_of l).permissions.declared b)) ≡ two || in_eights left (row_holds l operation object)
  suits-by-word e f =
      by_word w (row_holds l operation object) (λ b. holds (is_for operation object) ((policy_of l).permissions.declared b))
      (λ b. declared-for l operation object b ∙ ap (λ v. among v b && row_holds l operation object b) (sym is))
      ∙ (λ z. sym e z || in_eights (sym f z) (row_holds l operation object))

  pub more-by-word : (more : ℕ → Bool) → two ≡ in_two (λ b. row_holds l operation object b && more b) w → left ≡ eights_in w →
      some_number_below 256 (λ b. holds (is_for operation object) ((policy_of l).permissions.declared b) && more b) ≡
      two || in_eights left (λ b. row_holds l operation object b && more b)
  more-by-word more e f =
      by_word w (λ b. row_holds l operation object b && more b) (λ b. holds (is_for operation object) ((policy_of l).permissions.declared b) && more b)
      (λ b. ap (λ x. x && more b) (declared-for l operation object b ∙ ap (λ v. among v b && row_holds l operation object b) (sym is)) ∙
      and_assoc (among w b) (row_holds l operation object b) (more b))
      ∙ (λ z. sym e z || in_eights (sym f z) (λ b. row_holds l operation object b && more b))
