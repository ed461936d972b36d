-- Laws for the record of a wall: a row that is not about its object, the test for another block of the same wall, and room for one more row.
use Prim.Native.Nat.{ℕ, ◌/◌, ◌%◌, ◌<◌}
use mathlib.Core.Bool.{Bool, true, false, not, ◌&&◌}
use mathlib.Core.List.{List}
use mathlib.Core.Path.{◌≡◌, refl, sym, ap, ◌∙◌}
use native.Mathlib.Omega.{arith}
use lib.Dec.{eqb}
use borrow.Author.Tests.{eq-eqb, ne_eqb, eqb-true, eqb-false, leb-false}
use Rattle.paper_lower.specs.Sets.{has}
use Rattle.paper_lower.specs.Lists.{Maybe, some_number_below, holds, or_else, many}
use Rattle.paper_lower.specs.Lists.Maybe.{none, just}
use Rattle.paper_lower.specs.Checks.{first}
use Rattle.paper_lower.specs.Policy.{another, same_walled, wall_checks}
use Rattle.paper_lower.proofs.ListLaws.{and-false, some_below, below_none}
use Rattle.paper_lower.proofs.CheckLaws.{passed}
use Rattle.blocks.specs.Reading.{nowhere, only, over, apart}
use Rattle.policy.specs.Layout.{wall_rows, walled_is, wall_count, walled_at}
use Rattle.policy.specs.Reading.{policy_of}
use Rattle.policy.proofs.RuleLaws.{walls-many}
use Rattle.policy.proofs.WallLaws.{walled-for}

-- A row that is not about object c is not the same as the record.
pub says-not : (l : List ℕ) (k a b c : ℕ) → c < 65536 → {t : Bool} → t ≡ walled_is l c k → t ≡ false → false ≡ same_walled a b c (walled_at l k)
unfolding same_walled
says-not l k a b c small {t} e f =
    let x = walled_at l k in
    let no : eqb x.object c ≡ false =
    walled-for l c k small ∙ ap (◌&&◌ (has (wall_rows l c (k / 64)) (k % 64))) (sym e ∙ f) ∙ and-false (has (wall_rows l c (k / 64)) (k % 64)) in
    sym (ap (◌&&◌ (eqb x.wall a && eqb x.block b)) no ∙ and-false (eqb x.wall a && eqb x.block b))

-- ---- The blocks f differ from block b of wall a alone exactly if f has another block of wall a.
module _ (f : ℕ → Maybe ℕ) (a b : ℕ) (small : a < 16) where
  swap : (k : ℕ) (t : Bool) → eqb k b ≡ t → not (eqb b k) ≡ not t
  swap k true e = ap not (eq-eqb b k (sym (eqb-true k b e)))
  swap k false e = ap not (ne_eqb b k (λ q. eqb-false k b e (sym q)))

  at-wall : apart f (over nowhere (only a b)) a ≡ another b (f a)
  unfolding another holds or_else only
  at-wall = rw (eq-eqb a a refl) (go (f a))
    where
      go : (x : Maybe ℕ) → holds (λ k. another k (just b)) x ≡ another b x
      go none = refl
      go (just k) = swap k (eqb k b) refl

  off-wall : (w : ℕ) → (w ≡ a → ⊥) → apart f (over nowhere (only a b)) w ≡ false
  unfolding another holds or_else only
  off-wall w n = rw (ne_eqb a w (λ e. n (sym e))) (go (f w))
    where
      go : (x : Maybe ℕ) → holds (λ k. another k none) x ≡ false
      go none = refl
      go (just k) = refl

  pub apart-one : some_number_below 16 (apart f (over nowhere (only a b))) ≡ another b (f a)
  apart-one = go (another b (f a)) refl
    where
      every : another b (f a) ≡ false → (w : ℕ) (t : Bool) → eqb w a ≡ t → apart f (over nowhere (only a b)) w ≡ false
      every e w true is = ap (apart f (over nowhere (only a b))) (eqb-true w a is) ∙ at-wall ∙ e
      every e w false is = off-wall w (eqb-false w a is)

      go : (t : Bool) → another b (f a) ≡ t → some_number_below 16 (apart f (over nowhere (only a b))) ≡ t
      go true e = some_below 16 (apart f (over nowhere (only a b))) a small (at-wall ∙ e)
      go false e = below_none 16 (apart f (over nowhere (only a b))) (λ w h. every e w (eqb w a) refl)

-- The rows are as many as their number says.
pub rows_many : (l : List ℕ) → many (policy_of l).walls ≡ wall_count l
rows_many l = walls-many l

-- If no check refuses the record, there is room for one more row.
pub wall_room : (l : List ℕ) (a b c : ℕ) → 0 ≡ first (wall_checks (policy_of l) a b c) → wall_count l < 256
unfolding wall_checks
wall_room l a b c e =
    let free = passed (wall_checks (policy_of l) a b c) (tt, (tt, (tt, tt))) (sym e) in
    let kept = walls-many l in
    omega (arith, leb-false 256 (many (policy_of l).walls) free.1.1.0)
