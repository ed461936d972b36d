-- Laws of `down`, the roles m with all roles below them: its members, sets with more or fewer roles, and the roles that are lost with one role.
use Prim.Native.Nat.{ℕ, ◌<◌, min}
use mathlib.Core.Path.{◌≡◌, refl, sym, ap, ap₂, ◌∙◌}
use mathlib.Core.Logic.{◌⊎◌, inl, inr, ⊎_elim}
use mathlib.Core.Bool.{Bool, true, false, not, cond, ◌&&◌, ◌||◌, true≢false, false≢true}
use borrow.Author.Tests.{not-true}
use lib.Bits.{bit_and, differ}
use Rattle.paper_lower.specs.Sets.{Set, empty, has, minus, cut, meets, without}
use Rattle.paper_lower.specs.Tables.{Seniority}
use Rattle.paper_lower.specs.Policy.{down}
use Rattle.paper_lower.proofs.ListLaws.{both}
use Rattle.sets.proofs.Bits.{same-or-other, bit-and, bit-xor}
use Rattle.sets.proofs.SetLaws.{digit, digit-has, has-digit, has-empty, has-gone, has_kept, common-meets, meets-none, Part, part-refl, part-trans, part-empty, has_part, part-has, part_left, part_right, part-union, union-le, union-ge}
use Rattle.sets.proofs.DownLaws.{is_below, has-down}
use Rattle.theorems.proofs.WellMade.{below-some}

module _ (s : Seniority) where
  -- The roles below r, if m has r.
  abbrev under : Set → ℕ → Set
  under m r = cond (has m r) (s.below r) empty

  pub down-has : (m : Set) → Part m (down s m)
  unfolding down
  down-has m = part_left m _

  under-has : (m : Set) (r : ℕ) → has m r ≡ true → Part (s.below r) (under m r)
  under-has m r h = rw h (part-refl (s.below r))

  pub down-below : (m : Set) (r : ℕ) → r < 64 → has m r ≡ true → Part (s.below r) (down s m)
  unfolding down
  down-below m r l h = part-trans _ _ _ (under-has m r h) (part-trans _ _ _ (union-ge 64 (under m) r l) (part_right m _))

  -- A member of `down` is in m or below a role of m.
  pub down-member : (m : Set) (b : ℕ) → has (down s m) b ≡ true → (has m b ≡ true) ⊎ ((r : ℕ) × (has m r ≡ true) × (has (s.below r) b ≡ true))
  down-member m b h = go (has m b) refl (sym (has-down s m b) ∙ h)
    where
      go : (x : Bool) → has m b ≡ x → x || is_below s m b ≡ true → (has m b ≡ true) ⊎ ((r : ℕ) × (has m r ≡ true) × (has (s.below r) b ≡ true))
      go true e q = inl e
      go false e q =
          let r = below-some 64 (λ r. has m r && has (s.below r) b) q in
          let x = both (has m r.0) _ r.1 in
          inr (r.0, x.0, x.1)

  -- More roles have at least the same roles below them.
  pub down-part : (m k : Set) → Part m k → Part (down s m) (down s k)
  unfolding down
  down-part m k p =
      part-union m _ (down s k) (part-trans _ _ _ p (down-has k))
      (union-le 64 (under m) (down s k) (λ r l. go r l (has m r) refl))
    where
      go : (r : ℕ) → r < 64 → (b : Bool) → has m r ≡ b → Part (cond b (s.below r) empty) (down s k)
      go r l true e = down-below k r l (has_part m k r p e)
      go r l false e = part-empty _

  -- The empty set of roles has no roles below it.
  pub down-nothing : Part (down s empty) empty
  down-nothing = part-has _ _ (λ b h. ⊎_elim (λ e. e) (λ x. absurd (false≢true (sym (has-empty x.0) ∙ x.1))) (down-member empty b h))

-- If each role has at least the same roles below it, so do the roles m.
pub down-more : (s z : Seniority) → ((r : ℕ) → Part (s.below r) (z.below r)) → (m : Set) → Part (down s m) (down z m)
unfolding down
down-more s z more m =
    part-union m _ (down z m) (down-has z m) (union-le 64 (λ r. cond (has m r) (s.below r) empty) (down z m) (λ r l. go r l (has m r) refl))
  where
    go : (r : ℕ) → r < 64 → (b : Bool) → has m r ≡ b → Part (cond b (s.below r) empty) (down z m)
    go r l true e = part-trans _ _ _ (more r) (down-below z m r l e)
    go r l false e = part-empty _

-- ---- The members of one set that are not in another.
differ-digit : (p q : Bool) → differ (digit p) (min (digit p) (digit q)) ≡ digit (p && not q)
differ-digit true true = refl
differ-digit true false = refl
differ-digit false true = refl
differ-digit false false = refl

pub has-without : (m k : Set) (x : ℕ) → has (without m k) x ≡ (has m x && not (has k x))
unfolding without cut
has-without m k x =
    has-digit _ x _
    (bit-xor x m (bit_and m k) ∙ ap₂ differ (digit-has m x) (bit-and x m k ∙ ap₂ min (digit-has m x) (digit-has k x)) ∙ differ-digit (has m x) (has k x))

-- d meets what the set m loses without its member b exactly if d has b.
pub meets-lost : (d m : Set) (b : ℕ) → has m b ≡ true → meets d (without m (minus m b)) ≡ has d b
meets-lost d m b h = go (has d b) refl
  where
    mine : has (without m (minus m b)) b ≡ true
    mine = has-without m (minus m b) b ∙ rw (h, has-gone m b) refl

    only : (t : ℕ) → has (without m (minus m b)) t ≡ true → t ≡ b
    only t e = ⊎_elim (λ q. q) (λ n. absurd (other t (both (has m t) _ (sym (has-without m (minus m b) t) ∙ e)) n)) (same-or-other t b)
      where
        other : (t : ℕ) → (has m t ≡ true) × (not (has (minus m b) t) ≡ true) → (t ≡ b → ⊥) → ⊥
        other t e n = true≢false (sym e.0 ∙ sym (has_kept m b t n) ∙ not-true _ e.1)

    go : (x : Bool) → has d b ≡ x → meets d (without m (minus m b)) ≡ x
    go true e = common-meets d _ b e mine
    go false e = meets-none d _ (λ t p q. true≢false (sym p ∙ ap (has d) (only t q) ∙ e))
