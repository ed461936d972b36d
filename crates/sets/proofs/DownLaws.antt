-- Laws of `down`, the roles m with all roles below them (02, Ask 7): its members,
-- the loop that gathers them, and how it changes when one role is put above another.
use Prim.Native.Nat.{ℕ, zero, suc, ◌<◌}
use mathlib.Core.Bool.{Bool, true, false, cond, ◌&&◌, ◌||◌}
use mathlib.Core.Path.{◌≡◌, refl, sym, ap, ◌∙◌, fun_ext}
use lib.Dec.{eqb}
use borrow.Author.Tests.{eq-eqb, eqb-true, eqb-false}
use Rattle.paper_lower.specs.Lists.{some_number_below}
use Rattle.paper_lower.specs.Sets.{Set, empty, has, plus, minus, union, union_below}
use Rattle.paper_lower.specs.Tables.{Seniority}
use Rattle.paper_lower.specs.Policy.{down, raised}
use Rattle.paper_lower.proofs.ListLaws.{or-true, or-false, and-false, some_below, below_none}
use Rattle.sets.proofs.SetLaws.{has-empty, has-union, has_kept, has-union_below, same-members}

-- ---- Whether f holds for some number below n.
module _ (f : ℕ → Bool) where
  module _ (g : ℕ → Bool) where
    join : (a b p q : Bool) → (a || p) || (b || q) ≡ (a || b) || (p || q)
    join true b p q = refl
    join false true true q = refl
    join false true false q = refl
    join false false p q = refl

    pub some-either : (n : ℕ) → some_number_below n (λ k. f k || g k) ≡ some_number_below n f || some_number_below n g
    unfolding some_number_below
    some-either zero = refl
    some-either (suc n) = ap (◌||◌ (f n || g n)) (some-either n) ∙ join (f n) (some_number_below n f) (g n) (some_number_below n g)

  apart : (c a p : Bool) → (a && c) || (p && c) ≡ (a || p) && c
  apart true true p = refl
  apart false true p = and-false p
  apart c false p = refl

  pub some_with : (c : Bool) (n : ℕ) → some_number_below n (λ k. f k && c) ≡ some_number_below n f && c
  unfolding some_number_below
  some_with c zero = refl
  some_with c (suc n) = ap (◌||◌ (f n && c)) (some_with c n) ∙ apart c (f n) (some_number_below n f)

  pub some-only : (n a : ℕ) → a < n → some_number_below n (λ k. f k && eqb k a) ≡ f a
  some-only n a h = go (f a) refl
    where
      out : f a ≡ false → (k : ℕ) (here : Bool) → eqb k a ≡ here → f k && here ≡ false
      out e k true is = rw (ap f (eqb-true k a is) ∙ e)
      out e k false is = and-false (f k)

      go : (t : Bool) → f a ≡ t → some_number_below n (λ k. f k && eqb k a) ≡ t
      go true e = some_below n (λ k. f k && eqb k a) a h (rw (e, eq-eqb a a refl))
      go false e = below_none n (λ k. f k && eqb k a) (λ k l. out e k (eqb k a) refl)

-- ---- The roles below some role of m.

-- Their set.
abbrev pub below_all : Seniority → Set → Set
below_all s m = union_below 64 (λ r. cond (has m r) (s.below r) empty)

-- Whether role x is below some role of m.
abbrev pub is_below : Seniority → Set → ℕ → Bool
is_below s m x = some_number_below 64 (λ r. has m r && has (s.below r) x)

module _ (s : Seniority) where
  pub has-below : (m : Set) (x : ℕ) → has (below_all s m) x ≡ is_below s m x
  has-below m x = has-union_below 64 (λ r. cond (has m r) (s.below r) empty) x ∙ ap (some_number_below 64) (fun_ext (λ r. at r (has m r)))
    where
      at : (r : ℕ) (t : Bool) → has (cond t (s.below r) empty) x ≡ t && has (s.below r) x
      at r true = refl
      at r false = has-empty x

  pub has-down : (m : Set) (x : ℕ) → has (down s m) x ≡ has m x || is_below s m x
  unfolding down
  has-down m x = has-union m (below_all s m) x ∙ ap (◌||◌ (has m x)) (has-below m x)

  -- If no role of m has roles below it, `down` gives m.
  pub down-alone : (m : Set) → ((r : ℕ) → r < 64 → has m r ≡ true → s.below r ≡ empty) → down s m ≡ m
  down-alone m alone =
      same-members (down s m) m
      (λ x. has-down m x ∙ ap (◌||◌ (has m x)) (below_none 64 (λ r. has m r && has (s.below r) x) (λ r h. at x r h (has m r) refl)) ∙ or-false (has m x))
    where
      at : (x r : ℕ) → r < 64 → (t : Bool) → has m r ≡ t → t && has (s.below r) x ≡ false
      at x r h true e = ap (λ k. has k x) (alone r h e) ∙ has-empty x
      at x r h false e = refl

  -- ---- The loop over the roles of m. Its invariant: down s m ≡ union (what was gathered) (below_all s (what is left)).
  pub walk_start : (m : Set) → down s m ≡ union m (below_all s m)
  unfolding down
  walk_start m = refl

  pub walk_more : (all left : Set) (r : ℕ) → r < 64 → has left r ≡ true →
      union all (below_all s left) ≡ union (union all (s.below r)) (below_all s (minus left r))
  walk_more all left r h e =
      same-members _ _ (λ x.
      has-union all (below_all s left) x
      ∙ ap (◌||◌ (has all x)) (has-below left x)
      ∙ go x (has (s.below r) x) refl
      ∙ sym (has-union (union all (s.below r)) (below_all s (minus left r)) x ∙ (λ z. has-union all (s.below r) x z || has-below (minus left r) x z)))
    where
      pass : (x : ℕ) → has (s.below r) x ≡ false → (k : ℕ) (here : Bool) → eqb k r ≡ here →
          has left k && has (s.below k) x ≡ has (minus left r) k && has (s.below k) x
      pass x f k true is =
          let none : has (s.below k) x ≡ false = ap (λ i. has (s.below i) x) (eqb-true k r is) ∙ f in
          rw none (and-false (has left k) ∙ sym (and-false (has (minus left r) k)))
      pass x f k false is = ap (λ t. t && has (s.below k) x) (sym (has_kept left r k (eqb-false k r is)))

      go : (x : ℕ) (t : Bool) → has (s.below r) x ≡ t → has all x || is_below s left x ≡ (has all x || has (s.below r) x) || is_below s (minus left r) x
      go x true f =
          ap (◌||◌ (has all x)) (some_below 64 (λ k. has left k && has (s.below k) x) r h (rw (e, f)))
          ∙ or-true (has all x)
          ∙ sym (ap (λ t. (has all x || t) || is_below s (minus left r) x) f ∙ ap (λ t. t || is_below s (minus left r) x) (or-true (has all x)))
      go x false f =
          ap (◌||◌ (has all x)) (ap (some_number_below 64) (fun_ext (λ k. pass x f k (eqb k r) refl)))
          ∙ sym (ap (λ t. (has all x || t) || is_below s (minus left r) x) f ∙ ap (λ t. t || is_below s (minus left r) x) (or-false (has all x)))

  pub walk_end : (all left : Set) → left ≡ empty → union all (below_all s left) ≡ all
  walk_end all left e =
      same-members _ _ (λ x.
      has-union all (below_all s left) x
      ∙ ap (◌||◌ (has all x)) (has-below left x ∙ below_none 64 (λ r. has left r && has (s.below r) x) (λ r h. rw (e, has-empty r)))
      ∙ or-false (has all x))

-- ---- Role a put above role b: a set of roles that reaches a then reaches b and all roles below b too.
module _ (s : Seniority) (a b : ℕ) (m : Set) (h : a < 64) where
  under : Set
  under = plus (s.below b) b

  with-if : (k : Set) (x : ℕ) (t : Bool) → has (cond t (union k under) k) x ≡ has k x || (t && has under x)
  with-if k x true = has-union k under x
  with-if k x false = sym (or-false (has k x))

  spread : (p t u : Bool) → p && (t || u) ≡ (p && t) || (p && u)
  spread true t u = refl
  spread false t u = refl

  and_assoc : (p t u : Bool) → p && (t && u) ≡ (p && t) && u
  and_assoc true t u = refl
  and_assoc false t u = refl

  or_assoc : (p t u : Bool) → p || (t || u) ≡ (p || t) || u
  or_assoc true t u = refl
  or_assoc false t u = refl

  -- Some role of m is a or is above a exactly if `down` has a.
  reaches : some_number_below 64 (λ r. has m r && (eqb r a || has (s.below r) a)) ≡ has (down s m) a
  reaches =
      ap (some_number_below 64) (fun_ext (λ r. spread (has m r) (eqb r a) (has (s.below r) a)))
      ∙ some-either (λ r. has m r && eqb r a) (λ r. has m r && has (s.below r) a) 64
      ∙ ap (λ t. t || is_below s m a) (some-only (has m) 64 a h)
      ∙ sym (has-down s m a)

  below_raised : (x : ℕ) → is_below (raised s a b) m x ≡ is_below s m x || (has (down s m) a && has under x)
  unfolding raised under
  below_raised x =
      ap (some_number_below 64) (fun_ext (λ r.
      ap (◌&&◌ (has m r)) (with-if (s.below r) x (eqb r a || has (s.below r) a))
      ∙ spread (has m r) (has (s.below r) x) ((eqb r a || has (s.below r) a) && has under x)
      ∙ ap (◌||◌ (has m r && has (s.below r) x)) (and_assoc (has m r) (eqb r a || has (s.below r) a) (has under x))))
      ∙ some-either (λ r. has m r && has (s.below r) x) (λ r. (has m r && (eqb r a || has (s.below r) a)) && has under x) 64
      ∙ ap (◌||◌ (is_below s m x)) (some_with (λ r. has m r && (eqb r a || has (s.below r) a)) (has under x) 64 ∙ ap (λ t. t && has under x) reaches)

  pub down-raised : down (raised s a b) m ≡ cond (has (down s m) a) (union (down s m) (plus (s.below b) b)) (down s m)
  unfolding under
  down-raised =
      same-members _ _ (λ x.
      has-down (raised s a b) m x
      ∙ ap (◌||◌ (has m x)) (below_raised x)
      ∙ or_assoc (has m x) (is_below s m x) (has (down s m) a && has under x)
      ∙ ap (λ t. t || (has (down s m) a && has under x)) (sym (has-down s m x))
      ∙ sym (with-if (down s m) x (has (down s m) a)))
