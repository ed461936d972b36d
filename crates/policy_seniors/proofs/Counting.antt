-- Roles together with the roles below them, as the code finds them: by one test, by a loop over the roles
-- that have roles below them, and with one role put above another. Also the number of records of kind 17.
use Prim.Native.Nat.{ℕ, ◌+◌, ◌<◌, min}
use mathlib.Core.Bool.{Bool, true, false, not, cond, ◌&&◌, false≢true}
use mathlib.Core.List.{List}
use mathlib.Core.Logic.{⊎_elim}
use mathlib.Core.Path.{◌≡◌, refl, sym, ap, ap₂, fun_ext, ◌∙◌}
use native.Mathlib.Numerals.{add-one}
use native.Mathlib.Omega.{arith}
use borrow.Author.Tests.{not-true, not-false}
use lib.Bits.{bit_and, differ}
use Rattle.paper_lower.specs.Sets.{Set, empty, has, plus, union, union_below, size, cut, meets, within, without}
use Rattle.paper_lower.specs.Lists.{sum_below}
use Rattle.paper_lower.specs.Tables.{Seniority}
use Rattle.paper_lower.specs.Policy.{down, raised, raisings}
use Rattle.sets.proofs.Bits.{bit-and, bit-xor}
use Rattle.sets.proofs.SetLaws.{in-or-out, none-common, digit, digit-has, has-digit, has_within}
use Rattle.sets.proofs.DownLaws.{below_all, down-alone, down-raised, walk_start}
use Rattle.policy.specs.Layout.{seniors_in}
use Rattle.policy.specs.Reading.{policy_of}
use Rattle.policy.proofs.SeniorLaws.{none_below}

-- If no role of m has a role below it, `down` gives m.
pub alone : (l : List ℕ) (m : Set) {k : Set} {q : Bool} → k ≡ seniors_in l → q ≡ meets m k → not q ≡ true → m ≡ down (policy_of l).seniority m
alone l m {k} {q} is e n =
    let apart : meets m (seniors_in l) ≡ false = ap (meets m) (sym is) ∙ sym e ∙ not-true q n in
    sym (down-alone (policy_of l).seniority m
    (λ r h e'. none_below l r (⊎_elim (λ f. absurd (none-common m (seniors_in l) r apart e' f)) (λ f. f) (in-or-out (has (seniors_in l) r)))))

-- ---- The loop over the roles of m that have roles below them. The code computes them as m without the roles of m that have none.
differ-digit : (p q : Bool) → differ (digit p) (min (digit p) (digit q)) ≡ digit (p && not q)
differ-digit true true = refl
differ-digit true false = refl
differ-digit false true = refl
differ-digit false false = refl

has-without : (m k : Set) (x : ℕ) → has (without m k) x ≡ (has m x && not (has k x))
unfolding without cut
has-without m k x =
    has-digit _ x _
    (bit-xor x m (bit_and m k) ∙ ap₂ differ (digit-has m x) (bit-and x m k ∙ ap₂ min (digit-has m x) (digit-has k x)) ∙ differ-digit (has m x) (has k x))

inner : (p q : Bool) → p && not (p && not q) ≡ true → q ≡ true
inner true true h = refl
inner true false h = h
inner false q h = absurd (false≢true h)

-- Which roles these are.
seniors-left : (l : List ℕ) (m : Set) {k low left : Set} → k ≡ seniors_in l → low ≡ without m k → left ≡ without m low
    → (r : ℕ) → has left r ≡ (has m r && not (has m r && not (has (seniors_in l) r)))
seniors-left l m {k} {low} {left} is e f r =
    ap (λ (x : Set). has x r) f ∙ has-without m low r
    ∙ ap (λ (x : Bool). has m r && not x) (ap (λ (x : Set). has x r) e ∙ has-without m k r ∙ ap (λ (x : Set). has m r && not (has x r)) is)

pub seniors-alone : (l : List ℕ) (m : Set) {k low left : Set} → k ≡ seniors_in l → low ≡ without m k → left ≡ without m low → within left (seniors_in l) ≡ true
seniors-alone l m {left = left} is e f =
    has_within left (seniors_in l) (λ r h. inner (has m r) (has (seniors_in l) r) (sym (seniors-left l m is e f r) ∙ h))

pub seniors-start : (l : List ℕ) (m : Set) {k low left : Set} → k ≡ seniors_in l → low ≡ without m k → left ≡ without m low
    → down (policy_of l).seniority m ≡ union m (below_all (policy_of l).seniority left)
seniors-start l m {k} {low} {left} is e f =
    walk_start (policy_of l).seniority m ∙ ap (λ g. union m (union_below 64 g)) (fun_ext (λ r. at r (has m r) (has (seniors_in l) r) refl refl))
  where
    both : (r : ℕ) → has left r ≡ (has m r && not (has m r && not (has (seniors_in l) r)))
    both = seniors-left l m is e f

    at : (r : ℕ) (p q : Bool) → has m r ≡ p → has (seniors_in l) r ≡ q
        → cond (has m r) ((policy_of l).seniority.below r) empty ≡ cond (has left r) ((policy_of l).seniority.below r) empty
    at r true true g h = rw (both r, g, h)
    at r true false g h = rw (both r, g, h) (none_below l r h)
    at r false q g h = rw (both r, g)

-- With role a above role b: a set of roles that does not reach a stays the same, and one that does gets b and all roles below b.
module _ (s : Seniority) (a b : ℕ) (m : Set) (h : a < 64) {all : Set} {q : Bool} (are : all ≡ down s m) (e : q ≡ has all a) where
  pub unraised : not q ≡ true → all ≡ down (raised s a b) m
  unraised n =
      let out : has (down s m) a ≡ false = ap (λ k. has k a) (sym are) ∙ sym e ∙ not-true q n in
      are ∙ sym (down-raised s a b m h ∙ rw out)

  pub raised-too : not q ≡ false → {k under x : Set} → k ≡ s.below b → under ≡ plus k b → x ≡ union all under → x ≡ down (raised s a b) m
  raised-too n {k} {under} {x} p u f =
      let hit : has (down s m) a ≡ true = ap (λ k. has k a) (sym are) ∙ sym e ∙ not-false q n in
      f ∙ (λ z. union (are z) ((u ∙ ap (λ k. plus k b) p) z)) ∙ sym (down-raised s a b m h ∙ rw hit)

-- ---- The number of pairs: one turn of the loop, and its end.
sum_more : (f : ℕ → ℕ) (k : ℕ) → sum_below (k + 1) f ≡ f k + sum_below k f
unfolding sum_below
sum_more f k = rw add-one

pub sum-next : (f : ℕ → ℕ) (k n c : ℕ) → n ≡ sum_below k f → c ≡ f k → n + c ≡ sum_below (k + 1) f
sum-next f k n c p q = let z = sum_more f k in omega arith

pub sum-all : (s : Seniority) (k n : ℕ) → k ≡ 64 → n ≡ sum_below k (λ r. size (s.juniors r)) → n ≡ raisings s
unfolding raisings
sum-all s k n e p = p ∙ ap (λ i. sum_below i (λ r. size (s.juniors r))) e
