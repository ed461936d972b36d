-- Loops over all rules of a kind that have no early exit; and the cases in which a rule cannot refuse, so that no search is needed.
use Prim.Native.Nat.{ℕ, ◌+◌, ◌-◌, ◌≤◌, ◌<◌}
use mathlib.Core.Bool.{Bool, true, false, not, ◌&&◌, ◌||◌, or-false, and-false, true≢false}
use mathlib.Core.Path.{◌≡◌, refl, sym, ap, ◌∙◌}
use borrow.Author.Tests.{eqb-true, not-true, not-false}
use lib.Dec.{eqb, leb}
use Rattle.paper_lower.specs.Sets.{Set, empty, has, minus, overlap}
use Rattle.paper_lower.specs.Lists.{some}
use Rattle.paper_lower.specs.Tables.{Limit, Pair, Rules}
use Rattle.paper_lower.proofs.ListLaws.{every_map, every-all, some-none, none-some, none-place}
use Rattle.paper_upper.specs.Rules.{missing, before, crowded, tied, bound}
use Rattle.sets.proofs.SetLaws.{has-empty, meets-empty}
use Rattle.replies.specs.Cells.{rows_from}
use Rattle.replies.proofs.RowLaws.{rows-up}
use Rattle.replies.proofs.SearchLaws.{some_end}
use Rattle.order_rules.specs.Blocks.{after, apart}

-- ---- The loop without an early exit. Its invariant: some p (rows f n) ≡ found

-- some p (rows_from f k (n - k)).
first-or : (a b c : Bool) → b || (a || c) ≡ (a || b) || c
first-or true true c = refl
first-or true false c = refl
first-or false b c = refl

module _ {A : Type 0} (p : A → Bool) (f : ℕ → A) (n k : ℕ) (found : Bool) where
  pub look-on : k < n → found || some p (rows_from f k (n - k)) ≡ (p (f k) || found) || some p (rows_from f (k + 1) (n - (k + 1)))
  unfolding some
  look-on h = rw (rows-up f k n h) (first-or (p (f k)) found (some p (rows_from f (k + 1) (n - (k + 1)))))

  pub look-end : n ≤ k → found || some p (rows_from f k (n - k)) ≡ found
  look-end h = ap (λ (b : Bool). found || b) (some_end p f n k h) ∙ or-false found

-- ---- Cases in which no rule of a kind refuses.
module _ (k : Rules) (t : ℕ) where
  pub none_before : (finished : Set) {w : Bool} → w ≡ some (after t) k.befores → not w ≡ true → 0 ≡ before k finished t
  unfolding before missing
  none_before finished {w} e h =
      sym (none-place (missing finished t) k.befores (every_map k.befores (λ x z. rw z) (some-none (after t) k.befores (sym e ∙ not-true w h))))

  pub none-met : (d : Set) → eqb d empty ≡ true → false ≡ some (apart d t) k.blocks
  unfolding apart
  none-met d e =
      sym (none-some (apart d t) k.blocks (every-all k.blocks (λ x. rw (eqb-true d empty e, meets-empty) (and-false (not (has x.tasks t))))))

  pub none-tied : (others : Set) → eqb others empty ≡ true → 0 ≡ bound k others t
  unfolding bound tied
  none-tied others e = sym (none-place (tied others t) k.bindings (every-all k.bindings untied))
    where
      untied : (x : Pair) → tied others t x ≡ false
      untied x = rw (eqb-true others empty e, has-empty x.b, has-empty x.a, and-false (eqb x.a t), and-false (eqb x.b t))

-- ---- One rule: it does not refuse t if t is not in it.
neither : (p q x y : Bool) → not p && not q ≡ true → false ≡ (p && x) || (q && y)
neither false false x y h = refl
neither false true x y h = absurd (true≢false (sym h))
neither true q x y h = absurd (true≢false (sym h))

pub none-side : (others : Set) (t : ℕ) (x : Pair) {a b : ℕ} → a ≡ x.a → b ≡ x.b → not (eqb a t) && not (eqb b t) ≡ true → false ≡ tied others t x
unfolding tied
none-side others t x e f h = neither (eqb x.a t) (eqb x.b t) (has others x.b) (has others x.a) (rw (e, f) at h)

module _ (d : Set) (t : ℕ) (l : Limit) {m : Set} {b : Bool} (e : m ≡ l.members) (f : b ≡ has m t) where
  pub none-crowded : not b ≡ true → false ≡ crowded d t l
  unfolding crowded
  none-crowded h = let z : has l.members t ≡ false = rw e at (sym f ∙ not-true b h) in rw z

  pub one-crowded : not b ≡ false → {x : Bool} → x ≡ leb l.n (overlap l.members (minus d t)) → x ≡ crowded d t l
  unfolding crowded
  one-crowded h q = let z : has l.members t ≡ true = rw e at (sym f ∙ not-false b h) in rw z q
