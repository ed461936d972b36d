-- Laws of the tasks that wait, those with a prerequisite that is not in `had`: the loop that gathers them, and which tasks may come next.
use Prim.Native.Nat.{ℕ, ◌-◌, ◌≤◌, ◌<◌}
use mathlib.Core.Bool.{Bool, true, false, not, cond, ◌&&◌, ◌||◌}
use mathlib.Core.List.{List, [], ◌∷◌}
use mathlib.Core.Logic.{⊎_elim}
use mathlib.Core.Path.{◌≡◌, refl, sym, ap, ap₂, ◌∙◌}
use native.Mathlib.Omega.{arith}
use borrow.Author.Tests.{eq-eqb, ne_eqb}
use lib.Dec.{eqb}
use Rattle.paper_lower.specs.Sets.{Set, has, plus, union, collect}
use Rattle.paper_lower.specs.Lists.{some}
use Rattle.paper_lower.specs.Tables.{Pair}
use Rattle.paper_lower.proofs.ListLaws.{and-false}
use Rattle.sets.proofs.Bits.{same-or-other}
use Rattle.sets.proofs.SetLaws.{has-empty, has-plus, has-union, collect-below}
use Rattle.paper_upper.specs.Rules.{missing}
use Rattle.paper_upper.specs.Stuck.{ready, may}
use Rattle.replies.specs.Cells.{rows_from, rows}
use Rattle.replies.proofs.RowLaws.{rows-down, rows_end}
use Rattle.replies.proofs.SearchLaws.{all_left}
use Rattle.order_stuck.specs.Listing.{waits, waiting}

-- ---- One prerequisite: its earlier task is in `had`, or its later task waits.
module _ (had : Set) (x : Pair) (rest : Set) {a : ℕ} {r : Bool} (first : a ≡ x.a) (is : r ≡ has had a) where
  pub is-had : r ≡ true → rest ≡ waits had x rest
  is-had e = let h : has had x.a ≡ true = ap (has had) (sym first) ∙ sym is ∙ e in rw h

  pub is-waiting : {b : ℕ} {s : Set} → r ≡ false → b ≡ x.b → s ≡ plus rest b → s ≡ waits had x rest
  is-waiting e q w = let h : has had x.a ≡ false = ap (has had) (sym first) ∙ sym is ∙ e in rw h (w ∙ ap (plus rest) q)

-- ---- The loop from the last prerequisite to the first: its start, one turn and its end.
module _ (had : Set) (f : ℕ → Pair) where
  pub none-waits : (n : ℕ) → 0 ≡ waiting had (rows_from f n (n - n))
  unfolding waiting
  none-waits n = rw (rows_end f n n (omega arith))

  pub one-waits : (k n : ℕ) {rest : Set} → 0 < k → k ≤ n → rest ≡ waiting had (rows_from f k (n - k)) →
      waits had (f (k - 1)) rest ≡ waiting had (rows_from f (k - 1) (n - (k - 1)))
  unfolding waiting
  one-waits k n p h e = rw (rows-down f k n p h, e)

  pub all-wait : {all : List Pair} {n count k : ℕ} {m : Set} → all ≡ rows f count → n ≡ count → k ≡ 0 → m ≡ waiting had (rows_from f k (n - k)) →
      m ≡ waiting had all
  all-wait are e z g = (rw z at g) ∙ sym (ap (waiting had) (all_left f are e))

-- ---- Task t waits exactly if one of its prerequisites is missing.
turned : (a b : ℕ) → eqb a b ≡ eqb b a
turned a b = ⊎_elim (λ (e : a ≡ b). eq-eqb a b e ∙ sym (eq-eqb b a (sym e))) (λ n. ne_eqb a b n ∙ sym (ne_eqb b a (λ e. n (sym e)))) (same-or-other a b)

pub has-waiting : (had : Set) (xs : List Pair) (t : ℕ) → has (waiting had xs) t ≡ some (missing had t) xs
unfolding waiting some missing
has-waiting had [] t = has-empty t
has-waiting had (x ∷ xs) t = go (has had x.a) (has-waiting had xs t)
  where
    joins : (a b : Bool) → a || b ≡ (b && true) || a
    joins true true = refl
    joins true false = refl
    joins false true = refl
    joins false false = refl

    go : (b : Bool) → has (waiting had xs) t ≡ some (missing had t) xs
        → has (cond b (waiting had xs) (plus (waiting had xs) x.b)) t ≡ (eqb x.b t && not b) || some (missing had t) xs
    go true h = h ∙ ap (λ (y : Bool). y || some (missing had t) xs) (sym (and-false (eqb x.b t)))
    go false h = has-plus (waiting had xs) x.b t ∙ ap₂ ◌||◌ h (turned t x.b) ∙ joins (some (missing had t) xs) (eqb x.b t)

-- The tasks of m that are neither in `had` nor waiting are those that may come next.
pub others-may : (m : Set) (befores : List Pair) (had : Set) (t : ℕ) → t < 64
    → has (collect 64 (λ u. has m u && not (has (union had (waiting had befores)) u))) t ≡ may m befores had t
unfolding may ready
others-may m befores had t l =
    collect-below 64 _ t l ∙
    ap (λ (b : Bool). has m t && not b) (has-union had (waiting had befores) t ∙ ap (λ (b : Bool). has had t || b) (has-waiting had befores t))
    ∙ split (has m t) (has had t) (some (missing had t) befores)
  where
    split : (a b c : Bool) → a && not (b || c) ≡ a && not b && not c
    split true true c = refl
    split true false c = refl
    split false true c = refl
    split false false c = refl
