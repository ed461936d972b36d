-- The loop of `partitioned`, from the last block to the first: its start, one turn and its end.
use Prim.Native.Nat.{ℕ, ◌-◌, ◌≤◌, ◌<◌}
use mathlib.Core.List.{List}
use mathlib.Core.Path.{◌≡◌, sym, ap, ◌∙◌}
use native.Mathlib.Omega.{arith}
use Rattle.paper_lower.specs.Sets.{Set}
use Rattle.paper_lower.specs.Tables.{Block}
use Rattle.paper_lower.specs.Policy.{partitioned}
use Rattle.replies.specs.Cells.{rows_from, rows}
use Rattle.replies.proofs.RowLaws.{rows-down, rows_end}
use Rattle.replies.proofs.SearchLaws.{all_left}
use Rattle.policy_lookups.specs.Rows.{joined}

module _ (a : ℕ) (f : ℕ → Block) where
  pub none-gathered : (n : ℕ) → 0 ≡ partitioned a (rows_from f n (n - n))
  unfolding partitioned
  none-gathered n = rw (rows_end f n n (omega arith))

  pub one-gathered : (k n : ℕ) {rest : Set} → 0 < k → k ≤ n → rest ≡ partitioned a (rows_from f k (n - k)) →
      joined a (f (k - 1)) rest ≡ partitioned a (rows_from f (k - 1) (n - (k - 1)))
  unfolding partitioned
  one-gathered k n p h e = rw (rows-down f k n p h, e)

  pub all-gathered : {all : List Block} {n count k : ℕ} {m : Set} → all ≡ rows f count → n ≡ count → k ≡ 0 → m ≡ partitioned a (rows_from f k (n - k)) →
      m ≡ partitioned a all
  all-gathered are e z g = (rw z at g) ∙ sym (ap (partitioned a) (all_left f are e))
