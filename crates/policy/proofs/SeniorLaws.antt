-- Senior roles: a role that is not marked as having roles below it has none, and the row of a role that is marked has them.
use Prim.Native.Nat.{ℕ, ◌+◌, ◌≤◌, ◌<◌}
use mathlib.Core.Bool.{Bool, true, false, cond}
use mathlib.Core.List.{List}
use mathlib.Core.Path.{◌≡◌, refl, sym}
use borrow.Author.Tests.{le-ltb}
use lib.ListN.{get_or}
use Rattle.paper_lower.specs.Sets.{empty, has}
use Rattle.replies.specs.Cells.{column}
use Rattle.replies.proofs.CellLaws.{column-at}
use Rattle.policy.specs.Layout.{below_table, seniors_in, below_in}
use Rattle.policy.specs.Reading.{seniority_in, policy_of}

module _ (l : List ℕ) (r : ℕ) where
  pub none_below : has (seniors_in l) r ≡ false → (policy_of l).seniority.below r ≡ empty
  unfolding policy_of seniority_in below_in
  none_below e = rw e

  pub below_row : r < 64 → has (seniors_in l) r ≡ true → get_or l (below_table.first + r) 0 ≡ (policy_of l).seniority.below r
  unfolding policy_of seniority_in below_in
  below_row h e = rw e (sym (column-at below_table.read below_table.past below_table.first 64 l r h))

  -- A number that is no role has no roles below it.
  pub past-below : 64 ≤ r → (policy_of l).seniority.below r ≡ empty
  unfolding policy_of seniority_in below_in column
  past-below h = rw (le-ltb r 64 h) (same (has (seniors_in l) r))
    where
      same : (t : Bool) → cond t empty empty ≡ empty
      same true = refl
      same false = refl
