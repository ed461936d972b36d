-- The rules of the policy as the rows kept in the buffer, for loops in the crates above: their lists and their numbers.
use Prim.Native.Nat.{ℕ, zero, suc, ◌<◌}
use mathlib.Core.List.{List}
use mathlib.Core.Path.{◌≡◌, refl, ap, ◌∙◌}
use native.Mathlib.Omega.{arith}
use Rattle.paper_lower.specs.Lists.{many}
use Rattle.replies.specs.Cells.{rows}
use Rattle.replies.proofs.RowLaws.{many-rows}
use Rattle.policy.specs.Layout.{limit_count, limit_at, block_count, block_at, pair_count, pair_at, wall_count, walled_at}
use Rattle.policy.specs.declared.SetKind.{SetKind}
use Rattle.policy.specs.declared.SetKind.TheVariants.{Static, Dynamic, Task}
use Rattle.policy.specs.declared.PairKind.{PairKind}
use Rattle.policy.specs.declared.PairKind.TheVariants.{Binding, Prerequisite}
use Rattle.policy.specs.Kinds.{set_index, pair_index}
use Rattle.policy.specs.Reading.{rules_in, policy_of, limit_rows_of, pairs_of}

-- ---- There are three kinds of sets, and two of pairs.
pub set-small : (which : SetKind) → set_index which < 3
set-small Static = omega arith
set-small Dynamic = omega arith
set-small Task = omega arith

pub pair-small : (which : PairKind) → pair_index which < 2
pair-small Binding = omega arith
pair-small Prerequisite = omega arith

module _ (l : List ℕ) where
  -- ---- The rules of a kind are its rows kept.
  pub limits-are : (which : ℕ) → which < 3 → limit_rows_of (policy_of l).rules which ≡ rows (limit_at which l) (limit_count which l)
  unfolding policy_of rules_in
  limits-are zero h = refl
  limits-are (suc zero) h = refl
  limits-are (suc (suc zero)) h = refl
  limits-are (suc (suc (suc which))) h = let no : ⊥ = omega arith in absurd no

  pub blocks-are : (policy_of l).rules.blocks ≡ rows (block_at l) (block_count l)
  unfolding policy_of rules_in
  blocks-are = refl

  pub pairs-are : (which : ℕ) → which < 2 → pairs_of (policy_of l).rules which ≡ rows (pair_at which l) (pair_count which l)
  unfolding policy_of rules_in
  pairs-are zero h = refl
  pairs-are (suc zero) h = refl
  pairs-are (suc (suc which)) h = let no : ⊥ = omega arith in absurd no

  pub walls-are : (policy_of l).walls ≡ rows (walled_at l) (wall_count l)
  unfolding policy_of
  walls-are = refl

  -- ---- Their numbers.
  pub limits-many : (which : ℕ) → which < 3 → many (limit_rows_of (policy_of l).rules which) ≡ limit_count which l
  limits-many which h = ap many (limits-are which h) ∙ many-rows (limit_at which l) 0 (limit_count which l)

  pub blocks-many : many (policy_of l).rules.blocks ≡ block_count l
  blocks-many = ap many blocks-are ∙ many-rows (block_at l) 0 (block_count l)

  pub pairs-many : (which : ℕ) → which < 2 → many (pairs_of (policy_of l).rules which) ≡ pair_count which l
  pairs-many which h = ap many (pairs-are which h) ∙ many-rows (pair_at which l) 0 (pair_count which l)

  pub walls-many : many (policy_of l).walls ≡ wall_count l
  walls-many = ap many walls-are ∙ many-rows (walled_at l) 0 (wall_count l)
