-- A rule record that passes its checks meets what the setter requires: there is room for one more rule of its kind, and a count limit is not 0.
use Prim.Native.Nat.{ℕ, ◌<◌}
use mathlib.Core.Bool.{Bool, false}
use mathlib.Core.List.{List}
use mathlib.Core.Path.{◌≡◌, sym}
use native.Mathlib.Omega.{arith}
use lib.Dec.{leb}
use borrow.Author.Tests.{leb-false, eqb-false}
use Rattle.paper_lower.specs.Sets.{Set}
use Rattle.paper_lower.specs.Lists.{many}
use Rattle.paper_lower.specs.Checks.{first}
use Rattle.paper_lower.specs.Policy.{block_checks, most_checks}
use Rattle.paper_lower.proofs.CheckLaws.{passed}
use Rattle.policy.specs.declared.SetKind.{SetKind}
use Rattle.policy.specs.declared.SetKind.TheVariants.{Static, Dynamic, Task}
use Rattle.policy.specs.declared.PairKind.{PairKind}
use Rattle.policy.specs.declared.PairKind.TheVariants.{Binding, Prerequisite}
use Rattle.policy.specs.Kinds.{set_index, pair_index}
use Rattle.policy.specs.Layout.{limit_count, block_count, pair_count}
use Rattle.policy.specs.Reading.{policy_of, limit_rows_of, pairs_of}
use Rattle.policy.proofs.RuleLaws.{limits-many, blocks-many, pairs-many}
use Rattle.policy_rule_records.specs.Shared.{limit_checks, pair_checks}

less : {k n most : ℕ} → n ≡ k → leb most n ≡ false → k < most
less {n = n} {most = most} e f = omega (arith, leb-false most n f)

module _ (l : List ℕ) where
  pub limits_many : (which : SetKind) → many (limit_rows_of (policy_of l).rules (set_index which)) ≡ limit_count (set_index which) l
  limits_many Static = limits-many l 0 (omega arith)
  limits_many Dynamic = limits-many l 1 (omega arith)
  limits_many Task = limits-many l 2 (omega arith)

  pub pairs_many : (which : PairKind) → many (pairs_of (policy_of l).rules (pair_index which)) ≡ pair_count (pair_index which) l
  pairs_many Binding = pairs-many l 0 (omega arith)
  pairs_many Prerequisite = pairs-many l 1 (omega arith)

  pub blocks_many : many (policy_of l).rules.blocks ≡ block_count l
  blocks_many = blocks-many l

  pub limit_room : (which : SetKind) (known : Set) (ill over : Bool) (k : ℕ) (m : Set) →
      0 ≡ first (limit_checks (policy_of l) (set_index which) known ill over k m) → limit_count (set_index which) l < 32
  unfolding limit_checks
  limit_room which known ill over k m e =
      less (limits_many which) (passed (limit_checks (policy_of l) (set_index which) known ill over k m) (tt, (tt, (tt, (tt, (tt, tt))))) (sym e)).1.1.1.1.0

  pub block_room : (q : ℕ) (m : Set) → 0 ≡ first (block_checks (policy_of l) q m) → block_count l < 64
  unfolding block_checks
  block_room q m e = less blocks_many (passed (block_checks (policy_of l) q m) (tt, (tt, (tt, (tt, tt)))) (sym e)).1.1.1.0

  pub pair_room : (which : PairKind) (repeated : Bool) (x y : ℕ) →
      0 ≡ first (pair_checks (policy_of l) (pair_index which) repeated x y) → pair_count (pair_index which) l < 64
  unfolding pair_checks
  pair_room which repeated x y e =
      less (pairs_many which) (passed (pair_checks (policy_of l) (pair_index which) repeated x y) (tt, (tt, (tt, (tt, tt)))) (sym e)).1.1.1.0

  pub most_some : (k t : ℕ) → 0 ≡ first (most_checks (policy_of l) k t) → 0 < k
  unfolding most_checks
  most_some k t e =
      let some = eqb-false k 0 (passed (most_checks (policy_of l) k t) (tt, (tt, (tt, tt))) (sym e)).1.1.0 in
      omega arith
