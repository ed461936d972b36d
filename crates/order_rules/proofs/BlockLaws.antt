-- The rule BLOCK, where no block is apart from the claimed task.
use Prim.Native.Nat.{ℕ}
use mathlib.Core.Bool.{Bool, true, false, not, cond, ◌&&◌}
use mathlib.Core.Path.{◌≡◌, refl, ap, sym, ◌∙◌}
use borrow.Author.Tests.{not-true}
use lib.Dec.{eqb}
use Rattle.paper_lower.specs.Sets.{has, meets}
use Rattle.paper_lower.specs.Lists.{some, place, Every}
use Rattle.paper_lower.specs.Tables.{Rules}
use Rattle.paper_lower.proofs.ListLaws.{every_map, some-none, none-place, none_first}
use Rattle.paper_upper.specs.Rules.{own, strange, block_within, block}
use Rattle.order_rules.specs.Blocks.{apart}

still-none : (a b c : Bool) → b && c ≡ false → a && b && c ≡ false
still-none true b c h = h
still-none false b c h = refl

cond_same : {A : Type 0} (b : Bool) (x : A) → cond b x x ≡ x
cond_same true x = refl
cond_same false x = refl

module _ (k : Rules) (d t : ℕ) where
  -- If no block is apart from t, no partitioning refuses t.
  pub none_apart : {w : Bool} → w ≡ some (apart d t) k.blocks → not w ≡ true → 0 ≡ block k d t
  unfolding block block_within strange apart
  none_apart {w} e h = sym (none_first 0 16 (block_within k d t) nowhere)
    where
      apart_none : Every (λ x. apart d t x ≡ false) k.blocks
      apart_none = some-none (apart d t) k.blocks (sym e ∙ not-true w h)

      nowhere : (q : ℕ) → block_within k d t q ≡ 0
      nowhere q =
          let none : place (strange q d t) k.blocks ≡ 0 =
          none-place (strange q d t) k.blocks
          (every_map k.blocks (λ x z. still-none (eqb x.partitioning q) (not (has x.tasks t)) (meets x.tasks d) z) apart_none) in
          ap (λ n. cond (some (own q t) k.blocks) n 0) none ∙ cond_same (some (own q t) k.blocks) 0
