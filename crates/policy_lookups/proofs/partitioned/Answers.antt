use mathlib.Core.Path.{◌∙◌}
use native.Mathlib.Omega.{arith}
use Rattle.policy.proofs.RuleLaws.{blocks-are}
use Rattle.policy_lookups.proofs.Walks.{none-gathered, one-gathered, all-gathered}
use borrow.Author.Rules.{rules}
use Rattle.policy_lookups.proofs.partitioned.Goals as goal

pub loop-k-init : goal.loop-k-init
loop-k-init c = none-gathered _ _ _

pub loop-k-preserved : goal.loop-k-preserved
loop-k-preserved c = c.with_block-all.ensures ∙ one-gathered _ _ _ _ (search rules) (search rules) c.loop-k.invariant

pub returns : goal.returns
returns c = all-gathered _ _ (blocks-are _) c.block_count-count.ensures.0 (omega arith) c.loop-k.invariant
