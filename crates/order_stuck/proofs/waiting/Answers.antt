use mathlib.Core.Path.{◌∙◌}
use native.Mathlib.Omega.{arith}
use Rattle.policy.proofs.RuleLaws.{pairs-are}
use Rattle.order_stuck.proofs.WaitLaws.{none-waits, one-waits, all-wait}
use borrow.Author.Rules.{rules}
use Rattle.order_stuck.proofs.waiting.Goals as goal

pub loop-k-init : goal.loop-k-init
loop-k-init c = none-waits _ _ _

pub loop-k-preserved : goal.loop-k-preserved
loop-k-preserved c = c.with_pair-all.ensures ∙ one-waits _ _ _ _ (search rules) (search rules) c.loop-k.invariant

pub returns : goal.returns
returns c = all-wait _ _ (pairs-are _ 1 (omega arith)) c.pair_count-count.ensures.0 (omega arith) c.loop-k.invariant
