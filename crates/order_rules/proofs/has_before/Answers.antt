use mathlib.Core.Path.{sym, ◌∙◌}
use native.Mathlib.Omega.{arith}
use Rattle.policy.specs.Layout.{pair_at}
use Rattle.policy.proofs.RuleLaws.{pairs-are}
use Rattle.replies.proofs.SearchLaws.{some-start}
use Rattle.order_rules.specs.Blocks.{after}
use Rattle.order_rules.proofs.Looks.{look-on, look-end}
use borrow.Author.Rules.{rules}
use Rattle.order_rules.proofs.has_before.Goals as goal

pub loop-k-init : goal.loop-k-init
loop-k-init c = some-start _ (pairs-are _ 1 (omega arith)) c.pair_count-count.ensures.0 _

pub loop-k-preserved : goal.loop-k-preserved
loop-k-preserved c = rw c.pair_b-b.ensures.0 (c.loop-k.invariant ∙ look-on (after _) (pair_at 1 _) _ _ _ (search rules))

pub returns : goal.returns
returns c = sym (c.loop-k.invariant ∙ look-end (after _) (pair_at 1 _) _ _ _ (search rules))
