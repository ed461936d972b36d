use mathlib.Core.Path.{ap, ◌∙◌}
use native.Mathlib.Omega.{arith}
use Rattle.paper_lower.specs.Sets.{size}
use Rattle.paper_lower.specs.Lists.{sum_below}
use Rattle.sets.proofs.SetLaws.{size-le}
use Rattle.policy_seniors.proofs.Counting.{sum-next, sum-all}
use borrow.Author.Rules.{rules}
use Rattle.policy_seniors.proofs.raisings.Goals as goal

pub loop-r-init : goal.loop-r-init
loop-r-init c = (search rules, unfold sum_below in search rules)

pub overflow_add-n : goal.overflow_add-n
overflow_add-n c = omega (arith, size-le 64 c.juniors.result.bits (search rules))

pub loop-r-preserved : goal.loop-r-preserved
loop-r-preserved c =
    let loop = c.loop-r in (
      omega (arith, size-le 64 c.juniors.result.bits (search rules)),
      sum-next _ _ _ _ loop.invariant.1 (c.count-n.ensures ∙ ap size c.juniors.ensures),
    )

pub returns : goal.returns
returns c = sum-all _ c.loop-r.r _ (omega arith) c.loop-r.invariant.1
