use mathlib.Core.Path.{◌≡◌, refl, sym, ◌∙◌}
use native.Mathlib.Omega.{arith}
use Rattle.paper_lower.specs.Sets.{collect}
use Rattle.paper_lower.specs.Policy.{declared_tasks}
use Rattle.replies.proofs.SearchLaws.{collect-more}
use Rattle.policy_lookups.proofs.declared_tasks.Goals as goal

pub loop-t-init : goal.loop-t-init
unfolding collect
loop-t-init c = refl

pub loop-t-preserved : goal.loop-t-preserved
loop-t-preserved c =
    let loop = c.loop-t in
    c.with_if-all.ensures ∙ rw (c.task_declared.ensures, loop.invariant) (sym (collect-more _ _))

pub returns : goal.returns
unfolding declared_tasks
returns c = let e : 64 ≡ c.loop-t.t = omega arith in rw e c.loop-t.invariant
