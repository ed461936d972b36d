use mathlib.Core.Path.{◌≡◌, refl, ap, ◌∙◌}
use native.Mathlib.Omega.{arith}
use Rattle.paper_lower.specs.Sets.{collect}
use Rattle.paper_lower.specs.Policy.{tasks_of}
use Rattle.order_stuck.proofs.Words.{taken_in, left_out}
use Rattle.order_stuck.proofs.tasks_of.Goals.{then-task_is_of, else-task_is_of}
use Rattle.order_stuck.proofs.tasks_of.Goals as goal

pub loop-t-init : goal.loop-t-init
unfolding collect
loop-t-init c = refl

pub loop-t-preserved : goal.loop-t-preserved
loop-t-preserved c =
    let loop = c.loop-t in
    elim c.if-task_is_of.branch [
      | then-task_is_of w ↦ ap (λ s. s.bits) w.all-is ∙ w.with-all.ensures ∙ taken_in _ _ loop.invariant c.task_is_of.ensures w.if-task_is_of.true
      | else-task_is_of w ↦ ap (λ s. s.bits) w.all-is ∙ left_out _ _ loop.invariant c.task_is_of.ensures w.if-task_is_of.false
    ]

pub returns : goal.returns
unfolding tasks_of
returns c = let e : 64 ≡ c.loop-t.t = omega arith in rw e c.loop-t.invariant
