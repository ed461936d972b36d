use borrow.Author.Tests.{le-leb, lt-leb}
use Prim.Native.Nat.{ℕ, ◌+◌, ◌-◌, ◌≤◌}
use mathlib.Core.Path.{◌≡◌, refl, sym, ◌∙◌}
use mathlib.Core.Bool.{Bool}
use native.Mathlib.Omega.{arith}
use Rattle.paper_lower.specs.Sets.{ones_in, size, collect}
use Rattle.paper_lower.specs.Lists.{is}
use Rattle.paper_lower.specs.Policy.{tasks_of}
use Rattle.policy.specs.Reading.{policy_of}
use Rattle.policy_lookups.proofs.Tasks.{size_in, size-out, size-grows}
use borrow.Author.Rules.{rules}
use Rattle.policy_lookups.proofs.two_tasks.Goals as goal
use Rattle.policy_lookups.proofs.two_tasks.Goals.{then-task_is_of+else-n-eq1, else-task_is_of}

pub loop-i-init : goal.loop-i-init
unfolding collect size ones_in
loop-i-init c = (search rules, refl)

pub returns-then-n-eq1 : goal.returns-then-n-eq1
unfolding tasks_of
returns-then-n-eq1 c =
    let args = c.args in
    let loop = c.loop-i in
    let f : ℕ → Bool = λ t. is args.j ((policy_of args.p.now).tasks.template t) in
    let q : loop.n ≡ size (collect loop.i f) = loop.invariant.1 in
    let s = size_in loop.i f (sym c.task_is_of.ensures ∙ c.if-task_is_of.true) in
    let g = size-grows (loop.i + 1) (64 - (loop.i + 1)) f in
    let e : loop.i + 1 + (64 - (loop.i + 1)) ≡ 64 = omega arith in
    let h : size (collect (loop.i + 1) f) ≤ size (collect 64 f) = rw e at g in
    sym (le-leb 2 (size (collect 64 f)) (omega arith))

pub loop-i-preserved : goal.loop-i-preserved
loop-i-preserved c =
    let args = c.args in
    let loop = c.loop-i in
    let f : ℕ → Bool = λ t. is args.j ((policy_of args.p.now).tasks.template t) in
    let q : loop.n ≡ size (collect loop.i f) = loop.invariant.1 in
    elim c.if-task_is_of.branch [
      | then-task_is_of+else-n-eq1 w ↦ let s = size_in loop.i f (sym c.task_is_of.ensures ∙ w.if-task_is_of.true) in (omega arith, omega arith)
      | else-task_is_of w ↦ let s = size-out loop.i f (sym c.task_is_of.ensures ∙ w.if-task_is_of.false) in (omega arith, omega arith)
    ]

pub returns : goal.returns
unfolding tasks_of
returns c =
    let args = c.args in
    let f : ℕ → Bool = λ t. is args.j ((policy_of args.p.now).tasks.template t) in
    let e : c.loop-i.i ≡ 64 = omega arith in
    let q : c.loop-i.n ≡ size (collect 64 f) = rw e at c.loop-i.invariant.1 in
    sym (lt-leb 2 (size (collect 64 f)) (omega arith))
