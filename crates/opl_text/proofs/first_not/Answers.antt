use mathlib.Core.Bool.{not}
use mathlib.Core.Path.{◌≡◌, refl, sym, ◌∙◌, ap}
use native.Mathlib.Omega.{arith}
use Rattle.opl_text.proofs.Laws.{behind-end, behind-stop, behind_more}
use Rattle.opl_text.proofs.first_not.Goals as goal
use Rattle.opl_text.proofs.first_not.Goals.{else-loop-i-test, then-loop-i-test+then-not-passes}

pub loop-i-preserved : goal.loop-i-preserved
loop-i-preserved g c = (
  refl,
  λ p d. c.loop-i.invariant.1 p d ∙ behind_more p c.args.s.now c.loop-i.i c.loop-i-test.true c.passes.result (d _ _ (c.type_inv.s c.loop-i.i).fits c.passes.ensures) (ap not c.if-not-passes.false),
)

pub returns : goal.returns
returns g c = λ p d.
    rw c.loop-i.invariant.0 (elim c.loop-i-test.branch [
      | else-loop-i-test w ↦ record { rest = behind-end p c.args.s.now c.loop-i.i w.loop-i-test.false ∙ sym (c.loop-i.invariant.1 p d); inside = omega arith }
      | then-loop-i-test+then-not-passes w ↦
          record {
            rest = behind-stop p c.args.s.now c.loop-i.i w.loop-i-test.true w.passes.result (d _ _ (c.type_inv.s c.loop-i.i).fits w.passes.ensures) (ap not w.if-not-passes.true) ∙ sym (c.loop-i.invariant.1 p d);
            inside = omega (arith, w.loop-i-test.true);
          }
    ])
