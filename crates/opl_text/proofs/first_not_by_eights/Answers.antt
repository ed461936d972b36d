use mathlib.Core.Path.{◌∙◌}
use native.Mathlib.Omega.{arith}
use Rattle.opl_text.proofs.first_not_by_eights.Goals as goal

pub loop-i-preserved : goal.loop-i-preserved
loop-i-preserved g c =
    (omega (arith, c.loop-i.invariant.0, c.loop-i-test.true), λ p q. c.loop-i.invariant.1 p q ∙ c.all_eight.ensures p q c.if-all_eight.true)

pub returns : goal.returns
returns g c = λ p q d. rw (c.loop-i.invariant.1 p q) (c.first_not.ensures p d)
