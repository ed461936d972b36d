use mathlib.Core.Path.{ap, ◌∙◌}
use native.Mathlib.Omega.{arith}
use Rattle.policy.specs.Layout.{among}
use Rattle.policy.proofs.StoreLaws.{tidied-more}
use Rattle.policy.proofs.empty_strays.Goals as goal

pub loop-b-preserved : goal.loop-b-preserved
loop-b-preserved c =
    let loop = c.loop-b in
    tidied-more _ _ _ _ loop.b c.among.result _ (omega arith) loop.invariant (c.among.ensures ∙ ap (λ v. among v loop.b) c.listing_in-w.ensures)
    c.requires.0 (omega arith) (omega arith) c.unless_stray.ensures
