use Prim.Native.Nat.{◌/◌}
use mathlib.Core.Path.{◌≡◌, refl, ap, ◌∙◌}
use native.Mathlib.Omega.{arith}
use lib.ListN.{length}
use Rattle.opl_names.specs.Table.{mark_to}
use Rattle.opl_names.proofs.TableLaws.{quads-on, quads-end}
use Rattle.opl_names.proofs.mark.Goals as goal

pub loop-k-preserved : goal.loop-k-preserved
loop-k-preserved c = (c.turn-h.ensures.1, quads-on c.args.name.now c.loop-k.k c.loop-k.invariant.1 c.quad.ensures.0 c.turn-h.ensures.0)

pub returns : goal.returns
returns c =
    let name = c.args.name.now in
    let all : c.loop-k.k ≡ length name / 4 = omega (arith, c.loop-k-test.false) in (
      quads-end name (length name / 4) (c.loop-k.invariant.1 ∙ ap (mark_to name) all) refl c.rest.ensures.0 c.turn.ensures.0,
      c.turn.ensures.1,
    )
