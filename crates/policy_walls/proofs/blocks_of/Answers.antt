use mathlib.Core.Path.{sym, ap, ◌∙◌}
use native.Mathlib.Omega.{arith}
use Rattle.blocks.specs.Reading.{blocks_of, over}
use Rattle.policy_walls.specs.Found.{blocks_from}
use Rattle.policy_walls.proofs.FoundLaws.{over_none, none_over, from_start, from_end}
use Rattle.policy_walls.proofs.blocks_of.Goals as goal

pub loop-part-init : goal.loop-part-init
loop-part-init c =
    let args = c.args in
    ap (λ f. over f (blocks_from args.p.now args.object 0)) c.none-all.ensures ∙ none_over _

pub returns : goal.returns
returns c =
    sym (over_none _)
    ∙ ap (over (blocks_of c.loop-part.all)) (sym (from_end _ _ c.loop-part.part (omega arith)))
    ∙ c.loop-part.invariant
    ∙ from_start _ _
