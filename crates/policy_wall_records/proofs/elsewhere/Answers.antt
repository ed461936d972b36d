-- `elsewhere` meets its contract: it compares the object's blocks with block b of wall a alone.
use mathlib.Core.Path.{ap, ◌∙◌}
use Rattle.paper_lower.specs.Lists.{some_number_below}
use Rattle.blocks.specs.Reading.{over, only, apart}
use Rattle.policy_wall_records.proofs.Laws.{apart-one}
use Rattle.policy_wall_records.proofs.elsewhere.Goals as goal

pub returns : goal.returns
returns c =
    let args = c.args in
    let pre = c.requires in
    let none = c.none in
    c.between.ensures
    ∙ (λ x. some_number_below 16
    (apart (c.blocks_of.ensures x) ((c.with-here.ensures ∙ ap (λ f. over f (only args.a args.b)) none.ensures) x)))
    ∙ apart-one _ _ _ pre.0
