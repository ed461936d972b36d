-- `clear` meets its contract: it stores zeros in all words.
use mathlib.Core.Path.{◌∙◌}
use Rattle.policy.proofs.ClearLaws.{cleared}
use Rattle.policy.proofs.clear.Goals as goal

pub returns : goal.returns
returns c =
    let fill = c.fill.ensures in
    cleared _ _ (fill.len ∙ c.told-p) (fill.after (λ y e. e))
