-- `set_below` meets its contract: it stores the row, and marks the role as having a role below it.
use mathlib.Core.Path.{ap, ◌∙◌}
use Rattle.paper_lower.specs.Sets.{plus}
use Rattle.policy.proofs.StoreLaws.{below_set}
use Rattle.policy.proofs.set_below.Goals as goal

pub returns : goal.returns
returns c =
    let pre = c.requires in
    let args = c.args in
    below_set _ c.told-p _ _ pre _ (c.with-more.ensures ∙ ap (λ m. plus m args.r) c.seniors.ensures)
