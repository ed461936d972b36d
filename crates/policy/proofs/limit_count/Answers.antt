-- `limit_count` meets its contract: it reads the number kept, capped at its limit.
use mathlib.Core.Path.{ap, ◌∙◌}
use native.Mathlib.Omega.{arith}
use Rattle.policy.specs.Layout.{limit_count}
use Rattle.policy.proofs.limit_count.Goals as goal

pub returns : goal.returns
unfolding limit_count
returns c = (c.cut.ensures ∙ ap (λ w. limit_count w c.args.p.now) c.index.ensures.0, omega arith)
