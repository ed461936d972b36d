-- `pair_count` meets its contract: it reads the number kept, capped at its limit.
use mathlib.Core.Path.{ap, ◌∙◌}
use native.Mathlib.Omega.{arith}
use Rattle.policy.specs.Layout.{pair_count}
use Rattle.policy.proofs.pair_count.Goals as goal

pub returns : goal.returns
unfolding pair_count
returns c = (c.cut.ensures ∙ ap (λ w. pair_count w c.args.p.now) c.index.ensures.0, omega arith)
