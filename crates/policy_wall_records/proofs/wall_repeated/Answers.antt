use mathlib.Core.Path.{sym, ◌∙◌}
use native.Mathlib.Omega.{arith}
use Rattle.policy.proofs.RuleLaws.{walls-are}
use Rattle.replies.proofs.SearchLaws.{some-start, some-here, some-later, some_end}
use Rattle.policy_wall_records.proofs.wall_repeated.Goals as goal

pub loop-k-init : goal.loop-k-init
loop-k-init c = some-start _ (walls-are _) c.wall_count-count.ensures.0 _

pub returns-then-row_says : goal.returns-then-row_says
returns-then-row_says c = sym (c.loop-k.invariant ∙ some-here _ _ _ _ (omega arith) (sym c.row_says.ensures ∙ c.if-row_says.true))

pub loop-k-preserved : goal.loop-k-preserved
loop-k-preserved c = c.loop-k.invariant ∙ some-later _ _ _ _ (omega arith) (sym c.row_says.ensures ∙ c.if-row_says.false)

pub returns : goal.returns
returns c = sym (c.loop-k.invariant ∙ some_end _ _ _ _ (omega arith))
