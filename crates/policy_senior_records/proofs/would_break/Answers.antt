use mathlib.Core.Path.{refl, sym, ◌∙◌}
use native.Mathlib.Omega.{arith}
use Rattle.paper_lower.specs.Lists.{some_number_below}
use Rattle.replies.proofs.SearchLaws.{below_more, below-found}
use Rattle.policy_senior_records.proofs.would_break.Goals as goal

pub loop-u-init : goal.loop-u-init
unfolding some_number_below
loop-u-init c = refl

pub returns-then-user_would_break : goal.returns-then-user_would_break
returns-then-user_would_break c = sym (below-found _ _ _ (omega arith) (sym c.user_would_break.ensures ∙ c.if-user_would_break.true))

pub loop-u-preserved : goal.loop-u-preserved
loop-u-preserved c = below_more _ _ c.loop-u.invariant (sym c.user_would_break.ensures ∙ c.if-user_would_break.false)
