-- `alone` meets its contract: it tests first whether the template is banned and
-- last whether it has two tasks. The order of the tests does not change the result.
use mathlib.Core.Path.{sym, ◌∙◌}
use Rattle.paper_lower.specs.Lists.{holds}
use Rattle.paper_upper.specs.Rules.{alone}
use Rattle.order_rules.proofs.alone.Goals as goal

pub returns-then-not-banned : goal.returns-then-not-banned
unfolding alone holds
returns-then-not-banned c = rw (sym c.banned.ensures ∙ c.if-not-banned.true)

pub returns-then-not-others_within : goal.returns-then-not-others_within
unfolding alone holds
returns-then-not-others_within c =
    let banned = c.banned in
    rw (sym banned.ensures ∙ c.if-not-banned.false, sym c.others_within.ensures ∙ c.if-not-others_within.true)

pub returns : goal.returns
unfolding alone holds
returns c =
    let banned = c.banned in
    let if1 = c.if-not-banned in
    rw (
      sym banned.ensures ∙ if1.false,
      sym c.others_within.ensures ∙ c.if-not-others_within.false,
      c.two_tasks.ensures,
    )
