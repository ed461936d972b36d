use mathlib.Core.Path.{sym, ◌∙◌}
use Rattle.policy.specs.Layout.{block_at}
use Rattle.policy.specs.Reading.{policy_of}
use Rattle.policy.proofs.RuleLaws.{blocks-are}
use Rattle.replies.proofs.SearchLaws.{some-start}
use Rattle.order_rules.specs.Blocks.{apart}
use Rattle.order_rules.proofs.Looks.{look-on, look-end, none-met}
use borrow.Author.Rules.{rules}
use Rattle.order_rules.proofs.has_apart.Goals as goal

pub returns-then-is_empty : goal.returns-then-is_empty
returns-then-is_empty c =
    let args = c.args in
    none-met (policy_of args.p.now).rules _ _ (sym c.is_empty.ensures ∙ c.if-is_empty.true)

pub loop-k-init : goal.loop-k-init
loop-k-init c = some-start _ (blocks-are _) c.block_count-count.ensures.0 _

pub loop-k-preserved : goal.loop-k-preserved
loop-k-preserved c =
    let args = c.args in
    let block-count = c.block_count-count in
    let loop = c.loop-k in
    rw c.is_apart-found.ensures (loop.invariant ∙ look-on (apart args.d.bits args.t) (block_at args.p.now) block-count.result loop.k loop.found (search rules))

pub returns : goal.returns
returns c = sym (c.loop-k.invariant ∙ look-end _ _ _ _ _ (search rules))
