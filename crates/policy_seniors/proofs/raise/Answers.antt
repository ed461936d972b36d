use mathlib.Core.Path.{ap, ◌∙◌}
use native.Mathlib.Omega.{arith}
use Rattle.paper_lower.specs.Sets.{plus}
use Rattle.policy_seniors.proofs.Raising.{rows_more, all-rows}
use Rattle.policy_seniors.proofs.raise.Goals as goal

pub loop-r-preserved : goal.loop-r-preserved
loop-r-preserved c = c.lower.ensures ∙ rows_more _ _ _ _ c.loop-r.invariant

pub returns : goal.returns
returns c =
    let pre = c.requires in
    let args = c.args in
    let below = c.below in
    let with = c.with-under in
    let juniors = c.juniors in
    let with2 = c.with-named in
    let loop = c.loop-r in
    c.set_juniors.ensures ∙
    all-rows _ _ _ pre.0 (with.ensures ∙ ap (λ k. plus k args.b) below.ensures) (with2.ensures ∙ ap (λ k. plus k args.b) juniors.ensures)
    {r = loop.r} (omega arith) loop.invariant
