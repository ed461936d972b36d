-- `in_use` meets its contract: the entries in use are those up to the mark that are not in the free chain.
use mathlib.Core.Path.{ap, ◌∙◌}
use native.Mathlib.Omega.{arith}
use Rattle.order_links.specs.Chains.{count_of}
use Rattle.order_links.proofs.ActLaws.{whole}
use Rattle.order_entries.proofs.FigureLaws.{used}
use Rattle.order_entries.proofs.in_use.Goals as goal

pub returns : goal.returns
returns c =
    let args = c.args in
    λ s.
    let w = whole args.o.now s in
    let u = used args.o.now w in
    let a = c.chain.ensures in
    let n = c.count-spare.ensures ∙ ap count_of a in
    let m = w.woven.mark in
    let b = c.mark-m.ensures.1 m in
    omega arith
