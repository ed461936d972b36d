use Prim.Native.Nat.{ℕ}
use mathlib.Core.Path.{◌≡◌, ap, ◌∙◌}
use native.Mathlib.Omega.{arith}
use Rattle.order_links.proofs.ActLaws.{whole}
use Rattle.order_links.specs.Chains.{mark_of}
use Rattle.order_entries.specs.Reading.{any_up_to}
use Rattle.order_entries.proofs.FlatLaws.{up_more}
use Rattle.order_entries.proofs.any.Goals as goal

pub loop-k-preserved : goal.loop-k-preserved
loop-k-preserved c =
    let args = c.args in
    let v = c.loop-k in
    up_more args.o.now v.k args.mask args.key _ v.hits _ c.half_fits-hit.result c.word-w.ensures c.half_fits-hit.ensures c.from-hits.ensures v.invariant.0
    v.invariant.1

pub returns : goal.returns
returns c =
    let args = c.args in
    λ s.
    let l = args.o.now in
    let v = c.loop-k in
    let m = (whole l s).woven.mark in
    let q = c.mark-m.ensures.1 m in
    let e : v.k ≡ mark_of l = omega arith in
    v.invariant.1 ∙ ap (λ (n : ℕ). any_up_to l n args.mask args.key) e
