use Prim.Native.Nat.{◌+◌, ◌-◌}
use mathlib.Core.Path.{sym, ◌∙◌}
use native.Mathlib.Omega.{arith}
use Rattle.order_links.proofs.CarryLaws.{emptied}
use Rattle.order_links.proofs.TotalLaws.{drops-on}
use Rattle.order_links.proofs.drop_all.Goals as goal

pub loop-dropped-preserved : goal.loop-dropped-preserved
loop-dropped-preserved c =
    let v = c.loop-dropped in (
      c.drop_one.ensures.0 ∙ v.invariant.0,
      λ w.
          drops-on c.args.i c.args.o.now v.o _ (c.count-n.result - v._dropped) (c.count-n.result - (v._dropped + 1)) c.drop_one.result c.requires (omega arith)
          (v.invariant.1 w) c.drop_one.ensures,
    )

pub returns : goal.returns
returns c =
    let v = c.loop-dropped in (
      v.invariant.0 ∙ sym c.told-o,
      λ w. let s = v.invariant.1 w in let e = s.count in emptied c.args.i c.args.o.now v.o s.still s.aside (omega arith),
    )
