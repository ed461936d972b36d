-- `enter` meets its contract: the instance is open and an entry is free, as order_links requires.
use mathlib.Core.Bool.{true}
use Rattle.order_links.proofs.ActLaws.{whole}
use Rattle.order_entries.proofs.FigureLaws.{room-left}
use Rattle.order_entries.proofs.ActLaws.{opened-there, enters}
use Rattle.order_entries.proofs.enter.Goals as goal

pub returns : goal.returns
returns c =
    let pre = c.requires in
    let enter = c.enter in
    let z = c.args in
    let l = z.o.now in (
      enter.ensures.0,
      λ s live fits.
          let w = whole l s in
          enters z.i pre.1.0 l _ w.woven z.u z.t z.a
          (enter.ensures.1 s (opened-there l z.i true pre.1.0 live) (room-left l w fits)),
    )
