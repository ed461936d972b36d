-- `set_opened` meets its contract: the instance was closed, so it has no entries.
use mathlib.Core.Bool.{false}
use Rattle.order_links.proofs.ActLaws.{whole}
use Rattle.order_entries.proofs.OwnLaws.{closed_none}
use Rattle.order_entries.proofs.ActLaws.{opened-there, opens}
use Rattle.order_entries.proofs.set_opened.Goals as goal

pub returns : goal.returns
returns c =
    let pre = c.requires in
    let open-chain = c.open_chain in
    let z = c.args in
    let l = z.o.now in (
      open-chain.ensures.0,
      λ s shut.
          let was = opened-there l z.i false pre.0 shut in
          opens z.i pre.0 l _ (whole l s).woven z.j (closed_none l z.i pre.0 was) (open-chain.ensures.1 s was),
    )
