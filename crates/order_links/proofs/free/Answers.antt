-- `free` meets its contract: it takes the entry out of the chain and puts it on the free chain.
use Rattle.order_links.proofs.TotalLaws.{any-freed}
use Rattle.order_links.proofs.free.Goals as goal

pub returns : goal.returns
returns c =
    let args = c.args in
    let pre = c.requires in
    let cut = c.cut in
    let payload = c.payload-p in
    any-freed args.o.now _ _ args.i args.kept args.q args.k payload.result pre.0 cut.ensures c.push.ensures
