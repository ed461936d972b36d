-- `end_order` meets its contract: closing the chain of the instance removes exactly its entries.
use Rattle.order_links.proofs.ActLaws.{whole}
use Rattle.order_entries.proofs.ActLaws.{ends}
use Rattle.order_entries.proofs.end_order.Goals as goal

pub returns : goal.returns
returns c =
    let close-chain = c.close_chain in
    let z = c.args in
    let l = z.o.now in
    (close-chain.ensures.0, λ s. ends z.i c.requires l _ (whole l s).woven (close-chain.ensures.1 s))
