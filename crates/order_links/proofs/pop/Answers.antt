-- `pop` meets its contract: the chain then starts with the entry that its newest entry links to. For other contents the index stays in the buffer.
use Rattle.order_links.proofs.TotalLaws.{any-popped}
use Rattle.order_links.proofs.pop.Goals as goal

pub returns : goal.returns
returns c =
    let args = c.args in
    let pre = c.requires in
    let same = rw (c.head.ensures, c.chain_at-x.ensures) at c.in_reach-k.ensures.1.1 in
    rw (c.link.ensures, c.word-w.ensures, c.count.ensures, c.chain_at-x.ensures)
    (any-popped args.o.now c.told-o args.i pre c.in_reach-k.result c.in_reach-k.ensures.1.0 same)
