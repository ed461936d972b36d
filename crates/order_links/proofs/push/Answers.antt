-- `push` meets its contract: the entry links to the one that was newest, and is the newest now.
use Rattle.order_links.proofs.TotalLaws.{any-pushed}
use Rattle.order_links.proofs.push.Goals as goal

pub returns : goal.returns
returns c =
    rw (c.head.ensures, c.count.ensures, c.chain_at-x.ensures)
    (any-pushed c.args.o.now c.told-o c.args.i c.requires.1.0 c.args.k c.args.p c.requires.0 c.requires.1.1)
