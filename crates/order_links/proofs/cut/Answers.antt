-- `cut` meets its contract: for the newest entry it changes the word of the chain, and for any other the link of the entry before it.
use native.Mathlib.Omega.{arith}
use Rattle.order_links.proofs.TotalLaws.{any-newest, any-later}
use Rattle.order_links.proofs.cut.Goals as goal

pub returns-then-kept-eq0 : goal.returns-then-kept-eq0
returns-then-kept-eq0 c =
    let args = c.args in
    rw (c.link-next.ensures, c.word.ensures, c.count.ensures, c.chain_at-x.ensures)
    (any-newest args.o.now c.told-o args.i (omega arith) args.kept args.q args.k c.if-kept-eq0.true)

pub returns : goal.returns
returns c =
    let args = c.args in
    rw (c.link-next.ensures, c.word.ensures, c.word-v.ensures, c.head.ensures, c.count.ensures, c.chain_at-x.ensures)
    (any-later args.o.now c.told-o args.i (omega arith) args.kept args.q args.k c.if-kept-eq0.false)
