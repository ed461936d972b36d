-- `take_free` meets its contract: it takes the newest entry of the free chain, or the first one past the mark.
use mathlib.Core.Path.{sym, ◌∙◌}
use Rattle.order_links.proofs.TotalLaws.{any-marked}
use Rattle.order_links.proofs.take_free.Goals as goal

pub returns-then-n-eq0 : goal.returns-then-n-eq0
returns-then-n-eq0 c =
    let args = c.args in
    any-marked args.o.now c.told-o (sym c.count-n.ensures ∙ c.if-n-eq0.true)
