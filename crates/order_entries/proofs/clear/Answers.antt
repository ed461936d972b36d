-- `clear` meets its contract: `fill` writes 0 to each word.
use Rattle.order_entries.proofs.ZeroLaws.{cleared}
use Rattle.order_entries.proofs.clear.Goals as goal

pub returns : goal.returns
returns c = cleared c.fill.new.self _ c.told-o (c.fill.ensures.after (λ y e. e))
