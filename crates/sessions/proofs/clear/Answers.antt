-- `clear` meets its contract: `fill` writes 0 to each word.
use Rattle.sessions.proofs.StoreLaws.{zeros-cleared}
use Rattle.sessions.proofs.clear.Goals as goal

pub returns : goal.returns
returns c = zeros-cleared c.fill.new.self _ c.told-s (c.fill.ensures.after (λ y e. e))
