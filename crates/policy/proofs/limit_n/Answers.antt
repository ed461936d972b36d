-- `limit_n` meets its contract: it reads the word of the row.
use mathlib.Core.Path.{sym}
use Rattle.replies.proofs.CellLaws.{column-at}
use Rattle.policy.specs.Layout.{limit_at}
use Rattle.policy.proofs.limit_n.Goals as goal

pub returns : goal.returns
unfolding limit_at
returns c = rw (← c.index.ensures.0) (sym (column-at _ _ _ _ _ _ c.requires))
