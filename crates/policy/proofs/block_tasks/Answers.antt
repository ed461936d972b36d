-- `block_tasks` meets its contract: it reads the word of the row.
use mathlib.Core.Path.{sym}
use Rattle.replies.proofs.CellLaws.{column-at}
use Rattle.policy.specs.Layout.{block_at}
use Rattle.policy.proofs.block_tasks.Goals as goal

pub returns : goal.returns
unfolding block_at
returns c = sym (column-at _ _ _ _ _ _ c.requires)
