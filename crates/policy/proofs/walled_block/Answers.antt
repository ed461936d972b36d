-- `walled_block` meets its contract: it reads its part of the row's word.
use mathlib.Core.Path.{sym, ap}
use native.Mathlib.Omega.{arith}
use Rattle.paper_lower.specs.Tables.{Walled}
use Rattle.replies.proofs.CellLaws.{column-at}
use Rattle.policy.specs.Layout.{walled_of, listed_row, walled_at}
use Rattle.policy.proofs.walled_block.Goals as goal

pub returns : goal.returns
unfolding walled_at listed_row walled_of
returns c = (sym (ap (λ (x : Walled). x.block) (column-at _ _ _ _ _ _ c.requires)), omega arith)
