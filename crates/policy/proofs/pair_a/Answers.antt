-- `pair_a` meets its contract: it reads its part of the row's word.
use mathlib.Core.Path.{sym}
use native.Mathlib.Omega.{arith}
use Rattle.replies.proofs.CellLaws.{column-at}
use Rattle.policy.specs.Layout.{pair_at}
use Rattle.policy.proofs.pair_a.Goals as goal

pub returns : goal.returns
unfolding pair_at
returns c = rw (← c.index.ensures.0) (sym (column-at _ _ _ _ _ _ c.requires), omega arith)
