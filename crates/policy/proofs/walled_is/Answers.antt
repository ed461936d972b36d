-- `walled_is` meets its contract: it compares the object in the word of the row.
use mathlib.Core.Path.{sym, ap}
use lib.Dec.{eqb}
use Rattle.paper_lower.specs.Tables.{Walled}
use Rattle.replies.proofs.CellLaws.{column-at}
use Rattle.policy.specs.Layout.{walled_of, walled_is}
use Rattle.policy.proofs.walled_is.Goals as goal

pub returns : goal.returns
unfolding walled_is walled_of
returns c = sym (ap (λ (x : Walled). eqb x.object c.args.object) (column-at _ _ _ _ _ _ c.requires))
