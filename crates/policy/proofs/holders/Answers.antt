-- `holders` meets its contract: it reads the word of the row.
use mathlib.Core.Path.{sym}
use Rattle.replies.proofs.CellLaws.{column-at}
use Rattle.policy.specs.Reading.{policy_of, permissions_in}
use Rattle.policy.proofs.holders.Goals as goal

pub returns : goal.returns
unfolding policy_of permissions_in
returns c = sym (column-at _ _ _ _ _ _ c.requires)
