-- `listing_in` meets its contract: it reads the word of the bucket.
use mathlib.Core.Path.{sym}
use Rattle.replies.proofs.CellLaws.{column-at}
use Rattle.policy.proofs.listing_in.Goals as goal

pub returns : goal.returns
returns c = sym (column-at _ _ _ _ _ _ c.requires)
