-- `row_says` meets its contract: a row whose word is not about the object is not the same, and otherwise the wall and the block of the row are compared.
use Rattle.policy_wall_records.proofs.Laws.{says-not}
use Rattle.policy_wall_records.proofs.row_says.Goals as goal

pub returns-then-not-walled_is : goal.returns-then-not-walled_is
returns-then-not-walled_is c = says-not _ _ _ _ _ c.requires.1 c.walled_is.ensures c.if-not-walled_is.true
