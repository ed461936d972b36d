-- `row_is` meets its contract: one comparison of the word compares the flag, the operation and the object.
use Rattle.policy.proofs.BucketLaws.{row_word}
use Rattle.policy.proofs.row_is.Goals as goal

pub returns : goal.returns
returns c = row_word _ _ c.requires.0 _ _ c.requires.1.0 c.requires.1.1
