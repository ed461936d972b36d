-- `is_in` meets its contract: the row has a pair, and the pair has the bucket.
use Rattle.policy.proofs.BucketLaws.{in-word}
use Rattle.policy.proofs.is_in.Goals as goal

pub returns : goal.returns
returns c = in-word _ _ c.bucket_of.ensures.0
