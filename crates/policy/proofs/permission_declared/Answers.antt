-- `permission_declared` meets its contract: it tests the word of the row, and whether the bucket of the row's pair lists it.
use Rattle.policy.specs.Reading.{policy_of}
use Rattle.policy.proofs.BucketLaws.{lists-word, declared-there}
use Rattle.policy.proofs.permission_declared.Goals as goal

pub returns : goal.returns
unfolding policy_of
returns c =
    let pre = c.requires in
    declared-there _ _ pre (lists-word _ _ _ c.bucket_of-bucket.ensures.0 c.listing_in.ensures c.among-listed.ensures)
