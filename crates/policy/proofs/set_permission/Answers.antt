-- `set_permission` meets its contract: it stores the row, and the word by which the bucket of the pair lists it.
use native.Mathlib.Omega.{arith}
use Rattle.policy.proofs.StoreLaws.{permission-set}
use Rattle.policy.proofs.set_permission.Goals as goal

pub returns : goal.returns
returns c =
    let pre = c.requires in
    let bucket-of = c.bucket_of-bucket in
    let listing-with = c.listing_with-w in
    rw bucket-of.ensures.0 (permission-set _ listing-with.new.p (omega arith) _ _ _ _ pre.0 pre.1.0 pre.1.1
    (rw bucket-of.ensures.0 at listing-with.ensures))
