-- `listing_for` meets its contract: it reads the word of the pair's bucket.
use mathlib.Core.Path.{ap, ◌∙◌}
use Rattle.policy.specs.Layout.{table_in, bucket_table, listing_for}
use Rattle.policy.proofs.listing_for.Goals as goal

pub returns : goal.returns
unfolding listing_for
returns c =
    let args = c.args in
    c.listing_in.ensures ∙ ap (table_in bucket_table args.p.now) c.bucket_of.ensures.0
