-- `unless_in` meets its contract, by cases of the bucket of the row's pair.
use mathlib.Core.Path.{sym, ◌∙◌}
use Rattle.policy.specs.Layout.{permission_of}
use Rattle.policy.proofs.BucketLaws.{word_in, word_out}
use Rattle.policy.proofs.unless_in.Goals as goal

pub returns-then-bucket_of-bucket : goal.returns-then-bucket_of-bucket
unfolding permission_of
returns-then-bucket_of-bucket c = sym (word_in _ c.args.word (sym c.bucket_of.ensures.0 ∙ c.if-bucket_of-bucket.true))

pub returns-else-bucket_of-bucket : goal.returns-else-bucket_of-bucket
returns-else-bucket_of-bucket c = sym (word_out _ c.args.word (λ e. c.if-bucket_of-bucket.false (c.bucket_of.ensures.0 ∙ e)))
