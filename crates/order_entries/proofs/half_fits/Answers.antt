-- `half_fits` meets its contract: a mask of 32 bits depends on the lower half of the word only.
use Rattle.order_entries.proofs.WordLaws.{half-word}
use borrow.Author.Rules.{rules}
use Rattle.order_entries.proofs.half_fits.Goals as goal

pub returns : goal.returns
returns c = half-word c.args.w.bits c.args.mask c.args.key (search rules)
