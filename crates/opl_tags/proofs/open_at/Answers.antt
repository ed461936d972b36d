-- `open_at` meets its contract: both tests are that a byte cannot begin a tag.
use Rattle.std.proofs.Common.{rules}
use Rattle.opl_tags.specs.Tags.{shut}
use Rattle.opl_tags.proofs.open_at.Goals as goal

pub returns : goal.returns
returns c = c.first_not_by_eights.ensures shut (λ b r h e. search rules) (λ b r h e. search rules)
