-- `below_senior` meets its contract: the role has a role below it, so that its row is read.
use Rattle.policy.proofs.SeniorLaws.{below_row}
use Rattle.policy.proofs.below_senior.Goals as goal

pub returns : goal.returns
returns c = below_row _ _ c.requires.0 c.requires.1
