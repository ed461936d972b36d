-- `set_template` meets its contract: its store replaces the row and leaves every other table unchanged.
use Rattle.policy.proofs.StoreLaws.{template-set}
use Rattle.policy.proofs.set_template.Goals as goal

pub returns : goal.returns
returns c = template-set _ c.told-p _ _ c.requires.0 c.requires.1
