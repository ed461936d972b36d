-- `misshapen` meets its contract: the code is the definition, with the bit that `bit` returns.
use Rattle.records.proofs.misshapen.Goals as goal

pub returns : goal.returns
returns c = rw c.bit.ensures
