-- `step` meets its contract: it is `turn`, and a refusal ends the call.
use Rattle.call_mend.proofs.step.Goals as goal

pub returns-in-Ok : goal.returns-in-Ok
returns-in-Ok c = c.in-Ok.ensures

pub returns-in-Err : goal.returns-in-Err
returns-in-Err c = rw c.from.ensures c.in-Err.ensures
