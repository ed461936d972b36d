-- `ended` meets its contract, by cases of the reply.
use mathlib.Core.Path.{refl}
use Rattle.call_mend.proofs.Steps.{zero_number, same_number}
use Rattle.call_mend.proofs.ended.Goals as goal

pub returns-then-d-eq0 : goal.returns-then-d-eq0
returns-then-d-eq0 c = zero_number c.args.d _ c.if-d-eq0.true refl

pub returns : goal.returns
returns c = same_number c.args.d c.if-d-eq0.false
