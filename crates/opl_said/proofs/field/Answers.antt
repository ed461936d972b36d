-- `field` meets its contract: the name is the value of the attribute in the text.
use Rattle.opl_said.proofs.field.Goals as goal

pub returns-in_err-number : goal.returns-in_err-number
returns-in_err-number c = let e = c.in_err-number in rw c.from_residual.ensures (rw c.value_of.ensures at c.in_err-number.ensures)

pub returns : goal.returns
returns c = rw c.value_of.ensures at c.in_ok-number.ensures
