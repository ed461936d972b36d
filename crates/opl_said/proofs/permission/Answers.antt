-- `permission` meets its contract: the fields have the three numbers if all are found.
use native.Mathlib.Omega.{arith}
use Rattle.opl_said.proofs.FormLaws.{operation-inner, object-inner}
use Rattle.opl_said.proofs.permission.Goals as goal

pub first_member-requires : goal.first_member-requires
first_member-requires c = (c.requires.0, (c.requires.1, (operation-inner, omega arith)))

pub first_member-requires-2 : goal.first_member-requires-2
first_member-requires-2 c = (c.requires.0, (c.requires.1, (object-inner, omega arith)))
