-- `rest` meets its contract: the number of the bytes so far, continued with the bytes that are left, is the number of all of them.
use Rattle.std.specs.Prelude.{◌≡◌, ◌<◌, drop}
use Rattle.opl_names.specs.Table.{rest_from}
use Rattle.opl_names.proofs.rest.Given as goal

abbrev pub invariant-loop-i : goal.invariant-loop-i
invariant-loop-i l = (l.x < 4294967296) × (rest_from l.x (drop l.i l.name) ≡ rest_from 0 (drop l.from l.name))
