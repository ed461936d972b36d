-- `decimal` meets its contract: the value so far, continued with the digits that are left, is the number of all digits.
use lib.ListN.{drop}
use mathlib.Core.Path.{◌≡◌}
use Rattle.paper_opl.specs.Tree.{decimal as decimal_of}
use Rattle.opl_said.proofs.decimal.Given as goal

abbrev pub invariant-loop-b : goal.invariant-loop-b
invariant-loop-b l = decimal_of l.n (drop l.b-index l.v) ≡ decimal_of 0 l.v
