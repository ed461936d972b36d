-- `is_number` meets its contract: it goes digit by digit, and stops above 255 because a number only grows.
use mathlib.Core.Path.{◌≡◌}
use Prim.Native.Nat.{◌≤◌}
use lib.ListN.{drop}
use Rattle.paper_opl.specs.Elements.Class.{number}
use Rattle.paper_opl.specs.Tree.{fits}
use Rattle.opl_reader.proofs.Numbers.{counts}
use Rattle.opl_reader.proofs.is_number.Given as goal

abbrev pub invariant-loop-b : goal.invariant-loop-b
invariant-loop-b l = (l.n ≤ 255) × (fits number l.v ≡ counts l.n (drop l.b-index l.v))
