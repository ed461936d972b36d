-- `any` meets its contract. The invariant of the loop: there were hits exactly if one of the first k words fits.
use Prim.Native.Nat.{◌≤◌}
use mathlib.Core.Path.{◌≡◌}
use lib.Dec.{ltb}
use Rattle.order_entries.specs.Reading.{any_up_to}
use Rattle.order_entries.proofs.any.Given as goal

abbrev pub invariant-loop-k : goal.invariant-loop-k
invariant-loop-k l = (l.hits ≤ l.k) × (ltb 0 l.hits ≡ any_up_to l.o l.k l.mask l.key)
