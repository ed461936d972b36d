-- `value_place` meets its contract: while the attribute is not found, its value among the attributes that are left is its value among all of them.
use Prim.Native.Nat.{◌-◌, ◌≤◌}
use mathlib.Core.Path.{◌≡◌}
use lib.ListN.{length, drop}
use Rattle.paper_opl.specs.Naming.{value_of as value_in}
use Rattle.opl_table.specs.Numbers.{name_of}
use Rattle.opl_tags.specs.Tags.{given_at, collected}
use Rattle.opl_tags.proofs.value_place.Given as goal

abbrev pub invariant-loop-i : goal.invariant-loop-i
invariant-loop-i l = (l.i ≤ length l.s) × (value_in (name_of l.id) (given_at l.s l.at) ≡ value_in (name_of l.id) (collected (length l.s) (drop l.i l.s)))

abbrev pub decreases-loop-i : goal.decreases-loop-i
decreases-loop-i l = length l.s - l.i
