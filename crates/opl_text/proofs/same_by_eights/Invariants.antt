-- `same_by_eights` meets its contract: two texts of the same length are compared eight bytes at a time, and the rest byte by byte.
use Prim.Native.Nat.{◌-◌, ◌≤◌}
use mathlib.Core.Path.{◌≡◌}
use lib.ListN.{length, drop}
use Rattle.paper_opl.specs.Reading.{same}
use Rattle.opl_text.proofs.same_by_eights.Given as goal

abbrev pub invariant-loop-i : goal.invariant-loop-i
invariant-loop-i l = (l.i ≤ length l.v) × (same l.v l.w ≡ same (drop l.i l.v) (drop l.i l.w))

abbrev pub decreases-loop-i : goal.decreases-loop-i
decreases-loop-i l = length l.v - l.i
