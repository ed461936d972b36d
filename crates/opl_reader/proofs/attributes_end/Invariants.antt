-- `attributes_end` meets its contract: each turn reads one attribute, and the list of those that may still be given becomes shorter.
use mathlib.Core.Path.{◌≡◌}
use Prim.Native.Nat.{◌-◌, ◌≤◌}
use lib.ListN.{length, drop}
use Rattle.opl_reader.specs.Grammar.{attributes_read}
use Rattle.opl_table.specs.Numbers.{list_of}
use Rattle.opl_reader.proofs.attributes_end.Given as goal

abbrev pub invariant-loop-i : goal.invariant-loop-i
invariant-loop-i l = (l.i ≤ length l.s) × (attributes_read (list_of l.list) (drop l.at l.s) ≡ attributes_read (list_of l.l) (drop l.i l.s))

abbrev pub decreases-loop-i : goal.decreases-loop-i
decreases-loop-i l = length l.s - l.i
