-- `drop_all` meets its contract. The invariant of the loop, for sound links: the entries not dropped yet are left, and the other instances are unchanged.
use Prim.Native.Nat.{◌-◌}
use mathlib.Core.Path.{◌≡◌}
use lib.ListN.{length}
use Rattle.order_links.specs.Chains.{orders_words}
use Rattle.order_links.specs.Stacks.{Woven}
use Rattle.order_links.proofs.TotalLaws.{Dropping}
use Rattle.order_links.proofs.drop_all.Given as goal

abbrev pub invariant-loop-dropped : goal.invariant-loop-dropped
invariant-loop-dropped l = (length l.o ≡ orders_words) × (Woven l.initial.o → Dropping l.i l.initial.o l.o (l.n - l._dropped))
