-- `orders_sound` meets its contract. The invariant of the loop: the chains below i are sound,
-- n counts their entries, and the bits that are left are those of the instances from i on.
use Prim.Native.Nat.{◌≤◌}
use Rattle.order_links.specs.Chains.{open_of}
use Rattle.order_links.proofs.CheckLaws.{Left, SoFar}
use Rattle.order_links.proofs.orders_sound.Given as goal

abbrev pub invariant-loop-i : goal.invariant-loop-i
invariant-loop-i l = (l.n ≤ l.m) × (SoFar l.o l.m l.s l.i l.n × Left (open_of l.o) l.i l.rest)
