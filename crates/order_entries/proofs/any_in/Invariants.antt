-- `any_in` meets its contract. The invariant of the loop, for sound links: following the rest of the chain gives the whole result.
use Prim.Native.Nat.{◌-◌}
use mathlib.Core.Bool.{true}
use mathlib.Core.Path.{◌≡◌}
use Rattle.order_links.specs.Chains.{mark_of, walk_over, sound_of, Fine, Linked}
use Rattle.order_entries.specs.Reading.{take_fit, any_in}
use Rattle.order_entries.proofs.any_in.Given as goal

abbrev pub invariant-loop-passed : goal.invariant-loop-passed
invariant-loop-passed l =
    sound_of l.o ≡ true → Linked l.o (Fine l.o l.i (mark_of l.o)) l.h (l.n - l._passed) × (walk_over (take_fit l.mask l.key) l.o l.h (l.n - l._passed) l.found ≡ any_in l.o l.i l.mask l.key)
