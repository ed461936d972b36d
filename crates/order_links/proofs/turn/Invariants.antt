-- `turn` meets its contract. The invariant of the loop, for sound links, is `Turning`: the entries passed so
-- far are marked as done if they fit. The loop ends for any content, and no word changes if nothing fits.
use Prim.Native.Nat.{◌-◌}
use mathlib.Core.Bool.{false}
use mathlib.Core.Path.{◌≡◌}
use lib.ListN.{length}
use Rattle.order_links.specs.Chains.{orders_words}
use Rattle.order_links.specs.Stacks.{Woven}
use Rattle.order_links.proofs.TurnLaws.{Turning}
use Rattle.order_links.proofs.turn.Given as goal

abbrev pub invariant-loop-passed : goal.invariant-loop-passed
invariant-loop-passed l =
    (length l.o ≡ orders_words) ×
    ((l.hit ≡ false → l.o ≡ l.initial.o) × (Woven l.initial.o → Turning l.i l.key l.initial.o l.o l.h (l.n - l._passed) l.hit))
