-- `sift` meets its contract. The invariant of the loop, for sound links, is `Sifting`: the entries passed so far
-- stay, and those that fit were taken out. The loop ends for any content, and nothing is stored if nothing fits.
use Prim.Native.Nat.{◌≤◌, ◌-◌}
use mathlib.Core.Path.{◌≡◌}
use lib.ListN.{length}
use Rattle.order_links.specs.Chains.{orders_words}
use Rattle.order_links.specs.Stacks.{Woven}
use Rattle.order_links.proofs.CutLaws.{Sifting}
use Rattle.order_links.proofs.sift.Given as goal

abbrev pub invariant-loop-kept : goal.invariant-loop-kept
invariant-loop-kept l =
    (length l.o ≡ orders_words) × ((l.q ≤ 2048) × ((l.n ≤ l.all) × ((l.all ≤ l.n → l.o ≡ l.initial.o) × (Woven l.initial.o → Sifting l.i l.key l.initial.o l.o l.h l.n l.kept l.q))))

abbrev pub decreases-loop-kept : goal.decreases-loop-kept
decreases-loop-kept l = l.n - l.kept
