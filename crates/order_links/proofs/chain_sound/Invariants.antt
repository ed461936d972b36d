-- `chain_sound` meets its contract. The invariant of the loop: the check of the rest of
-- the chain gives the result for the whole chain, and so does gathering its done tasks.
use Rattle.order_links.specs.Chains.{head_of, count_of, chain_word, walk_over, take_done, leads}
use Prim.Native.Nat.{◌-◌}
use mathlib.Core.Path.{◌≡◌}
use Rattle.order_links.proofs.chain_sound.Given as goal

abbrev pub invariant-loop-passed : goal.invariant-loop-passed
invariant-loop-passed l =
    (leads l.o l.i l.m l.h (l.n - l._passed) ≡ leads l.o l.i l.m (head_of (chain_word l.o l.i)) (count_of (chain_word l.o l.i))) ×
    (walk_over take_done l.o l.h (l.n - l._passed) l.d.bits ≡ walk_over take_done l.o (head_of (chain_word l.o l.i)) (count_of (chain_word l.o l.i)) 0)
