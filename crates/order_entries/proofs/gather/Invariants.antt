-- `gather` meets its contract. The invariant of the loop, for sound links: following the rest of the chain gives all that is gathered.
use Prim.Native.Nat.{◌≤◌, ◌-◌}
use mathlib.Core.Bool.{true}
use mathlib.Core.Path.{◌≡◌}
use Rattle.order_links.specs.Chains.{mark_of, head_of, count_of, chain_word, walk_over, sound_of, Fine, Linked}
use Rattle.order_entries.specs.Gathering.{take_in}
use Rattle.order_entries.proofs.gather.Given as goal

abbrev pub invariant-loop-passed : goal.invariant-loop-passed
invariant-loop-passed l =
    (l.g.times ≤ l._passed) ×
    (sound_of l.o ≡ true →
    Linked l.o (Fine l.o l.i (mark_of l.o)) l.h (l.n - l._passed) × (walk_over (take_in l.u l.t) l.o l.h (l.n - l._passed) l.g ≡ walk_over (take_in l.u l.t) l.o (head_of (chain_word l.o l.i)) (count_of (chain_word l.o l.i)) l.initial.g))
