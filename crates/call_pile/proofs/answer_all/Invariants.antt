-- `answer_all` meets its contract: the loop invariant is `Left` (Turns.antt), the replies so far and the requests that are left.
use Prim.Native.Nat.{◌*◌}
use mathlib.Core.Bool.{true}
use mathlib.Core.Path.{◌≡◌}
use lib.ListN.{length}
use Rattle.order_links.specs.Chains.{sound_of}
use Rattle.engine.specs.Buffers.{buffers}
use Rattle.call_pile.proofs.Turns.{Left}
use Rattle.call_pile.proofs.answer_all.Given as goal

abbrev pub invariant-loop-i : goal.invariant-loop-i
invariant-loop-i l =
    (l.at ≡ 16 * l.i)
    × ((length l.out ≡ length l.initial.out) ×
    ((l.sound ≡ true → sound_of l.orders ≡ true) × Left l.n l.bytes (buffers l.initial.policy l.initial.sessions l.initial.orders) (buffers l.policy l.sessions l.orders) l.i l.at l.initial.out l.out))
