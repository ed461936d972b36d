-- A buffer of zeros reads as no orders.
use Prim.Native.Nat.{ℕ, zero, suc}
use mathlib.Core.List.{List, []}
use mathlib.Core.Path.{◌≡◌, refl, ◌∙◌, fun_ext}
use lib.ListN.{get_or, replicate, length-replicate}
use Rattle.paper_upper.specs.Orders.{Entry, no_orders}
use Rattle.replies.proofs.CellLaws.{zeros-at}
use Rattle.order_links.specs.Chains.{orders_words, entries_in, joined}
use Rattle.order_links.specs.Stacks.{rev_onto}
use Rattle.order_links.proofs.ZeroLaws.{zeros-template, zeros-entries, zeros-sound}
use Rattle.order_entries.specs.Reading.{Cleared, orders_of}

none-joined : (f : ℕ → List Entry) (n : ℕ) → ((i : ℕ) → f i ≡ []) → joined f n ≡ []
unfolding joined
none-joined f zero h = refl
none-joined f (suc n) h = rw (h n) (none-joined f n h)

no-orders : (l : List ℕ) → ((k : ℕ) → get_or l k 0 ≡ 0) → orders_of l ≡ no_orders
unfolding orders_of no_orders rev_onto
no-orders l zeros =
    λ x. record { opened = fun_ext (zeros-template l zeros) x; entries = rev_onto (none-joined (entries_in l) 64 (zeros-entries l zeros) x) [] }

pub cleared : (l : List ℕ) (n : ℕ) → n ≡ orders_words → l ≡ replicate n 0 → Cleared l
cleared l n full e =
    rw e (record {
      tables = no-orders (replicate n 0) (zeros-at n);
      room = length-replicate n 0 ∙ full;
      sound = zeros-sound (replicate n 0) (zeros-at n);
      zeros = zeros-at n;
    })
