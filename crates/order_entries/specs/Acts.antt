-- The orders after each change of the ledger, and what a change leaves of the buffer.
use Rattle.std.specs.Prelude.{ℕ, ◌<◌, Bool, true, false, not, List, ◌∷◌, ◌≡◌, length}
use Rattle.paper_lower.specs.Lists.{there, keep, each}
use Rattle.paper_lower.specs.Lists.Maybe.{none}
use Rattle.paper_upper.specs.Orders.{entry, Orders, are_in_order, of_order, held_of}
use Rattle.paper_upper.specs.Orders.Standing.{held}
use Rattle.paper_upper.specs.Requests.{turned}
use Rattle.order_links.specs.Chains.{orders_words, sound_of}
use Rattle.order_entries.specs.Reading.{orders_of, with_instance, with_ledger}

-- Instance i, task t and subject a are within their limits.
abbrev pub InLimits : ℕ → ℕ → ℕ → Type 0
InLimits i t a = (i < 64) × ((t < 64) × (a < 128))

-- The buffer has the right length, and its links are sound.
abbrev pub Ready : List ℕ → Type 0
Ready l = (length l ≡ orders_words) × (sound_of l ≡ true)

-- The orders with a new entry. "A granted claim enters (instance, user, task, held) .. the claiming subject is kept with it"
abbrev pub after_enter : Orders → ℕ → ℕ → ℕ → ℕ → Orders
after_enter x i u t a = with_ledger x (entry i u t (held a) ∷ x.entries)

-- The orders after a release: "Release removes it"
abbrev pub after_release : Orders → ℕ → ℕ → ℕ → Orders
after_release x i t a = with_ledger x (keep (λ e. not (held_of i t a e)) x.entries)

-- The orders after done: "done turns it from held to done"
abbrev pub after_finish : Orders → ℕ → ℕ → ℕ → Orders
after_finish x i t a = with_ledger x (each (turned i t a) x.entries)

-- The orders after the end of instance i: "ending the instance removes all its entries"
abbrev pub after_end : Orders → ℕ → Orders
after_end x i = with_instance (with_ledger x (keep (λ e. not (are_in_order i e)) x.entries)) i none

-- ---- The buffer after a change: its links are sound, and it reads as these tables.
pub record Acts (next : Orders) (l : List ℕ) : Type 0 where
  pub room : length l ≡ orders_words
  pub sound : sound_of l ≡ true
  pub tables : orders_of l ≡ next

-- The same for a new entry, where only the order of entries within each instance is compared. The new entry is the newest of its instance.
pub record Enters (next : Orders) (l : List ℕ) : Type 0 where
  pub room : length l ≡ orders_words
  pub sound : sound_of l ≡ true
  pub opened : (orders_of l).opened ≡ next.opened
  pub entries : (i : ℕ) → of_order i (orders_of l).entries ≡ of_order i next.entries

-- The contract of a change that may find nothing to do. On any content the length stays the same, and no word changes if there was nothing to do. If the
-- links are sound and instance i is open, r says whether there was something to do, and `next` are the tables afterwards.
pub record Tried (i : ℕ) (found : Bool) (next : Orders) (l l' : List ℕ) (r : Bool) : Type 0 where
  pub room : length l' ≡ length l
  pub kept : r ≡ false → l' ≡ l
  pub sound : sound_of l ≡ true → there ((orders_of l).opened i) ≡ true → (r ≡ found) × Acts next l'
