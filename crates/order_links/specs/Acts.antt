-- What an operation on instance i of a sound buffer leaves.
use Rattle.std.specs.Prelude.{ℕ, ◌<◌, Bool, true, false, List, ◌≡◌, length}
use Rattle.paper_lower.specs.Sets.{has}
use Rattle.paper_lower.specs.Lists.{Maybe}
use Rattle.paper_upper.specs.Orders.{Entry}
use Rattle.order_links.specs.Chains.{orders_words, open_of, template_at, entries_in, sound_of}

-- The links are sound, instance i has this template and these entries, the oldest first, and every other instance is unchanged.
pub record Leaves (i : ℕ) (template : Maybe ℕ) (es : List Entry) (l l' : List ℕ) : Type 0 where
  pub room : length l' ≡ orders_words
  pub sound : sound_of l' ≡ true
  pub opened : template_at l' i ≡ template
  pub entries : entries_in l' i ≡ es
  pub others : (j : ℕ) → (j ≡ i → ⊥) → template_at l' j ≡ template_at l j
  pub orders : (j : ℕ) → j < 64 → (j ≡ i → ⊥) → entries_in l' j ≡ entries_in l j

-- The contract of an operation that may find nothing to do. On any content the length stays the same, and no word changes if there was nothing to do. If the
-- links are sound and instance i is open, r says whether there was something to do, and `es` are the entries of i afterwards.
pub record Acted (i : ℕ) (found : Bool) (es : List Entry) (l l' : List ℕ) (r : Bool) : Type 0 where
  pub room : length l' ≡ length l
  pub kept : r ≡ false → l' ≡ l
  pub sound : sound_of l ≡ true → has (open_of l) i ≡ true → (r ≡ found) × Leaves i (template_at l i) es l l'
