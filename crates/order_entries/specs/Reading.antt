-- How an orders buffer with sound links reads as tables: the template of each open instance, and the entries of all instances.
use Rattle.std.specs.Prelude.{ℕ, ◌+◌, ◌*◌, Bool, true, false, ◌&&◌, ◌||◌, List, [], ◌≡◌, eqb, length, get_or, Option, None, Some}
use Rattle.std.specs.Int.Bits.{bit_and}
use Rattle.paper_lower.specs.Lists.{Maybe, some_number_below, there, upd}
use Rattle.paper_lower.specs.Lists.Maybe.{none, just}
use Rattle.paper_upper.specs.Orders.{Entry, Orders, no_orders}
use Rattle.order_links.specs.Chains.{orders_words, template_at, head_of, count_of, chain_word, word_at, walk_over, entries_in, sound_of, joined}
use Rattle.order_links.specs.Stacks.{rev_onto}

-- The tables of the buffer. The entries of each instance have the newest first; the order of the instances has no meaning.
unfoldable pub orders_of : List ℕ → Orders
orders_of l = record { opened = template_at l; entries = rev_onto (joined (entries_in l) 64) [] }

-- ---- Each of these replaces one table and keeps the other.
abbrev pub with_instance : Orders → ℕ → Maybe ℕ → Orders
with_instance x i j = record { opened = upd x.opened i j; entries = x.entries }

abbrev pub with_ledger : Orders → List Entry → Orders
with_ledger x es = record { opened = x.opened; entries = es }

-- ---- The buffer after it was cleared: there are no orders, and every word is 0.
pub record Cleared (l : List ℕ) : Type 0 where
  pub tables : orders_of l ≡ no_orders
  pub room : length l ≡ orders_words
  pub sound : sound_of l ≡ true
  pub zeros : (k : ℕ) → get_or l k 0 ≡ 0

-- ---- What the code's answers stand for.

-- The template of an instance, if it is open.
abbrev pub opened_of : Option ℕ → Maybe ℕ
opened_of None = none
opened_of (Some j) = just j

-- Whether the entry is of user u and is "an entry in an open instance".
abbrev pub in_open_order : Orders → ℕ → Entry → Bool
in_open_order x u e = eqb e.user u && there (x.opened e.instance)

-- ---- Words.

-- The part of a word below its user: instance i, task t, held by subject a.
abbrev pub key_of : ℕ → ℕ → ℕ → ℕ
key_of i t a = i + 128 * t + 8192 * a

-- Whether the word equals the key under the mask.
unfoldable pub fits : ℕ → ℕ → ℕ → Bool
fits mask key w = eqb (bit_and w mask) key

-- The step of a search for the word w.
abbrev pub take_fit : ℕ → ℕ → ℕ → ℕ → Bool → Bool
take_fit mask key h w b = fits mask key w || b

-- Whether some entry of instance i has a word that fits.
abbrev pub any_in : List ℕ → ℕ → ℕ → ℕ → Bool
any_in l i mask key = walk_over (take_fit mask key) l (head_of (chain_word l i)) (count_of (chain_word l i)) false

-- Whether one of the first n entries, of any chain, has a word that fits.
abbrev pub any_up_to : List ℕ → ℕ → ℕ → ℕ → Bool
any_up_to l n mask key = some_number_below n (λ k. fits mask key (word_at l (k + 1)))
