-- A buffer of zeros is sound: no instance is open, and no chain has an entry.
use Prim.Native.Nat.{ℕ, ◌+◌}
use mathlib.Core.Bool.{Bool, true, false, cond}
use mathlib.Core.List.{List, []}
use mathlib.Core.Path.{◌≡◌, refl, sym, ap, ◌∙◌}
use native.Mathlib.Omega.{arith}
use lib.ListN.{get_or}
use Rattle.paper_lower.specs.Sets.{has}
use Rattle.paper_lower.specs.Lists.Maybe.{none}
use Rattle.paper_upper.specs.Orders.{tasks_where, tasks_done}
use Rattle.sets.proofs.SetLaws.{has-empty}
use Rattle.order_links.specs.Chains.{mark_of, open_of, template_at, is_read_as, head_of, count_of, chain_word, walk_over, entries_in, sound_of, Fine}
use Rattle.order_links.proofs.ReadLaws.{done-closed, template-closed}
use Rattle.order_links.proofs.OnceLaws.{sum-none}
use Rattle.order_links.proofs.StackLaws.{relink}
use Rattle.order_links.proofs.ActLaws.{Whole, of-whole}

module _ (l : List ℕ) (zeros : (k : ℕ) → get_or l k 0 ≡ 0) where
  no-chain : (i : ℕ) → chain_word l i ≡ 0
  unfolding chain_word
  no-chain i = go (is_read_as l i)
    where
      go : (b : Bool) → cond b (get_or l (66 + i) 0) 0 ≡ 0
      go true = zeros (66 + i)
      go false = refl

  no-count : (i : ℕ) → count_of (chain_word l i) ≡ 0
  no-count i = let z = no-chain i in omega arith

  no-head : (i : ℕ) → head_of (chain_word l i) ≡ 0
  no-head i = let z = no-chain i in omega arith

  closed : (i : ℕ) → has (open_of l) i ≡ false
  closed i = ap (λ (m : ℕ). has m i) (zeros 1) ∙ has-empty i

  pub zeros-template : (i : ℕ) → template_at l i ≡ none
  zeros-template i = template-closed l i (closed i)

  pub zeros-entries : (i : ℕ) → entries_in l i ≡ []
  unfolding entries_in walk_over
  zeros-entries i = rw (no-count i)

  none_done : (i : ℕ) → 0 ≡ tasks_done i (entries_in l i)
  unfolding tasks_done tasks_where
  none_done i = rw (zeros-entries i)

  zero-whole : Whole l
  zero-whole =
      record {
        woven = record {
          mark = let z = zeros 0 in omega arith;
          sum = sum-none (λ i. count_of (chain_word l i)) 66 (λ i h. no-count i) ∙ sym (zeros 0);
          chain = λ i h. relink l (Fine l i (mark_of l)) 0 (head_of (chain_word l i)) 0 (count_of (chain_word l i)) (no-head i) (no-count i) refl;
        };
        dones = λ i h. done-closed l i (closed i) ∙ none_done i;
        aside = no-count 65;
      }

  pub zeros-sound : sound_of l ≡ true
  zeros-sound = of-whole l zero-whole
