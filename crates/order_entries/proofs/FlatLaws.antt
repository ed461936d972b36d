-- A search through all words up to the mark finds the same as one along all chains, since each of these entries is in exactly one chain.
use Prim.Native.Nat.{ℕ, zero, suc, ◌+◌, ◌/◌, ◌%◌, ◌*◌, ◌≤◌, ◌<◌}
use mathlib.Core.Bool.{Bool, true, false, cond, ◌&&◌, ◌||◌, and-true, true≢false}
use mathlib.Core.List.{List, [], ◌∷◌}
use mathlib.Core.Path.{◌≡◌, refl, sym, ap, ap₂, ◌∙◌}
use native.Mathlib.Numerals.{add-one}
use native.Mathlib.Omega.{arith}
use borrow.Author.Tests.{lt-ltb, eq-eqb, ne_eqb, eqb-true}
use lib.Dec.{ltb, eqb}
use mir.Val.{bool_byte}
use Rattle.paper_lower.specs.Lists.{some_number_below, some, Every}
use Rattle.paper_lower.proofs.ListLaws.{both, none_below, below_none, every_map, some-none, none-some}
use Rattle.paper_upper.specs.Orders.{Entry}
use Rattle.order_links.specs.Chains.{mark_of, head_of, count_of, chain_word, owner_of, link_of, word_at, entry_of, walk_over, take_entry, take_number, entries_in, numbers_in, times, joined, Fine}
use Rattle.order_links.proofs.OnceLaws.{times-joined, sum_one}
use Rattle.order_links.proofs.SoundLaws.{Sound, numbers-fine, not_in, reached-once}
use Rattle.order_entries.specs.Reading.{fits, any_up_to}
use Rattle.order_entries.proofs.OwnLaws.{some-joined}

-- Two Booleans are equal if each is false whenever the other is.
same_none : (a b : Bool) → (a ≡ false → b ≡ false) → (b ≡ false → a ≡ false) → a ≡ b
same_none true true f g = refl
same_none true false f g = g refl
same_none false b f g = sym (f refl)

absent : (k : ℕ) (hs : List ℕ) → Every (λ x. x ≡ k → ⊥) hs → times k hs ≡ 0
unfolding times
absent k [] h = refl
absent k (x ∷ xs) h = rw (ne_eqb x k h.0) (absent k xs h.1)

-- ---- One turn of the search through the words.
below_up : (f : ℕ → Bool) (k : ℕ) → some_number_below (k + 1) f ≡ f k || some_number_below k f
unfolding some_number_below
below_up f k = rw add-one

-- A Boolean added as a number.
pub counted : (b : Bool) (n : ℕ) → n + bool_byte b ≡ cond b (n + 1) n
counted true n = refl
counted false n = omega arith

-- Counting hits: there were hits exactly if their number is not 0.
more-some : (hit : Bool) (n : ℕ) → ltb 0 (cond hit (n + 1) n) ≡ hit || ltb 0 n
more-some true n = lt-ltb 0 (n + 1) (omega arith)
more-some false n = refl

more-le : (hit : Bool) (n k : ℕ) → n ≤ k → cond hit (n + 1) n ≤ k + 1
more-le true n k h = omega arith
more-le false n k h = omega arith

pub up_more : (l : List ℕ) (k mask key w n d : ℕ) (hit : Bool) → w ≡ word_at l (k + 1) → hit ≡ fits mask key w → d ≡ bool_byte hit →
    n ≤ k → ltb 0 n ≡ any_up_to l k mask key → (n + d ≤ k + 1) × (ltb 0 (n + d) ≡ any_up_to l (k + 1) mask key)
up_more l k mask key w n d hit ew eh ed le e = rw (ed, counted hit n) (
  more-le hit n k le,
  more-some hit n ∙ ap₂ ◌||◌ (eh ∙ ap (fits mask key) ew) e ∙ sym (below_up (λ k. fits mask key (word_at l (k + 1))) k),
)

-- ---- A search along a chain, by the numbers of its entries.
module _ (l : List ℕ) (p : Entry → Bool) where
  walk-numbers : (h n : ℕ) (es : List Entry) (hs : List ℕ) → some p es ≡ some (λ x. p (entry_of (word_at l x))) hs →
      some p (walk_over take_entry l h n es) ≡ some (λ x. p (entry_of (word_at l x))) (walk_over take_number l h n hs)
  unfolding walk_over some
  walk-numbers h zero es hs e = e
  walk-numbers h (suc n) es hs e =
      walk-numbers (link_of (word_at l h)) n (entry_of (word_at l h) ∷ es) (h ∷ hs) (ap (λ (b : Bool). p (entry_of (word_at l h)) || b) e)

  by_number : (i : ℕ) → some p (entries_in l i) ≡ some (λ x. p (entry_of (word_at l x))) (numbers_in l i)
  unfolding entries_in numbers_in some
  by_number i = walk-numbers (head_of (chain_word l i)) (count_of (chain_word l i)) [] [] refl

-- ---- The search through the words and the one along the chains. The mask includes the flag of free entries, so that the word of a free entry never fits.
module _ (l : List ℕ) (s : Sound l) (mask key : ℕ) (p : Entry → Bool) (e : (w : ℕ) → fits mask key w ≡ (p (entry_of w) && eqb (w / 1073741824 % 2) 0)) where
  of-order : (x i : ℕ) → i < 64 → Fine l i (mark_of l) x → fits mask key (word_at l x) ≡ p (entry_of (word_at l x))
  of-order x i h f =
      let own : word_at l x % 64 + word_at l x / 1073741824 % 2 * 64 ≡ i = f.1.1 in
      let used : word_at l x / 1073741824 % 2 ≡ 0 = omega arith in
      e (word_at l x) ∙ rw (eq-eqb _ 0 used) (and-true (p (entry_of (word_at l x))))

  none-in-chains : any_up_to l (mark_of l) mask key ≡ false → some p (joined (entries_in l) 64) ≡ false
  none-in-chains z = some-joined p (entries_in l) 64 ∙ below_none 64 (λ i. some p (entries_in l i)) none
    where
      one : (x i : ℕ) → i < 64 → Fine l i (mark_of l) x → p (entry_of (word_at l x)) ≡ false
      one zero i h f = let z : ⊥ = omega (arith, f.0) in absurd z
      one (suc y) i h f =
          let n : fits mask key (word_at l (suc y)) ≡ false =
          rw add-one at (none_below (mark_of l) (λ k. fits mask key (word_at l (k + 1))) z y (omega (arith, f.1.0))) in
          sym (of-order (suc y) i h f) ∙ n

      none : (i : ℕ) → i < 64 → some p (entries_in l i) ≡ false
      none i h =
          by_number l p i ∙
          none-some (λ x. p (entry_of (word_at l x))) (numbers_in l i) (every_map (numbers_in l i) (λ x f. one x i h f) (numbers-fine l s i (omega arith)))

  none-in-words : some p (joined (entries_in l) 64) ≡ false → any_up_to l (mark_of l) mask key ≡ false
  none-in-words z = below_none (mark_of l) (λ k. fits mask key (word_at l (k + 1))) (λ k h. go k h (fits mask key (word_at l (k + 1))) refl)
    where
      none : (i : ℕ) → i < 64 → Every (λ x. p (entry_of (word_at l x)) ≡ false) (numbers_in l i)
      none i h =
          some-none (λ x. p (entry_of (word_at l x))) (numbers_in l i)
          (sym (by_number l p i) ∙ none_below 64 (λ i. some p (entries_in l i)) (sym (some-joined p (entries_in l) 64) ∙ z) i h)

      one-chain : (x : ℕ) → owner_of (word_at l x) < 64 → times x (joined (numbers_in l) 66) ≡ times x (numbers_in l (owner_of (word_at l x)))
      one-chain x h =
          times-joined x (numbers_in l) 66 ∙
          sum_one (λ i. times x (numbers_in l i)) (owner_of (word_at l x)) 66 (omega arith) (λ i less d. not_in l s x i (omega arith) (λ q. d (sym q)))

      go : (k : ℕ) → k < mark_of l → (b : Bool) → fits mask key (word_at l (k + 1)) ≡ b → b ≡ false
      go k h false q = refl
      go k h true q =
          let x = both (p (entry_of (word_at l (k + 1)))) (eqb (word_at l (k + 1) / 1073741824 % 2) 0) (sym (e (word_at l (k + 1))) ∙ q) in
          let used : word_at l (k + 1) / 1073741824 % 2 ≡ 0 = eqb-true _ _ x.1 in
          let own : owner_of (word_at l (k + 1)) < 64 = omega arith in
          let away =
          absent (k + 1) (numbers_in l (owner_of (word_at l (k + 1)))) (every_map (numbers_in l (owner_of (word_at l (k + 1))))
          (λ y f d. true≢false (sym x.0 ∙ ap (λ (n : ℕ). p (entry_of (word_at l n))) (sym d) ∙ f)) (none (owner_of (word_at l (k + 1))) own)) in
          let once : ◌≡◌ {A = ℕ} 1 0 = sym (reached-once l s (k + 1) (omega arith) (omega arith)) ∙ one-chain (k + 1) own ∙ away in
          let z : ⊥ = omega arith in
          absurd z

  pub flat : any_up_to l (mark_of l) mask key ≡ some p (joined (entries_in l) 64)
  flat = same_none (any_up_to l (mark_of l) mask key) (some p (joined (entries_in l) 64)) none-in-chains none-in-words
