-- Laws of following links: a chain never comes to the same entry twice, and what is gathered along it; and the check of one chain, link by link.
use Prim.Native.Nat.{ℕ, zero, suc, ◌-◌, ◌≤◌, ◌<◌, ◌/◌, ◌%◌}
use mathlib.Core.Bool.{Bool, true, false, not, cond, ◌&&◌, ◌||◌}
use mathlib.Core.List.{List, [], ◌∷◌}
use mathlib.Core.Path.{◌≡◌, refl, sym, ap, ◌∙◌}
use native.Mathlib.Omega.{arith}
use borrow.Author.Tests.{eq-eqb, ne_eqb, eqb-true, eqb-false, ltb-true, ltb-false, le-ltb, not-true, not-false}
use lib.Dec.{eqb, ltb}
use Rattle.paper_lower.specs.Sets.{plus}
use Rattle.paper_lower.proofs.ListLaws.{or-none, both}
use Rattle.paper_upper.specs.Orders.{Entry, is_done, are_in_order, tasks_where, tasks_done}
use Rattle.paper_upper.specs.Orders.Standing.{held, done}
use Rattle.order_links.specs.Chains.{head_of, count_of, chain_word, standing_of, entry_of, owner_of, link_of, word_at, walk_over, take_entry, take_done, entries_in, astray, Fine, Linked, leads, figures, chain_sound}

-- ---- The tests `astray` and `leads` and the statements `Fine` and `Linked`.
pub found : (l : List ℕ) (i m h : ℕ) → astray l i m h ≡ false → Fine l i m h
unfolding astray
found l i m h e =
    let a = or-none (eqb h 0) (ltb m h || not (eqb (owner_of (word_at l h)) i)) e in
    let b = or-none (ltb m h) (not (eqb (owner_of (word_at l h)) i)) a.1 in
    let x = eqb-false h 0 a.0 in
    let y = ltb-false m h b.0 in
    (omega arith, (y, eqb-true _ _ (not-false _ b.1)))

pub not-astray : (l : List ℕ) (i m h : ℕ) → Fine l i m h → astray l i m h ≡ false
unfolding astray
not-astray l i m h f =
    let p = f.0 in
    rw (ne_eqb h 0 (λ e. omega arith), le-ltb m h f.1.0, eq-eqb _ _ f.1.1)

pub linked : (l : List ℕ) (i m h n : ℕ) → leads l i m h n ≡ true → Linked l (Fine l i m) h n
unfolding leads
linked l i m h zero e = eqb-true h 0 e
linked l i m h (suc n) e =
    let b = both (not (astray l i m h)) (leads l i m (link_of (word_at l h)) n) e in
    (found l i m h (not-true _ b.0), linked l i m (link_of (word_at l h)) n b.1)

pub leading : (l : List ℕ) (i m h n : ℕ) → Linked l (Fine l i m) h n → leads l i m h n ≡ true
unfolding leads
leading l i m h zero e = eq-eqb h 0 e
leading l i m h (suc n) p = rw (not-astray l i m h p.0) (leading l i m (link_of (word_at l h)) n p.1)

-- The first entry of a chain, and the chain from the next entry on.
pub linked-here : (l : List ℕ) (P : ℕ → Type 0) (h n : ℕ) → 0 < n → Linked l P h n → P h
linked-here l P h zero p q = let z : ⊥ = omega arith in absurd z
linked-here l P h (suc n) p q = q.0

pub linked_on : (l : List ℕ) (P : ℕ → Type 0) (h n : ℕ) → 0 < n → Linked l P h n → Linked l P (link_of (word_at l h)) (n - 1)
linked_on l P h zero p q = let z : ⊥ = omega arith in absurd z
linked_on l P h (suc n) p q = let e : suc n - 1 ≡ n = omega arith in rw e q.1

-- ---- A chain has no loop: the number of entries from a link on is unique.
module _ (l : List ℕ) (P Q : ℕ → Type 0) (p0 : (h : ℕ) → P h → 0 < h) (q0 : (h : ℕ) → Q h → 0 < h) where
  pub one-length : (h n k : ℕ) → Linked l P h n → Linked l Q h k → n ≡ k
  one-length h zero zero a b = refl
  one-length h zero (suc k) a b = let z : ⊥ = let x = q0 h b.0 in omega arith in absurd z
  one-length h (suc n) zero a b = let z : ⊥ = let x = p0 h a.0 in omega arith in absurd z
  one-length h (suc n) (suc k) a b = ap suc (one-length (link_of (word_at l h)) n k a.1 b.1)

  -- A chain with fewer entries than there are from k on does not come to k.
  pub no_return : (h n k m : ℕ) → Linked l P h n → Linked l Q k m → n < m → Linked l (λ x. P x × (x ≡ k → ⊥)) h n
  no_return h zero k m a b s = a
  no_return h (suc n) k m a b s =
      ((a.0, λ e. let same = one-length h (suc n) m a (rw e b) in omega arith), no_return (link_of (word_at l h)) n k m a.1 b (omega arith))

-- ---- The same chain in another buffer that has the same words for its entries.
pub linked-same : (l l' : List ℕ) (P Q : ℕ → Type 0) → ((h : ℕ) → P h → word_at l' h ≡ word_at l h) → ((h : ℕ) → P h → Q h) → (h n : ℕ) → Linked l P h n →
    Linked l' Q h n
linked-same l l' P Q same more h zero p = p
linked-same l l' P Q same more h (suc n) p = (more h p.0, rw (same h p.0) (linked-same l l' P Q same more (link_of (word_at l h)) n p.1))

-- ---- What is gathered along a chain, one entry at a time.
module _ {A : Type 0} (f : ℕ → ℕ → A → A) (l : List ℕ) where
  pub walk_turn : (h n k : ℕ) (a : A) → n ≡ suc k → walk_over f l h n a ≡ walk_over f l (link_of (word_at l h)) k (f h (word_at l h) a)
  unfolding walk_over
  walk_turn h n k a e = rw e

  pub walk_end : (h n : ℕ) (a : A) → n ≡ 0 → walk_over f l h n a ≡ a
  unfolding walk_over
  walk_end h n a e = rw e

pub walk-fuse : {A B : Type 0} (φ : A → B) (f : ℕ → ℕ → A → A) (g : ℕ → ℕ → B → B) (l : List ℕ) (P : ℕ → Type 0) →
    ((h : ℕ) (a : A) → P h → g h (word_at l h) (φ a) ≡ φ (f h (word_at l h) a)) → (h n : ℕ) (a : A) → Linked l P h n →
    walk_over g l h n (φ a) ≡ φ (walk_over f l h n a)
unfolding walk_over
walk-fuse φ f g l P step h zero a p = refl
walk-fuse φ f g l P step h (suc n) a p = rw (step h a p.0) (walk-fuse φ f g l P step (link_of (word_at l h)) n (f h (word_at l h) a) p.1)

-- ---- The set of done tasks.
pub is-done : (w : ℕ) → is_done (standing_of w) ≡ eqb (w / 64 % 2) 1
unfolding is_done standing_of
is-done w = go (eqb (w / 64 % 2) 1)
  where
    go : (b : Bool) → is_done (cond b done (held (w / 8192 % 128))) ≡ b
    go true = refl
    go false = refl

-- An entry of chain i below 64 is of instance i.
pub of-instance : (i w : ℕ) → i < 64 → owner_of w ≡ i → are_in_order i (entry_of w) ≡ true
unfolding are_in_order entry_of
of-instance i w h e =
    let same : w % 64 ≡ i = omega arith in
    eq-eqb _ _ same

pub done-step : (i w : ℕ) (es : List Entry) → i < 64 → owner_of w ≡ i →
    cond (eqb (w / 64 % 2) 1) (plus (tasks_done i es) (w / 128 % 64)) (tasks_done i es) ≡ tasks_done i (entry_of w ∷ es)
unfolding tasks_done tasks_where entry_of
done-step i w es h e = rw (of-instance i w h e, is-done w)

-- ---- The check of one chain: one link, a link that is astray, and the end.
module _ (l : List ℕ) (i m : ℕ) where
  pub leads-turn : (h n k : ℕ) {all : Bool} → n ≡ suc k → astray l i m h ≡ false → leads l i m h n ≡ all → leads l i m (link_of (word_at l h)) k ≡ all
  unfolding leads
  leads-turn h n k p e q = rw (p, e) at q

  leads-end : (h n : ℕ) → n ≡ 0 → leads l i m h n ≡ eqb h 0
  unfolding leads
  leads-end h n e = rw e

  pub chain-astray : (h n : ℕ) → 0 < n → astray l i m h ≡ true → leads l i m h n ≡ leads l i m (head_of (chain_word l i)) (count_of (chain_word l i)) →
      false ≡ chain_sound l m i
  unfolding leads chain_sound
  chain-astray h zero p e q = let z : ⊥ = omega arith in absurd z
  chain-astray h (suc n) p e q = rw (← q, e)

  none_done : 0 ≡ tasks_done i []
  unfolding tasks_done tasks_where
  none_done = refl

  pub done-walk : i < 64 → leads l i m (head_of (chain_word l i)) (count_of (chain_word l i)) ≡ true →
      walk_over take_done l (head_of (chain_word l i)) (count_of (chain_word l i)) 0 ≡ tasks_done i (entries_in l i)
  unfolding entries_in
  done-walk h e =
      ap (walk_over take_done l (head_of (chain_word l i)) (count_of (chain_word l i))) none_done
      ∙ walk-fuse (tasks_done i) take_entry take_done l (Fine l i m) (λ x es f. done-step i (word_at l x) es h f.1.1) (head_of (chain_word l i))
      (count_of (chain_word l i)) [] (linked l i m (head_of (chain_word l i)) (count_of (chain_word l i)) e)

  figures-past : (d d' : ℕ) → 64 ≤ i → figures l i d ≡ figures l i d'
  unfolding figures
  figures-past d d' e = rw (le-ltb i 64 e)

  pub chain-end : (h n d : ℕ) → n ≡ 0 → leads l i m h n ≡ leads l i m (head_of (chain_word l i)) (count_of (chain_word l i))
      → walk_over take_done l h n d ≡ walk_over take_done l (head_of (chain_word l i)) (count_of (chain_word l i)) 0 → (eqb h 0 && figures l i d) ≡ chain_sound l m i
  unfolding chain_sound
  chain-end h n d e q w = go (eqb h 0) refl (ltb i 64) refl
    where
      ends : leads l i m (head_of (chain_word l i)) (count_of (chain_word l i)) ≡ eqb h 0
      ends = sym q ∙ leads-end h n e

      go : (b : Bool) → eqb h 0 ≡ b → (f : Bool) → ltb i 64 ≡ f →
          (b && figures l i d) ≡ (leads l i m (head_of (chain_word l i)) (count_of (chain_word l i)) && figures l i (tasks_done i (entries_in l i)))
      go false x f y = rw (ends, x)
      go true x true y = rw (ends, x) (ap (figures l i) (sym (walk_end take_done l h n d e) ∙ w ∙ done-walk (ltb-true i 64 y) (ends ∙ x)))
      go true x false y = rw (ends, x) (figures-past d (tasks_done i (entries_in l i)) (ltb-false i 64 y))
