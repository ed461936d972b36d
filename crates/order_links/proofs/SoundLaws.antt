-- A sound buffer: the test `sound_of` and the statement `Sound`; and in a sound buffer each entry is in exactly one chain, once.
use Prim.Native.Nat.{ℕ, zero, suc, ◌+◌, ◌-◌, ◌≤◌, ◌<◌}
use mathlib.Core.Bool.{Bool, true, false, not, cond}
use mathlib.Core.List.{List, [], ◌∷◌}
use mathlib.Core.Path.{◌≡◌, refl, sym, ap, ◌∙◌}
use native.Mathlib.Omega.{arith}
use borrow.Author.Tests.{eq-eqb, ne_eqb, eqb-true, ltb-true, ltb-false, le-ltb, not-true, not-false}
use lib.Dec.{eqb, ltb}
use Rattle.paper_lower.specs.Lists.{many, Every}
use Rattle.paper_lower.proofs.ListLaws.{both, none_below, below_none, every_append, every_map}
use Rattle.paper_upper.specs.Orders.{tasks_done}
use Rattle.order_links.specs.Chains.{mark_of, head_of, count_of, chain_word, owner_of, link_of, word_at, walk_over, take_number, entries_in, numbers_in, leads, figures, chain_sound, sum_to, sound_of, times, joined, Fine, Linked, MetOnce}
use Rattle.order_links.specs.Stacks.{step_to, Woven}
use Rattle.order_links.specs.Once.{ReachedOnce}
use Rattle.order_links.proofs.ChainLaws.{linked, leading, no_return}
use Rattle.order_links.proofs.StepLaws.{linked-step}
use Rattle.order_links.proofs.OnceLaws.{sum_same, sum-none, sum_one, times-joined, many-joined, Within, all_once}

-- ---- The test and the statement.
pub record Sound (l : List ℕ) : Type 0 where
  pub woven : Woven l
  pub figured : (i : ℕ) → i ≤ 65 → figures l i (tasks_done i (entries_in l i)) ≡ true

pub sound : (l : List ℕ) → sound_of l ≡ true → Sound l
unfolding sound_of chain_sound
sound l e =
    let a = both (not (ltb 2048 (mark_of l))) _ e in
    let b = both (eqb (sum_to (λ i. count_of (chain_word l i)) 66) (mark_of l)) _ a.1 in
    let c : (i : ℕ) → i ≤ 65 → chain_sound l (mark_of l) i ≡ true =
    λ i h. not-false _ (none_below 66 (λ i. not (chain_sound l (mark_of l) i)) (not-true _ b.1) i (omega arith)) in
    record {
      woven = record {
        mark = ltb-false 2048 (mark_of l) (not-true _ a.0);
        sum = eqb-true _ _ b.0;
        chain =
            λ i h. linked l i (mark_of l) (head_of (chain_word l i)) (count_of (chain_word l i))
            (both (leads l i (mark_of l) (head_of (chain_word l i)) (count_of (chain_word l i))) (figures l i (tasks_done i (entries_in l i))) (c i h)).0;
      };
      figured = λ i h. (both (leads l i (mark_of l) (head_of (chain_word l i)) (count_of (chain_word l i))) (figures l i (tasks_done i (entries_in l i))) (c i h)).1;
    }

pub is-sound : (l : List ℕ) → Sound l → sound_of l ≡ true
unfolding sound_of chain_sound
is-sound l s =
    let each : (i : ℕ) → i < 66 → chain_sound l (mark_of l) i ≡ true =
    λ i h. rw (leading l i (mark_of l) (head_of (chain_word l i)) (count_of (chain_word l i)) (s.woven.chain i (omega arith))) (s.figured i (omega arith)) in
    rw (le-ltb 2048 (mark_of l) s.woven.mark, eq-eqb _ _ s.woven.sum)
    (ap not (below_none 66 (λ i. not (chain_sound l (mark_of l) i)) (λ i h. ap not (each i h))))

-- ---- Each entry occurs once.
module _ (l : List ℕ) where
  pub many-walk : (h n : ℕ) (xs : List ℕ) → many (walk_over take_number l h n xs) ≡ n + many xs
  unfolding walk_over many
  many-walk h zero xs = omega arith
  many-walk h (suc n) xs = let e = many-walk (link_of (word_at l h)) n (h ∷ xs) in omega arith

  every-walk : (P : ℕ → Type 0) (h n : ℕ) (xs : List ℕ) → Linked l P h n → Every P xs → Every P (walk_over take_number l h n xs)
  unfolding walk_over
  every-walk P h zero xs p q = q
  every-walk P h (suc n) xs p q = every-walk P (link_of (word_at l h)) n (h ∷ xs) p.1 (p.0, q)

  -- A number that no entry of the chain has.
  times-walk : (P : ℕ → Type 0) (k h n : ℕ) (xs : List ℕ) → ((x : ℕ) → P x → x ≡ k → ⊥) → Linked l P h n → times k (walk_over take_number l h n xs) ≡ times k xs
  unfolding walk_over times
  times-walk P k h zero xs off p = refl
  times-walk P k h (suc n) xs off p =
      times-walk P k (link_of (word_at l h)) n (h ∷ xs) off p.1
      ∙ ap (λ (b : Bool). cond b (suc (times k xs)) (times k xs)) (ne_eqb h k (off h p.0))

  at-most-once : (P : ℕ → Type 0) → ((x : ℕ) → P x → 0 < x) → (k h n : ℕ) (xs : List ℕ) → times k xs ≡ 0 → Linked l P h n →
      times k (walk_over take_number l h n xs) ≤ 1
  unfolding walk_over times
  at-most-once P p0 k h zero xs none p = omega arith
  at-most-once P p0 k h (suc n) xs none p = go (eqb h k) refl (at-most-once P p0 k (link_of (word_at l h)) n (h ∷ xs))
    where
      go : (b : Bool) → eqb h k ≡ b →
          (cond (eqb h k) (suc (times k xs)) (times k xs) ≡ 0 → Linked l P (link_of (word_at l h)) n →
          times k (walk_over take_number l (link_of (word_at l h)) n (h ∷ xs)) ≤ 1) → times k (walk_over take_number l (link_of (word_at l h)) n (h ∷ xs)) ≤ 1
      go true e rest =
          let same = eqb-true h k e in
          let off = no_return l P P p0 p0 (link_of (word_at l h)) n h (suc n) p.1 p (omega arith) in
          let count = times-walk (λ x. P x × (x ≡ h → ⊥)) k (link_of (word_at l h)) n (h ∷ xs) (λ x q d. q.1 (d ∙ sym same)) off in
          rw (count, e) (omega arith)
      go false e rest = rest (rw e none) p.1

module _ (l : List ℕ) (s : Sound l) where
  many-numbers : (i : ℕ) → many (numbers_in l i) ≡ count_of (chain_word l i)
  unfolding numbers_in many
  many-numbers i = many-walk l (head_of (chain_word l i)) (count_of (chain_word l i)) [] ∙ omega arith

  pub numbers-fine : (i : ℕ) → i ≤ 65 → Every (Fine l i (mark_of l)) (numbers_in l i)
  unfolding numbers_in
  numbers-fine i h = every-walk l (Fine l i (mark_of l)) (head_of (chain_word l i)) (count_of (chain_word l i)) [] (s.woven.chain i h) tt

  joined-within : (n : ℕ) → n ≤ 66 → Every (Within (mark_of l)) (joined (numbers_in l) n)
  unfolding joined
  joined-within zero h = tt
  joined-within (suc n) h =
      every_append (Within (mark_of l)) (numbers_in l n) (joined (numbers_in l) n)
      (every_map (numbers_in l n) (λ x f. (f.0, f.1.0)) (numbers-fine n (omega arith))) (joined-within n (omega arith))

  -- An entry is only in the chain that its word names, and there once.
  pub not_in : (k i : ℕ) → i ≤ 65 → (owner_of (word_at l k) ≡ i → ⊥) → times k (numbers_in l i) ≡ 0
  unfolding numbers_in times
  not_in k i h d =
      times-walk l (Fine l i (mark_of l)) k (head_of (chain_word l i)) (count_of (chain_word l i)) [] (λ x f e. d (rw e at f.1.1)) (s.woven.chain i h)

  once-in : (k i : ℕ) → i ≤ 65 → times k (numbers_in l i) ≤ 1
  unfolding numbers_in times
  once-in k i h = at-most-once l (Fine l i (mark_of l)) (λ x f. f.0) k (head_of (chain_word l i)) (count_of (chain_word l i)) [] refl (s.woven.chain i h)

  joined_once : (k : ℕ) → times k (joined (numbers_in l) 66) ≤ 1
  joined_once k = rw (times-joined k (numbers_in l) 66) (go (ltb (owner_of (word_at l k)) 66) refl)
    where
      go : (b : Bool) → ltb (owner_of (word_at l k)) 66 ≡ b → sum_to (λ i. times k (numbers_in l i)) 66 ≤ 1
      go true e =
          rw (sum_one (λ i. times k (numbers_in l i)) (owner_of (word_at l k)) 66 (ltb-true _ _ e) (λ i h d. not_in k i (omega arith) (λ q. d (sym q))))
          (let h : owner_of (word_at l k) < 66 = ltb-true _ _ e in once-in k (owner_of (word_at l k)) (omega arith))
      go false e = let h : 66 ≤ owner_of (word_at l k) = ltb-false _ _ e in
          let z = sum-none (λ i. times k (numbers_in l i)) 66 (λ i less. not_in k i (omega arith) (λ q. omega arith)) in
          omega arith

  pub reached-once : MetOnce l
  reached-once k p h =
      all_once (mark_of l) (joined (numbers_in l) 66) (joined-within 66 (omega arith))
      (many-joined (numbers_in l) 66 ∙ sum_same (λ i. many (numbers_in l i)) (λ i. count_of (chain_word l i)) 66 (λ i less. many-numbers i) ∙ s.woven.sum)
      joined_once k p h

  chain-ends : (i : ℕ) → i ≤ 65 → step_to l (head_of (chain_word l i)) (count_of (chain_word l i)) ≡ 0
  chain-ends i h =
      let c = count_of (chain_word l i) in
      let e : c - c ≡ 0 = omega arith in
      rw e at (linked-step l (Fine l i (mark_of l)) (head_of (chain_word l i)) c c (omega arith) (s.woven.chain i h))

pub once : (l : List ℕ) → sound_of l ≡ true → ReachedOnce l
once l e = let s = sound l e in record { ends = chain-ends l s; own = numbers-fine l s; once = reached-once l s }
