-- The entries of an instance are those of its chain; and a function of all entries that ignores those of other instances may be computed from that chain alone.
use Prim.Native.Nat.{ℕ, zero, suc, ◌<◌}
use mathlib.Core.Bool.{Bool, true, false, ◌||◌}
use mathlib.Core.List.{List, [], ◌∷◌, ◌++◌}
use mathlib.Core.Path.{◌≡◌, refl, sym, ap, ◌∙◌}
use native.Mathlib.Omega.{arith}
use borrow.Author.Tests.{ne_eqb, eqb-true, eqb-false}
use lib.Dec.{eqb}
use Rattle.paper_lower.specs.Sets.{has}
use Rattle.paper_lower.specs.Lists.{some_number_below, some, Every}
use Rattle.paper_lower.proofs.ListLaws.{every_append, every_map}
use Rattle.paper_upper.specs.Orders.{Entry, are_in_order}
use Rattle.order_links.specs.Chains.{mark_of, open_of, head_of, count_of, chain_word, link_of, word_at, entry_of, walk_over, take_entry, entries_in, joined, Fine, Linked}
use Rattle.order_links.specs.Stacks.{Woven}
use Rattle.order_links.proofs.ReadLaws.{chain-closed}
use Rattle.order_links.proofs.ChainLaws.{of-instance}

-- ---- A function φ of entries that ignores those of instances other than i.
module _ {B : Type 0} (φ : List Entry → B) (i : ℕ) (skip : (e : Entry) (es : List Entry) → are_in_order i e ≡ false → φ (e ∷ es) ≡ φ es)
    (goes : (e : Entry) (es es' : List Entry) → φ es ≡ φ es' → φ (e ∷ es) ≡ φ (e ∷ es')) where
  skip_first : (xs ys : List Entry) → Every (λ e. are_in_order i e ≡ false) xs → φ (xs ++ ys) ≡ φ ys
  skip_first [] ys h = refl
  skip_first (x ∷ xs) ys h = skip x (xs ++ ys) h.0 ∙ skip_first xs ys h.1

  pub skip_all : (ys : List Entry) → Every (λ e. are_in_order i e ≡ false) ys → φ ys ≡ φ []
  skip_all [] h = refl
  skip_all (y ∷ ys) h = skip y ys h.0 ∙ skip_all ys h.1

  skip-last : (xs ys : List Entry) → Every (λ e. are_in_order i e ≡ false) ys → φ (xs ++ ys) ≡ φ xs
  skip-last [] ys h = skip_all ys h
  skip-last (x ∷ xs) ys h = goes x (xs ++ ys) xs (skip-last xs ys h)

  pub none-own : (f : ℕ → List Entry) (n : ℕ) → ((j : ℕ) → j < n → Every (λ e. are_in_order i e ≡ false) (f j)) → Every (λ e. are_in_order i e ≡ false) (joined f n)
  unfolding joined
  none-own f zero h = tt
  none-own f (suc n) h = every_append (λ e. are_in_order i e ≡ false) (f n) (joined f n) (h n (omega arith)) (none-own f n (λ j l. h j (omega arith)))

  pub own_alone : (f : ℕ → List Entry) (n : ℕ) → i < n → ((j : ℕ) → j < n → (j ≡ i → ⊥) → Every (λ e. are_in_order i e ≡ false) (f j)) → φ (joined f n) ≡ φ (f i)
  unfolding joined
  own_alone f zero l h = let z : ⊥ = omega arith in absurd z
  own_alone f (suc n) l h = go (eqb i n) refl (own_alone f n)
    where
      go : (b : Bool) → eqb i n ≡ b → (i < n → ((j : ℕ) → j < n → (j ≡ i → ⊥) → Every (λ e. are_in_order i e ≡ false) (f j)) → φ (joined f n) ≡ φ (f i)) →
          φ (f n ++ joined f n) ≡ φ (f i)
      go true e rest =
          let same = eqb-true i n e in
          skip-last (f n) (joined f n) (none-own f n (λ j less. h j (omega arith) (λ q. omega arith))) ∙ rw same
      go false e rest =
          let other = eqb-false i n e in
          skip_first (f n) (joined f n) (h n (omega arith) (λ q. other (sym q))) ∙ rest (omega arith) (λ j less d. h j (omega arith) d)

-- ---- Every entry of a chain is of the instance of that chain.
every-entries : (l : List ℕ) (P : ℕ → Type 0) (Q : Entry → Type 0) → ((h : ℕ) → P h → Q (entry_of (word_at l h))) → (h n : ℕ) (es : List Entry) → Linked l P h n →
    Every Q es → Every Q (walk_over take_entry l h n es)
unfolding walk_over
every-entries l P Q f h zero es p q = q
every-entries l P Q f h (suc n) es p q = every-entries l P Q f (link_of (word_at l h)) n (entry_of (word_at l h) ∷ es) p.1 (f h p.0, q)

pub entries-own : (l : List ℕ) → Woven l → (j : ℕ) → j < 64 → Every (λ e. are_in_order j e ≡ true) (entries_in l j)
unfolding entries_in
entries-own l s j h =
    every-entries l (Fine l j (mark_of l)) (λ e. are_in_order j e ≡ true) (λ x f. of-instance j (word_at l x) h f.1.1) (head_of (chain_word l j))
    (count_of (chain_word l j)) [] (s.chain j (omega arith)) tt

in_one : (i j : ℕ) (e : Entry) → (j ≡ i → ⊥) → are_in_order j e ≡ true → are_in_order i e ≡ false
unfolding are_in_order
in_one i j e d h = ne_eqb _ _ (λ q. d (sym (eqb-true _ _ h) ∙ q))

pub entries-other : (l : List ℕ) → Woven l → (i j : ℕ) → j < 64 → (j ≡ i → ⊥) → Every (λ e. are_in_order i e ≡ false) (entries_in l j)
entries-other l s i j h d = every_map (entries_in l j) (λ e q. in_one i j e d q) (entries-own l s j h)

-- A closed instance has no entries.
pub closed_none : (l : List ℕ) (i : ℕ) → i < 64 → has (open_of l) i ≡ false → entries_in l i ≡ []
unfolding entries_in walk_over
closed_none l i h e = rw (chain-closed l i h e)

-- ---- The entries of all instances.
pub joined_same : (f g : ℕ → List Entry) (n : ℕ) → ((j : ℕ) → j < n → f j ≡ g j) → joined f n ≡ joined g n
unfolding joined
joined_same f g zero h = refl
joined_same f g (suc n) h = rw (h n (omega arith), joined_same f g n (λ j l. h j (omega arith)))

or_apart : (a b c : Bool) → (a || b) || c ≡ a || (b || c)
or_apart true b c = refl
or_apart false b c = refl

some-append : (p : Entry → Bool) (xs ys : List Entry) → some p (xs ++ ys) ≡ (some p xs || some p ys)
unfolding some
some-append p [] ys = refl
some-append p (x ∷ xs) ys = ap (λ (b : Bool). p x || b) (some-append p xs ys) ∙ sym (or_apart (p x) (some p xs) (some p ys))

pub some-joined : (p : Entry → Bool) (f : ℕ → List Entry) (n : ℕ) → some p (joined f n) ≡ some_number_below n (λ i. some p (f i))
unfolding joined some some_number_below
some-joined p f zero = refl
some-joined p f (suc n) = some-append p (f n) (joined f n) ∙ ap (λ (b : Bool). some p (f n) || b) (some-joined p f n)
