-- The rule over blocks, "no user has entries in two blocks of one partitioning":
-- fewer tasks keep it, and one more task keeps it exactly if BLOCK does not apply.
use Prim.Native.Nat.{ℕ, ◌<◌}
use native.Mathlib.Nat.{zero-add}
use mathlib.Core.Path.{◌≡◌, refl, sym, ap, ◌∙◌}
use mathlib.Core.Bool.{Bool, true, false, not, cond, ◌&&◌, true≢false, false≢true}
use mathlib.Core.List.{List, [], ◌∷◌}
use mathlib.Core.Logic.{◌↔◌}
use borrow.Author.Tests.{eqb-true, eq-eqb, not-true, not-false}
use lib.Dec.{eqb}
use Rattle.paper_lower.specs.Sets.{Set, empty, has, plus, meets}
use Rattle.paper_lower.specs.Lists.{Maybe, some, each, place, Every}
use Rattle.paper_lower.specs.Records.{Record}
use Rattle.paper_lower.specs.Tables.{Tasks, Block, Rules}
use Rattle.paper_lower.proofs.ListLaws.{both, not-both, every_map, every-all, every-both, every-each, some-elim, some_of, place_none, none-place, first-none, none_first}
use Rattle.sets.proofs.SetLaws.{Part, part-refl, part-more, meets-empty, meets-plus, meets-part, meets-new, none-common}
use Rattle.paper_upper.specs.Rules.{own, strange, block_within, block, found}
use Rattle.theorems.specs.OverEntries.{of_kind, EveryTwo, OneBlock}
use Rattle.theorems.specs.WellMade.{WellCut, WellMade}
use Rattle.theorems.proofs.Made.{a_block, Made, of-each}

-- ---- Relations between every two elements of a list.
module _ {A : Type 0} where
  two-all : (R : A → A → Type 0) (xs : List A) → ((x y : A) → R x y) → EveryTwo R xs
  two-all R [] f = tt
  two-all R (x ∷ xs) f = (every-all xs (f x), two-all R xs f)

  two-map : (R S : A → A → Type 0) (xs : List A) → ((x y : A) → R x y → S x y) → EveryTwo R xs → EveryTwo S xs
  two-map R S [] f h = tt
  two-map R S (x ∷ xs) f h = (every_map xs (f x) h.0, two-map R S xs f h.1)

  two-both : (R S W : A → A → Type 0) (xs : List A) → ((x y : A) → R x y → S x y → W x y) → EveryTwo R xs → EveryTwo S xs → EveryTwo W xs
  two-both R S W [] f h k = tt
  two-both R S W (x ∷ xs) f h k = (every-both xs (f x) h.0 k.0, two-both R S W xs f h.1 k.1)

  two-each : {B : Type 0} (R : B → B → Type 0) (f : A → B) (xs : List A) → EveryTwo (λ x y. R (f x) (f y)) xs ↔ EveryTwo R (each f xs)
  unfolding each
  two-each R f [] = (λ h. tt, λ h. tt)
  two-each R f (x ∷ xs) =
      let rest = two-each R f xs in
      (λ h. (every-each (R (f x)) f xs h.0, rest.0 h.1), λ h. (of-each (R (f x)) f xs h.0, rest.1 h.1))

  two-of-every : (R : A → A → Type 0) (xs : List A) → Every (λ x. Every (R x) xs) xs → EveryTwo (λ x y. R x y × R y x) xs
  two-of-every R [] h = tt
  two-of-every R (x ∷ xs) h =
      (every-both xs (λ y p q. (p, q.0)) h.0.1 h.1, two-of-every R xs (every_map xs (λ y q. q.1) h.1))

  -- From every two elements to all pairs of elements that differ by D, for a symmetric relation.
  every-of-two : (R D : A → A → Type 0) → ((x : A) → D x x → ⊥) → ((x y : A) → R x y → R y x) → (xs : List A) → EveryTwo R xs
      → Every (λ x. Every (λ y. D x y → R x y) xs) xs
  every-of-two R D irr turn [] h = tt
  every-of-two R D irr turn (x ∷ xs) h = (
    (λ d. absurd (irr x d), every_map xs (λ y r d. r) h.0),
    every-both xs (λ y r rest. (λ d. turn x y r, rest)) h.0 (every-of-two R D irr turn xs h.1),
  )

-- ---- The blocks of the rules.

-- The tasks d do not meet both blocks k and l, if they are of one partitioning.
abbrev Single : Set → Block → Block → Type 0
Single d k l = k.partitioning ≡ l.partitioning → meets k.tasks d ≡ true → meets l.tasks d ≡ true → ⊥

-- If c is in block k, then d meets no block l of the same partitioning without c.
Free : Set → ℕ → Block → Block → Type 0
Free d c k l = has k.tasks c ≡ true → k.partitioning ≡ l.partitioning → has l.tasks c ≡ false → meets l.tasks d ≡ false

module _ (ru : Rules) (d : Set) (c : ℕ) where
  nothing-strange : Every (λ k. k.partitioning < 16) ru.blocks → block ru d c ≡ 0 → Every (λ k. Every (Free d c k) ru.blocks) ru.blocks
  unfolding block block_within own strange Free
  nothing-strange small h = every-both ru.blocks (λ k l s. go k l s (has k.tasks c) refl) small (some_of (λ q. own q c) ru.blocks)
    where
      at : (b : Bool) (n : ℕ) → b ≡ true → cond b n 0 ≡ 0 → not (eqb n 0) ≡ false
      at true n e z = ap not (eq-eqb n 0 z)
      at false n e z = absurd (false≢true e)

      go : (k : Block) → k.partitioning < 16 → ((q : ℕ) → own q c k ≡ true → some (own q c) ru.blocks ≡ true) → (b : Bool) → has k.tasks c ≡ b
          → Every (λ l. Free d c k l) ru.blocks
      go k l s true e =
          let z : block_within ru d c k.partitioning ≡ 0 = rw zero-add at (first-none 0 16 (block_within ru d c) h k.partitioning l) in
          every_map ru.blocks (λ x n _ m y.
          not-both (eqb x.partitioning k.partitioning && not (has x.tasks c)) (meets x.tasks d) n (rw (eq-eqb _ _ (sym m), y)))
          (place_none (strange k.partitioning d c) ru.blocks
          (at (some (own k.partitioning c) ru.blocks) _ (s k.partitioning (rw (eq-eqb k.partitioning k.partitioning refl, e))) z))
      go k l s false e = every-all ru.blocks (λ x i. absurd (false≢true (sym e ∙ i)))

  one-pair : (k l : Block) → (k.partitioning ≡ l.partitioning → meets k.tasks l.tasks ≡ false) → Free d c k l × Free d c l k → Single d k l
      → Single (plus d c) k l
  unfolding Free
  one-pair k l apart free s e x y = go (has k.tasks c) refl (has l.tasks c) refl
    where
      go : (p : Bool) → has k.tasks c ≡ p → (q : Bool) → has l.tasks c ≡ q → ⊥
      go true p true q = none-common k.tasks l.tasks c (apart e) p q
      go true p false q = true≢false (sym (sym (meets-plus l.tasks d c q) ∙ y) ∙ free.0 p e q)
      go false p true q = true≢false (sym (sym (meets-plus k.tasks d c p) ∙ x) ∙ free.1 q (sym e) p)
      go false p false q = s e (sym (meets-plus k.tasks d c p) ∙ x) (sym (meets-plus l.tasks d c q) ∙ y)

  block-forth : (f : ℕ → Maybe ℕ) → WellCut f ru.blocks → block ru d c ≡ 0 → EveryTwo (Single d) ru.blocks → EveryTwo (Single (plus d c)) ru.blocks
  block-forth f well z h =
      two-both (λ k l. Single d k l → Single (plus d c) k l) (Single d) (Single (plus d c)) ru.blocks (λ k l g s. g s)
      (two-both _ (λ k l. Free d c k l × Free d c l k) _ ru.blocks one-pair well.disjoint
      (two-of-every (Free d c) ru.blocks (nothing-strange well.partitionings z))) h

  block_back : EveryTwo (Single (plus d c)) ru.blocks → block ru d c ≡ 0
  unfolding block block_within own strange
  block_back h = none_first 0 16 (block_within ru d c) (λ q. go q (some (own q c) ru.blocks) refl)
    where
      Differ : Block → Block → Type 0
      Differ k l = (has k.tasks c ≡ true) × (has l.tasks c ≡ false)

      all : Every (λ k. Every (λ l. Differ k l → Single (plus d c) k l) ru.blocks) ru.blocks
      all = every-of-two (Single (plus d c)) Differ (λ k x. true≢false (sym x.0 ∙ x.1)) (λ k l s e x y. s (sym e) y x) ru.blocks h

      free : (q : ℕ) (k l : Block) → eqb k.partitioning q && has k.tasks c ≡ true → (Differ k l → Single (plus d c) k l)
          → (b : Bool) → eqb l.partitioning q && not (has l.tasks c) && meets l.tasks d ≡ b → b ≡ false
      free q k l e s false x = refl
      free q k l e s true x =
          let i = both (eqb k.partitioning q) (has k.tasks c) e in
          let y = both (eqb l.partitioning q && not (has l.tasks c)) (meets l.tasks d) x in
          let z = both (eqb l.partitioning q) (not (has l.tasks c)) y.0 in
          absurd (s (i.1, not-true _ z.1) (eqb-true _ _ i.0 ∙ sym (eqb-true _ _ z.0)) (meets-new k.tasks d c i.1)
          (meets-part l.tasks d (plus d c) (part-more d d c (part-refl d)) y.1))

      go : (q : ℕ) (b : Bool) → some (own q c) ru.blocks ≡ b → cond b (place (strange q d c) ru.blocks) 0 ≡ 0
      go q true e =
          none-place (strange q d c) ru.blocks
          (some-elim (own q c) (Every (λ l. strange q d c l ≡ false) ru.blocks) ru.blocks e
          (every_map ru.blocks (λ k s i. every_map ru.blocks (λ l t. free q k l i t _ refl) s) all))
      go q false e = refl

-- ---- The blocks of the policy's records.
module _ (policy : List Record) where
  -- The rule for one user in one order: d has tasks of at most one block of each partitioning.
  abbrev pub BlocksOf : Maybe ℕ → Set → Type 0
  BlocksOf template d = EveryTwo (OneBlock d) (of_kind 12 policy)

  pub blocks-empty : (m : Maybe ℕ) → BlocksOf m empty
  blocks-empty m = two-all _ (of_kind 12 policy) (λ r q i x y. false≢true (sym (meets-empty r.m) ∙ x))

  pub blocks-less : (m : Maybe ℕ) (d e : Set) → Part d e → BlocksOf m e → BlocksOf m d
  blocks-less m d e p h = two-map _ _ (of_kind 12 policy) (λ r q s i x y. s i (meets-part r.m d e p x) (meets-part q.m d e p y)) h

  pub blocks-claim : (k : Tasks) (ru : Rules) → Made policy k ru → WellMade k.template k.most ru → (m : Maybe ℕ) (d : Set) (c : ℕ) → BlocksOf m d
      → (found (block ru d c) ≡ false) ↔ BlocksOf m (plus d c)
  blocks-claim k ru made well m d c h = (
    λ e. (records (plus d c)).1 (block-forth ru d c k.template well.blocks (eqb-true _ _ (not-false _ e)) ((records d).0 h)),
    λ w. ap not (eq-eqb (block ru d c) 0 (block_back ru d c ((records (plus d c)).0 w))),
  )
    where
      records : (e : Set) → BlocksOf m e ↔ EveryTwo (Single e) ru.blocks
      records e = rw made.blocks (two-each (Single e) a_block (of_kind 12 policy))
