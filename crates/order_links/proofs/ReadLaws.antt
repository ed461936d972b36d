-- How the words of an instance read: only while it is open. The chains of the free entries and of those set aside are always read.
use Prim.Native.Nat.{ℕ, ◌+◌, ◌%◌, ◌<◌}
use mathlib.Core.Bool.{Bool, true, false, cond, ◌&&◌}
use mathlib.Core.List.{List}
use mathlib.Core.Path.{◌≡◌, refl, ap}
use native.Mathlib.Omega.{arith}
use borrow.Author.Tests.{lt-ltb, le-ltb, ltb-true}
use lib.Dec.{ltb}
use lib.ListN.{get_or}
use Rattle.paper_lower.specs.Sets.{has}
use Rattle.paper_lower.specs.Lists.{holds, there}
use Rattle.paper_lower.specs.Lists.Maybe.{none, just}
use Rattle.paper_lower.proofs.ListLaws.{or-true}
use Rattle.order_links.specs.Chains.{open_of, template_at, done_word, is_read_as, chain_word, count_of}

pub read_past : (l : List ℕ) (i : ℕ) → 63 < i → is_read_as l i ≡ true
unfolding is_read_as
read_past l i h = rw (lt-ltb 63 i h)

pub read-open : (l : List ℕ) (i : ℕ) → has (open_of l) i ≡ true → is_read_as l i ≡ true
unfolding is_read_as
read-open l i h = rw h (or-true (ltb 63 i))

pub read-closed : (l : List ℕ) (i : ℕ) → i < 64 → is_read_as l i ≡ has (open_of l) i
unfolding is_read_as
read-closed l i h = rw (le-ltb 63 i (omega arith))

pub chain-read : (l : List ℕ) (i : ℕ) → is_read_as l i ≡ true → chain_word l i ≡ get_or l (66 + i) 0
unfolding chain_word
chain-read l i h = rw h

pub chain-closed : (l : List ℕ) (i : ℕ) → i < 64 → has (open_of l) i ≡ false → chain_word l i ≡ 0
unfolding chain_word
chain-closed l i h e = rw (read-closed l i h, e)

pub read_some : (l : List ℕ) (i : ℕ) → 0 < count_of (chain_word l i) → is_read_as l i ≡ true
unfolding chain_word
read_some l i h = go (is_read_as l i) h
  where
    go : (b : Bool) → 0 < count_of (cond b (get_or l (66 + i) 0) 0) → b ≡ true
    go true p = refl
    go false p = let z : ⊥ = omega arith in absurd z

-- ---- Another buffer in which instance i is open or closed as before, and has the same words.
module _ (l l' : List ℕ) (i : ℕ) (opens : has (open_of l') i ≡ has (open_of l) i) where
  pub chain-as : get_or l' (66 + i) 0 ≡ get_or l (66 + i) 0 → chain_word l' i ≡ chain_word l i
  unfolding chain_word is_read_as
  chain-as e = rw (opens, e)

  pub done-as : get_or l' (132 + i) 0 ≡ get_or l (132 + i) 0 → done_word l' i ≡ done_word l i
  unfolding done_word
  done-as e = rw (opens, e)

  pub template-as : (i < 64 → get_or l' (2 + i) 0 ≡ get_or l (2 + i) 0) → template_at l' i ≡ template_at l i
  unfolding template_at
  template-as e = rw opens (go (ltb i 64) refl)
    where
      go : (b : Bool) → ltb i 64 ≡ b →
          cond (ltb i 64 && has (open_of l) i) (just (get_or l' (2 + i) 0 % 16)) none ≡ cond (ltb i 64 && has (open_of l) i) (just (get_or l (2 + i) 0 % 16)) none
      go true q = rw (e (ltb-true i 64 q))
      go false q = rw q

-- ---- Another buffer with the same set of open instances.
module _ (l l' : List ℕ) (i : ℕ) (opens : open_of l' ≡ open_of l) where
  as-open : has (open_of l') i ≡ has (open_of l) i
  as-open = ap (λ (m : ℕ). has m i) opens

  pub read_same : is_read_as l' i ≡ is_read_as l i
  unfolding is_read_as
  read_same = rw opens

  pub chain_same : get_or l' (66 + i) 0 ≡ get_or l (66 + i) 0 → chain_word l' i ≡ chain_word l i
  chain_same = chain-as l l' i as-open

  pub done-same : get_or l' (132 + i) 0 ≡ get_or l (132 + i) 0 → done_word l' i ≡ done_word l i
  done-same = done-as l l' i as-open

  pub template-same : (i < 64 → get_or l' (2 + i) 0 ≡ get_or l (2 + i) 0) → template_at l' i ≡ template_at l i
  template-same = template-as l l' i as-open

pub done-read : (l : List ℕ) (i : ℕ) → has (open_of l) i ≡ true → done_word l i ≡ get_or l (132 + i) 0
unfolding done_word
done-read l i h = rw h

pub done-closed : (l : List ℕ) (i : ℕ) → has (open_of l) i ≡ false → done_word l i ≡ 0
unfolding done_word
done-closed l i h = rw h

pub template-read : (l : List ℕ) (i : ℕ) → i < 64 → has (open_of l) i ≡ true → template_at l i ≡ just (get_or l (2 + i) 0 % 16)
unfolding template_at
template-read l i h e = rw (lt-ltb i 64 h, e)

pub template-closed : (l : List ℕ) (i : ℕ) → has (open_of l) i ≡ false → template_at l i ≡ none
unfolding template_at
template-closed l i e = rw e (go (ltb i 64))
  where
    go : (b : Bool) → cond (b && false) (just (get_or l (2 + i) 0 % 16)) none ≡ none
    go true = refl
    go false = refl

-- An instance has a template exactly if it is open.
pub there-open : (l : List ℕ) (i : ℕ) → i < 64 → there (template_at l i) ≡ has (open_of l) i
unfolding template_at holds
there-open l i h = rw (lt-ltb i 64 h) (go (has (open_of l) i))
  where
    go : (b : Bool) → there (cond b (just (get_or l (2 + i) 0 % 16)) none) ≡ b
    go true = refl
    go false = refl
