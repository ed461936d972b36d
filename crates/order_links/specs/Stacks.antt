-- What the operations do to the chains: a chain is a stack from which entries are taken and onto which they are put.
use Rattle.std.specs.Prelude.{ℕ, zero, suc, ◌+◌, ◌*◌, ◌/◌, ◌%◌, ◌≤◌, ◌<◌, Bool, not, cond, List, [], ◌∷◌, ◌≡◌, eqb, length, get_or}
use Rattle.paper_lower.specs.Lists.{keep, each}
use Rattle.paper_upper.specs.Orders.{Entry, entry}
use Rattle.paper_upper.specs.Orders.Standing.{held, done}
use Rattle.order_links.specs.Chains.{mark_of, open_of, head_of, count_of, chain_word, link_of, word_at, sum_to, Fine, Linked}

-- ---- A chain as a stack of payloads. The payload of an entry's word is all but the chain and the link: done, task, subject and user.
abbrev pub payload_of : ℕ → ℕ
payload_of w = w / 64 % 16777216

-- The word of an entry of chain i with payload p and link h.
abbrev pub word_for : ℕ → ℕ → ℕ → ℕ
word_for i p h = i % 64 + i / 64 * 1073741824 + 64 * p + 4294967296 * h

-- The payloads of the n entries from h on.
unfoldable pub stack_of : List ℕ → ℕ → ℕ → List ℕ
stack_of l h zero = []
stack_of l h (suc n) = payload_of (word_at l h) ∷ stack_of l (link_of (word_at l h)) n

-- The payloads of chain i, the newest first.
unfoldable pub payloads_in : List ℕ → ℕ → List ℕ
payloads_in l i = stack_of l (head_of (chain_word l i)) (count_of (chain_word l i))

-- The entry that is reached from h after a links.
unfoldable pub step_to : List ℕ → ℕ → ℕ → ℕ
step_to l h zero = h
step_to l h (suc a) = step_to l (link_of (word_at l h)) a

-- The entry before that one on the way, or 0.
unfoldable pub before_to : List ℕ → ℕ → ℕ → ℕ
before_to l h zero = 0
before_to l h (suc a) = step_to l h a

-- The links are sound. The kept sets of done tasks, and whether entries are set aside, do not matter.
pub record Woven (l : List ℕ) : Type 0 where
  pub mark : mark_of l ≤ 2048
  pub sum : sum_to (λ i. count_of (chain_word l i)) 66 ≡ mark_of l
  pub chain : (i : ℕ) → i ≤ 65 → Linked l (Fine l i (mark_of l)) (head_of (chain_word l i)) (count_of (chain_word l i))

-- The same, except that entry k is in no chain.
pub record Loose (l : List ℕ) (k : ℕ) : Type 0 where
  pub mark : mark_of l ≤ 2048
  pub first : 0 < k
  pub last : k ≤ mark_of l
  pub sum : sum_to (λ i. count_of (chain_word l i)) 66 + 1 ≡ mark_of l
  pub chain : (i : ℕ) → i ≤ 65 → Linked l (λ h. Fine l i (mark_of l) h × (h ≡ k → ⊥)) (head_of (chain_word l i)) (count_of (chain_word l i))

-- The words other than links and chains are the same in both buffers.
pub record Beside (l l' : List ℕ) : Type 0 where
  pub room : length l' ≡ length l
  pub opens : open_of l' ≡ open_of l
  pub templates : (i : ℕ) → i < 64 → get_or l' (2 + i) 0 ≡ get_or l (2 + i) 0
  pub dones : (i : ℕ) → i < 64 → get_or l' (132 + i) 0 ≡ get_or l (132 + i) 0

-- Entry k was taken from the top of chain i.
pub record Popped (l l' : List ℕ) (i k : ℕ) : Type 0 where
  pub loose : Loose l' k
  pub beside : Beside l l'
  pub top : payloads_in l i ≡ payload_of (word_at l' k) ∷ payloads_in l' i
  pub others : (j : ℕ) → j ≤ 65 → (j ≡ i → ⊥) → payloads_in l' j ≡ payloads_in l j

-- An entry with payload p was put on chain i.
pub record Pushed (l l' : List ℕ) (i p : ℕ) : Type 0 where
  pub woven : Woven l'
  pub beside : Beside l l'
  pub top : payloads_in l' i ≡ p ∷ payloads_in l i
  pub others : (j : ℕ) → j ≤ 65 → (j ≡ i → ⊥) → payloads_in l' j ≡ payloads_in l j
  pub steps : (j : ℕ) → j ≤ 65 → (j ≡ i → ⊥) → (a : ℕ) → a ≤ count_of (chain_word l j) → step_to l' (head_of (chain_word l' j)) a ≡ step_to l (head_of (chain_word l j)) a

-- A free entry k was taken: from the free chain, or the first past the mark.
pub record Taken (l l' : List ℕ) (k : ℕ) : Type 0 where
  pub loose : Loose l' k
  pub beside : Beside l l'
  pub others : (j : ℕ) → j ≤ 65 → (j ≡ 64 → ⊥) → payloads_in l' j ≡ payloads_in l j

-- ---- Taking an entry out of the middle.

-- The list without its element number a, counted from 0.
unfoldable pub cut_away : ℕ → List ℕ → List ℕ
cut_away a [] = []
cut_away zero (x ∷ xs) = xs
cut_away (suc a) (x ∷ xs) = x ∷ cut_away a xs

-- The first a elements of the list, and of the others those for which p holds.
unfoldable pub kept_from : (ℕ → Bool) → ℕ → List ℕ → List ℕ
kept_from p zero xs = keep p xs
kept_from p (suc a) [] = []
kept_from p (suc a) (x ∷ xs) = x ∷ kept_from p a xs

-- Entry k, which comes after the first a entries of chain i, was taken out of the chain.
pub record Cut (l l' : List ℕ) (i a k : ℕ) : Type 0 where
  pub loose : Loose l' k
  pub beside : Beside l l'
  pub rest : payloads_in l' i ≡ cut_away a (payloads_in l i)
  pub others : (j : ℕ) → j ≤ 65 → (j ≡ i → ⊥) → payloads_in l' j ≡ payloads_in l j
  pub here : step_to l' (head_of (chain_word l' i)) a ≡ link_of (word_at l k)
  pub back : before_to l' (head_of (chain_word l' i)) a ≡ before_to l (head_of (chain_word l i)) a

-- ---- Moving whole chains.

-- The list ys with the elements of xs put before it one after the other, so that xs comes out reversed.
unfoldable pub rev_onto : {A : Type 0} → List A → List A → List A
rev_onto [] ys = ys
rev_onto (x ∷ xs) ys = rev_onto xs (x ∷ ys)

-- The entry of instance i with payload p.
unfoldable pub entry_from : ℕ → ℕ → Entry
entry_from i p = entry i (p / 16384 % 1024) (p / 2 % 64) (cond (eqb (p % 2) 1) done (held (p / 128 % 128)))

-- Whether a payload does not fit the key. A key is the part of a payload below the user: task t, held by subject a.
unfoldable pub stays : ℕ → ℕ → Bool
stays key p = not (eqb (p % 16384) key)

-- The payload, marked as done if it fits the key.
unfoldable pub turned_load : ℕ → ℕ → ℕ
turned_load key p = cond (eqb (p % 16384) key) (p + 1) p

-- The word, marked as done if its payload fits the key.
unfoldable pub turned_word : ℕ → ℕ → ℕ
turned_word key w = cond (eqb (payload_of w % 16384) key) (w + 64) w

-- The newest entry of chain i, with payload p, was moved to chain j, where it has payload q.
pub record Carried (l l' : List ℕ) (i j p q : ℕ) : Type 0 where
  pub woven : Woven l'
  pub beside : Beside l l'
  pub from : payloads_in l i ≡ p ∷ payloads_in l' i
  pub to : payloads_in l' j ≡ q ∷ payloads_in l j
  pub others : (x : ℕ) → x ≤ 65 → (x ≡ i → ⊥) → (x ≡ j → ⊥) → payloads_in l' x ≡ payloads_in l x

-- The links are sound, and of the instances only i may have changed.
pub record Still (i : ℕ) (l l' : List ℕ) : Type 0 where
  pub woven : Woven l'
  pub beside : Beside l l'
  pub others : (j : ℕ) → j < 64 → (j ≡ i → ⊥) → payloads_in l' j ≡ payloads_in l j

-- The entry k after the first a entries of chain i was made free.
pub record Freed (l l' : List ℕ) (i a k : ℕ) : Type 0 where
  pub still : Still i l l'
  pub aside : payloads_in l' 65 ≡ payloads_in l 65
  pub rest : payloads_in l' i ≡ cut_away a (payloads_in l i)
  pub here : step_to l' (head_of (chain_word l' i)) a ≡ link_of (word_at l k)
  pub back : before_to l' (head_of (chain_word l' i)) a ≡ before_to l (head_of (chain_word l i)) a

-- The entries of chain i that fit the key were made free.
pub record Sifted (i key : ℕ) (l l' : List ℕ) : Type 0 where
  pub still : Still i l l'
  pub aside : payloads_in l' 65 ≡ payloads_in l 65
  pub own : payloads_in l' i ≡ keep (stays key) (payloads_in l i)

-- The entries of chain i that fit the key were marked as done, in their places.
pub record Turned (i key : ℕ) (l l' : List ℕ) : Type 0 where
  pub still : Still i l l'
  pub aside : payloads_in l' 65 ≡ payloads_in l 65
  pub own : payloads_in l' i ≡ each (turned_load key) (payloads_in l i)

-- All entries of chain i were made free.
pub record Emptied (i : ℕ) (l l' : List ℕ) : Type 0 where
  pub still : Still i l l'
  pub aside : payloads_in l' 65 ≡ payloads_in l 65
  pub own : payloads_in l' i ≡ []
