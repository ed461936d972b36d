-- The words of the orders buffer: the chains of entries, how they are followed, and when they are sound.
use Rattle.std.specs.Prelude.{ℕ, zero, suc, ◌+◌, ◌*◌, ◌/◌, ◌%◌, ◌≤◌, ◌<◌, Bool, true, not, cond, ◌&&◌, ◌||◌, List, [], ◌∷◌, ◌++◌, ◌≡◌, eqb, ltb, get_or}
use Rattle.paper_lower.specs.Sets.{has, plus}
use Rattle.paper_lower.specs.Lists.{Maybe, some_number_below}
use Rattle.paper_lower.specs.Lists.Maybe.{none, just}
use Rattle.paper_upper.specs.Orders.{Standing, Entry, entry, tasks_done}
use Rattle.paper_upper.specs.Orders.Standing.{held, done}

-- ---- The words. 0: the mark. 1: the set of open instances. 2 to 65: their templates. 66 to 131: the chains of the instances, of the free entries (64) and
-- of entries set aside (65). 132 to 195: the sets of done tasks. 195 + h: entry h, counted from 1.

-- The length of the buffer in words.
abbrev pub orders_words : ℕ
orders_words = 2244

-- The number of entries that were ever in use. Entries past it are free and in no chain, whatever their words hold.
abbrev pub mark_of : List ℕ → ℕ
mark_of l = get_or l 0 0

-- The set of open instances.
abbrev pub open_of : List ℕ → ℕ
open_of l = get_or l 1 0

-- The template in the words of instance i, which is read only while i is open.
abbrev pub template_in : List ℕ → ℕ → ℕ
template_in l i = get_or l (2 + i) 0 % 16

-- The template of instance i, if i is open.
unfoldable pub template_at : List ℕ → ℕ → Maybe ℕ
template_at l i = cond (ltb i 64 && has (open_of l) i) (just (template_in l i)) none

-- The kept set of done tasks of instance i; none if i is closed.
unfoldable pub done_word : List ℕ → ℕ → ℕ
done_word l i = cond (has (open_of l) i) (get_or l (132 + i) 0) 0

-- Whether chain i is read: all but those of closed instances are.
unfoldable pub is_read_as : List ℕ → ℕ → Bool
is_read_as l i = ltb 63 i || has (open_of l) i

-- The word of chain i: bits 0 to 11 are the newest entry, or 0; bits 12 to 23 the number of entries.
unfoldable pub chain_word : List ℕ → ℕ → ℕ
chain_word l i = cond (is_read_as l i) (get_or l (66 + i) 0) 0

-- The newest entry of a chain's word.
abbrev pub head_of : ℕ → ℕ
head_of x = x % 4096

-- The number of entries of a chain's word.
abbrev pub count_of : ℕ → ℕ
count_of x = x / 4096 % 4096

-- ---- An entry's word. Bits 0 to 5: the instance. 6: done. 7 to 12: the task. 13 to 19: the subject while it is held. 20 to 29: the user. 30: free or set
-- aside. 32 to 43: its link, the entry of the same chain entered before it, or 0.

-- Whether it is done.
abbrev pub done_bit : ℕ → Bool
done_bit w = eqb (w / 64 % 2) 1

-- The task.
abbrev pub task_of : ℕ → ℕ
task_of w = w / 128 % 64

-- The user.
abbrev pub user_of : ℕ → ℕ
user_of w = w / 1048576 % 1024

-- Whether it is held, and by which subject, or done.
unfoldable pub standing_of : ℕ → Standing
standing_of w = cond (done_bit w) done (held (w / 8192 % 128))

-- The entry that the word stands for.
unfoldable pub entry_of : ℕ → Entry
entry_of w = entry (w % 64) (user_of w) (task_of w) (standing_of w)

-- The chain that the entry belongs to: its instance, 64 if it is free, 65 if it is set aside.
abbrev pub owner_of : ℕ → ℕ
owner_of w = w % 64 + w / 1073741824 % 2 * 64

-- The link.
abbrev pub link_of : ℕ → ℕ
link_of w = w / 4294967296 % 4096

-- The word of entry h.
abbrev pub word_at : List ℕ → ℕ → ℕ
word_at l h = get_or l (195 + h) 0

-- ---- Following the links. From entry h on, over n entries, f combines the number and the word of each with the value so far.
unfoldable pub walk_over : {A : Type 0} → (ℕ → ℕ → A → A) → List ℕ → ℕ → ℕ → A → A
walk_over f l h zero a = a
walk_over f l h (suc n) a = walk_over f l (link_of (word_at l h)) n (f h (word_at l h) a)

-- Collects the entries.
abbrev pub take_entry : ℕ → ℕ → List Entry → List Entry
take_entry h w es = entry_of w ∷ es

-- Collects the numbers of the entries.
abbrev pub take_number : ℕ → ℕ → List ℕ → List ℕ
take_number h w hs = h ∷ hs

-- Collects the tasks of done entries.
abbrev pub take_done : ℕ → ℕ → ℕ → ℕ
take_done h w d = cond (done_bit w) (plus d (task_of w)) d

-- The entries of chain i, the oldest first.
unfoldable pub entries_in : List ℕ → ℕ → List Entry
entries_in l i = walk_over take_entry l (head_of (chain_word l i)) (count_of (chain_word l i)) []

-- The numbers of the entries of chain i, the oldest first.
unfoldable pub numbers_in : List ℕ → ℕ → List ℕ
numbers_in l i = walk_over take_number l (head_of (chain_word l i)) (count_of (chain_word l i)) []

-- ---- Soundness.

-- Whether link h does not name an entry of chain i among the first m entries.
unfoldable pub astray : List ℕ → ℕ → ℕ → ℕ → Bool
astray l i m h = eqb h 0 || (ltb m h || not (eqb (owner_of (word_at l h)) i))

-- Whether the links from h on end after exactly n entries, all of chain i.
unfoldable pub leads : List ℕ → ℕ → ℕ → ℕ → ℕ → Bool
leads l i m h zero = eqb h 0
leads l i m h (suc n) = not (astray l i m h) && leads l i m (link_of (word_at l h)) n

-- Whether the kept figures of chain i are right: d is the kept set of done tasks of an instance; the free chain has no such figure; the chain of entries set
-- aside is empty.
unfoldable pub figures : List ℕ → ℕ → ℕ → Bool
figures l i d = cond (ltb i 64) (eqb (done_word l i) d) (eqb i 64 || eqb (count_of (chain_word l i)) 0)

-- Whether chain i is sound.
unfoldable pub chain_sound : List ℕ → ℕ → ℕ → Bool
chain_sound l m i = leads l i m (head_of (chain_word l i)) (count_of (chain_word l i)) && figures l i (tasks_done i (entries_in l i))

-- The sum f 0 + .. + f (n - 1).
unfoldable pub sum_to : (ℕ → ℕ) → ℕ → ℕ
sum_to f zero = 0
sum_to f (suc n) = f n + sum_to f n

-- Whether the buffer is sound.
unfoldable pub sound_of : List ℕ → Bool
sound_of l = not (ltb 2048 (mark_of l)) && (eqb (sum_to (λ i. count_of (chain_word l i)) 66) (mark_of l) && not (some_number_below 66 (λ i. not (chain_sound l (mark_of l) i))))

-- The contract of `counted`: r is n plus the number of entries of chain i if that is at most m and the chain is sound; otherwise r is above m.
pub record Counted (l : List ℕ) (m i n r : ℕ) : Type 0 where
  pub fits : r ≤ m → (r ≡ n + count_of (chain_word l i)) × (chain_sound l m i ≡ true)
  pub past : m < r → chain_sound l m i ≡ true → m < n + count_of (chain_word l i)

-- ---- Soundness of links as a statement, for proofs that take chains apart.
-- h is the number of an entry of chain i, among the first m entries.
abbrev pub Fine : List ℕ → ℕ → ℕ → ℕ → Type 0
Fine l i m h = (0 < h) × ((h ≤ m) × (owner_of (word_at l h) ≡ i))

-- From link h on there are exactly n entries, and P holds for each.
abbrev pub Linked : List ℕ → (ℕ → Type 0) → ℕ → ℕ → Type 0
Linked l P h zero = h ≡ 0
Linked l P h (suc n) = P h × Linked l P (link_of (word_at l h)) n

-- ---- How often a number occurs in a list.
unfoldable pub times : ℕ → List ℕ → ℕ
times k [] = 0
times k (x ∷ xs) = cond (eqb x k) (suc (times k xs)) (times k xs)

-- The lists f (n - 1) ++ .. ++ f 0.
unfoldable pub joined : {A : Type 0} → (ℕ → List A) → ℕ → List A
joined f zero = []
joined f (suc n) = f n ++ joined f n

-- Each entry up to the mark occurs exactly once, if every chain is followed over as many entries as its word says.
abbrev pub MetOnce : List ℕ → Type 0
MetOnce l = (h : ℕ) → 0 < h → h ≤ mark_of l → times h (joined (numbers_in l) 66) ≡ 1
