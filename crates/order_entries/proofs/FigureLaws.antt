-- The kept figures of an instance equal those computed from all entries; and as long as fewer than 2048 entries are in use, one is free.
use Prim.Native.Nat.{ℕ, ◌+◌, ◌≤◌, ◌<◌}
use mathlib.Core.Bool.{true, false, cond, ◌&&◌}
use mathlib.Core.List.{List, [], ◌∷◌}
use mathlib.Core.Path.{◌≡◌, refl, sym, ap, ◌∙◌}
use native.Mathlib.Omega.{arith}
use Rattle.paper_lower.specs.Lists.{many, keep, Every}
use Rattle.paper_lower.specs.Sets.{plus}
use Rattle.paper_upper.specs.Orders.{Entry, is_done, are_in_order, of_order, tasks_where, tasks_done}
use Rattle.paper_upper.specs.Questions.{figures_of}
use Rattle.order_links.specs.Chains.{mark_of, done_word, count_of, chain_word, entries_in, sum_to, joined}
use Rattle.order_links.specs.Stacks.{Woven, rev_onto}
use Rattle.order_links.proofs.SameLaws.{many-same, same-turned}
use Rattle.order_links.proofs.OnceLaws.{sum_more, sum_same, many-joined}
use Rattle.order_links.proofs.EntryLaws.{many-own, keep-turned, done-bag}
use Rattle.order_links.proofs.ActLaws.{Whole}
use Rattle.order_entries.specs.declared.Figures.{Figures}
use Rattle.order_entries.specs.Reading.{orders_of}
use Rattle.order_entries.specs.Gathering.{set_of, kept}
use Rattle.order_entries.proofs.OwnLaws.{skip_all, none-own, own_alone, entries-own, entries-other}

module _ (i : ℕ) where
  keep-skip : (e : Entry) (es : List Entry) → are_in_order i e ≡ false → keep (are_in_order i) (e ∷ es) ≡ keep (are_in_order i) es
  unfolding keep
  keep-skip e es h = rw h

  keep-goes : (e : Entry) (es es' : List Entry) → keep (are_in_order i) es ≡ keep (are_in_order i) es' → keep (are_in_order i) (e ∷ es) ≡ keep (are_in_order i) (e ∷ es')
  unfolding keep
  keep-goes e es es' h = ap (λ (xs : List Entry). cond (are_in_order i e) (e ∷ xs) xs) h

  done-skip : (e : Entry) (es : List Entry) → are_in_order i e ≡ false → tasks_done i (e ∷ es) ≡ tasks_done i es
  unfolding tasks_done tasks_where
  done-skip e es h = rw h

  done-goes : (e : Entry) (es es' : List Entry) → tasks_done i es ≡ tasks_done i es' → tasks_done i (e ∷ es) ≡ tasks_done i (e ∷ es')
  unfolding tasks_done tasks_where
  done-goes e es es' h = ap (λ (m : ℕ). cond (are_in_order i e && is_done e.standing) (plus m e.task) m) h

keep-own : (i : ℕ) (es : List Entry) → Every (λ e. are_in_order i e ≡ true) es → keep (are_in_order i) es ≡ es
unfolding keep
keep-own i [] h = refl
keep-own i (e ∷ es) h = rw h.0 (ap (◌∷◌ e) (keep-own i es h.1))

-- ---- The entries of instance i among all entries are those of its chain, the newest first.
pub order-own : (l : List ℕ) → Woven l → (i : ℕ) → i < 64 → of_order i (orders_of l).entries ≡ rev_onto (entries_in l i) []
unfolding orders_of
order-own l s i h =
    let others : (j : ℕ) → j < 64 → (j ≡ i → ⊥) → Every (λ e. are_in_order i e ≡ false) (entries_in l j) = λ j less d. entries-other l s i j less d in
    sym (keep-turned (are_in_order i) (joined (entries_in l) 64))
    ∙ ap (λ (es : List Entry). rev_onto es [])
    (own_alone (keep (are_in_order i)) i (keep-skip i) (keep-goes i) (entries_in l) 64 h others ∙ keep-own i (entries_in l i) (entries-own l s i h))

-- No entry is of an instance with a number of 64 or more.
pub order-none : (l : List ℕ) → Woven l → (i : ℕ) → 64 ≤ i → of_order i (orders_of l).entries ≡ []
unfolding orders_of rev_onto keep
order-none l s i h =
    let others : (j : ℕ) → j < 64 → Every (λ e. are_in_order i e ≡ false) (entries_in l j) = λ j less. entries-other l s i j less (λ e. omega arith) in
    sym (keep-turned (are_in_order i) (joined (entries_in l) 64))
    ∙ ap (λ (es : List Entry). rev_onto es [])
    (skip_all (keep (are_in_order i)) i (keep-skip i) (keep-goes i) (joined (entries_in l) 64)
    (none-own (keep (are_in_order i)) i (keep-skip i) (keep-goes i) (entries_in l) 64 others))

-- The kept set of instance i has the done tasks of its entries.
pub done-own : (l : List ℕ) → Whole l → (i : ℕ) → i < 64 → done_word l i ≡ tasks_done i (orders_of l).entries
unfolding orders_of
done-own l s i h =
    s.dones i h
    ∙ sym (done-bag i (same-turned (joined (entries_in l) 64))
    ∙ own_alone (tasks_done i) i (done-skip i) (done-goes i) (entries_in l) 64 h (λ j less d. entries-other l s.woven i j less d))

pub kept-figures : (l : List ℕ) → Whole l → (i : ℕ) → i < 64 →
    ◌≡◌ {A = Figures} (record { entries = count_of (chain_word l i); done = set_of (done_word l i) }) (kept (figures_of i (orders_of l).entries))
unfolding figures_of
kept-figures l s i h =
    let number = sym (ap many (order-own l s.woven i h) ∙ many-same (same-turned (entries_in l i)) ∙ many-own l i) in
    let tasks = done-own l s i h in
    λ x. record { entries = number x; done = set_of (tasks x) }

many-entries : (l : List ℕ) → many (orders_of l).entries ≡ sum_to (λ i. count_of (chain_word l i)) 64
unfolding orders_of
many-entries l =
    many-same (same-turned (joined (entries_in l) 64)) ∙ many-joined (entries_in l) 64 ∙
    sum_same (λ i. many (entries_in l i)) (λ i. count_of (chain_word l i)) 64 (λ i h. many-own l i)

pub used : (l : List ℕ) → Whole l → many (orders_of l).entries + count_of (chain_word l 64) ≡ mark_of l
used l s =
    let e = many-entries l in
    let a = s.aside in
    let f : ℕ → ℕ = λ i. count_of (chain_word l i) in
    let x : sum_to f 64 + f 64 ≡ sum_to f 65 = sum_more f 64 refl in
    let y : sum_to f 65 + f 65 ≡ sum_to f 66 = sum_more f 65 refl in
    let t = s.woven.sum in
    omega arith

-- If fewer than 2048 entries are in use, there is a free one: in the free chain, or past the mark.
pub room-left : (l : List ℕ) → Whole l → many (orders_of l).entries < 2048 → count_of (chain_word l 64) ≡ 0 → mark_of l < 2048
room-left l s few none = let e = used l s in omega arith
