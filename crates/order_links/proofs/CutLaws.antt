-- Taking an entry out of the middle of a chain: the entry before it in the chain links to
-- the one after it, and the payloads are the same without its own. Also the loop of `sift`.
use Prim.Native.Nat.{ℕ, zero, suc, ◌+◌, ◌-◌, ◌*◌, ◌/◌, ◌%◌, ◌≤◌, ◌<◌}
use mathlib.Core.Bool.{Bool, true, false, not, cond, ◌||◌}
use mathlib.Core.List.{List, [], ◌∷◌, ◌++◌}
use mathlib.Core.Path.{◌≡◌, refl, sym, ap, ap₂, ◌∙◌, subst}
use native.Mathlib.Numerals.{add-one}
use native.Mathlib.Omega.{arith}
use borrow.Author.Tests.{eq-eqb, ne_eqb, eqb-true, eqb-false, lt-ltb, le-ltb, ltb-true, ltb-false}
use lib.Dec.{eqb, ltb}
use lib.ListN.{length, get_or, set, length-set}
use lib.Seq.{get_or-set_same, get_or-set_other}
use Rattle.paper_lower.specs.Lists.{some, many, keep}
use Rattle.order_links.specs.Chains.{orders_words, mark_of, open_of, head_of, count_of, chain_word, owner_of, link_of, word_at, Fine, Linked}
use Rattle.order_links.specs.Stacks.{payload_of, stack_of, payloads_in, step_to, before_to, cut_away, kept_from, stays, Woven, Pushed, Cut, Freed, Still, Sifted}
use Rattle.order_links.specs.Total.{any_fits}
use Rattle.order_links.proofs.ReadLaws.{chain-read, read_some, read_same, chain_same}
use Rattle.order_links.proofs.ChainLaws.{linked_on, no_return, linked-same}
use Rattle.order_links.proofs.StepLaws.{linked-step, fine-at, apart, step-more, before_more, step-next, linked-join, stack-append, stack-item, cut_out-at, steps-same, front_same}
use Rattle.order_links.proofs.OnceLaws.{sum_step}
use Rattle.order_links.proofs.StackLaws.{stack_same, relink, payloads-at, link-part}
use Rattle.order_links.proofs.EntryLaws.{many-payloads}
use Rattle.order_links.proofs.CarryLaws.{still-refl}

-- ---- An entry that is reached along a chain is one up to the mark.
pub place-room : (l : List ℕ) → Woven l → (i : ℕ) → i ≤ 65 → (a k : ℕ) → a < count_of (chain_word l i) → k ≡ step_to l (head_of (chain_word l i)) a →
    (0 < k) × (k ≤ 2048)
place-room l s i hi a k less e =
    let f = fine-at l (Fine l i (mark_of l)) (head_of (chain_word l i)) (count_of (chain_word l i)) a less (s.chain i hi) in
    let z : 0 < step_to l (head_of (chain_word l i)) a = f.0 in
    let t : step_to l (head_of (chain_word l i)) a ≤ mark_of l = f.1.0 in
    let m = s.mark in
    (omega arith, omega arith)

-- ---- A word whose link is replaced: its other parts stay the same.
low_half : (v h : ℕ) → (v % 4294967296 + 4294967296 * h) % 64 ≡ v % 64
low_half v h = let e : v % 4294967296 % 64 ≡ v % 64 = omega arith in omega arith

flag-half : (v h : ℕ) → (v % 4294967296 + 4294967296 * h) / 1073741824 % 2 ≡ v / 1073741824 % 2
flag-half v h =
    let e : (v % 4294967296 + 4294967296 * h) / 1073741824 ≡ v / 1073741824 % 4 + 4 * h = omega arith in
    rw e (omega arith)

load-half : (v h : ℕ) → (v % 4294967296 + 4294967296 * h) / 64 % 16777216 ≡ v / 64 % 16777216
load-half v h =
    let e : (v % 4294967296 + 4294967296 * h) / 64 ≡ v / 64 % 67108864 + 67108864 * h = omega arith in
    rw e (omega arith)

owner-half : (v h : ℕ) → owner_of (v % 4294967296 + 4294967296 * h) ≡ owner_of v
owner-half v h = rw (low_half v h, flag-half v h)

-- ---- The entry after the first b + 1 entries of chain i is taken out.
module _ (l : List ℕ) (room : length l ≡ orders_words) (s : Woven l) (i : ℕ) (hi : i ≤ 65) (b : ℕ) (less : suc b < count_of (chain_word l i)) where
  -- The number of entries of the chain, its newest entry, the entry before the one that is taken out, that one itself, and the one after it.
  abbrev c : ℕ
  c = count_of (chain_word l i)

  abbrev head : ℕ
  head = head_of (chain_word l i)

  abbrev before : ℕ
  before = step_to l head b

  abbrev out : ℕ
  out = step_to l head (suc b)

  abbrev next : ℕ
  next = link_of (word_at l out)

  -- The word of the entry before it with its new link, the new word of the chain, and the buffers after each of the two stores.
  abbrev linked-anew : ℕ
  linked-anew = word_at l before % 4294967296 + 4294967296 * next

  abbrev fewer : ℕ
  fewer = head + 4096 * (c - 1)

  abbrev between : List ℕ
  between = set l (195 + before) linked-anew

  abbrev after : List ℕ
  after = set between (66 + i) fewer

  way : Linked l (Fine l i (mark_of l)) head c
  way = s.chain i hi

  before-fine : Fine l i (mark_of l) before
  before-fine = fine-at l (Fine l i (mark_of l)) head c b (omega arith) way

  out-fine : Fine l i (mark_of l) out
  out-fine = fine-at l (Fine l i (mark_of l)) head c (suc b) less way

  two-places : (x y : ℕ) → x < y → y ≤ c → step_to l head x ≡ step_to l head y → ⊥
  two-places x y lt le = apart l (Fine l i (mark_of l)) (λ h f. f.0) head c x y lt le way

  other-cell : (n : ℕ) → (n ≡ 195 + before → ⊥) → (n ≡ 66 + i → ⊥) → get_or after n 0 ≡ get_or l n 0
  other-cell n d e = get_or-set_other between (66 + i) n fewer 0 e ∙ get_or-set_other l (195 + before) n linked-anew 0 d

  its-word : word_at after before ≡ linked-anew
  its-word =
      get_or-set_other between (66 + i) (195 + before) fewer 0 (λ e. omega arith) ∙
      get_or-set_same l (195 + before) linked-anew 0 (let m = s.mark in let t = before-fine.1.0 in omega arith)

  other_word : (h : ℕ) → (h ≡ before → ⊥) → word_at after h ≡ word_at l h
  other_word h d = other-cell (195 + h) (λ e. d (omega arith)) (λ e. omega arith)

  kept-mark : mark_of after ≡ mark_of l
  kept-mark = other-cell 0 (λ e. omega arith) (λ e. omega arith)

  kept-open : open_of after ≡ open_of l
  kept-open = other-cell 1 (λ e. omega arith) (λ e. omega arith)

  kept-chain : (j : ℕ) → j ≤ 65 → (j ≡ i → ⊥) → chain_word after j ≡ chain_word l j
  kept-chain j hj d = let f = before-fine.0 in chain_same l after j kept-open (other-cell (66 + j) (λ e. omega arith) (λ e. d (omega arith)))

  its-chain : chain_word after i ≡ fewer
  its-chain =
      chain-read after i (read_same l after i kept-open ∙ read_some l i (omega arith)) ∙
      get_or-set_same between (66 + i) fewer 0 (let r = length-set l (195 + before) linked-anew in omega arith)

  its-head : head_of (chain_word after i) ≡ head
  its-head = let e = its-chain in omega arith

  its-count : count_of (chain_word after i) ≡ c - 1
  its-count = let e = its-chain in omega arith

  its-link : link_of (word_at after before) ≡ next
  its-link = ap link_of its-word ∙ link-part (word_at l before % 4294967296) next (omega arith) (omega arith)

  its-load : payload_of (word_at after before) ≡ payload_of (word_at l before)
  its-load = ap payload_of its-word ∙ load-half (word_at l before) next

  owner-kept : (h : ℕ) → owner_of (word_at after h) ≡ owner_of (word_at l h)
  owner-kept h = go (eqb h before) refl
    where
      go : (t : Bool) → eqb h before ≡ t → owner_of (word_at after h) ≡ owner_of (word_at l h)
      go true e = let same = eqb-true h before e in
          ap (λ (x : ℕ). owner_of (word_at after x)) same ∙ ap owner_of its-word ∙ owner-half (word_at l before) next ∙
          ap (λ (x : ℕ). owner_of (word_at l x)) (sym same)
      go false e = ap owner_of (other_word h (eqb-false h before e))

  kept_fine : (j h : ℕ) → Fine l j (mark_of l) h → Fine after j (mark_of after) h
  kept_fine j h f = (f.0, (rw kept-mark f.1.0, owner-kept h ∙ f.1.1))

  -- ---- Chain i itself: its first b + 1 entries, and those after the one that is taken out.
  abbrev Stays : ℕ → Type 0
  Stays h = Fine after i (mark_of after) h × (h ≡ out → ⊥)

  steps-kept : (a : ℕ) → a ≤ b → step_to after head a ≡ step_to l head a
  steps-kept a le = steps-same l after head a (λ x lt. ap link_of (other_word (step_to l head x) (two-places x b (omega arith) (omega arith))))

  step-on : step_to after head (suc b) ≡ next
  step-on = step-next after head b before (steps-kept b (omega arith)) ∙ its-link

  front : (a : ℕ) → a < suc b → Stays (step_to after head a)
  front a lt =
      let f = fine-at l (Fine l i (mark_of l)) head c a (omega arith) way in
      rw (steps-kept a (omega arith)) (kept_fine i (step_to l head a) f, two-places a (suc b) lt (omega arith))

  behind : Linked l (λ h. (Fine l i (mark_of l) h × (h ≡ out → ⊥)) × (h ≡ before → ⊥)) next (c - suc b - 1)
  behind =
      let to = linked-step l (Fine l i (mark_of l)) head c (suc b) (omega arith) way in
      let from = linked-step l (Fine l i (mark_of l)) head c b (omega arith) way in
      no_return l (λ h. Fine l i (mark_of l) h × (h ≡ out → ⊥)) (Fine l i (mark_of l)) (λ h f. f.0.0) (λ h f. f.0) next (c - suc b - 1) before (c - b)
      (no_return l (Fine l i (mark_of l)) (Fine l i (mark_of l)) (λ h f. f.0) (λ h f. f.0) next (c - suc b - 1) out (c - suc b)
      (linked_on l (Fine l i (mark_of l)) out (c - suc b) (omega arith) to) to (omega arith))
      from (omega arith)

  rest-way : Linked after Stays next (c - suc b - 1)
  rest-way =
      linked-same l after (λ h. (Fine l i (mark_of l) h × (h ≡ out → ⊥)) × (h ≡ before → ⊥)) Stays (λ h f. other_word h f.1)
      (λ h f. (kept_fine i h f.0.0, f.0.1)) next (c - suc b - 1) behind

  own-way : Linked after Stays head (c - 1)
  own-way =
      let e : c - 1 ≡ suc b + (c - suc b - 1) = omega arith in
      relink after Stays head head (suc b + (c - suc b - 1)) (c - 1) refl e
      (linked-join after Stays head (suc b) (c - suc b - 1) front
      (relink after Stays next (step_to after head (suc b)) (c - suc b - 1) (c - suc b - 1) step-on refl rest-way))

  front-loads : stack_of after head (suc b) ≡ stack_of l head (suc b)
  front-loads =
      front_same l after head (suc b) load
      (λ a lt. ap link_of (other_word (step_to l head a) (two-places a b (omega arith) (omega arith))))
    where
      load : (a : ℕ) → a < suc b → payload_of (word_at after (step_to l head a)) ≡ payload_of (word_at l (step_to l head a))
      load a lt = go (eqb a b) refl
        where
          go : (t : Bool) → eqb a b ≡ t → payload_of (word_at after (step_to l head a)) ≡ payload_of (word_at l (step_to l head a))
          go true e = let same = eqb-true a b e in rw same its-load
          go false e = let other = eqb-false a b e in ap payload_of (other_word (step_to l head a) (two-places a b (omega arith) (omega arith)))

  own-loads : payloads_in after i ≡ cut_away (suc b) (payloads_in l i)
  own-loads =
      let e : c - 1 ≡ suc b + (c - suc b - 1) = omega arith in
      let d : c - suc b - 1 ≡ c - suc (suc b) = omega arith in
      payloads-at after i head (suc b + (c - suc b - 1)) its-head (its-count ∙ e)
      ∙ stack-append after head (suc b) (c - suc b - 1)
      ∙ ap₂ (λ (xs ys : List ℕ). xs ++ ys) front-loads (ap (λ (x : ℕ). stack_of after x (c - suc b - 1)) step-on ∙
      stack_same l after (λ h. (Fine l i (mark_of l) h × (h ≡ out → ⊥)) × (h ≡ before → ⊥)) (λ h f. other_word h f.1) next (c - suc b - 1) behind ∙
      ap (stack_of l next) d)
      ∙ sym (ap (cut_away (suc b)) (payloads-at l i head c refl refl) ∙ cut_out-at l head c (suc b) less)

  -- ---- The other chains.
  not-before : (j h : ℕ) → (j ≡ i → ⊥) → Fine l j (mark_of l) h → h ≡ before → ⊥
  not-before j h d f e = d (sym f.1.1 ∙ ap (λ (x : ℕ). owner_of (word_at l x)) e ∙ before-fine.1.1)

  not-out : (j h : ℕ) → (j ≡ i → ⊥) → Fine l j (mark_of l) h → h ≡ out → ⊥
  not-out j h d f e = d (sym f.1.1 ∙ ap (λ (x : ℕ). owner_of (word_at l x)) e ∙ out-fine.1.1)

  chain-after : (j : ℕ) → j ≤ 65 → Linked after (λ h. Fine after j (mark_of after) h × (h ≡ out → ⊥)) (head_of (chain_word after j)) (count_of (chain_word after j))
  chain-after j hj = go (eqb j i) refl
    where
      go : (t : Bool) → eqb j i ≡ t →
          Linked after (λ h. Fine after j (mark_of after) h × (h ≡ out → ⊥)) (head_of (chain_word after j)) (count_of (chain_word after j))
      go true e =
          let same = eqb-true j i e in
          rw same (relink after Stays head (head_of (chain_word after i)) (c - 1) (count_of (chain_word after i)) its-head its-count own-way)
      go false e =
          let other = eqb-false j i e in
          relink after (λ h. Fine after j (mark_of after) h × (h ≡ out → ⊥)) (head_of (chain_word l j)) (head_of (chain_word after j)) (count_of (chain_word l j))
          (count_of (chain_word after j)) (ap head_of (kept-chain j hj other)) (ap count_of (kept-chain j hj other))
          (linked-same l after (Fine l j (mark_of l)) (λ h. Fine after j (mark_of after) h × (h ≡ out → ⊥)) (λ h f. other_word h (not-before j h other f))
          (λ h f. (kept_fine j h f, not-out j h other f)) (head_of (chain_word l j)) (count_of (chain_word l j)) (s.chain j hj))

  cut_out : Cut l after i (suc b) out
  unfolding before_to
  cut_out =
      record {
        loose = record {
          mark = rw kept-mark s.mark;
          first = out-fine.0;
          last = rw kept-mark out-fine.1.0;
          sum = let e =
              sum_step (λ j. count_of (chain_word l j)) (λ j. count_of (chain_word after j)) i 66 1 0 (omega arith)
              (λ j lt d. ap count_of (kept-chain j (omega arith) d)) (let n = its-count in omega arith) in
              let t = s.sum in
              let m = kept-mark in
              omega arith;
          chain = chain-after;
        };
        beside = record {
          room = length-set between (66 + i) fewer ∙ length-set l (195 + before) linked-anew;
          opens = kept-open;
          templates = λ j lt. let f = before-fine.0 in other-cell (2 + j) (λ e. omega arith) (λ e. omega arith);
          dones = λ j lt. let f = before-fine.0 in other-cell (132 + j) (λ e. omega arith) (λ e. omega arith);
        };
        rest = own-loads;
        others =
            λ j hj d. payloads-at after j (head_of (chain_word l j)) (count_of (chain_word l j)) (ap head_of (kept-chain j hj d)) (ap count_of (kept-chain j hj d)) ∙
            stack_same l after (Fine l j (mark_of l)) (λ h f. other_word h (not-before j h d f)) (head_of (chain_word l j)) (count_of (chain_word l j))
            (s.chain j hj) ∙
            sym (payloads-at l j (head_of (chain_word l j)) (count_of (chain_word l j)) refl refl);
        here = ap (λ (x : ℕ). step_to after x (suc b)) its-head ∙ step-on;
        back = ap (λ (x : ℕ). step_to after x b) its-head ∙ steps-kept b (omega arith);
      }

-- The same, as the code reads the words.
pub cut_later : (l : List ℕ) → length l ≡ orders_words → Woven l → (i : ℕ) → i ≤ 65 → (x kept q k : ℕ) → chain_word l i ≡ x → (kept ≡ 0 → ⊥) →
    kept < count_of (chain_word l i)
    → k ≡ step_to l (head_of (chain_word l i)) kept → q ≡ before_to l (head_of (chain_word l i)) kept
    → Cut l (set (set l (195 + q) (word_at l q % 4294967296 + 4294967296 * link_of (word_at l k))) (66 + i) (head_of x + 4096 * (count_of x - 1))) i kept k
unfolding before_to
cut_later l room s i hi x zero q k ex some less ek eq = absurd (some refl)
cut_later l room s i hi x (suc b) q k ex some less ek eq =
    subst (λ (x : ℕ). Cut l (set (set l (195 + q) (word_at l q % 4294967296 + 4294967296 * link_of (word_at l k))) (66 + i) (head_of x + 4096 * (count_of x - 1))) i
    (suc b) k) ex
    (subst (λ (k : ℕ). Cut l (set (set l (195 + q) (word_at l q % 4294967296 + 4294967296 * link_of (word_at l k))) (66 + i)
    (head_of (chain_word l i) + 4096 * (count_of (chain_word l i) - 1))) i (suc b) k) (sym ek)
    (subst (λ (q : ℕ). Cut l (set (set l (195 + q) (word_at l q % 4294967296 + 4294967296 * link_of (word_at l (step_to l (head_of (chain_word l i)) (suc b)))))
    (66 + i) (head_of (chain_word l i) + 4096 * (count_of (chain_word l i) - 1))) i (suc b) (step_to l (head_of (chain_word l i)) (suc b))) (sym eq)
    (cut_out l room s i hi b less)))

-- ---- Lists with one element taken out.
many-cut_out : (xs : List ℕ) (a : ℕ) → a < many xs → suc (many (cut_away a xs)) ≡ many xs
unfolding many cut_away
many-cut_out [] a less = let z : ⊥ = omega arith in absurd z
many-cut_out (x ∷ xs) zero less = refl
many-cut_out (x ∷ xs) (suc a) less = ap suc (many-cut_out xs a (omega arith))

kept_on : (p : ℕ → Bool) (xs : List ℕ) (a : ℕ) → a < many xs → p (get_or xs a 0) ≡ true → kept_from p (suc a) xs ≡ kept_from p a xs
unfolding kept_from keep many
kept_on p [] a less e = let z : ⊥ = omega arith in absurd z
kept_on p (x ∷ xs) zero less e = rw e
kept_on p (x ∷ xs) (suc a) less e = ap (◌∷◌ x) (kept_on p xs a (omega arith) e)

kept_out : (p : ℕ → Bool) (xs : List ℕ) (a : ℕ) → a < many xs → p (get_or xs a 0) ≡ false → kept_from p a (cut_away a xs) ≡ kept_from p a xs
unfolding kept_from keep cut_away many
kept_out p [] a less e = let z : ⊥ = omega arith in absurd z
kept_out p (x ∷ xs) zero less e = rw e
kept_out p (x ∷ xs) (suc a) less e = ap (◌∷◌ x) (kept_out p xs a (omega arith) e)

kept-all : (p : ℕ → Bool) (xs : List ℕ) (a : ℕ) → many xs ≡ a → kept_from p a xs ≡ xs
unfolding kept_from keep many
kept-all p [] zero e = refl
kept-all p [] (suc a) e = refl
kept-all p (x ∷ xs) zero e = let z : ⊥ = omega arith in absurd z
kept-all p (x ∷ xs) (suc a) e = ap (◌∷◌ x) (kept-all p xs a (omega arith))

-- Fewer elements are kept exactly if one fits the key.
many-kept : (p : ℕ → Bool) (xs : List ℕ) → many (keep p xs) ≤ many xs
unfolding many keep
many-kept p [] = omega arith
many-kept p (x ∷ xs) = go (p x) (many-kept p xs)
  where
    go : (b : Bool) → many (keep p xs) ≤ many xs → many (cond b (x ∷ keep p xs) (keep p xs)) ≤ suc (many xs)
    go true h = omega arith
    go false h = omega arith

ltb-suc : (a b : ℕ) → ltb (suc a) (suc b) ≡ ltb a b
ltb-suc a b = go (ltb a b) refl
  where
    go : (t : Bool) → ltb a b ≡ t → ltb (suc a) (suc b) ≡ ltb a b
    go true e = let h = ltb-true a b e in lt-ltb (suc a) (suc b) (omega arith) ∙ sym e
    go false e = let h = ltb-false a b e in le-ltb (suc a) (suc b) (omega arith) ∙ sym e

fewer-kept : (key : ℕ) (xs : List ℕ) → ltb (many (keep (stays key) xs)) (many xs) ≡ some (λ p. eqb (p % 16384) key) xs
unfolding many keep stays some
fewer-kept key [] = le-ltb 0 0 (omega arith)
fewer-kept key (x ∷ xs) = go (eqb (x % 16384) key) (many-kept (stays key) xs) (fewer-kept key xs)
  where
    go : (b : Bool) → many (keep (stays key) xs) ≤ many xs → ltb (many (keep (stays key) xs)) (many xs) ≡ some (λ p. eqb (p % 16384) key) xs
        → ltb (many (cond (not b) (x ∷ keep (stays key) xs) (keep (stays key) xs))) (suc (many xs)) ≡ b || some (λ p. eqb (p % 16384) key) xs
    go true le h = lt-ltb (many (keep (stays key) xs)) (suc (many xs)) (omega arith)
    go false le h = ltb-suc (many (keep (stays key) xs)) (many xs) ∙ h

count-cut_out : (l l' : List ℕ) (i a : ℕ) → a < count_of (chain_word l i) → payloads_in l' i ≡ cut_away a (payloads_in l i) →
    suc (count_of (chain_word l' i)) ≡ count_of (chain_word l i)
count-cut_out l l' i a less e = ap suc (sym (many-payloads l' i) ∙ ap many e) ∙ many-cut_out (payloads_in l i) a (rw (many-payloads l i) less) ∙ many-payloads l i

-- ---- An entry is taken out and put on the free chain.
before_same : (l l' : List ℕ) (h h' a : ℕ) → ((b : ℕ) → suc b ≡ a → step_to l' h' b ≡ step_to l h b) → before_to l' h' a ≡ before_to l h a
unfolding before_to
before_same l l' h h' zero same = refl
before_same l l' h h' (suc b) same = same b refl

pub freed : (l l₁ l₂ : List ℕ) (i kept k p : ℕ) → i < 64 → kept < count_of (chain_word l i) → Cut l l₁ i kept k → Pushed l₁ l₂ 64 p → Freed l l₂ i kept k
freed l l₁ l₂ i kept k p hi less a b =
    let n = count-cut_out l l₁ i kept less a.rest in
    record {
      still = record {
        woven = b.woven;
        beside = record {
          room = b.beside.room ∙ a.beside.room;
          opens = b.beside.opens ∙ a.beside.opens;
          templates = λ x h. b.beside.templates x h ∙ a.beside.templates x h;
          dones = λ x h. b.beside.dones x h ∙ a.beside.dones x h;
        };
        others = λ j h d. b.others j (omega arith) (λ e. omega arith) ∙ a.others j (omega arith) d;
      };
      aside = b.others 65 (omega arith) (λ e. omega arith) ∙ a.others 65 (omega arith) (λ e. omega arith);
      rest = b.others i (omega arith) (λ e. omega arith) ∙ a.rest;
      here = b.steps i (omega arith) (λ e. omega arith) kept (omega arith) ∙ a.here;
      back =
          before_same l₁ l₂ (head_of (chain_word l₁ i)) (head_of (chain_word l₂ i)) kept (λ x e. b.steps i (omega arith) (λ z. omega arith) x (omega arith)) ∙
          a.back;
    }

still-then : (i : ℕ) (l₀ l l' : List ℕ) → Still i l₀ l → Still i l l' → Still i l₀ l'
still-then i l₀ l l' a b =
    record {
      woven = b.woven;
      beside = record {
        room = b.beside.room ∙ a.beside.room;
        opens = b.beside.opens ∙ a.beside.opens;
        templates = λ x h. b.beside.templates x h ∙ a.beside.templates x h;
        dones = λ x h. b.beside.dones x h ∙ a.beside.dones x h;
      };
      others = λ x h d. b.others x h d ∙ a.others x h d;
    }

-- ---- The invariant of `sift`: the first `kept` entries of the chain stay, and those
-- after them have not been looked at. h is the next entry and q the one before it.
pub record Sifting (i key : ℕ) (l₀ l : List ℕ) (h n kept q : ℕ) : Type 0 where
  pub still : Still i l₀ l
  pub aside : payloads_in l 65 ≡ payloads_in l₀ 65
  pub count : n ≡ count_of (chain_word l i)
  pub within : kept ≤ n
  pub here : h ≡ step_to l (head_of (chain_word l i)) kept
  pub back : q ≡ before_to l (head_of (chain_word l i)) kept
  pub all : kept_from (stays key) kept (payloads_in l i) ≡ keep (stays key) (payloads_in l₀ i)

pub begun : (i key : ℕ) (l : List ℕ) (x : ℕ) → Woven l → x ≡ chain_word l i → Sifting i key l l (head_of x) (count_of x) 0 0
unfolding step_to before_to kept_from
begun i key l x w e = record { still = still-refl i l w; aside = refl; count = ap count_of e; within = omega arith; here = ap head_of e; back = refl; all = refl }

module _ (i key : ℕ) (l₀ l : List ℕ) (h n kept q : ℕ) (hi : i < 64) (s : Sifting i key l₀ l h n kept q) where
  pub fewer-than : kept < n → kept < count_of (chain_word l i)
  fewer-than less = let c = s.count in omega arith

  pub in-room : kept < n → (0 < h) × (h ≤ 2048)
  in-room less = place-room l s.still.woven i (omega arith) kept h (fewer-than less) s.here

  in_list : kept < n → kept < many (payloads_in l i)
  in_list less = rw (many-payloads l i) (fewer-than less)

  load_here : (w : ℕ) → kept < n → w ≡ word_at l h → get_or (payloads_in l i) kept 0 ≡ payload_of w
  unfolding payloads_in
  load_here w less e =
      stack-item l (head_of (chain_word l i)) (count_of (chain_word l i)) kept (fewer-than less)
      ∙ ap (λ (x : ℕ). payload_of (word_at l x)) (sym s.here) ∙ ap payload_of (sym e)

  pub goes_on : (w : ℕ) → kept < n → w ≡ word_at l h → (payload_of w % 16384 ≡ key → ⊥) → Sifting i key l₀ l (link_of w) n (kept + 1) h
  unfolding stays
  goes_on w less e d =
      record {
        still = s.still;
        aside = s.aside;
        count = s.count;
        within = omega arith;
        here = ap link_of e ∙ ap (λ (x : ℕ). link_of (word_at l x)) s.here ∙ sym (step-more l (head_of (chain_word l i)) kept);
        back = s.here ∙ sym (before_more l (head_of (chain_word l i)) kept);
        all =
            ap (λ (a : ℕ). kept_from (stays key) a (payloads_in l i)) (add-one kept) ∙
            kept_on (stays key) (payloads_in l i) kept (in_list less) (ap (stays key) (load_here w less e) ∙ ap not (ne_eqb (payload_of w % 16384) key d)) ∙
            s.all;
      }

  pub takes_out : (w : ℕ) (l' : List ℕ) → kept < n → w ≡ word_at l h → payload_of w % 16384 ≡ key → Freed l l' i kept h →
      Sifting i key l₀ l' (link_of w) (n - 1) kept q
  unfolding stays
  takes_out w l' less e d f =
      record {
        still = still-then i l₀ l l' s.still f.still;
        aside = f.aside ∙ s.aside;
        count = let c = s.count in let m = count-cut_out l l' i kept (fewer-than less) f.rest in omega arith;
        within = omega arith;
        here = ap link_of e ∙ sym f.here;
        back = s.back ∙ sym f.back;
        all =
            ap (kept_from (stays key) kept) f.rest ∙
            kept_out (stays key) (payloads_in l i) kept (in_list less) (ap (stays key) (load_here w less e) ∙ ap not (eq-eqb (payload_of w % 16384) key d)) ∙
            s.all;
      }

  pub ends : n ≤ kept → Sifted i key l₀ l
  ends le =
      record {
        still = s.still;
        aside = s.aside;
        own = sym (kept-all (stays key) (payloads_in l i) kept (many-payloads l i ∙ (let c = s.count in let w = s.within in omega arith))) ∙ s.all;
      }

  -- The number of entries has fallen exactly if one fitted the key.
  pub any_gone : n ≤ kept → (x : ℕ) → x ≡ chain_word l₀ i → ltb n (count_of x) ≡ any_fits key l₀ i
  any_gone le x e =
      ap₂ ltb (s.count ∙ sym (many-payloads l i) ∙ ap many (ends le).own) (ap count_of e ∙ sym (many-payloads l₀ i)) ∙ fewer-kept key (payloads_in l₀ i)
