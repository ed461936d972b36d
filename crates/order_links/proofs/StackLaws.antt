-- A chain as a stack: what taking its newest entry, and putting an entry on it, do to all chains.
use Prim.Native.Nat.{ℕ, zero, suc, ◌+◌, ◌-◌, ◌*◌, ◌/◌, ◌%◌, ◌≤◌, ◌<◌}
use mathlib.Core.Bool.{Bool, true, false}
use mathlib.Core.List.{List, ◌∷◌}
use mathlib.Core.Path.{◌≡◌, refl, sym, ap, ◌∙◌, subst}
use native.Mathlib.Omega.{arith}
use borrow.Author.Tests.{eqb-true, eqb-false}
use lib.Dec.{eqb}
use lib.ListN.{length, get_or, set, length-set}
use lib.Seq.{get_or-set_same, get_or-set_other}
use Rattle.order_links.specs.Chains.{orders_words, mark_of, open_of, head_of, count_of, is_read_as, chain_word, owner_of, link_of, word_at, Fine, Linked}
use Rattle.order_links.specs.Stacks.{payload_of, word_for, stack_of, payloads_in, step_to, before_to, cut_away, Woven, Loose, Popped, Pushed, Taken, Cut}
use Rattle.order_links.proofs.ChainLaws.{linked-here, linked_on, no_return, linked-same}
use Rattle.order_links.proofs.StepLaws.{fine-at, steps-same}
use Rattle.order_links.proofs.OnceLaws.{sum_step, sum_same, sum-ge}
use Rattle.order_links.proofs.ReadLaws.{chain-read, read_some, read_same, chain_same}

pub stack_same : (l l' : List ℕ) (P : ℕ → Type 0) → ((h : ℕ) → P h → word_at l' h ≡ word_at l h) → (h n : ℕ) → Linked l P h n → stack_of l' h n ≡ stack_of l h n
unfolding stack_of
stack_same l l' P same h zero p = refl
stack_same l l' P same h (suc n) p = rw (same h p.0) (ap (◌∷◌ (payload_of (word_at l h))) (stack_same l l' P same (link_of (word_at l h)) n p.1))

pub stack-turn : (l : List ℕ) (h n k : ℕ) → n ≡ suc k → stack_of l h n ≡ payload_of (word_at l h) ∷ stack_of l (link_of (word_at l h)) k
unfolding stack_of
stack-turn l h n k e = rw e

pub relink : (l : List ℕ) (P : ℕ → Type 0) (h h' n n' : ℕ) → h' ≡ h → n' ≡ n → Linked l P h n → Linked l P h' n'
relink l P h h' n n' e d p = rw (e, d) p

pub payloads-at : (l : List ℕ) (i h n : ℕ) → head_of (chain_word l i) ≡ h → count_of (chain_word l i) ≡ n → payloads_in l i ≡ stack_of l h n
unfolding payloads_in
payloads-at l i h n e d = rw (e, d)

-- ---- The newest entry is taken from chain i.
module _ (l : List ℕ) (room : length l ≡ orders_words) (s : Woven l) (i : ℕ) (hi : i ≤ 65) (some : 0 < count_of (chain_word l i)) where
  -- The new word of the chain, and the buffer after it was stored.
  abbrev taken_word : ℕ
  taken_word = link_of (word_at l (head_of (chain_word l i))) + 4096 * (count_of (chain_word l i) - 1)

  abbrev after : List ℕ
  after = set l (66 + i) taken_word

  same_word : (h : ℕ) → word_at after h ≡ word_at l h
  same_word h = get_or-set_other l (66 + i) (195 + h) taken_word 0 (λ e. omega arith)

  same-mark : mark_of after ≡ mark_of l
  same-mark = get_or-set_other l (66 + i) 0 taken_word 0 (λ e. omega arith)

  same-open : open_of after ≡ open_of l
  same-open = get_or-set_other l (66 + i) 1 taken_word 0 (λ e. omega arith)

  same-chain : (j : ℕ) → (j ≡ i → ⊥) → chain_word after j ≡ chain_word l j
  same-chain j d = chain_same l after j same-open (get_or-set_other l (66 + i) (66 + j) taken_word 0 (λ e. d (omega arith)))

  new-chain : chain_word after i ≡ taken_word
  new-chain = chain-read after i (read_same l after i same-open ∙ read_some l i some) ∙ get_or-set_same l (66 + i) taken_word 0 (omega arith)

  new-head : head_of (chain_word after i) ≡ link_of (word_at l (head_of (chain_word l i)))
  new-head = let e = new-chain in omega arith

  new-count : count_of (chain_word after i) ≡ count_of (chain_word l i) - 1
  new-count = let e = new-chain in omega arith

  abbrev head : ℕ
  head = head_of (chain_word l i)

  top_fine : Fine l i (mark_of l) head
  top_fine = linked-here l (Fine l i (mark_of l)) head (count_of (chain_word l i)) some (s.chain i hi)

  moved : (j h : ℕ) → Fine l j (mark_of l) h × (h ≡ head → ⊥) → Fine after j (mark_of after) h × (h ≡ head → ⊥)
  moved j h f = rw (same_word h, same-mark) f

  chain-after : (j : ℕ) → j ≤ 65 → Linked after (λ h. Fine after j (mark_of after) h × (h ≡ head → ⊥)) (head_of (chain_word after j)) (count_of (chain_word after j))
  chain-after j hj = go (eqb j i) refl
    where
      go : (b : Bool) → eqb j i ≡ b →
          Linked after (λ h. Fine after j (mark_of after) h × (h ≡ head → ⊥)) (head_of (chain_word after j)) (count_of (chain_word after j))
      go true e =
          let same = eqb-true j i e in
          rw same (relink after (λ h. Fine after i (mark_of after) h × (h ≡ head → ⊥)) (link_of (word_at l head)) (head_of (chain_word after i))
          (count_of (chain_word l i) - 1) (count_of (chain_word after i)) new-head new-count
          (linked-same l after (λ h. Fine l i (mark_of l) h × (h ≡ head → ⊥)) (λ h. Fine after i (mark_of after) h × (h ≡ head → ⊥)) (λ h f. same_word h)
          (moved i) (link_of (word_at l head)) (count_of (chain_word l i) - 1)
          (no_return l (Fine l i (mark_of l)) (Fine l i (mark_of l)) (λ h f. f.0) (λ h f. f.0) (link_of (word_at l head)) (count_of (chain_word l i) - 1) head
          (count_of (chain_word l i))
          (linked_on l (Fine l i (mark_of l)) head (count_of (chain_word l i)) some (s.chain i hi)) (s.chain i hi) (omega arith))))
      go false e =
          let other = eqb-false j i e in
          relink after (λ h. Fine after j (mark_of after) h × (h ≡ head → ⊥)) (head_of (chain_word l j)) (head_of (chain_word after j)) (count_of (chain_word l j))
          (count_of (chain_word after j)) (ap head_of (same-chain j other)) (ap count_of (same-chain j other))
          (linked-same l after (Fine l j (mark_of l)) (λ h. Fine after j (mark_of after) h × (h ≡ head → ⊥)) (λ h f. same_word h)
          (λ h f. moved j h (f, λ q. other (sym f.1.1 ∙ ap (λ (x : ℕ). owner_of (word_at l x)) q ∙ top_fine.1.1)))
          (head_of (chain_word l j)) (count_of (chain_word l j)) (s.chain j hj))

  popped : Popped l after i head
  popped =
      record {
        loose = record {
          mark = rw same-mark s.mark;
          first = top_fine.0;
          last = rw same-mark top_fine.1.0;
          sum = let e =
              sum_step (λ j. count_of (chain_word l j)) (λ j. count_of (chain_word after j)) i 66 1 0 (omega arith) (λ j less d. ap count_of (same-chain j d))
              (let c = new-count in omega arith) in
              let t = s.sum in
              let m = same-mark in
              omega arith;
          chain = chain-after;
        };
        beside = record {
          room = length-set l (66 + i) taken_word;
          opens = same-open;
          templates = λ j less. get_or-set_other l (66 + i) (2 + j) taken_word 0 (λ e. omega arith);
          dones = λ j less. get_or-set_other l (66 + i) (132 + j) taken_word 0 (λ e. omega arith);
        };
        top = payloads-at l i head (count_of (chain_word l i)) refl refl ∙ stack-turn l head (count_of (chain_word l i)) (count_of (chain_word l i) - 1) (omega arith)
            ∙ (λ x. payload_of (sym (same_word head) x) ∷ rest x);
        others =
            λ j hj d. payloads-at after j (head_of (chain_word l j)) (count_of (chain_word l j)) (ap head_of (same-chain j d)) (ap count_of (same-chain j d)) ∙
            stack_same l after (Fine l j (mark_of l)) (λ h f. same_word h) (head_of (chain_word l j)) (count_of (chain_word l j)) (s.chain j hj) ∙
            sym (payloads-at l j (head_of (chain_word l j)) (count_of (chain_word l j)) refl refl);
      }
    where
      rest : stack_of l (link_of (word_at l head)) (count_of (chain_word l i) - 1) ≡ payloads_in after i
      rest = sym (payloads-at after i (link_of (word_at l head)) (count_of (chain_word l i) - 1) new-head new-count
          ∙ stack_same l after (Fine l i (mark_of l)) (λ h f. same_word h) (link_of (word_at l head)) (count_of (chain_word l i) - 1)
          (linked_on l (Fine l i (mark_of l)) head (count_of (chain_word l i)) some (s.chain i hi)))

  -- The same as taking out the entry at position 0.
  cut-first : Cut l after i 0 head
  unfolding step_to before_to cut_away
  cut-first =
      record {
        loose = popped.loose;
        beside = popped.beside;
        rest = sym (ap (cut_away 0) popped.top);
        others = popped.others;
        here = new-head;
        back = refl;
      }

  pub cut-newest : (x kept k : ℕ) → chain_word l i ≡ x → kept ≡ 0 → k ≡ step_to l (head_of (chain_word l i)) kept →
      Cut l (set l (66 + i) (link_of (word_at l k) + 4096 * (count_of x - 1))) i kept k
  unfolding step_to
  cut-newest x kept k ex ea ek =
      let e : k ≡ head = ek ∙ ap (step_to l head) ea in
      subst (λ (x : ℕ). Cut l (set l (66 + i) (link_of (word_at l k) + 4096 * (count_of x - 1))) i kept k) ex
      (subst (λ (k : ℕ). Cut l (set l (66 + i) (link_of (word_at l k) + 4096 * (count_of (chain_word l i) - 1))) i kept k) (sym e)
      (subst (λ (a : ℕ). Cut l after i a head) (sym ea) cut-first))

  -- The same, as the code reads the word of the chain.
  pub popped-at : (x : ℕ) → chain_word l i ≡ x → Popped l (set l (66 + i) (link_of (word_at l (head_of x)) + 4096 * (count_of x - 1))) i (head_of x)
  popped-at x e = subst (λ (x : ℕ). Popped l (set l (66 + i) (link_of (word_at l (head_of x)) + 4096 * (count_of x - 1))) i (head_of x)) e popped

-- ---- The parts of a word that is put together from chain, payload and link.
pub link-part : (q h : ℕ) → q < 4294967296 → h < 4096 → (q + 4294967296 * h) / 4294967296 % 4096 ≡ h
link-part q h a b = let e : (q + 4294967296 * h) / 4294967296 ≡ h = omega arith in omega arith

flag-part : (r b h : ℕ) → r < 1073741824 → b < 2 → (r + 1073741824 * (b + 4 * h)) / 1073741824 % 2 ≡ b
flag-part r b h x y = let e : (r + 1073741824 * (b + 4 * h)) / 1073741824 ≡ b + 4 * h = omega arith in rw e (omega arith)

word-link : (i p h : ℕ) → i ≤ 65 → p < 16777216 → h < 4096 → link_of (word_for i p h) ≡ h
word-link i p h a b c =
    let q : i % 64 + i / 64 * 1073741824 + 64 * p < 4294967296 = omega arith in
    link-part (i % 64 + i / 64 * 1073741824 + 64 * p) h q c

word-flag : (i p h : ℕ) → i ≤ 65 → p < 16777216 → word_for i p h / 1073741824 % 2 ≡ i / 64
word-flag i p h a b =
    let w : word_for i p h ≡ i % 64 + 64 * p + 1073741824 * (i / 64 + 4 * h) = omega arith in
    rw w (flag-part (i % 64 + 64 * p) (i / 64) h (omega arith) (omega arith))

word-instance : (i p h : ℕ) → word_for i p h % 64 ≡ i % 64
word-instance i p h = omega arith

word-owner : (i p h : ℕ) → i ≤ 65 → p < 16777216 → owner_of (word_for i p h) ≡ i
word-owner i p h a b =
    let f = word-flag i p h a b in
    let n = word-instance i p h in
    rw (f, n) (omega arith)

-- ---- Entry k, which is in no chain, is put on chain i.
module _ (l : List ℕ) (room : length l ≡ orders_words) (k : ℕ) (s : Loose l k) (i : ℕ) (hi : i ≤ 65) (p : ℕ) (hp : p < 16777216)
    (reads : is_read_as l i ≡ true) where
  -- The word of the entry, the new word of the chain, and the buffers after each of the two stores.
  abbrev put_word : ℕ
  put_word = word_for i p (head_of (chain_word l i))

  abbrev put-chain : ℕ
  put-chain = k + 4096 * (count_of (chain_word l i) + 1)

  abbrev between : List ℕ
  between = set l (195 + k) put_word

  abbrev put : List ℕ
  put = set between (66 + i) put-chain

  other-cell : (n : ℕ) → (n ≡ 195 + k → ⊥) → (n ≡ 66 + i → ⊥) → get_or put n 0 ≡ get_or l n 0
  other-cell n d e = get_or-set_other between (66 + i) n put-chain 0 e ∙ get_or-set_other l (195 + k) n put_word 0 d

  its-word : word_at put k ≡ put_word
  its-word =
      get_or-set_other between (66 + i) (195 + k) put-chain 0 (λ e. omega arith) ∙
      get_or-set_same l (195 + k) put_word 0 (let m = s.mark in let t = s.last in omega arith)

  other_word : (h : ℕ) → (h ≡ k → ⊥) → word_at put h ≡ word_at l h
  other_word h d = other-cell (195 + h) (λ e. d (omega arith)) (λ e. omega arith)

  kept-mark : mark_of put ≡ mark_of l
  kept-mark = other-cell 0 (λ e. omega arith) (λ e. omega arith)

  kept-open : open_of put ≡ open_of l
  kept-open = let f = s.first in other-cell 1 (λ e. omega arith) (λ e. omega arith)

  kept-chain : (j : ℕ) → j ≤ 65 → (j ≡ i → ⊥) → chain_word put j ≡ chain_word l j
  kept-chain j hj d = let f = s.first in chain_same l put j kept-open (other-cell (66 + j) (λ e. omega arith) (λ e. d (omega arith)))

  its-chain : chain_word put i ≡ put-chain
  its-chain =
      chain-read put i (read_same l put i kept-open ∙ reads) ∙
      get_or-set_same between (66 + i) put-chain 0 (let r = length-set l (195 + k) put_word in omega arith)

  count_fits : count_of (chain_word l i) + 1 < 4096
  count_fits =
      let c = sum-ge (λ j. count_of (chain_word l j)) i 66 (omega arith) in
      let t = s.sum in
      let m = s.mark in
      omega arith

  its-head : head_of (chain_word put i) ≡ k
  its-head = let e = its-chain in let m = s.mark in let t = s.last in omega arith

  its-count : count_of (chain_word put i) ≡ count_of (chain_word l i) + 1
  its-count = let e = its-chain in let c = count_fits in let m = s.mark in let t = s.last in omega arith

  its-owner : owner_of (word_at put k) ≡ i
  its-owner = ap owner_of its-word ∙ word-owner i p (head_of (chain_word l i)) hi hp

  its-link : link_of (word_at put k) ≡ head_of (chain_word l i)
  its-link = ap link_of its-word ∙ word-link i p (head_of (chain_word l i)) hi hp (omega arith)

  its-payload : payload_of (word_at put k) ≡ p
  its-payload = let e = its-word in omega arith

  kept_fine : (j h : ℕ) → Fine l j (mark_of l) h × (h ≡ k → ⊥) → Fine put j (mark_of put) h
  kept_fine j h f = rw (other_word h f.1, kept-mark) f.0

  way-kept : (j : ℕ) → j ≤ 65 → Linked put (Fine put j (mark_of put)) (head_of (chain_word l j)) (count_of (chain_word l j))
  way-kept j hj =
      linked-same l put (λ h. Fine l j (mark_of l) h × (h ≡ k → ⊥)) (Fine put j (mark_of put)) (λ h f. other_word h f.1) (kept_fine j) (head_of (chain_word l j))
      (count_of (chain_word l j)) (s.chain j hj)

  stack-kept : (j : ℕ) → j ≤ 65 → stack_of put (head_of (chain_word l j)) (count_of (chain_word l j)) ≡ payloads_in l j
  stack-kept j hj =
      stack_same l put (λ h. Fine l j (mark_of l) h × (h ≡ k → ⊥)) (λ h f. other_word h f.1) (head_of (chain_word l j)) (count_of (chain_word l j))
      (s.chain j hj) ∙ sym (payloads-at l j (head_of (chain_word l j)) (count_of (chain_word l j)) refl refl)

  chain-put : (j : ℕ) → j ≤ 65 → Linked put (Fine put j (mark_of put)) (head_of (chain_word put j)) (count_of (chain_word put j))
  chain-put j hj = go (eqb j i) refl
    where
      go : (b : Bool) → eqb j i ≡ b → Linked put (Fine put j (mark_of put)) (head_of (chain_word put j)) (count_of (chain_word put j))
      go true e =
          let same = eqb-true j i e in
          let n : count_of (chain_word put i) ≡ suc (count_of (chain_word l i)) = let c = its-count in omega arith in
          rw same (relink put (Fine put i (mark_of put)) k (head_of (chain_word put i)) (suc (count_of (chain_word l i))) (count_of (chain_word put i)) its-head n (
            (s.first, (rw kept-mark s.last, its-owner)),
            relink put (Fine put i (mark_of put)) (head_of (chain_word l i)) (link_of (word_at put k)) (count_of (chain_word l i)) (count_of (chain_word l i))
                its-link refl (way-kept i hi),
          ))
      go false e =
          let other = eqb-false j i e in
          relink put (Fine put j (mark_of put)) (head_of (chain_word l j)) (head_of (chain_word put j)) (count_of (chain_word l j)) (count_of (chain_word put j))
          (ap head_of (kept-chain j hj other)) (ap count_of (kept-chain j hj other)) (way-kept j hj)

  pushed : Pushed l put i p
  pushed =
      record {
        woven = record {
          mark = rw kept-mark s.mark;
          sum = let e =
              sum_step (λ j. count_of (chain_word l j)) (λ j. count_of (chain_word put j)) i 66 0 1 (omega arith)
              (λ j less d. ap count_of (kept-chain j (omega arith) d)) (let c = its-count in omega arith) in
              let t = s.sum in
              let m = kept-mark in
              omega arith;
          chain = chain-put;
        };
        beside = record {
          room = length-set between (66 + i) put-chain ∙ length-set l (195 + k) put_word;
          opens = kept-open;
          templates = λ j less. let f = s.first in other-cell (2 + j) (λ e. omega arith) (λ e. omega arith);
          dones = λ j less. let f = s.first in other-cell (132 + j) (λ e. omega arith) (λ e. omega arith);
        };
        top =
            payloads-at put i k (suc (count_of (chain_word l i))) its-head (let c = its-count in omega arith) ∙
            stack-turn put k (suc (count_of (chain_word l i))) (count_of (chain_word l i)) refl ∙ (λ x. its-payload x ∷ rest x);
        others =
            λ j hj d. payloads-at put j (head_of (chain_word l j)) (count_of (chain_word l j)) (ap head_of (kept-chain j hj d)) (ap count_of (kept-chain j hj d)) ∙
            stack-kept j hj;
        steps = λ j hj d a le. ap (λ (x : ℕ). step_to put x a) (ap head_of (kept-chain j hj d))
            ∙ steps-same l put (head_of (chain_word l j)) a (λ b less. ap link_of (other_word (step_to l (head_of (chain_word l j)) b)
            (fine-at l (λ h. Fine l j (mark_of l) h × (h ≡ k → ⊥)) (head_of (chain_word l j)) (count_of (chain_word l j)) b (omega arith) (s.chain j hj)).1));
      }
    where
      rest : stack_of put (link_of (word_at put k)) (count_of (chain_word l i)) ≡ payloads_in l i
      rest = ap (λ (h : ℕ). stack_of put h (count_of (chain_word l i))) its-link ∙ stack-kept i hi

  pub pushed_at : (x : ℕ) → chain_word l i ≡ x → Pushed l (set (set l (195 + k) (word_for i p (head_of x))) (66 + i) (k + 4096 * (count_of x + 1))) i p
  pushed_at x e = subst (λ (x : ℕ). Pushed l (set (set l (195 + k) (word_for i p (head_of x))) (66 + i) (k + 4096 * (count_of x + 1))) i p) e pushed

-- ---- The first entry past the mark is taken.
module _ (l : List ℕ) (room : length l ≡ orders_words) (s : Woven l) (fits : mark_of l < 2048) where
  -- The buffer with the mark one higher.
  abbrev marked : List ℕ
  marked = set l 0 (mark_of l + 1)

  cell : (n : ℕ) → 0 < n → get_or marked n 0 ≡ get_or l n 0
  cell n h = get_or-set_other l 0 n (mark_of l + 1) 0 (λ e. omega arith)

  chain-still : (j : ℕ) → chain_word marked j ≡ chain_word l j
  chain-still j = chain_same l marked j (cell 1 (omega arith)) (cell (66 + j) (omega arith))

  new-mark : mark_of marked ≡ mark_of l + 1
  new-mark = get_or-set_same l 0 (mark_of l + 1) 0 (omega arith)

  fine-still : (j h : ℕ) → Fine l j (mark_of l) h → Fine marked j (mark_of marked) h × (h ≡ mark_of l + 1 → ⊥)
  fine-still j h f = let m = new-mark in let le = f.1.0 in ((f.0, (omega arith, ap owner_of (cell (195 + h) (omega arith)) ∙ f.1.1)), λ e. omega arith)

  pub past-mark : Taken l marked (mark_of l + 1)
  past-mark =
      record {
        loose = record {
          mark = let m = new-mark in omega arith;
          first = omega arith;
          last = let m = new-mark in omega arith;
          sum =
              ap (λ (x : ℕ). x + 1)
              (sum_same (λ j. count_of (chain_word marked j)) (λ j. count_of (chain_word l j)) 66 (λ j less. ap count_of (chain-still j)) ∙ s.sum)
              ∙ sym new-mark;
          chain =
              λ j hj. relink marked (λ h. Fine marked j (mark_of marked) h × (h ≡ mark_of l + 1 → ⊥)) (head_of (chain_word l j)) (head_of (chain_word marked j))
              (count_of (chain_word l j)) (count_of (chain_word marked j)) (ap head_of (chain-still j)) (ap count_of (chain-still j))
              (linked-same l marked (Fine l j (mark_of l)) (λ h. Fine marked j (mark_of marked) h × (h ≡ mark_of l + 1 → ⊥)) (λ h f. cell (195 + h) (omega arith))
              (fine-still j) (head_of (chain_word l j)) (count_of (chain_word l j)) (s.chain j hj));
        };
        beside = record {
          room = length-set l 0 (mark_of l + 1);
          opens = cell 1 (omega arith);
          templates = λ j less. cell (2 + j) (omega arith);
          dones = λ j less. cell (132 + j) (omega arith);
        };
        others =
            λ j hj d. payloads-at marked j (head_of (chain_word l j)) (count_of (chain_word l j)) (ap head_of (chain-still j)) (ap count_of (chain-still j)) ∙
            stack_same l marked (Fine l j (mark_of l)) (λ h f. cell (195 + h) (omega arith)) (head_of (chain_word l j)) (count_of (chain_word l j)) (s.chain j hj) ∙
            sym (payloads-at l j (head_of (chain_word l j)) (count_of (chain_word l j)) refl refl);
      }
