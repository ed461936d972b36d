-- From the chains to the contracts of the public functions: what a change of one instance's
-- chain leaves of its template, its entries and its kept set of done tasks (`Leaves`).
use Prim.Native.Nat.{ℕ, ◌+◌, ◌*◌, ◌%◌, ◌≤◌, ◌<◌}
use mathlib.Core.Bool.{Bool, true, false, not, cond, ◌&&◌}
use mathlib.Core.List.{List, [], ◌∷◌}
use mathlib.Core.Path.{◌≡◌, refl, sym, ap, ◌∙◌}
use native.Mathlib.Omega.{arith}
use borrow.Author.Tests.{eq-eqb, eqb-true, eqb-false, lt-ltb, ltb-true, ltb-false}
use lib.Dec.{eqb, ltb}
use lib.ListN.{length, get_or, set, length-set}
use lib.Seq.{get_or-set_same, get_or-set_other}
use Rattle.paper_lower.specs.Sets.{has, plus, minus}
use Rattle.paper_lower.specs.Lists.{Maybe, some, many, add, keep, each}
use Rattle.paper_lower.specs.Lists.Maybe.{none, just}
use Rattle.paper_upper.specs.Orders.{Entry, entry, is_done, are_in_order, held_of, tasks_where, tasks_done}
use Rattle.paper_upper.specs.Orders.Standing.{held}
use Rattle.paper_upper.specs.Requests.{turned}
use Rattle.sets.proofs.SetLaws.{has_new, has_other, has-gone, has_kept}
use Rattle.order_links.specs.Chains.{orders_words, mark_of, open_of, template_at, done_word, head_of, count_of, chain_word, word_at, walk_over, entries_in, figures, Fine, sound_of}
use Rattle.order_links.specs.Stacks.{payloads_in, Woven, Pushed, Taken, rev_onto, entry_from, stays, turned_load, Sifted, Turned, Emptied}
use Rattle.order_links.specs.Acts.{Leaves}
use Rattle.order_links.proofs.ReadLaws.{chain-read, chain-closed, chain-as, chain_same, done-read, done-as, done-same, done-closed, template-read, template-as, template-same, template-closed, read-open}
use Rattle.order_links.proofs.ChainLaws.{linked-same}
use Rattle.order_links.proofs.OnceLaws.{sum_same}
use Rattle.order_links.proofs.SoundLaws.{Sound, sound, is-sound}
use Rattle.order_links.proofs.StackLaws.{stack_same, relink, payloads-at}
use Rattle.order_links.proofs.EntryLaws.{entries-stack, entries-same, many-payloads, last-onto, keep-turned, each-turned, keep-read, each_read, held-entry, held-key, held-not-done, turned-read, done-add}
use Rattle.order_links.proofs.TurnLaws.{done-turned}

-- ---- Soundness as a statement: the links, the kept sets of done tasks, and no entry set aside. It holds exactly if `sound_of` does.
pub record Whole (l : List ℕ) : Type 0 where
  pub woven : Woven l
  pub dones : (i : ℕ) → i < 64 → done_word l i ≡ tasks_done i (entries_in l i)
  pub aside : count_of (chain_word l 65) ≡ 0

figures-own : (l : List ℕ) (i d : ℕ) → i < 64 → figures l i d ≡ eqb (done_word l i) d
unfolding figures
figures-own l i d h = rw (lt-ltb i 64 h)

figures-aside : (l : List ℕ) (d : ℕ) → figures l 65 d ≡ eqb (count_of (chain_word l 65)) 0
unfolding figures
figures-aside l d = refl

figures-free : (l : List ℕ) (d : ℕ) → figures l 64 d ≡ true
unfolding figures
figures-free l d = refl

whole_of : (l : List ℕ) → Sound l → Whole l
whole_of l s =
    record {
      woven = s.woven;
      dones = λ i h. eqb-true _ _ (sym (figures-own l i (tasks_done i (entries_in l i)) h) ∙ s.figured i (omega arith));
      aside = eqb-true _ _ (sym (figures-aside l (tasks_done 65 (entries_in l 65))) ∙ s.figured 65 (omega arith));
    }

pub whole : (l : List ℕ) → sound_of l ≡ true → Whole l
whole l e = whole_of l (sound l e)

pub of-whole : (l : List ℕ) → Whole l → sound_of l ≡ true
of-whole l s = is-sound l (record { woven = s.woven; figured = λ i h. go i h (ltb i 64) refl (eqb i 64) refl })
  where
    go : (i : ℕ) → i ≤ 65 → (b : Bool) → ltb i 64 ≡ b → (f : Bool) → eqb i 64 ≡ f → figures l i (tasks_done i (entries_in l i)) ≡ true
    go i h true e f q = figures-own l i (tasks_done i (entries_in l i)) (ltb-true i 64 e) ∙ eq-eqb _ _ (s.dones i (ltb-true i 64 e))
    go i h false e true q = let same = eqb-true i 64 q in rw same (figures-free l (tasks_done 64 (entries_in l 64)))
    go i h false e false q =
        let le = ltb-false i 64 e in
        let other = eqb-false i 64 q in
        let same : i ≡ 65 = omega arith in
        rw same (figures-aside l (tasks_done 65 (entries_in l 65)) ∙ eq-eqb _ _ s.aside)

-- ---- Stores to words other than links and chains leave the links sound and the payloads unchanged.
module _ (l l' : List ℕ) (s : Woven l) (mark : mark_of l' ≡ mark_of l) (heads : (j : ℕ) → j ≤ 65 → head_of (chain_word l' j) ≡ head_of (chain_word l j))
    (counts : (j : ℕ) → j ≤ 65 → count_of (chain_word l' j) ≡ count_of (chain_word l j)) (words : (h : ℕ) → 0 < h → word_at l' h ≡ word_at l h) where
  word_kept : (i m h : ℕ) → Fine l i m h → word_at l' h ≡ word_at l h
  word_kept i m h f = words h f.0

  pub kept-woven : Woven l'
  kept-woven =
      record {
        mark = rw mark s.mark;
        sum = sum_same (λ j. count_of (chain_word l' j)) (λ j. count_of (chain_word l j)) 66 (λ j h. counts j (omega arith)) ∙ s.sum ∙ sym mark;
        chain =
            λ i h. relink l' (Fine l' i (mark_of l')) (head_of (chain_word l i)) (head_of (chain_word l' i)) (count_of (chain_word l i)) (count_of (chain_word l' i))
            (heads i h) (counts i h)
            (linked-same l l' (Fine l i (mark_of l)) (Fine l' i (mark_of l')) (word_kept i (mark_of l)) (λ x f. rw (word_kept i (mark_of l) x f, mark) f)
            (head_of (chain_word l i)) (count_of (chain_word l i)) (s.chain i h));
      }

  pub kept-payloads : (j : ℕ) → j ≤ 65 → payloads_in l' j ≡ payloads_in l j
  kept-payloads j h =
      payloads-at l' j (head_of (chain_word l j)) (count_of (chain_word l j)) (heads j h) (counts j h)
      ∙ stack_same l l' (Fine l j (mark_of l)) (word_kept j (mark_of l)) (head_of (chain_word l j)) (count_of (chain_word l j)) (s.chain j h)
      ∙ sym (payloads-at l j (head_of (chain_word l j)) (count_of (chain_word l j)) refl refl)

-- ---- What a change of instance i leaves unchanged: the other instances. `leaves` completes it to the contract.
pub record Changed (i : ℕ) (l₀ l : List ℕ) : Type 0 where
  pub room : length l ≡ orders_words
  pub woven : Woven l
  pub others : (j : ℕ) → j < 64 → (j ≡ i → ⊥) → payloads_in l j ≡ payloads_in l₀ j
  pub reads : (j : ℕ) → (j ≡ i → ⊥) → has (open_of l) j ≡ has (open_of l₀) j
  pub templates : (j : ℕ) → j < 64 → (j ≡ i → ⊥) → get_or l (2 + j) 0 ≡ get_or l₀ (2 + j) 0
  pub dones : (j : ℕ) → j < 64 → (j ≡ i → ⊥) → get_or l (132 + j) 0 ≡ get_or l₀ (132 + j) 0
  pub aside : count_of (chain_word l 65) ≡ 0

module _ (i : ℕ) (l₀ l : List ℕ) (s : Whole l₀) (c : Changed i l₀ l) where
  entries-others : (j : ℕ) → j < 64 → (j ≡ i → ⊥) → entries_in l j ≡ entries_in l₀ j
  entries-others j h d = entries-same l₀ l s.woven c.woven j h (c.others j h d)

  whole-after : done_word l i ≡ tasks_done i (entries_in l i) → Whole l
  whole-after own = record { woven = c.woven; dones = λ j h. at j h (eqb j i) refl; aside = c.aside }
    where
      at : (j : ℕ) → j < 64 → (b : Bool) → eqb j i ≡ b → done_word l j ≡ tasks_done j (entries_in l j)
      at j h true e = let same = eqb-true j i e in rw same own
      at j h false e =
          let other = eqb-false j i e in
          done-as l₀ l j (c.reads j other) (c.dones j h other) ∙ s.dones j h ∙ ap (tasks_done j) (sym (entries-others j h other))

  pub leaves : (template : Maybe ℕ) (es : List Entry) → template_at l i ≡ template → entries_in l i ≡ es → done_word l i ≡ tasks_done i es →
      Leaves i template es l₀ l
  leaves template es t e own =
      record {
        room = c.room;
        sound = of-whole l (whole-after (own ∙ ap (tasks_done i) (sym e)));
        opened = t;
        entries = e;
        others = λ j d. template-as l₀ l j (c.reads j d) (λ h. c.templates j h d);
        orders = entries-others;
      }

-- ---- `enter`: a new entry.
module _ (l₀ l₁ l : List ℕ) (k i u t a : ℕ) (room : length l₀ ≡ orders_words) (s : Whole l₀) (hu : u < 1024) (hi : i < 64) (ht : t < 64) (ha : a < 128)
    (taken : Taken l₀ l₁ k) (pushed : Pushed l₁ l i (2 * t + 128 * a + 16384 * u)) where
  enter-opens : open_of l ≡ open_of l₀
  enter-opens = pushed.beside.opens ∙ taken.beside.opens

  enter-changed : Changed i l₀ l
  enter-changed =
      record {
        room = pushed.beside.room ∙ taken.beside.room ∙ room;
        woven = pushed.woven;
        others = λ j h d. pushed.others j (omega arith) d ∙ taken.others j (omega arith) (λ e. omega arith);
        reads = λ j d. ap (λ (m : ℕ). has m j) enter-opens;
        templates = λ j h d. pushed.beside.templates j h ∙ taken.beside.templates j h;
        dones = λ j h d. pushed.beside.dones j h ∙ taken.beside.dones j h;
        aside =
            sym (many-payloads l 65) ∙ ap many (pushed.others 65 (omega arith) (λ e. omega arith) ∙ taken.others 65 (omega arith) (λ e. omega arith)) ∙
            many-payloads l₀ 65 ∙ s.aside;
      }

  enter-own : entries_in l i ≡ add (entries_in l₀ i) (entry i u t (held a))
  unfolding each
  enter-own =
      entries-stack l pushed.woven i hi
      ∙ ap (λ (xs : List ℕ). rev_onto (each (entry_from i) xs) [])
      (pushed.top ∙ ap (◌∷◌ (2 * t + 128 * a + 16384 * u)) (taken.others i (omega arith) (λ e. omega arith)))
      ∙ ap (λ (e : Entry). rev_onto (e ∷ each (entry_from i) (payloads_in l₀ i)) []) (held-entry i u t a hu ht ha)
      ∙ last-onto (each (entry_from i) (payloads_in l₀ i)) (entry i u t (held a))
      ∙ ap (λ (es : List Entry). add es (entry i u t (held a))) (sym (entries-stack l₀ s.woven i hi))

  pub entered : Leaves i (template_at l₀ i) (add (entries_in l₀ i) (entry i u t (held a))) l₀ l
  entered =
      leaves i l₀ l s enter-changed (template_at l₀ i) (add (entries_in l₀ i) (entry i u t (held a)))
      (template-same l₀ l i enter-opens (λ h. pushed.beside.templates i h ∙ taken.beside.templates i h)) enter-own
      (done-same l₀ l i enter-opens (pushed.beside.dones i hi ∙ taken.beside.dones i hi) ∙ s.dones i hi ∙ sym (done-add i u t a (entries_in l₀ i)))

none-many : many {A = ℕ} [] ≡ 0
unfolding many
none-many = refl

-- ---- No change.
pub unchanged : (l : List ℕ) (i : ℕ) (es : List Entry) → length l ≡ orders_words → sound_of l ≡ true → entries_in l i ≡ es → Leaves i (template_at l i) es l l
unchanged l i es room s e = record { room = room; sound = s; opened = refl; entries = e; others = λ j d. refl; orders = λ j h d. refl }

-- ---- `release`: entries that are held are removed, so that no task is lost from the kept set of done tasks.
done-kept : (i t a : ℕ) (es : List Entry) → tasks_done i es ≡ tasks_done i (keep (λ e. not (held_of i t a e)) es)
unfolding tasks_done tasks_where keep
done-kept i t a [] = refl
done-kept i t a (e ∷ es) = go (held_of i t a e) refl (done-kept i t a es)
  where
    go : (b : Bool) → held_of i t a e ≡ b → tasks_done i es ≡ tasks_done i (keep (λ e. not (held_of i t a e)) es)
        → cond (are_in_order i e && is_done e.standing) (plus (tasks_done i es) e.task) (tasks_done i es) ≡
        tasks_done i (cond (not (held_of i t a e)) (e ∷ keep (λ e. not (held_of i t a e)) es) (keep (λ e. not (held_of i t a e)) es))
    go true h q = rw (h, held-not-done i t a e h) q
    go false h q = rw h (ap (λ (m : ℕ). cond (are_in_order i e && is_done e.standing) (plus m e.task) m) q)

pub released : (l₀ l : List ℕ) (i t a : ℕ) → length l₀ ≡ orders_words → Whole l₀ → i < 64 → t < 64 → a < 128 → has (open_of l₀) i ≡ true →
    Sifted i (2 * t + 128 * a) l₀ l
    → Leaves i (template_at l₀ i) (keep (λ e. not (held_of i t a e)) (entries_in l₀ i)) l₀ l
unfolding stays
released l₀ l i t a room s hi ht ha opens sift =
    leaves i l₀ l s changed (template_at l₀ i) (keep (λ e. not (held_of i t a e)) (entries_in l₀ i))
    (template-same l₀ l i sift.still.beside.opens (λ h. sift.still.beside.templates i h)) own
    (done-same l₀ l i sift.still.beside.opens (sift.still.beside.dones i hi) ∙ s.dones i hi ∙ done-kept i t a (entries_in l₀ i))
  where
    changed : Changed i l₀ l
    changed =
        record {
          room = sift.still.beside.room ∙ room;
          woven = sift.still.woven;
          others = sift.still.others;
          reads = λ j d. ap (λ (m : ℕ). has m j) sift.still.beside.opens;
          templates = λ j h d. sift.still.beside.templates j h;
          dones = λ j h d. sift.still.beside.dones j h;
          aside = sym (many-payloads l 65) ∙ ap many sift.aside ∙ many-payloads l₀ 65 ∙ s.aside;
        }

    own : entries_in l i ≡ keep (λ e. not (held_of i t a e)) (entries_in l₀ i)
    own =
        entries-stack l sift.still.woven i hi
        ∙ ap (λ (xs : List ℕ). rev_onto (each (entry_from i) xs) []) sift.own
        ∙ ap (λ (es : List Entry). rev_onto es [])
        (keep-read (entry_from i) (stays (2 * t + 128 * a)) (λ e. not (held_of i t a e)) (λ p. ap not (sym (held-key i t a p ht ha))) (payloads_in l₀ i))
        ∙ keep-turned (λ e. not (held_of i t a e)) (each (entry_from i) (payloads_in l₀ i))
        ∙ ap (keep (λ e. not (held_of i t a e))) (sym (entries-stack l₀ s.woven i hi))

-- ---- `finish`: the entries that fit are marked as done, and their task is added to the kept set.
module _ (l₀ l₁ : List ℕ) (i t a d : ℕ) (room : length l₀ ≡ orders_words) (s : Whole l₀) (hi : i < 64) (ht : t < 64) (ha : a < 128)
    (opens : has (open_of l₀) i ≡ true) (turn : Turned i (2 * t + 128 * a) l₀ l₁) (some-held : some (held_of i t a) (entries_in l₀ i) ≡ true)
    (stored : d ≡ plus (get_or l₁ (132 + i) 0) t) where
  -- The buffer after the kept set of done tasks was stored.
  abbrev left : List ℕ
  left = set l₁ (132 + i) d

  cell : (n : ℕ) → (n ≡ 132 + i → ⊥) → get_or left n 0 ≡ get_or l₁ n 0
  cell n h = get_or-set_other l₁ (132 + i) n d 0 h

  left_open : open_of left ≡ open_of l₁
  left_open = cell 1 (λ e. omega arith)

  left-chain : (j : ℕ) → j ≤ 65 → chain_word left j ≡ chain_word l₁ j
  left-chain j h = chain_same l₁ left j left_open (cell (66 + j) (λ e. omega arith))

  left_word : (h : ℕ) → 0 < h → word_at left h ≡ word_at l₁ h
  left_word h p = cell (195 + h) (λ e. omega arith)

  left-payloads : (j : ℕ) → j ≤ 65 → payloads_in left j ≡ payloads_in l₁ j
  left-payloads =
      kept-payloads l₁ left turn.still.woven (cell 0 (λ e. omega arith)) (λ j h. ap head_of (left-chain j h)) (λ j h. ap count_of (left-chain j h)) left_word

  same-open : open_of left ≡ open_of l₀
  same-open = left_open ∙ turn.still.beside.opens

  length-kept : length l₁ ≡ orders_words
  length-kept = turn.still.beside.room ∙ room

  same-template : (j : ℕ) → j < 64 → get_or left (2 + j) 0 ≡ get_or l₀ (2 + j) 0
  same-template j h = cell (2 + j) (λ e. omega arith) ∙ turn.still.beside.templates j h

  done-changed : Changed i l₀ left
  done-changed =
      record {
        room = length-set l₁ (132 + i) d ∙ length-kept;
        woven =
            kept-woven l₁ left turn.still.woven (cell 0 (λ e. omega arith)) (λ j h. ap head_of (left-chain j h)) (λ j h. ap count_of (left-chain j h))
            left_word;
        others = λ j h x. left-payloads j (omega arith) ∙ turn.still.others j h x;
        reads = λ j x. ap (λ (m : ℕ). has m j) same-open;
        templates = λ j h x. same-template j h;
        dones = λ j h x. cell (132 + j) (λ e. x (omega arith)) ∙ turn.still.beside.dones j h;
        aside = sym (many-payloads left 65) ∙ ap many (left-payloads 65 (omega arith) ∙ turn.aside) ∙ many-payloads l₀ 65 ∙ s.aside;
      }

  its-entries : entries_in left i ≡ each (turned i t a) (entries_in l₀ i)
  its-entries =
      entries-stack left done-changed.woven i hi
      ∙ ap (λ (xs : List ℕ). rev_onto (each (entry_from i) xs) []) (left-payloads i (omega arith) ∙ turn.own)
      ∙ ap (λ (es : List Entry). rev_onto es [])
      (each_read (entry_from i) (turned_load (2 * t + 128 * a)) (turned i t a) (λ p. turned-read i t a p ht ha) (payloads_in l₀ i))
      ∙ each-turned (turned i t a) (each (entry_from i) (payloads_in l₀ i))
      ∙ ap (each (turned i t a)) (sym (entries-stack l₀ s.woven i hi))

  its-done : done_word left i ≡ tasks_done i (each (turned i t a) (entries_in l₀ i))
  its-done =
      done-read left i (ap (λ (m : ℕ). has m i) same-open ∙ opens) ∙ get_or-set_same l₁ (132 + i) d 0 (let r = length-kept in omega arith) ∙ stored
      ∙ ap (λ (m : ℕ). plus m t) (turn.still.beside.dones i hi ∙ sym (done-read l₀ i opens) ∙ s.dones i hi)
      ∙ sym (done-turned i t a (entries_in l₀ i) some-held)

  pub finished : Leaves i (template_at l₀ i) (each (turned i t a) (entries_in l₀ i)) l₀ left
  finished =
      leaves i l₀ left s done-changed (template_at l₀ i) (each (turned i t a) (entries_in l₀ i)) (template-same l₀ left i same-open (same-template i)) its-entries
      its-done

-- ---- An instance without entries.
no-entries : (l : List ℕ) (i : ℕ) → count_of (chain_word l i) ≡ 0 → entries_in l i ≡ []
unfolding entries_in walk_over
no-entries l i e = rw e

none_done : (i : ℕ) → 0 ≡ tasks_done i []
unfolding tasks_done tasks_where
none_done i = refl

no-head : (l : List ℕ) → Woven l → (i : ℕ) → i ≤ 65 → count_of (chain_word l i) ≡ 0 → head_of (chain_word l i) ≡ 0
no-head l s i h e = relink l (Fine l i (mark_of l)) (head_of (chain_word l i)) (head_of (chain_word l i)) (count_of (chain_word l i)) 0 refl (sym e) (s.chain i h)

-- ---- `close_chain`: all entries are free, and the instance is removed from the set of open ones.
module _ (l₀ l₁ : List ℕ) (i : ℕ) (room : length l₀ ≡ orders_words) (s : Whole l₀) (hi : i < 64) (drop : Emptied i l₀ l₁) where
  -- The buffer after the instance was removed from the open ones.
  abbrev ended : List ℕ
  ended = set l₁ 1 (minus (open_of l₁) i)

  length-left : length l₁ ≡ orders_words
  length-left = drop.still.beside.room ∙ room

  rest : (n : ℕ) → (n ≡ 1 → ⊥) → get_or ended n 0 ≡ get_or l₁ n 0
  rest n h = get_or-set_other l₁ 1 n (minus (open_of l₁) i) 0 h

  now-open : open_of ended ≡ minus (open_of l₁) i
  now-open = get_or-set_same l₁ 1 (minus (open_of l₁) i) 0 (let r = length-left in omega arith)

  still_open : (j : ℕ) → (j ≡ i → ⊥) → has (open_of ended) j ≡ has (open_of l₁) j
  still_open j d = ap (λ (m : ℕ). has m j) now-open ∙ has_kept (open_of l₁) i j d

  shut : has (open_of ended) i ≡ false
  shut = ap (λ (m : ℕ). has m i) now-open ∙ has-gone (open_of l₁) i

  end-chain : (j : ℕ) → (j ≡ i → ⊥) → chain_word ended j ≡ chain_word l₁ j
  end-chain j d = chain-as l₁ ended j (still_open j d) (rest (66 + j) (λ e. omega arith))

  end-own : chain_word ended i ≡ 0
  end-own = chain-closed ended i hi shut

  was-empty : count_of (chain_word l₁ i) ≡ 0
  was-empty = sym (many-payloads l₁ i) ∙ ap many drop.own ∙ none-many

  end-heads : (j : ℕ) → j ≤ 65 → head_of (chain_word ended j) ≡ head_of (chain_word l₁ j)
  end-heads j h = go (eqb j i) refl
    where
      go : (b : Bool) → eqb j i ≡ b → head_of (chain_word ended j) ≡ head_of (chain_word l₁ j)
      go true e = let same = eqb-true j i e in let z = no-head l₁ drop.still.woven i (omega arith) was-empty in let q = end-own in rw same (omega arith)
      go false e = ap head_of (end-chain j (eqb-false j i e))

  end-counts : (j : ℕ) → j ≤ 65 → count_of (chain_word ended j) ≡ count_of (chain_word l₁ j)
  end-counts j h = go (eqb j i) refl
    where
      go : (b : Bool) → eqb j i ≡ b → count_of (chain_word ended j) ≡ count_of (chain_word l₁ j)
      go true e = let same = eqb-true j i e in let z = was-empty in let q = end-own in rw same (omega arith)
      go false e = ap count_of (end-chain j (eqb-false j i e))

  end-word : (h : ℕ) → 0 < h → word_at ended h ≡ word_at l₁ h
  end-word h p = rest (195 + h) (λ e. omega arith)

  end-payloads : (j : ℕ) → j ≤ 65 → payloads_in ended j ≡ payloads_in l₁ j
  end-payloads = kept-payloads l₁ ended drop.still.woven (rest 0 (λ e. omega arith)) end-heads end-counts end-word

  end-changed : Changed i l₀ ended
  end-changed =
      record {
        room = length-set l₁ 1 (minus (open_of l₁) i) ∙ length-left;
        woven = kept-woven l₁ ended drop.still.woven (rest 0 (λ e. omega arith)) end-heads end-counts end-word;
        others = λ j h x. end-payloads j (omega arith) ∙ drop.still.others j h x;
        reads = λ j x. still_open j x ∙ ap (λ (m : ℕ). has m j) drop.still.beside.opens;
        templates = λ j h x. rest (2 + j) (λ e. omega arith) ∙ drop.still.beside.templates j h;
        dones = λ j h x. rest (132 + j) (λ e. omega arith) ∙ drop.still.beside.dones j h;
        aside = sym (many-payloads ended 65) ∙ ap many (end-payloads 65 (omega arith) ∙ drop.aside) ∙ many-payloads l₀ 65 ∙ s.aside;
      }

  pub closed : Leaves i none [] l₀ ended
  closed =
      leaves i l₀ ended s end-changed none [] (template-closed ended i shut) (no-entries ended i (end-counts i (omega arith) ∙ was-empty))
      (done-closed ended i shut ∙ none_done i)

-- ---- `open_chain`: the instance is added to the set of open ones, without entries.
module _ (l : List ℕ) (i j : ℕ) (room : length l ≡ orders_words) (s : Whole l) (hi : i < 64) (hj : j < 16) (was : has (open_of l) i ≡ false) where
  -- The buffer after the stores of template, chain and done tasks (`ready`), and after the instance was added to the open ones (`opening`).
  abbrev ready : List ℕ
  ready = set (set (set l (2 + i) j) (66 + i) 0) (132 + i) 0

  abbrev opening : List ℕ
  opening = set ready 1 (plus (open_of l) i)

  length-ready : length ready ≡ orders_words
  length-ready = length-set (set (set l (2 + i) j) (66 + i) 0) (132 + i) 0 ∙ length-set (set l (2 + i) j) (66 + i) 0 ∙ length-set l (2 + i) j ∙ room

  beside : (n : ℕ) → (n ≡ 1 → ⊥) → (n ≡ 2 + i → ⊥) → (n ≡ 66 + i → ⊥) → (n ≡ 132 + i → ⊥) → get_or opening n 0 ≡ get_or l n 0
  beside n a b c d =
      get_or-set_other ready 1 n (plus (open_of l) i) 0 a ∙ get_or-set_other (set (set l (2 + i) j) (66 + i) 0) (132 + i) n 0 0 d
      ∙ get_or-set_other (set l (2 + i) j) (66 + i) n 0 0 c ∙ get_or-set_other l (2 + i) n j 0 b

  new-open : open_of opening ≡ plus (open_of l) i
  new-open = get_or-set_same ready 1 (plus (open_of l) i) 0 (let r = length-ready in omega arith)

  is_open : has (open_of opening) i ≡ true
  is_open = ap (λ (m : ℕ). has m i) new-open ∙ has_new (open_of l) i

  others-open : (k : ℕ) → (k ≡ i → ⊥) → has (open_of opening) k ≡ has (open_of l) k
  others-open k d = ap (λ (m : ℕ). has m k) new-open ∙ has_other (open_of l) i k d

  new-template : get_or opening (2 + i) 0 ≡ j
  new-template =
      get_or-set_other ready 1 (2 + i) (plus (open_of l) i) 0 (λ e. omega arith) ∙
      get_or-set_other (set (set l (2 + i) j) (66 + i) 0) (132 + i) (2 + i) 0 0 (λ e. omega arith)
      ∙ get_or-set_other (set l (2 + i) j) (66 + i) (2 + i) 0 0 (λ e. omega arith) ∙ get_or-set_same l (2 + i) j 0 (omega arith)

  new-chain : get_or opening (66 + i) 0 ≡ 0
  new-chain =
      get_or-set_other ready 1 (66 + i) (plus (open_of l) i) 0 (λ e. omega arith) ∙
      get_or-set_other (set (set l (2 + i) j) (66 + i) 0) (132 + i) (66 + i) 0 0 (λ e. omega arith)
      ∙ get_or-set_same (set l (2 + i) j) (66 + i) 0 0 (let r = length-set l (2 + i) j in omega arith)

  new-done : get_or opening (132 + i) 0 ≡ 0
  new-done =
      get_or-set_other ready 1 (132 + i) (plus (open_of l) i) 0 (λ e. omega arith)
      ∙ get_or-set_same (set (set l (2 + i) j) (66 + i) 0) (132 + i) 0 0
      (let r = length-set (set l (2 + i) j) (66 + i) 0 in let q = length-set l (2 + i) j in omega arith)

  open_own : chain_word opening i ≡ 0
  open_own = chain-read opening i (read-open opening i is_open) ∙ new-chain

  open-chain : (k : ℕ) → k ≤ 65 → chain_word opening k ≡ chain_word l k
  open-chain k h = go (eqb k i) refl
    where
      go : (b : Bool) → eqb k i ≡ b → chain_word opening k ≡ chain_word l k
      go true e = let same = eqb-true k i e in rw same (open_own ∙ sym (chain-closed l i hi was))
      go false e = let other = eqb-false k i e in
          chain-as l opening k (others-open k other) (beside (66 + k) (λ q. omega arith) (λ q. omega arith) (λ q. other (omega arith)) (λ q. omega arith))

  open-word : (h : ℕ) → 0 < h → word_at opening h ≡ word_at l h
  open-word h p = beside (195 + h) (λ q. omega arith) (λ q. omega arith) (λ q. omega arith) (λ q. omega arith)

  open-mark : mark_of opening ≡ mark_of l
  open-mark = beside 0 (λ q. omega arith) (λ q. omega arith) (λ q. omega arith) (λ q. omega arith)

  open-payloads : (k : ℕ) → k ≤ 65 → payloads_in opening k ≡ payloads_in l k
  open-payloads = kept-payloads l opening s.woven open-mark (λ k h. ap head_of (open-chain k h)) (λ k h. ap count_of (open-chain k h)) open-word

  open-changed : Changed i l opening
  open-changed =
      record {
        room = length-set ready 1 (plus (open_of l) i) ∙ length-ready;
        woven = kept-woven l opening s.woven open-mark (λ k h. ap head_of (open-chain k h)) (λ k h. ap count_of (open-chain k h)) open-word;
        others = λ k h d. open-payloads k (omega arith);
        reads = others-open;
        templates = λ k h d. beside (2 + k) (λ q. omega arith) (λ q. d (omega arith)) (λ q. omega arith) (λ q. omega arith);
        dones = λ k h d. beside (132 + k) (λ q. omega arith) (λ q. omega arith) (λ q. omega arith) (λ q. d (omega arith));
        aside = ap count_of (open-chain 65 (omega arith)) ∙ s.aside;
      }

  its-template : template_at opening i ≡ just j
  its-template = template-read opening i hi is_open ∙ ap just (ap (λ (w : ℕ). w % 16) new-template ∙ omega arith)

  pub newly-opened : Leaves i (just j) [] l opening
  newly-opened =
      leaves i l opening s open-changed (just j) [] its-template (no-entries opening i (let z = open_own in omega arith))
      (done-read opening i is_open ∙ new-done ∙ none_done i)
