-- Marking entries as done in their places: the word of an entry, the done tasks of the instance, and the loop of `turn`.
use Prim.Native.Nat.{ℕ, zero, suc, ◌+◌, ◌-◌, ◌*◌, ◌/◌, ◌%◌, ◌≤◌, ◌<◌}
use mathlib.Core.Bool.{Bool, true, false, cond, ◌&&◌, ◌||◌}
use mathlib.Core.List.{List, [], ◌∷◌}
use mathlib.Core.Path.{◌≡◌, refl, sym, ap, ap₂, ◌∙◌}
use native.Mathlib.Omega.{arith}
use borrow.Author.Tests.{eqb-true, eqb-false}
use lib.Dec.{eqb}
use lib.ListN.{length, get_or, set, length-set}
use lib.Seq.{get_or-set_same, get_or-set_other, set-get_or}
use Rattle.paper_lower.specs.Sets.{Set, has, plus}
use Rattle.paper_lower.specs.Lists.{some, each}
use Rattle.paper_lower.proofs.ListLaws.{both, or-none}
use Rattle.paper_upper.specs.Orders.{Entry, is_done, is_held_by, are_in_order, of_task, held_of, tasks_where, tasks_done}
use Rattle.paper_upper.specs.Requests.{turned}
use Rattle.sets.proofs.SetLaws.{same-members, has-plus}
use Rattle.order_links.specs.Chains.{orders_words, mark_of, open_of, head_of, count_of, chain_word, owner_of, link_of, word_at, entries_in, Fine, Linked}
use Rattle.order_links.specs.Stacks.{payload_of, stack_of, payloads_in, step_to, entry_from, turned_load, turned_word, Woven, Turned}
use Rattle.order_links.specs.Total.{any_fits}
use Rattle.order_links.proofs.ReadLaws.{chain_same}
use Rattle.order_links.proofs.ChainLaws.{linked-same}
use Rattle.order_links.proofs.StepLaws.{linked-step, fine-at, apart, step-next, linked-join, steps-same}
use Rattle.order_links.proofs.OnceLaws.{sum_same}
use Rattle.order_links.proofs.StackLaws.{stack_same, stack-turn, relink, payloads-at}
use Rattle.order_links.proofs.SameLaws.{some_same, two-tasks}
use Rattle.order_links.proofs.EntryLaws.{entries-bag, held-key, held-not-done}

-- ---- The word: only its payload changes.
pub even-load : (w key : ℕ) → key % 2 ≡ 0 → payload_of w % 16384 ≡ key → w / 64 % 2 ≡ 0
even-load w key z e = omega arith

module _ (key w : ℕ) (z : key % 2 ≡ 0) where
  pub turned-link : link_of (turned_word key w) ≡ link_of w
  unfolding turned_word
  turned-link = go (eqb (payload_of w % 16384) key) refl
    where
      go : (b : Bool) → eqb (payload_of w % 16384) key ≡ b → link_of (cond b (w + 64) w) ≡ link_of w
      go true e = let v = even-load w key z (eqb-true _ _ e) in let q : (w + 64) / 4294967296 ≡ w / 4294967296 = omega arith in rw q
      go false e = refl

  pub turned-owner : owner_of (turned_word key w) ≡ owner_of w
  unfolding turned_word
  turned-owner = go (eqb (payload_of w % 16384) key) refl
    where
      go : (b : Bool) → eqb (payload_of w % 16384) key ≡ b → owner_of (cond b (w + 64) w) ≡ owner_of w
      go true e =
          let v = even-load w key z (eqb-true _ _ e) in
          let q : (w + 64) / 1073741824 ≡ w / 1073741824 = omega arith in
          let r : (w + 64) % 64 ≡ w % 64 = omega arith in
          rw (q, r)
      go false e = refl

  pub turned-load : payload_of (turned_word key w) ≡ turned_load key (payload_of w)
  unfolding turned_word turned_load
  turned-load = go (eqb (payload_of w % 16384) key) refl
    where
      go : (b : Bool) → eqb (payload_of w % 16384) key ≡ b → payload_of (cond b (w + 64) w) ≡ cond b (payload_of w + 1) (payload_of w)
      go true e =
          let v = even-load w key z (eqb-true _ _ e) in
          let q : (w + 64) / 64 ≡ w / 64 + 1 = omega arith in
          rw q (omega arith)
      go false e = refl

-- ---- The done tasks after entries were marked as done.
plus-twice : (m : Set) (t : ℕ) → plus (plus m t) t ≡ plus m t
plus-twice m t =
    same-members (plus (plus m t) t) (plus m t)
    (λ x. has-plus (plus m t) t x ∙ ap (λ (b : Bool). b || eqb x t) (has-plus m t x) ∙ twice (has m x) (eqb x t) ∙ sym (has-plus m t x))
  where
    twice : (a b : Bool) → (a || b) || b ≡ a || b
    twice true b = refl
    twice false true = refl
    twice false false = refl

-- An entry held by a for task t of instance i is of that instance and that task.
held-parts : (i t a : ℕ) (e : Entry) → held_of i t a e ≡ true → (are_in_order i e ≡ true) × (e.task ≡ t)
unfolding held_of of_task
held-parts i t a e h =
    let b = both (are_in_order i e && eqb e.task t) (is_held_by a e.standing) h in
    let d = both (are_in_order i e) (eqb e.task t) b.0 in
    (d.0, eqb-true _ _ d.1)

module _ (i t a : ℕ) where
  turned-held : (e : Entry) → held_of i t a e ≡ true → (m : Set)
      → cond (are_in_order i (turned i t a e) && is_done (turned i t a e).standing) (plus m (turned i t a e).task) m ≡ plus m t
  unfolding turned are_in_order is_done
  turned-held e h m = let p = held-parts i t a e h in rw (h, p.0) (ap (plus m) p.1)

  turned-not : (e : Entry) → held_of i t a e ≡ false → turned i t a e ≡ e
  unfolding turned
  turned-not e h = rw h

  all_done : (es : List Entry) → tasks_done i (each (turned i t a) es) ≡ cond (some (held_of i t a) es) (plus (tasks_done i es) t) (tasks_done i es)
  unfolding tasks_done tasks_where each some
  all_done [] = refl
  all_done (e ∷ es) = go (held_of i t a e) refl (all_done es)
    where
      go : (b : Bool) → held_of i t a e ≡ b → tasks_done i (each (turned i t a) es) ≡ cond (some (held_of i t a) es) (plus (tasks_done i es) t) (tasks_done i es)
          → cond (are_in_order i (turned i t a e) && is_done (turned i t a e).standing) (plus (tasks_done i (each (turned i t a) es)) (turned i t a e).task)
          (tasks_done i (each (turned i t a) es))
          ≡ cond (held_of i t a e || some (held_of i t a) es)
          (plus (cond (are_in_order i e && is_done e.standing) (plus (tasks_done i es) e.task) (tasks_done i es)) t)
          (cond (are_in_order i e && is_done e.standing) (plus (tasks_done i es) e.task) (tasks_done i es))
      go true h q =
          turned-held e h (tasks_done i (each (turned i t a) es)) ∙ ap (λ (m : Set). plus m t) q ∙ again (some (held_of i t a) es)
          ∙ ap₂ (λ (b f : Bool). cond (b || some (held_of i t a) es) (plus (cond f (plus (tasks_done i es) e.task) (tasks_done i es)) t)
          (cond f (plus (tasks_done i es) e.task) (tasks_done i es))) (sym h) (sym (held-not-done i t a e h))
        where
          again : (s : Bool) → plus (cond s (plus (tasks_done i es) t) (tasks_done i es)) t ≡ plus (tasks_done i es) t
          again true = plus-twice (tasks_done i es) t
          again false = refl
      go false h q =
          ap (λ (x : Entry). cond (are_in_order i x && is_done x.standing) (plus (tasks_done i (each (turned i t a) es)) x.task)
          (tasks_done i (each (turned i t a) es))) (turned-not e h)
          ∙ ap (λ (m : Set). cond (are_in_order i e && is_done e.standing) (plus m e.task) m) q ∙
          two-tasks (are_in_order i e && is_done e.standing) (some (held_of i t a) es) (tasks_done i es) e.task t
          ∙ ap (λ (b : Bool). cond (b || some (held_of i t a) es)
          (plus (cond (are_in_order i e && is_done e.standing) (plus (tasks_done i es) e.task) (tasks_done i es)) t)
          (cond (are_in_order i e && is_done e.standing) (plus (tasks_done i es) e.task) (tasks_done i es))) (sym h)

  pub done-turned : (es : List Entry) → some (held_of i t a) es ≡ true → tasks_done i (each (turned i t a) es) ≡ plus (tasks_done i es) t
  done-turned es h = all_done es ∙ ap (λ (b : Bool). cond b (plus (tasks_done i es) t) (tasks_done i es)) h

  -- If the subject does not hold the task, nothing changes.
  pub none-turned : (es : List Entry) → some (held_of i t a) es ≡ false → each (turned i t a) es ≡ es
  unfolding each some
  none-turned [] h = refl
  none-turned (e ∷ es) h = let o = or-none (held_of i t a e) (some (held_of i t a) es) h in
      ap₂ (λ (x : Entry) (xs : List Entry). x ∷ xs) (turned-not e o.0) (none-turned es o.1)

some-each : (f : ℕ → Entry) (q : Entry → Bool) (p : ℕ → Bool) → ((x : ℕ) → q (f x) ≡ p x) → (xs : List ℕ) → some q (each f xs) ≡ some p xs
unfolding some each
some-each f q p h [] = refl
some-each f q p h (x ∷ xs) = ap₂ (λ (a b : Bool). a || b) (h x) (some-each f q p h xs)

-- Some entry of the instance is held by the subject for the task exactly if a payload fits the key.
pub held_fits : (l : List ℕ) → Woven l → (i t a : ℕ) → i < 64 → t < 64 → a < 128 → any_fits (2 * t + 128 * a) l i ≡ some (held_of i t a) (entries_in l i)
held_fits l s i t a hi ht ha =
    sym (some_same (held_of i t a) (entries-bag l s i hi) ∙
    some-each (entry_from i) (held_of i t a) (λ p. eqb (p % 16384) (2 * t + 128 * a)) (λ p. held-key i t a p ht ha) (payloads_in l i))

-- ---- The loop of `turn`. Its invariant `Turning`: the entries passed so far are marked as done if they fit, and those ahead are unchanged.
abbrev pub fitting : ℕ → List ℕ → Bool
fitting key xs = some (λ p. eqb (p % 16384) key) xs

or_nothing : (key : ℕ) (b : Bool) → b || fitting key [] ≡ b
unfolding some
or_nothing key true = refl
or_nothing key false = refl

nothing_left : (l : List ℕ) (h n : ℕ) → n ≡ 0 → stack_of l h n ≡ []
unfolding stack_of
nothing_left l h n e = rw e

-- h is the next entry, n the number of entries from it on, and `hit` says whether an entry that was passed fitted the key.
pub record Turning (i key : ℕ) (l₀ l : List ℕ) (h n : ℕ) (hit : Bool) : Type 0 where
  pub room : length l ≡ length l₀
  pub within : n ≤ count_of (chain_word l₀ i)
  pub here : h ≡ step_to l₀ (head_of (chain_word l₀ i)) (count_of (chain_word l₀ i) - n)
  pub cells : (m : ℕ) → m < 196 → get_or l m 0 ≡ get_or l₀ m 0
  pub ahead : (a : ℕ) → count_of (chain_word l₀ i) - n ≤ a → a < count_of (chain_word l₀ i) → word_at l (step_to l₀ (head_of (chain_word l₀ i)) a) ≡ word_at l₀ (step_to l₀ (head_of (chain_word l₀ i)) a)
  pub behind : (a : ℕ) → a < count_of (chain_word l₀ i) - n → word_at l (step_to l₀ (head_of (chain_word l₀ i)) a) ≡ turned_word key (word_at l₀ (step_to l₀ (head_of (chain_word l₀ i)) a))
  pub others : (e : ℕ) → 0 < e → (owner_of (word_at l₀ e) ≡ i → ⊥) → word_at l e ≡ word_at l₀ e
  pub hits : hit || fitting key (stack_of l₀ h n) ≡ any_fits key l₀ i

pub turn-begins : (i key : ℕ) (l : List ℕ) (x : ℕ) → x ≡ chain_word l i → Turning i key l l (head_of x) (count_of x) false
unfolding step_to payloads_in
turn-begins i key l x e =
    let z : count_of (chain_word l i) - count_of (chain_word l i) ≡ 0 = omega arith in
    rw e (record {
      room = refl;
      within = omega arith;
      here = rw z;
      cells = λ m h. refl;
      ahead = λ a h g. refl;
      behind = λ a h. let q : ⊥ = omega arith in absurd q;
      others = λ e p d. refl;
      hits = refl;
    })

module _ (i key : ℕ) (l₀ l : List ℕ) (h n : ℕ) (hit : Bool) (hi : i < 64) (z : key % 2 ≡ 0) (room : length l₀ ≡ orders_words) (wov : Woven l₀)
    (s : Turning i key l₀ l h n hit) where
  -- The number of entries of the chain, its newest entry, and the entry after the first a.
  abbrev c : ℕ
  c = count_of (chain_word l₀ i)

  abbrev head : ℕ
  head = head_of (chain_word l₀ i)

  abbrev at : ℕ → ℕ
  at a = step_to l₀ head a

  fine : (a : ℕ) → a < c → Fine l₀ i (mark_of l₀) (at a)
  fine a less = fine-at l₀ (Fine l₀ i (mark_of l₀)) head c a less (wov.chain i (omega arith))

  two-places : (a b : ℕ) → a < b → b < c → at a ≡ at b → ⊥
  two-places a b less le = apart l₀ (Fine l₀ i (mark_of l₀)) (λ x f. f.0) head c a b less (omega arith) (wov.chain i (omega arith))

  -- ---- One turn.
  module _ (k w v less : ℕ) (some_left : n ≡ suc less) (first : 0 < k) (same : 0 < h → h ≤ 2048 → k ≡ h) (ew : w ≡ word_at l k) (ev : v ≡ turned_word key w) where
    its-fine : Fine l₀ i (mark_of l₀) (at (c - n))
    its-fine = let b = s.within in fine (c - n) (omega arith)

    is-here : k ≡ at (c - n)
    is-here =
        let e = s.here in
        let a : 0 < at (c - n) = its-fine.0 in
        let b : at (c - n) ≤ mark_of l₀ = its-fine.1.0 in
        let m = wov.mark in
        let p : 0 < h = omega arith in
        let q : h ≤ 2048 = omega arith in
        same p q ∙ e

    its-word : w ≡ word_at l₀ (at (c - n))
    its-word = let b = s.within in ew ∙ ap (word_at l) is-here ∙ s.ahead (c - n) (omega arith) (omega arith)

    abbrev next : List ℕ
    next = set l (195 + k) v

    other_word : (e : ℕ) → (e ≡ k → ⊥) → word_at next e ≡ word_at l e
    other_word e d = get_or-set_other l (195 + k) (195 + e) v 0 (λ q. d (omega arith))

    this-word : word_at next k ≡ turned_word key (word_at l₀ (at (c - n)))
    this-word =
        get_or-set_same l (195 + k) v 0
        (let r = s.room in let e = is-here in let b : at (c - n) ≤ mark_of l₀ = its-fine.1.0 in let m = wov.mark in omega arith)
        ∙ ev ∙ ap (turned_word key) its-word

    turned-behind : (a : ℕ) → a < c - less → word_at next (at a) ≡ turned_word key (word_at l₀ (at a))
    turned-behind a under = go (eqb a (c - n)) refl
      where
        go : (b : Bool) → eqb a (c - n) ≡ b → word_at next (at a) ≡ turned_word key (word_at l₀ (at a))
        go true e = let q = eqb-true a (c - n) e in rw q (ap (word_at next) (sym is-here) ∙ this-word)
        go false e =
            let q = eqb-false a (c - n) e in
            let b = s.within in
            other_word (at a) (λ d. two-places a (c - n) (omega arith) (omega arith) (d ∙ is-here)) ∙ s.behind a (omega arith)

    one_hit : (eqb (payload_of w % 16384) key || hit) || fitting key (stack_of l₀ (link_of w) less) ≡ any_fits key l₀ i
    unfolding some
    one_hit =
        turn-round (eqb (payload_of w % 16384) key) hit (fitting key (stack_of l₀ (link_of w) less))
        ∙ ap (λ (x : ℕ). hit || (eqb (payload_of x % 16384) key || fitting key (stack_of l₀ (link_of x) less))) (its-word ∙ ap (word_at l₀) (sym s.here))
        ∙ sym (ap (λ (xs : List ℕ). hit || fitting key xs) (stack-turn l₀ h n less (omega arith))) ∙ s.hits
      where
        turn-round : (a b d : Bool) → (a || b) || d ≡ b || (a || d)
        turn-round true true d = refl
        turn-round true false d = refl
        turn-round false b d = refl

    pub turns-on : Turning i key l₀ next (link_of w) less (eqb (payload_of w % 16384) key || hit)
    turns-on =
        let b = s.within in
        record {
          room = length-set l (195 + k) v ∙ s.room;
          within = omega arith;
          here = let e : c - less ≡ suc (c - n) = omega arith in ap link_of its-word ∙ sym (ap at e ∙ step-next l₀ head (c - n) (at (c - n)) refl);
          cells = λ m under. get_or-set_other l (195 + k) m v 0 (λ q. omega arith) ∙ s.cells m under;
          ahead = λ a le under. other_word (at a) (λ d. two-places (c - n) a (omega arith) under (sym (d ∙ is-here))) ∙ s.ahead a (omega arith) under;
          behind = turned-behind;
          others = λ e p d. other_word e (λ q. d (ap (λ (x : ℕ). owner_of (word_at l₀ x)) (q ∙ is-here) ∙ its-fine.1.1)) ∙ s.others e p d;
          hits = one_hit;
        }

  -- ---- The end.
  module _ (none_left : n ≡ 0) where
    whole-way : (a : ℕ) → a < c → word_at l (at a) ≡ turned_word key (word_at l₀ (at a))
    whole-way a less = s.behind a (omega arith)

    same-open : open_of l ≡ open_of l₀
    same-open = s.cells 1 (omega arith)

    same-mark : mark_of l ≡ mark_of l₀
    same-mark = s.cells 0 (omega arith)

    same-chain : (j : ℕ) → j ≤ 65 → chain_word l j ≡ chain_word l₀ j
    same-chain j hj = chain_same l₀ l j same-open (s.cells (66 + j) (omega arith))

    same-link : (a : ℕ) → a < c → link_of (word_at l (at a)) ≡ link_of (word_at l₀ (at a))
    same-link a less = ap link_of (whole-way a less) ∙ turned-link key (word_at l₀ (at a)) z

    same-steps : (a : ℕ) → a ≤ c → step_to l head a ≡ at a
    same-steps a le = steps-same l₀ l head a (λ b less. same-link b (omega arith))

    own-way : Linked l (Fine l i (mark_of l)) head c
    own-way =
        let e : c + 0 ≡ c = omega arith in
        rw e at (linked-join l (Fine l i (mark_of l)) head c 0 front (same-steps c (omega arith) ∙ last))
      where
        front : (a : ℕ) → a < c → Fine l i (mark_of l) (step_to l head a)
        front a less =
            let f = fine a less in
            rw (same-steps a (omega arith), same-mark) (f.0, (f.1.0, ap owner_of (whole-way a less) ∙ turned-owner key (word_at l₀ (at a)) z ∙ f.1.1))

        last : at c ≡ 0
        last = let e : c - c ≡ 0 = omega arith in rw e at (linked-step l₀ (Fine l₀ i (mark_of l₀)) head c c (omega arith) (wov.chain i (omega arith)))

    other-kept : (j x : ℕ) → (j ≡ i → ⊥) → Fine l₀ j (mark_of l₀) x → word_at l x ≡ word_at l₀ x
    other-kept j x d f = s.others x f.0 (λ e. d (sym f.1.1 ∙ e))

    way-after : (j : ℕ) → j ≤ 65 → Linked l (Fine l j (mark_of l)) (head_of (chain_word l j)) (count_of (chain_word l j))
    way-after j hj = go (eqb j i) refl
      where
        go : (b : Bool) → eqb j i ≡ b → Linked l (Fine l j (mark_of l)) (head_of (chain_word l j)) (count_of (chain_word l j))
        go true e =
            let same = eqb-true j i e in
            rw same (relink l (Fine l i (mark_of l)) head (head_of (chain_word l i)) c (count_of (chain_word l i)) (ap head_of (same-chain i (omega arith)))
            (ap count_of (same-chain i (omega arith))) own-way)
        go false e =
            let other = eqb-false j i e in
            relink l (Fine l j (mark_of l)) (head_of (chain_word l₀ j)) (head_of (chain_word l j)) (count_of (chain_word l₀ j)) (count_of (chain_word l j))
            (ap head_of (same-chain j hj)) (ap count_of (same-chain j hj))
            (linked-same l₀ l (Fine l₀ j (mark_of l₀)) (Fine l j (mark_of l)) (λ x f. other-kept j x other f) (λ x f. rw (other-kept j x other f, same-mark) f)
            (head_of (chain_word l₀ j)) (count_of (chain_word l₀ j)) (wov.chain j hj))

    others-after : (j : ℕ) → j ≤ 65 → (j ≡ i → ⊥) → payloads_in l j ≡ payloads_in l₀ j
    others-after j hj d =
        payloads-at l j (head_of (chain_word l₀ j)) (count_of (chain_word l₀ j)) (ap head_of (same-chain j hj)) (ap count_of (same-chain j hj))
        ∙ stack_same l₀ l (Fine l₀ j (mark_of l₀)) (λ x f. other-kept j x d f) (head_of (chain_word l₀ j)) (count_of (chain_word l₀ j)) (wov.chain j hj)
        ∙ sym (payloads-at l₀ j (head_of (chain_word l₀ j)) (count_of (chain_word l₀ j)) refl refl)

    stack-turned : (x m : ℕ) → ((a : ℕ) → a < m → word_at l (step_to l₀ x a) ≡ turned_word key (word_at l₀ (step_to l₀ x a))) →
        stack_of l x m ≡ each (turned_load key) (stack_of l₀ x m)
    unfolding stack_of step_to each
    stack-turned x zero all = refl
    stack-turned x (suc m) all =
        let e = all zero (omega arith) in
        ap₂ (λ (p : ℕ) (ps : List ℕ). p ∷ ps) (ap payload_of e ∙ turned-load key (word_at l₀ x) z)
        (ap (λ (y : ℕ). stack_of l y m) (ap link_of e ∙ turned-link key (word_at l₀ x) z) ∙
        stack-turned (link_of (word_at l₀ x)) m (λ a less. all (suc a) (omega arith)))

    pub turned-all : Turned i key l₀ l × (hit ≡ any_fits key l₀ i)
    turned-all = (
      record {
        still = record {
          woven = record {
            mark = rw same-mark wov.mark;
            sum =
                sum_same (λ j. count_of (chain_word l j)) (λ j. count_of (chain_word l₀ j)) 66 (λ j less. ap count_of (same-chain j (omega arith))) ∙ wov.sum ∙
                sym same-mark;
            chain = way-after;
          };
          beside = record {
            room = s.room;
            opens = same-open;
            templates = λ j less. s.cells (2 + j) (omega arith);
            dones = λ j less. s.cells (132 + j) (omega arith);
          };
          others = λ j less d. others-after j (omega arith) d;
        };
        aside = others-after 65 (omega arith) (λ e. omega arith);
        own =
            payloads-at l i head c (ap head_of (same-chain i (omega arith))) (ap count_of (same-chain i (omega arith)))
            ∙ stack-turned head c whole-way ∙ sym (ap (each (turned_load key)) (payloads-at l₀ i head c refl refl));
      },
      sym (or_nothing key hit) ∙ ap (λ (xs : List ℕ). hit || fitting key xs) (sym (nothing_left l₀ h n none_left)) ∙ s.hits,
    )

-- Storing a word that does not fit changes nothing.
pub not-turned : (l : List ℕ) (key k w v : ℕ) → v ≡ turned_word key w → w ≡ word_at l k → eqb (payload_of w % 16384) key ≡ false → set l (195 + k) v ≡ l
unfolding turned_word
not-turned l key k w v ev ew e = ap (set l (195 + k)) (ev ∙ ap (λ (b : Bool). cond b (w + 64) w) e ∙ ew) ∙ set-get_or l (195 + k) 0
