-- What `gather` collects, entry by entry along the chain of an instance, is what the definition computes from all entries.
use Prim.Native.Nat.{ℕ, ◌+◌, ◌/◌, ◌%◌, ◌≤◌, ◌<◌}
use mathlib.Core.Bool.{Bool, true, false, not, cond, ◌&&◌, ◌||◌}
use mathlib.Core.List.{List, [], ◌∷◌}
use mathlib.Core.Path.{◌≡◌, refl, sym, ap, ◌∙◌}
use native.Mathlib.Omega.{arith}
use lib.Dec.{eqb}
use Rattle.paper_lower.specs.Sets.{plus}
use Rattle.paper_lower.specs.Lists.{some, many, keep}
use Rattle.paper_upper.specs.Orders.{Standing, Entry, is_held, is_done, are_in_order, of_task, of_user, tasks_where, tasks_by, tasks_done, tasks_others}
use Rattle.paper_upper.specs.Orders.Standing.{held, done}
use Rattle.order_links.specs.Chains.{mark_of, done_word, head_of, count_of, chain_word, owner_of, word_at, standing_of, entry_of, walk_over, take_entry, entries_in, joined, Fine}
use Rattle.order_links.specs.Stacks.{Woven}
use Rattle.paper_upper.proofs.OrderedLaws.{Same}
use Rattle.order_links.proofs.SameLaws.{some_same, tasks-same, many-kept, same-turned}
use Rattle.order_links.proofs.ChainLaws.{is-done, of-instance, walk-fuse}
use Rattle.order_links.proofs.ActLaws.{Whole}
use Rattle.sets.specs.declared.Set.{Set}
use Rattle.order_entries.specs.declared.Gathered.{Gathered}
use Rattle.order_entries.specs.Reading.{orders_of}
use Rattle.order_entries.specs.Gathering.{digit, set_of, gathered_of, taken_within, take_in}
use Rattle.order_entries.proofs.OwnLaws.{own_alone, entries-other}
use Rattle.order_entries.proofs.FigureLaws.{done-own}

-- What is gathered, with one more entry of any instance.
unfoldable with_entry : ℕ → ℕ → ℕ → Entry → Gathered → Gathered
with_entry i u t e g = cond (are_in_order i e) (taken_within u t e.user e.task (is_done e.standing) g) g

digit_or : (a b : Bool) → cond a 1 (digit b) ≡ digit (a || b)
digit_or true b = refl
digit_or false b = refl

one-held : (x : Standing) (b y : Bool) → cond (b && not (is_done x)) 1 (digit y) ≡ digit ((b && is_held x) || y)
unfolding is_held is_done
one-held (held a) b y = digit_or (b && true) y
one-held done b y = digit_or (b && false) y

one_more : (b : Bool) (e : Entry) (es : List Entry) → cond b (many es + 1) (many es) ≡ many (cond b (e ∷ es) es)
unfolding many
one_more true e es = omega arith
one_more false e es = refl

module _ (i u t : ℕ) (d : Set) where
  -- What is gathered, with d as the set of done tasks.
  unfoldable gathered_with : List Entry → Gathered
  gathered_with es =
      record {
        mine = set_of (tasks_by i u es);
        done = d;
        others = set_of (tasks_others i u es);
        times = many (keep (of_task i t) es);
        held = digit (some (λ e. of_task i t e && is_held e.standing) es);
      }

  -- The same for an entry e before es, where b says whether e is of the instance.
  gathered_if : Bool → Entry → List Entry → Gathered
  gathered_if b e es =
      record {
        mine = set_of (cond (b && eqb e.user u) (plus (tasks_by i u es) e.task) (tasks_by i u es));
        done = d;
        others = set_of (cond (b && not (eqb e.user u)) (plus (tasks_others i u es) e.task) (tasks_others i u es));
        times = many (cond (b && eqb e.task t) (e ∷ keep (of_task i t) es) (keep (of_task i t) es));
        held = digit (((b && eqb e.task t) && is_held e.standing) || some (λ e. of_task i t e && is_held e.standing) es);
      }

  gathered-if : (b : Bool) (e : Entry) (es : List Entry) →
      cond b (taken_within u t e.user e.task (is_done e.standing) (gathered_with es)) (gathered_with es) ≡ gathered_if b e es
  unfolding gathered_if gathered_with taken_within
  gathered-if true e es = λ x. record {
    mine = set_of (cond (eqb e.user u) (plus (tasks_by i u es) e.task) (tasks_by i u es));
    done = d;
    others = set_of (cond (not (eqb e.user u)) (plus (tasks_others i u es) e.task) (tasks_others i u es));
    times = one_more (eqb e.task t) e (keep (of_task i t) es) x;
    held = one-held e.standing (eqb e.task t) (some (λ e. of_task i t e && is_held e.standing) es) x;
  }
  gathered-if false e es = refl

  entry_more : (e : Entry) (es : List Entry) → with_entry i u t e (gathered_with es) ≡ gathered_with (e ∷ es)
  unfolding with_entry gathered_if gathered_with tasks_by tasks_others tasks_where of_user of_task some keep
  entry_more e es = gathered-if (are_in_order i e) e es

  gather-skip : (e : Entry) (es : List Entry) → are_in_order i e ≡ false → gathered_with (e ∷ es) ≡ gathered_with es
  unfolding with_entry
  gather-skip e es h = sym (entry_more e es) ∙ rw h

  gather-goes : (e : Entry) (es es' : List Entry) → gathered_with es ≡ gathered_with es' → gathered_with (e ∷ es) ≡ gathered_with (e ∷ es')
  gather-goes e es es' h = sym (entry_more e es) ∙ ap (with_entry i u t e) h ∙ entry_more e es'

  gather-step : (w : ℕ) (es : List Entry) → i < 64 → owner_of w ≡ i → take_in u t 0 w (gathered_with es) ≡ gathered_with (entry_of w ∷ es)
  unfolding with_entry entry_of
  gather-step w es h o =
      sym (ap (λ (b : Bool). cond b (taken_within u t (w / 1048576 % 1024) (w / 128 % 64) (is_done (standing_of w)) (gathered_with es)) (gathered_with es))
      (of-instance i w h o) ∙ ap (λ (b : Bool). taken_within u t (w / 1048576 % 1024) (w / 128 % 64) b (gathered_with es)) (is-done w))
      ∙ entry_more (entry_of w) es

  gather_none : ◌≡◌ {A = Gathered} (record { mine = set_of 0; done = d; others = set_of 0; times = 0; held = 0 }) (gathered_with [])
  unfolding gathered_with tasks_by tasks_others tasks_where many keep some
  gather_none = refl

  -- It does not depend on the order of the entries.
  gather-same : {xs ys : List Entry} → Same xs ys → gathered_with xs ≡ gathered_with ys
  unfolding gathered_with tasks_by tasks_others
  gather-same h = λ x. record {
    mine = set_of (tasks-same (of_user i u) h x);
    done = d;
    others = set_of (tasks-same (λ e. are_in_order i e && not (eqb e.user u)) h x);
    times = many-kept (of_task i t) h x;
    held = digit (some_same (λ e. of_task i t e && is_held e.standing) h x);
  }

  gather-walk : (l : List ℕ) → Woven l → i < 64 →
      walk_over (take_in u t) l (head_of (chain_word l i)) (count_of (chain_word l i)) (record { mine = set_of 0; done = d; others = set_of 0; times = 0; held = 0 }) ≡
      gathered_with (orders_of l).entries
  unfolding entries_in orders_of
  gather-walk l s h =
      ap (walk_over (take_in u t) l (head_of (chain_word l i)) (count_of (chain_word l i))) gather_none
      ∙ walk-fuse gathered_with take_entry (take_in u t) l (Fine l i (mark_of l)) (λ x es f. gather-step (word_at l x) es h f.1.1) (head_of (chain_word l i))
      (count_of (chain_word l i)) [] (s.chain i (omega arith))
      ∙ sym (gather-same (same-turned (joined (entries_in l) 64)) ∙
      own_alone gathered_with i gather-skip gather-goes (entries_in l) 64 h (λ j less d. entries-other l s i j less d))

  gathered-all : (es : List Entry) → d.bits ≡ tasks_done i es → gathered_with es ≡ gathered_of i u t es
  unfolding gathered_with gathered_of
  gathered-all es e = λ x. record {
    mine = set_of (tasks_by i u es);
    done = set_of (e x);
    others = set_of (tasks_others i u es);
    times = many (keep (of_task i t) es);
    held = digit (some (λ e. of_task i t e && is_held e.standing) es);
  }

  -- Following the chain of the instance gives what the definition computes from all entries.
  pub gather-all : (l : List ℕ) → Whole l → i < 64 → d.bits ≡ done_word l i →
      walk_over (take_in u t) l (head_of (chain_word l i)) (count_of (chain_word l i)) (record { mine = set_of 0; done = d; others = set_of 0; times = 0; held = 0 }) ≡
      gathered_of i u t (orders_of l).entries
  gather-all l s h e = gather-walk l s.woven h ∙ gathered-all (orders_of l).entries (e ∙ done-own l s i h)

-- Each entry adds at most one to the number of entries of the task.
pub times_more : (u t w : ℕ) (g : Gathered) → (take_in u t 0 w g).times ≤ g.times + 1
unfolding taken_within
times_more u t w g = go (eqb (w / 128 % 64) t)
  where
    go : (b : Bool) → cond b (g.times + 1) g.times ≤ g.times + 1
    go true = omega arith
    go false = omega arith
