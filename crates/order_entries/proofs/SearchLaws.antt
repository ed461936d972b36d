-- The searches of the code, along one chain or through all words, decide what the definitions ask of all entries.
use Prim.Native.Nat.{ℕ, zero, suc, ◌*◌, ◌<◌}
use mathlib.Core.Bool.{Bool, true, false, ◌&&◌, ◌||◌}
use mathlib.Core.List.{List, [], ◌∷◌}
use mathlib.Core.Path.{◌≡◌, refl, sym, ap, ◌∙◌}
use native.Mathlib.Omega.{arith}
use borrow.Author.Tests.{eqb-true}
use lib.Dec.{eqb}
use Rattle.paper_lower.specs.Sets.{has}
use Rattle.paper_lower.specs.Lists.{there, some_number_below, some, Every}
use Rattle.paper_lower.proofs.ListLaws.{every_map, and-true}
use Rattle.paper_upper.specs.Orders.{Entry, is_held, is_held_by, are_in_order, held_of}
use Rattle.order_links.specs.Chains.{mark_of, open_of, template_at, head_of, count_of, chain_word, word_at, entry_of, walk_over, take_entry, entries_in, joined, Fine}
use Rattle.order_links.specs.Stacks.{Woven}
use Rattle.order_links.proofs.SameLaws.{some_same, same-turned}
use Rattle.order_links.proofs.ReadLaws.{there-open}
use Rattle.order_links.proofs.ChainLaws.{walk-fuse}
use Rattle.order_links.proofs.EntryLaws.{held-other}
use Rattle.order_links.proofs.SoundLaws.{Sound}
use Rattle.order_entries.specs.Reading.{orders_of, in_open_order, key_of, fits, take_fit, any_in, any_up_to}
use Rattle.order_entries.proofs.WordLaws.{fits-held, fits-holding, fits-holder, fits-user}
use Rattle.order_entries.proofs.OwnLaws.{own_alone, entries-own, entries-other, closed_none, some-joined}
use Rattle.order_entries.proofs.FlatLaws.{flat}

-- ---- A search along one chain.
none-some : (p : Entry → Bool) → false ≡ some p []
unfolding some
none-some p = refl

any-entries : (l : List ℕ) → Woven l → (i mask key : ℕ) (p : Entry → Bool) → i < 64 → ((w : ℕ) → fits mask key w ≡ p (entry_of w)) →
    any_in l i mask key ≡ some p (entries_in l i)
unfolding entries_in some
any-entries l s i mask key p h e =
    ap (walk_over (take_fit mask key) l (head_of (chain_word l i)) (count_of (chain_word l i))) (none-some p)
    ∙ walk-fuse (some p) take_entry (take_fit mask key) l (Fine l i (mark_of l)) (λ x es f. step (word_at l x) es) (head_of (chain_word l i))
    (count_of (chain_word l i)) [] (s.chain i (omega arith))
  where
    step : (w : ℕ) (es : List Entry) → (fits mask key w || some p es) ≡ some p (entry_of w ∷ es)
    step w es = ap (λ (b : Bool). b || some p es) (e w)

-- ---- A test that only entries of instance i can satisfy.
module _ (i : ℕ) (p : Entry → Bool) (other : (e : Entry) → are_in_order i e ≡ false → p e ≡ false) where
  some-skip : (e : Entry) (es : List Entry) → are_in_order i e ≡ false → some p (e ∷ es) ≡ some p es
  unfolding some
  some-skip e es h = rw (other e h)

  some-goes : (e : Entry) (es es' : List Entry) → some p es ≡ some p es' → some p (e ∷ es) ≡ some p (e ∷ es')
  unfolding some
  some-goes e es es' h = ap (λ (b : Bool). p e || b) h

  own-some : (l : List ℕ) → Woven l → i < 64 → some p (entries_in l i) ≡ some p (orders_of l).entries
  unfolding orders_of
  own-some l s h =
      sym (some_same p (same-turned (joined (entries_in l) 64)) ∙
      own_alone (some p) i some-skip some-goes (entries_in l) 64 h (λ j less d. entries-other l s i j less d))

-- Whether a subject holds a task of instance i is decided by the entries of i.
pub held-own : (l : List ℕ) → Woven l → (i t a : ℕ) → i < 64 → some (held_of i t a) (entries_in l i) ≡ some (held_of i t a) (orders_of l).entries
held-own l s i t a hi = own-some i (held_of i t a) (held-other i t a) l s hi

pub task-held : (l : List ℕ) → Woven l → (i t a : ℕ) → i < 64 → t < 64 → any_in l i 1048575 (key_of i t a) ≡ some (held_of i t a) (orders_of l).entries
task-held l s i t a hi ht = any-entries l s i 1048575 (key_of i t a) (held_of i t a) hi (λ w. fits-holding w i t a hi ht) ∙ held-own l s i t a hi

any-other : (i : ℕ) (e : Entry) → are_in_order i e ≡ false → (are_in_order i e && is_held e.standing) ≡ false
any-other i e h = rw h

pub one-held : (l : List ℕ) → Woven l → (i : ℕ) → i < 64 → any_in l i 127 i ≡ some (λ e. are_in_order i e && is_held e.standing) (orders_of l).entries
one-held l s i hi =
    any-entries l s i 127 i (λ e. are_in_order i e && is_held e.standing) hi (λ w. fits-held w i hi) ∙
    own-some i (λ e. are_in_order i e && is_held e.standing) (any-other i) l s hi

-- ---- Searches through all words.
below-same : (n : ℕ) (f g : ℕ → Bool) → ((i : ℕ) → i < n → f i ≡ g i) → some_number_below n f ≡ some_number_below n g
unfolding some_number_below
below-same zero f g h = refl
below-same (suc n) f g h = rw (h n (omega arith), below-same n f g (λ i l. h i (omega arith)))

pub any_held : (l : List ℕ) → Sound l → (a : ℕ) → a < 128 →
    any_up_to l (mark_of l) 1074782272 (8192 * a) ≡ some (λ e. is_held_by a e.standing) (orders_of l).entries
unfolding orders_of
any_held l s a h =
    flat l s 1074782272 (8192 * a) (λ e. is_held_by a e.standing) (λ w. fits-holder w a h)
    ∙ sym (some_same (λ e. is_held_by a e.standing) (same-turned (joined (entries_in l) 64)))

-- A test that asks for an open instance: an instance that has entries is open.
some-every : (p q : Entry → Bool) (es : List Entry) → Every (λ e. p e ≡ q e) es → some p es ≡ some q es
unfolding some
some-every p q [] h = refl
some-every p q (e ∷ es) h = rw (h.0, some-every p q es h.1)

in-open : (l : List ℕ) → Woven l → (u i : ℕ) → i < 64 →
    some (λ e. eqb e.user u) (entries_in l i) ≡ some (λ e. eqb e.user u && there (template_at l e.instance)) (entries_in l i)
unfolding are_in_order
in-open l s u i h = go (has (open_of l) i) refl
  where
    go : (b : Bool) → has (open_of l) i ≡ b →
        some (λ e. eqb e.user u) (entries_in l i) ≡ some (λ e. eqb e.user u && there (template_at l e.instance)) (entries_in l i)
    go true e =
        some-every (λ e. eqb e.user u) (λ e. eqb e.user u && there (template_at l e.instance)) (entries_in l i)
        (every_map (entries_in l i) (λ x own. sym (ap (λ (j : ℕ). eqb x.user u && there (template_at l j)) (eqb-true x.instance i own) ∙
        ap (λ (b : Bool). eqb x.user u && b) (there-open l i h ∙ e) ∙ and-true (eqb x.user u))) (entries-own l s i h))
    go false e = rw (closed_none l i h e) (none (λ e. eqb e.user u) (λ e. eqb e.user u && there (template_at l e.instance)))
      where
        none : (p q : Entry → Bool) → some p [] ≡ some q []
        none p q = sym (none-some p) ∙ none-some q

pub any_open : (l : List ℕ) → Sound l → (u : ℕ) → u < 1024 →
    any_up_to l (mark_of l) 2146435072 (1048576 * u) ≡ some (in_open_order (orders_of l) u) (orders_of l).entries
unfolding orders_of
any_open l s u h =
    flat l s 2146435072 (1048576 * u) (λ e. eqb e.user u) (λ w. fits-user w u h)
    ∙ some-joined (λ e. eqb e.user u) (entries_in l) 64
    ∙ below-same 64 (λ i. some (λ e. eqb e.user u) (entries_in l i)) (λ i. some (λ e. eqb e.user u && there (template_at l e.instance)) (entries_in l i))
    (λ i less. in-open l s.woven u i less)
    ∙ sym (some_same (λ e. eqb e.user u && there (template_at l e.instance)) (same-turned (joined (entries_in l) 64))
    ∙ some-joined (λ e. eqb e.user u && there (template_at l e.instance)) (entries_in l) 64)
