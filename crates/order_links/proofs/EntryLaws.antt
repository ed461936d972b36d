-- Entries and payloads: the entries of a chain, the oldest first, are its payloads in
-- reverse order, read as entries; and which payloads are held by a subject, or done.
use Prim.Native.Nat.{ℕ, zero, suc, ◌+◌, ◌*◌, ◌/◌, ◌%◌, ◌<◌}
use mathlib.Core.Bool.{Bool, true, false, not, cond, ◌&&◌, true≢false}
use mathlib.Core.List.{List, [], ◌∷◌}
use mathlib.Core.Path.{◌≡◌, refl, sym, ap, ◌∙◌}
use native.Mathlib.Omega.{arith}
use borrow.Author.Tests.{eq-eqb, ne_eqb, eqb-true, eqb-false}
use lib.Dec.{eqb}
use Rattle.paper_lower.specs.Lists.{many, add, keep, each}
use Rattle.paper_lower.proofs.ListLaws.{and-false, both}
use Rattle.paper_upper.specs.Orders.{Standing, Entry, entry, is_done, is_held_by, are_in_order, of_task, held_of, tasks_where, tasks_done}
use Rattle.paper_upper.specs.Orders.Standing.{held, done}
use Rattle.paper_upper.specs.Requests.{turned}
use Rattle.order_links.specs.Chains.{mark_of, head_of, count_of, chain_word, standing_of, entry_of, owner_of, link_of, word_at, walk_over, take_entry, entries_in, Fine, Linked}
use Rattle.order_links.specs.Stacks.{payload_of, stack_of, payloads_in, Woven, rev_onto, entry_from, turned_load}
use Rattle.paper_upper.proofs.OrderedLaws.{Same, same_refl, same-path}
use Rattle.order_links.proofs.SameLaws.{same-turned, tasks-same}
use Rattle.paper_upper.proofs.OrderedLaws.Same.{one, swap, then}

-- ---- Entries and payloads.

-- The same bits, read from a word or from its payload.
user-bits : (x : ℕ) → x % 16777216 / 16384 % 1024 ≡ x / 16384 % 1024
user-bits x = let e : x % 16777216 / 16384 ≡ x / 16384 % 1024 = omega arith in rw e (omega arith)

task-bits : (x : ℕ) → x % 16777216 / 2 % 64 ≡ x / 2 % 64
task-bits x = let e : x % 16777216 % 128 ≡ x % 128 = omega arith in omega arith

subject-bits : (x : ℕ) → x % 16777216 / 128 % 128 ≡ x / 128 % 128
subject-bits x = let e : x % 16777216 % 16384 ≡ x % 16384 = omega arith in omega arith

pub entry-from : (i w : ℕ) → i < 64 → owner_of w ≡ i → entry_of w ≡ entry_from i (payload_of w)
unfolding entry_of standing_of entry_from
entry-from i w h e =
    let a : w % 64 ≡ i = omega arith in
    let b : payload_of w / 16384 % 1024 ≡ w / 1048576 % 1024 =
    user-bits (w / 64) ∙ ap (λ (x : ℕ). x % 1024) (let q : w / 64 / 16384 ≡ w / 1048576 = omega arith in q) in
    let c : payload_of w / 2 % 64 ≡ w / 128 % 64 = task-bits (w / 64) ∙ ap (λ (x : ℕ). x % 64) (let q : w / 64 / 2 ≡ w / 128 = omega arith in q) in
    let d : payload_of w % 2 ≡ w / 64 % 2 = omega arith in
    let f : payload_of w / 128 % 128 ≡ w / 8192 % 128 = subject-bits (w / 64) ∙ ap (λ (x : ℕ). x % 128) (let q : w / 64 / 128 ≡ w / 8192 = omega arith in q) in
    rw (a, b, c, d, f)

walk-stack : (l : List ℕ) (i m : ℕ) → i < 64 → (h n : ℕ) (es : List Entry) → Linked l (Fine l i m) h n →
    walk_over take_entry l h n es ≡ rev_onto (each (entry_from i) (stack_of l h n)) es
unfolding walk_over stack_of rev_onto each
walk-stack l i m hi h zero es p = refl
walk-stack l i m hi h (suc n) es p =
    walk-stack l i m hi (link_of (word_at l h)) n (entry_of (word_at l h) ∷ es) p.1
    ∙ ap (λ (e : Entry). rev_onto (each (entry_from i) (stack_of l (link_of (word_at l h)) n)) (e ∷ es)) (entry-from i (word_at l h) hi p.0.1.1)

pub entries-stack : (l : List ℕ) → Woven l → (i : ℕ) → i < 64 → entries_in l i ≡ rev_onto (each (entry_from i) (payloads_in l i)) []
unfolding entries_in payloads_in
entries-stack l s i h = walk-stack l i (mark_of l) h (head_of (chain_word l i)) (count_of (chain_word l i)) [] (s.chain i (omega arith))

pub entries-bag : (l : List ℕ) → Woven l → (i : ℕ) → i < 64 → Same (entries_in l i) (each (entry_from i) (payloads_in l i))
entries-bag l s i h = then (same-path (entries-stack l s i h)) (same-turned (each (entry_from i) (payloads_in l i)))

pub entries-same : (l l' : List ℕ) → Woven l → Woven l' → (i : ℕ) → i < 64 → payloads_in l' i ≡ payloads_in l i → entries_in l' i ≡ entries_in l i
entries-same l l' s s' i h e = entries-stack l' s' i h ∙ ap (λ (xs : List ℕ). rev_onto (each (entry_from i) xs) []) e ∙ sym (entries-stack l s i h)

many-stack : (l : List ℕ) (h n : ℕ) → many (stack_of l h n) ≡ n
unfolding many stack_of
many-stack l h zero = refl
many-stack l h (suc n) = ap suc (many-stack l (link_of (word_at l h)) n)

pub many-payloads : (l : List ℕ) (i : ℕ) → many (payloads_in l i) ≡ count_of (chain_word l i)
unfolding payloads_in
many-payloads l i = many-stack l (head_of (chain_word l i)) (count_of (chain_word l i))

many-walk : (l : List ℕ) (h n : ℕ) (es : List Entry) → many (walk_over take_entry l h n es) ≡ n + many es
unfolding walk_over many
many-walk l h zero es = omega arith
many-walk l h (suc n) es = let e = many-walk l (link_of (word_at l h)) n (entry_of (word_at l h) ∷ es) in omega arith

pub many-own : (l : List ℕ) (i : ℕ) → many (entries_in l i) ≡ count_of (chain_word l i)
unfolding entries_in many
many-own l i = many-walk l (head_of (chain_word l i)) (count_of (chain_word l i)) [] ∙ omega arith

-- ---- Reversed lists: an element added at one end is at the other after reversing, and `keep` and `each` commute with reversing.
add-onto : (xs ys : List Entry) (e : Entry) → rev_onto xs (add ys e) ≡ add (rev_onto xs ys) e
unfolding rev_onto add
add-onto [] ys e = refl
add-onto (x ∷ xs) ys e = add-onto xs (x ∷ ys) e

-- Reversing a list with an element added at its end gives that element first.
onto-add : (xs ys : List Entry) (e : Entry) → rev_onto (add xs e) ys ≡ e ∷ rev_onto xs ys
unfolding rev_onto add
onto-add [] ys e = refl
onto-add (x ∷ xs) ys e = onto-add xs (x ∷ ys) e

pub turned-add : (xs : List Entry) (e : Entry) → rev_onto (add xs e) [] ≡ e ∷ rev_onto xs []
turned-add xs e = onto-add xs [] e

pub last-onto : (xs : List Entry) (e : Entry) → rev_onto (e ∷ xs) [] ≡ add (rev_onto xs []) e
unfolding rev_onto add
last-onto xs e = add-onto xs [] e

keep-onto : (q : Entry → Bool) (xs ys : List Entry) → rev_onto (keep q xs) (keep q ys) ≡ keep q (rev_onto xs ys)
unfolding rev_onto keep
keep-onto q [] ys = refl
keep-onto q (x ∷ xs) ys = go (q x) refl (keep-onto q xs (x ∷ ys))
  where
    go : (b : Bool) → q x ≡ b → rev_onto (keep q xs) (keep q (x ∷ ys)) ≡ keep q (rev_onto xs (x ∷ ys)) →
        rev_onto (cond (q x) (x ∷ keep q xs) (keep q xs)) (keep q ys) ≡ keep q (rev_onto xs (x ∷ ys))
    go true e h = rw e (sym (ap (λ (b : Bool). rev_onto (keep q xs) (cond b (x ∷ keep q ys) (keep q ys))) e) ∙ h)
    go false e h = rw e (sym (ap (λ (b : Bool). rev_onto (keep q xs) (cond b (x ∷ keep q ys) (keep q ys))) e) ∙ h)

pub keep-turned : (q : Entry → Bool) (xs : List Entry) → rev_onto (keep q xs) [] ≡ keep q (rev_onto xs [])
unfolding keep
keep-turned q xs = keep-onto q xs []

each-onto : (g : Entry → Entry) (xs ys : List Entry) → rev_onto (each g xs) (each g ys) ≡ each g (rev_onto xs ys)
unfolding rev_onto each
each-onto g [] ys = refl
each-onto g (x ∷ xs) ys = each-onto g xs (x ∷ ys)

pub each-turned : (g : Entry → Entry) (xs : List Entry) → rev_onto (each g xs) [] ≡ each g (rev_onto xs [])
unfolding each
each-turned g xs = each-onto g xs []

pub keep-read : (f : ℕ → Entry) (q : ℕ → Bool) (p : Entry → Bool) → ((x : ℕ) → q x ≡ p (f x)) → (xs : List ℕ) → each f (keep q xs) ≡ keep p (each f xs)
unfolding keep each
keep-read f q p h [] = refl
keep-read f q p h (x ∷ xs) = rw (h x) (go (p (f x)) (keep-read f q p h xs))
  where
    go : (b : Bool) → each f (keep q xs) ≡ keep p (each f xs) →
        each f (cond b (x ∷ keep q xs) (keep q xs)) ≡ cond b (f x ∷ keep p (each f xs)) (keep p (each f xs))
    go true e = rw e
    go false e = e

pub each_read : (f : ℕ → Entry) (g : ℕ → ℕ) (h : Entry → Entry) → ((x : ℕ) → f (g x) ≡ h (f x)) → (xs : List ℕ) → each f (each g xs) ≡ each h (each f xs)
unfolding each
each_read f g h e [] = refl
each_read f g h e (x ∷ xs) = λ y. e x y ∷ each_read f g h e xs y

-- ---- The payload of a new entry.
low_bits : (t x : ℕ) → t < 64 → (t + 64 * x) % 64 ≡ t
low_bits t x h = omega arith

pub held-entry : (i u t a : ℕ) → u < 1024 → t < 64 → a < 128 → entry_from i (2 * t + 128 * a + 16384 * u) ≡ entry i u t (held a)
unfolding entry_from
held-entry i u t a hu ht ha =
    let b : (2 * t + 128 * a + 16384 * u) / 16384 % 1024 ≡ u = let q : (2 * t + 128 * a + 16384 * u) / 16384 ≡ u = omega arith in omega arith in
    let c : (2 * t + 128 * a + 16384 * u) / 2 % 64 ≡ t = let q : (2 * t + 128 * a + 16384 * u) / 2 ≡ t + 64 * (a + 128 * u) = omega arith in
    rw q (low_bits t (a + 128 * u) ht) in
    let d : (2 * t + 128 * a + 16384 * u) % 2 ≡ 0 = omega arith in
    let f : (2 * t + 128 * a + 16384 * u) / 128 % 128 ≡ a = let q : (2 * t + 128 * a + 16384 * u) / 128 ≡ a + 128 * u = omega arith in rw q (omega arith) in
    rw (b, c, d, f)

pub from-own : (i p : ℕ) → are_in_order i (entry_from i p) ≡ true
unfolding are_in_order entry_from
from-own i p = eq-eqb i i refl

-- ---- The payloads of task t held by subject a: those that fit the key 2 t + 128 a.
even : (p t a : ℕ) → p % 16384 ≡ 2 * t + 128 * a → p % 2 ≡ 0
even p t a e = omega arith

half-bits : (x : ℕ) → x % 128 / 2 ≡ x / 2 % 64
half-bits x = omega arith

cut-bits : (p : ℕ) → p % 16384 % 128 ≡ p % 128
cut-bits p = omega arith

task-part : (p : ℕ) → p % 16384 / 2 % 64 ≡ p / 2 % 64
task-part p = sym (half-bits (p % 16384)) ∙ rw (cut-bits p) (half-bits p)

low_part : (t a : ℕ) → t < 64 → (t + 64 * a) % 64 ≡ t
low_part t a h = omega arith

subject-part : (p : ℕ) → p % 16384 / 128 ≡ p / 128 % 128
subject-part p = omega arith

half-key : (t a : ℕ) → (2 * t + 128 * a) / 2 ≡ t + 64 * a
half-key t a = omega arith

subject-key : (t a : ℕ) → t < 64 → (2 * t + 128 * a) / 128 ≡ a
subject-key t a h = omega arith

key-parts : (p t a : ℕ) → t < 64 → a < 128 → p % 16384 ≡ 2 * t + 128 * a → (p / 2 % 64 ≡ t) × (p / 128 % 128 ≡ a)
key-parts p t a ht ha e =
    let x = task-part p in
    let y = subject-part p in
    let u = half-key t a in
    let v = subject-key t a ht in
    (sym x ∙ rw e (rw u (low_part t a ht)), sym y ∙ rw e v)

parts-key : (p t a : ℕ) → p % 2 ≡ 0 → p / 2 % 64 ≡ t → p / 128 % 128 ≡ a → p % 16384 ≡ 2 * t + 128 * a
parts-key p t a x y z =
    let q : p % 128 ≡ 2 * (p / 2 % 64) + p % 2 = omega arith in
    let r : p % 16384 ≡ 128 * (p / 128 % 128) + p % 128 = omega arith in
    omega arith

holder-is : (a p : ℕ) → is_held_by a (entry_from 0 p).standing ≡ (not (eqb (p % 2) 1) && eqb (p / 128 % 128) a)
unfolding is_held_by entry_from
holder-is a p = go (eqb (p % 2) 1)
  where
    go : (b : Bool) → is_held_by a (cond b done (held (p / 128 % 128))) ≡ (not b && eqb (p / 128 % 128) a)
    go true = refl
    go false = refl

pub held-key : (i t a p : ℕ) → t < 64 → a < 128 → held_of i t a (entry_from i p) ≡ eqb (p % 16384) (2 * t + 128 * a)
unfolding held_of of_task entry_from
held-key i t a p ht ha = rw (from-own i p, holder-is a p) (go (eqb (p / 2 % 64) t) refl (eqb (p % 2) 1) refl (eqb (p / 128 % 128) a) refl)
  where
    go : (x : Bool) → eqb (p / 2 % 64) t ≡ x → (y : Bool) → eqb (p % 2) 1 ≡ y → (z : Bool) → eqb (p / 128 % 128) a ≡ z →
        (x && (not y && z)) ≡ eqb (p % 16384) (2 * t + 128 * a)
    go true e true f z g = sym (ne_eqb _ _ (λ q. let o = eqb-true (p % 2) 1 f in let n = even p t a q in omega arith))
    go true e false f true g = let n = eqb-false (p % 2) 1 f in sym (eq-eqb _ _ (parts-key p t a (omega arith) (eqb-true _ _ e) (eqb-true _ _ g)))
    go true e false f false g = sym (ne_eqb _ _ (λ q. eqb-false _ _ g (key-parts p t a ht ha q).1))
    go false e y f z g = sym (ne_eqb _ _ (λ q. eqb-false _ _ e (key-parts p t a ht ha q).0))

done-load : (i p : ℕ) → p % 2 ≡ 0 → entry_from i (p + 1) ≡ entry i (p / 16384 % 1024) (p / 2 % 64) done
unfolding entry_from
done-load i p e =
    let a : (p + 1) / 16384 ≡ p / 16384 = omega arith in
    let b : (p + 1) / 2 ≡ p / 2 = omega arith in
    let c : (p + 1) % 2 ≡ 1 = omega arith in
    rw (a, b, c)

from_parts : (i p : ℕ) → entry i (p / 16384 % 1024) (p / 2 % 64) done ≡ entry (entry_from i p).instance (entry_from i p).user (entry_from i p).task done
unfolding entry_from
from_parts i p = refl

pub turned-read : (i t a p : ℕ) → t < 64 → a < 128 → entry_from i (turned_load (2 * t + 128 * a) p) ≡ turned i t a (entry_from i p)
unfolding turned_load turned
turned-read i t a p ht ha = rw (held-key i t a p ht ha) (go (eqb (p % 16384) (2 * t + 128 * a)) refl)
  where
    go : (b : Bool) → eqb (p % 16384) (2 * t + 128 * a) ≡ b →
        entry_from i (cond b (p + 1) p) ≡ cond b (entry (entry_from i p).instance (entry_from i p).user (entry_from i p).task done) (entry_from i p)
    go true e = done-load i p (even p t a (eqb-true _ _ e)) ∙ from_parts i p
    go false e = refl

pub held-other : (i t a : ℕ) (e : Entry) → are_in_order i e ≡ false → held_of i t a e ≡ false
unfolding held_of of_task
held-other i t a e h = rw h

pub turned-other : (i t a : ℕ) (e : Entry) → are_in_order i e ≡ false → turned i t a e ≡ e
unfolding turned
turned-other i t a e h = rw (held-other i t a e h)

-- ---- The done tasks do not depend on the order of entries, and an entry that is held adds none.
pub done-bag : (i : ℕ) {xs ys : List Entry} → Same xs ys → tasks_done i xs ≡ tasks_done i ys
unfolding tasks_done
done-bag i h = tasks-same (λ e. are_in_order i e && is_done e.standing) h

done_held : (i u t a : ℕ) (es : List Entry) → tasks_done i (entry i u t (held a) ∷ es) ≡ tasks_done i es
unfolding tasks_done tasks_where is_done
done_held i u t a es = rw (and-false (are_in_order i (entry i u t (held a))))

not_done : (a : ℕ) (s : Standing) → is_held_by a s ≡ true → is_done s ≡ false
unfolding is_held_by is_done
not_done a (held x) q = refl
not_done a done q = let z : ⊥ = true≢false (sym q) in absurd z

pub held-not-done : (i t a : ℕ) (e : Entry) → held_of i t a e ≡ true → (are_in_order i e && is_done e.standing) ≡ false
unfolding held_of
held-not-done i t a e h =
    ap (λ (b : Bool). are_in_order i e && b) (not_done a e.standing (both (of_task i t e) (is_held_by a e.standing) h).1) ∙ and-false (are_in_order i e)

pub same_add : (xs : List Entry) (e : Entry) → Same (add xs e) (e ∷ xs)
unfolding add
same_add [] e = same_refl (e ∷ [])
same_add (x ∷ xs) e = then (one (same_add xs e)) swap

pub done-add : (i u t a : ℕ) (es : List Entry) → tasks_done i (add es (entry i u t (held a))) ≡ tasks_done i es
done-add i u t a es = done-bag i (same_add es (entry i u t (held a))) ∙ done_held i u t a es
