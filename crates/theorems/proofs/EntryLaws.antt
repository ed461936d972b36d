-- Laws of entries: the orders after each of the five requests that change them, and the sets of tasks of entries after such a change.
use Prim.Native.Nat.{ℕ}
use mathlib.Core.Path.{◌≡◌, refl, sym, ap, ◌∙◌}
use mathlib.Core.Bool.{Bool, true, false, not, cond, ◌&&◌, ◌||◌, true≢false, or-true}
use mathlib.Core.List.{List, [], ◌∷◌}
use borrow.Author.Tests.{eqb-true, eq-eqb, ne_eqb}
use lib.Dec.{eqb}
use Rattle.paper_lower.specs.Sets.{Set, empty, has, plus}
use Rattle.paper_lower.specs.Lists.{upd, Maybe, there, some, keep, each, Every}
use Rattle.paper_lower.specs.Lists.Maybe.{none, just}
use Rattle.paper_lower.proofs.ListLaws.{both}
use Rattle.sets.proofs.SetLaws.{Part, part-has, has-empty, has-plus}
use Rattle.paper_upper.specs.Orders.{is_done, Entry, entry, Orders, are_in_order, of_user, held_of, tasks_where, tasks_by, tasks_done}
use Rattle.paper_upper.specs.Orders.Standing.{held, done}
use Rattle.paper_upper.specs.Requests.{turned}

-- ---- The orders after each of the five requests that change them.
abbrev pub opening : Orders → ℕ → ℕ → Orders
opening o a b = record { opened = upd o.opened a (just b); entries = o.entries }

abbrev pub ending : Orders → ℕ → Orders
ending o a = record { opened = upd o.opened a none; entries = keep (λ e. not (are_in_order a e)) o.entries }

abbrev pub claiming : Orders → ℕ → ℕ → ℕ → ℕ → Orders
claiming o a i u t = record { opened = o.opened; entries = entry i u t (held a) ∷ o.entries }

abbrev pub releasing : Orders → ℕ → ℕ → ℕ → Orders
releasing o a i t = record { opened = o.opened; entries = keep (λ e. not (held_of i t a e)) o.entries }

abbrev pub finishing : Orders → ℕ → ℕ → ℕ → Orders
finishing o a i t = record { opened = o.opened; entries = each (turned i t a) o.entries }

-- ---- Whether p holds for some element.
some-imp : {A : Type 0} (p q : A → Bool) (xs : List A) → ((x : A) → p x ≡ true → q x ≡ true) → some p xs ≡ true → some q xs ≡ true
unfolding some
some-imp p q [] f h = h
some-imp p q (x ∷ xs) f h = go (p x) refl h (some-imp p q xs f)
  where
    go : (b : Bool) → p x ≡ b → b || some p xs ≡ true → (some p xs ≡ true → some q xs ≡ true) → q x || some q xs ≡ true
    go true e h rest = rw (f x e)
    go false e h rest = rw (rest h) (or-true (q x))

some-keep : {A : Type 0} (p q : A → Bool) (xs : List A) → some p (keep q xs) ≡ some (λ x. q x && p x) xs
unfolding some keep
some-keep p q [] = refl
some-keep p q (x ∷ xs) = go (q x) (some-keep p q xs)
  where
    go : (b : Bool) → some p (keep q xs) ≡ some (λ x. q x && p x) xs
        → some p (cond b (x ∷ keep q xs) (keep q xs)) ≡ (b && p x) || some (λ x. q x && p x) xs
    go true h = ap (λ b. p x || b) h
    go false h = h

some-each : {A : Type 0} (p : A → Bool) (f : A → A) (xs : List A) → some p (each f xs) ≡ some (λ x. p (f x)) xs
unfolding some each
some-each p f [] = refl
some-each p f (x ∷ xs) = ap (λ b. p (f x) || b) (some-each p f xs)

-- ---- A task is in the set of tasks of entries exactly if some entry has it.
or_swap : (a b : Bool) → a || b ≡ b || a
or_swap true b = sym (or-true b)
or_swap false true = refl
or_swap false false = refl

pub has-where : (p : Entry → Bool) (es : List Entry) (t : ℕ) → has (tasks_where p es) t ≡ some (λ e. p e && eqb t e.task) es
unfolding tasks_where some
has-where p [] t = has-empty t
has-where p (e ∷ es) t = go (p e) (has-where p es t)
  where
    go : (b : Bool) → has (tasks_where p es) t ≡ some (λ e. p e && eqb t e.task) es
        → has (cond b (plus (tasks_where p es) e.task) (tasks_where p es)) t ≡ (b && eqb t e.task) || some (λ e. p e && eqb t e.task) es
    go true h = has-plus _ e.task t ∙ ap (λ b. b || eqb t e.task) h ∙ or_swap _ (eqb t e.task)
    go false h = h

-- Fewer entries have fewer tasks.
pub where-less : (p q : Entry → Bool) (es : List Entry) → Part (tasks_where p (keep q es)) (tasks_where p es)
where-less p q es =
    part-has _ _ (λ t h.
    has-where p es t ∙ some-imp _ _ es (λ e x. (both (q e) _ x).1) (sym (some-keep _ q es) ∙ sym (has-where p (keep q es) t) ∙ h))

-- They have the same tasks if every entry that counts is kept.
pub where-kept : (p q : Entry → Bool) (es : List Entry) → ((e : Entry) → p e ≡ true → q e ≡ true) → Part (tasks_where p es) (tasks_where p (keep q es))
where-kept p q es f =
    part-has _ _ (λ t h.
    has-where p (keep q es) t ∙ some-keep _ q es
    ∙ some-imp (λ e. p e && eqb t e.task) _ es (λ e x. rw (f e (both (p e) (eqb t e.task) x).0) x) (sym (has-where p es t) ∙ h))

-- ---- Done changes only the standing of an entry.
abbrev pub as_done : Entry → Entry
as_done e = entry e.instance e.user e.task done

pub turned-cases : (P : Entry → Type 0) (i t a : ℕ) (e : Entry) → P (as_done e) → P e → P (turned i t a e)
unfolding turned
turned-cases P i t a e p q = go (held_of i t a e)
  where
    go : (b : Bool) → P (cond b (as_done e) e)
    go true = p
    go false = q

pub turned_same : {A : Type 0} (f : Entry → A) (i t a : ℕ) (e : Entry) → f (as_done e) ≡ f e → f (turned i t a e) ≡ f e
turned_same f i t a e h = turned-cases (λ x. f x ≡ f e) i t a e h refl

pub by_turned : (i u b c a : ℕ) (es : List Entry) → tasks_by i u (each (turned b c a) es) ≡ tasks_by i u es
unfolding tasks_by tasks_where each of_user are_in_order
by_turned i u b c a [] = refl
by_turned i u b c a (e ∷ es) =
    rw (turned_same (of_user i u) b c a e refl, turned_same (λ e. e.task) b c a e refl, by_turned i u b c a es)

pub done-turned : (i b c a : ℕ) (es : List Entry) → Part (tasks_done i es) (tasks_done i (each (turned b c a) es))
unfolding tasks_done are_in_order is_done
done-turned i b c a es =
    part-has _ _ (λ t h.
    has-where _ (each (turned b c a) es) t ∙ some-each _ (turned b c a) es
    ∙ some-imp (test t) _ es (λ e k. turned-cases (λ x. test t x ≡ true) b c a e (now t e k) k) (sym (has-where _ es t) ∙ h))
  where
    test : ℕ → Entry → Bool
    test t e = (are_in_order i e && is_done e.standing) && eqb t e.task

    now : (t : ℕ) (e : Entry) → test t e ≡ true → test t (as_done e) ≡ true
    now t e h =
        let s = both (are_in_order i e && is_done e.standing) (eqb t e.task) h in
        rw ((both (are_in_order i e) (is_done e.standing) s.0).0, s.1)

-- ---- A new entry.
pub claimed-by : (P : ℕ → ℕ → Set → Type 0) (es : List Entry) (a b u c : ℕ) → P b u (plus (tasks_by b u es) c) → ((i v : ℕ) → P i v (tasks_by i v es))
    → (i v : ℕ) → P i v (tasks_by i v (entry b u c (held a) ∷ es))
unfolding tasks_by tasks_where of_user are_in_order
claimed-by P es a b u c new old i v = go (eqb b i && eqb u v) refl
  where
    go : (x : Bool) → eqb b i && eqb u v ≡ x → P i v (cond x (plus (tasks_by i v es) c) (tasks_by i v es))
    go true e = let s = both (eqb b i) (eqb u v) e in rw (← eqb-true b i s.0, ← eqb-true u v s.1) new
    go false e = old i v

pub by-claimant : (es : List Entry) (a b u c : ℕ) → tasks_by b u (entry b u c (held a) ∷ es) ≡ plus (tasks_by b u es) c
unfolding tasks_by tasks_where of_user are_in_order
by-claimant es a b u c = rw (eq-eqb b b refl, eq-eqb u u refl)

-- ---- An instance that is not open has no entries.
pub no-entries : (f : ℕ → Maybe ℕ) (a u : ℕ) (es : List Entry) → Every (λ e. there (f e.instance) ≡ true) es → there (f a) ≡ false
    → tasks_by a u es ≡ empty
unfolding tasks_by tasks_where of_user are_in_order
no-entries f a u [] h n = refl
no-entries f a u (e ∷ es) h n =
    rw (ne_eqb e.instance a (λ q. true≢false (sym h.0 ∙ ap (λ (i : ℕ). there (f i)) q ∙ n))) (no-entries f a u es h.1 n)
