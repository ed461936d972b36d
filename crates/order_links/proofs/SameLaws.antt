-- What the rules ask of entries, and what is done to them, does not depend on their order: laws of permutations (`Same`).
use Prim.Native.Nat.{ℕ, zero, suc}
use mathlib.Core.Path.{◌≡◌, refl, sym, ap, ◌∙◌}
use mathlib.Core.Bool.{Bool, true, false, cond, ◌||◌}
use mathlib.Core.List.{List, [], ◌∷◌, ◌++◌}
use lib.Dec.{eqb}
use Rattle.paper_lower.specs.Sets.{Set, has, plus}
use Rattle.paper_lower.specs.Lists.{some, many, keep, each}
use Rattle.paper_upper.specs.Orders.{Entry, tasks_where}
use Rattle.paper_upper.proofs.OrderedLaws.{Same, same_refl, same-path}
use Rattle.paper_upper.proofs.OrderedLaws.Same.{all, one, swap, then}
use Rattle.order_links.specs.Chains.{joined}
use Rattle.order_links.specs.Stacks.{rev_onto}
use Rattle.sets.proofs.SetLaws.{same-members, has-plus}

or_swap : (a b c : Bool) → a || (b || c) ≡ b || (a || c)
or_swap true true c = refl
or_swap true false c = refl
or_swap false b c = refl

or-last : (a b c : Bool) → (a || b) || c ≡ (a || c) || b
or-last true b c = refl
or-last false true true = refl
or-last false true false = refl
or-last false false true = refl
or-last false false false = refl

pub some_same : (p : Entry → Bool) {xs ys : List Entry} → Same xs ys → some p xs ≡ some p ys
unfolding some
some_same p all = refl
some_same p (one {e} h) = ap (λ (b : Bool). p e || b) (some_same p h)
some_same p (swap {e} {f} {xs}) = or_swap (p e) (p f) (some p xs)
some_same p (then h k) = some_same p h ∙ some_same p k

pub many-same : {xs ys : List Entry} → Same xs ys → many xs ≡ many ys
unfolding many
many-same all = refl
many-same (one h) = ap suc (many-same h)
many-same swap = refl
many-same (then h k) = many-same h ∙ many-same k

plus-swap : (m : Set) (a b : ℕ) → plus (plus m a) b ≡ plus (plus m b) a
plus-swap m a b =
    same-members (plus (plus m a) b) (plus (plus m b) a) (λ x.
    has-plus (plus m a) b x ∙ ap (λ (c : Bool). c || eqb x b) (has-plus m a x) ∙ or-last (has m x) (eqb x a) (eqb x b)
    ∙ sym (has-plus (plus m b) a x ∙ ap (λ (c : Bool). c || eqb x a) (has-plus m b x)))

pub two-tasks : (a b : Bool) (m : Set) (i j : ℕ) →
    cond a (plus (cond b (plus m j) m) i) (cond b (plus m j) m) ≡ cond b (plus (cond a (plus m i) m) j) (cond a (plus m i) m)
two-tasks true true m i j = plus-swap m j i
two-tasks true false m i j = refl
two-tasks false true m i j = refl
two-tasks false false m i j = refl

pub tasks-same : (p : Entry → Bool) {xs ys : List Entry} → Same xs ys → tasks_where p xs ≡ tasks_where p ys
unfolding tasks_where
tasks-same p all = refl
tasks-same p (one {e} h) = ap (λ (m : Set). cond (p e) (plus m e.task) m) (tasks-same p h)
tasks-same p (swap {e} {f} {xs}) = two-tasks (p e) (p f) (tasks_where p xs) e.task f.task
tasks-same p (then h k) = tasks-same p h ∙ tasks-same p k

keep-swap : (a b : Bool) (e f : Entry) (xs : List Entry) →
    Same (cond a (e ∷ cond b (f ∷ xs) xs) (cond b (f ∷ xs) xs)) (cond b (f ∷ cond a (e ∷ xs) xs) (cond a (e ∷ xs) xs))
keep-swap true true e f xs = swap
keep-swap true false e f xs = same_refl (e ∷ xs)
keep-swap false true e f xs = same_refl (f ∷ xs)
keep-swap false false e f xs = same_refl xs

keep_one : (a : Bool) (e : Entry) {xs ys : List Entry} → Same xs ys → Same (cond a (e ∷ xs) xs) (cond a (e ∷ ys) ys)
keep_one true e h = one h
keep_one false e h = h

pub keep_same : (p : Entry → Bool) {xs ys : List Entry} → Same xs ys → Same (keep p xs) (keep p ys)
unfolding keep
keep_same p all = all
keep_same p (one {e} h) = keep_one (p e) e (keep_same p h)
keep_same p (swap {e} {f} {xs}) = keep-swap (p e) (p f) e f (keep p xs)
keep_same p (then h k) = then (keep_same p h) (keep_same p k)

pub many-kept : (p : Entry → Bool) {xs ys : List Entry} → Same xs ys → many (keep p xs) ≡ many (keep p ys)
many-kept p h = many-same (keep_same p h)

-- ---- Lists reversed, appended and joined.
same-middle : (xs : List Entry) (e : Entry) (ys : List Entry) → Same (xs ++ (e ∷ ys)) (e ∷ (xs ++ ys))
same-middle [] e ys = same_refl (e ∷ ys)
same-middle (x ∷ xs) e ys = then (one (same-middle xs e ys)) swap

same-onto : (xs ys : List Entry) → Same (rev_onto xs ys) (xs ++ ys)
unfolding rev_onto
same-onto [] ys = same_refl ys
same-onto (x ∷ xs) ys = then (same-onto xs (x ∷ ys)) (same-middle xs x ys)

append-none : (xs : List Entry) → xs ++ [] ≡ xs
append-none [] = refl
append-none (x ∷ xs) = ap (◌∷◌ x) (append-none xs)

pub same-turned : (xs : List Entry) → Same (rev_onto xs []) xs
same-turned xs = then (same-onto xs []) (same-path (append-none xs))

pub keep_append : (p : Entry → Bool) (xs ys : List Entry) → keep p (xs ++ ys) ≡ keep p xs ++ keep p ys
unfolding keep
keep_append p [] ys = refl
keep_append p (x ∷ xs) ys = go (p x) (keep_append p xs ys)
  where
    go : (b : Bool) → keep p (xs ++ ys) ≡ keep p xs ++ keep p ys →
        cond b (x ∷ keep p (xs ++ ys)) (keep p (xs ++ ys)) ≡ cond b (x ∷ keep p xs) (keep p xs) ++ keep p ys
    go true e = ap (◌∷◌ x) e
    go false e = e

pub keep-joined : (p : Entry → Bool) (f : ℕ → List Entry) (n : ℕ) → keep p (joined f n) ≡ joined (λ j. keep p (f j)) n
unfolding joined keep
keep-joined p f zero = refl
keep-joined p f (suc n) = keep_append p (f n) (joined f n) ∙ ap (◌++◌ (keep p (f n))) (keep-joined p f n)

pub each_append : (g : Entry → Entry) (xs ys : List Entry) → each g (xs ++ ys) ≡ each g xs ++ each g ys
unfolding each
each_append g [] ys = refl
each_append g (x ∷ xs) ys = ap (◌∷◌ (g x)) (each_append g xs ys)

pub each-joined : (g : Entry → Entry) (f : ℕ → List Entry) (n : ℕ) → each g (joined f n) ≡ joined (λ j. each g (f j)) n
unfolding joined each
each-joined g f zero = refl
each-joined g f (suc n) = each_append g (f n) (joined f n) ∙ ap (◌++◌ (each g (f n))) (each-joined g f n)
