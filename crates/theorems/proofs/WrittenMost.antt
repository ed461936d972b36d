-- The theorem NeverMoreWritten: a bound on the number of records that are written.
use Prim.Native.Nat.{ℕ, zero, suc, ◌+◌, ◌≤◌, ◌<◌}
use mathlib.Core.Path.{◌≡◌, refl, ap}
use mathlib.Core.Bool.{Bool, true, false}
use mathlib.Core.List.{List, [], ◌∷◌, ◌++◌}
use native.Mathlib.Omega.{arith}
use borrow.Author.Tests.{leb-false}
use Rattle.paper_lower.specs.Sets.{has}
use Rattle.paper_lower.specs.Lists.{Maybe, many, add, each}
use Rattle.paper_lower.specs.Lists.Maybe.{none, just}
use Rattle.paper_lower.specs.Records.{Record}
use Rattle.paper_lower.specs.Tables.{Policy}
use Rattle.paper_lower.specs.Written.{in_turn, when, of_there, people_rows, task_rows, rule_rows, behind, records_written}
use Rattle.paper_lower.proofs.ListLaws.{many-append, many-each, ◌⨾◌}
use Rattle.theorems.specs.Written.{policy_of, NeverMoreWritten}
use Rattle.theorems.proofs.WrittenRuns.{Prefixed}
use Rattle.theorems.proofs.WrittenReady.{Ready}
use Rattle.theorems.proofs.Written.{ready}

-- ---- Records written for 0, 1 and so on: at most n times as many as for each.
unfoldable times : ℕ → ℕ → ℕ
times zero c = 0
times (suc n) c = times n c + c

in-turn : (n c : ℕ) (f : ℕ → List Record) → ((i : ℕ) → many (f i) ≤ c) → many (in_turn n f) ≤ times n c
unfolding in_turn times many
in-turn zero c f h = omega arith
in-turn (suc n) c f h = let e = many-append (in_turn n f) (f n) in let l = in-turn n c f h in let k = h n in omega arith

one-or-none : (b : Bool) (r : Record) → many (when b r) ≤ 1
unfolding when many
one-or-none true r = omega arith
one-or-none false r = omega arith

one-if-there : {A : Type 0} (f : A → Record) (x : Maybe A) → many (of_there f x) ≤ 1
unfolding of_there many
one-if-there f none = omega arith
one-if-there f (just x) = omega arith

-- ---- Rules: the check FULL lets at most n of a kind pass.
many-add : {A : Type 0} (xs : List A) (x : A) → many (add xs x) ≡ suc (many xs)
unfolding many add
many-add [] x = refl
many-add (y ∷ xs) x = ap suc (many-add xs x)

few : {A : Type 0} (P : List A → A → Type 0) (n : ℕ) → ((acc : List A) (x : A) → P acc x → many acc < n) → (acc xs : List A) → Prefixed P acc xs → many acc ≤ n
    → many acc + many xs ≤ n
unfolding many
few P n h acc [] p l = omega arith
few P n h acc (x ∷ xs) p l =
    let k = h acc x p.0 in
    let e = many-add acc x in
    let rest = few P n h (add acc x) xs p.1 (omega arith) in
    omega arith

few-rules : {A : Type 0} (P : List A → A → Type 0) (n : ℕ) → ((acc : List A) (x : A) → P acc x → many acc < n) → (f : A → Record) (xs : List A) →
    Prefixed P [] xs
    → many (each f xs) ≤ n
unfolding many
few-rules P n h f xs p = let l = few P n h [] xs p (omega arith) in let e = many-each f xs in omega arith

-- ---- All kinds.
abbrev AtMost : List ℕ → List (List Record) → Type 0
AtMost [] [] = Unit {0}
AtMost [] (rs ∷ rss) = ⊥
AtMost (n ∷ ns) [] = ⊥
AtMost (n ∷ ns) (rs ∷ rss) = (many rs ≤ n) × AtMost ns rss

unfoldable sum : List ℕ → ℕ
sum [] = 0
sum (n ∷ ns) = n + sum ns

all-of-them : (ns : List ℕ) (rss : List (List Record)) → AtMost ns rss → many (behind rss) ≤ sum ns
unfolding behind sum many
all-of-them [] [] h = omega arith
all-of-them [] (rs ∷ rss) h = absurd h
all-of-them (n ∷ ns) [] h = absurd h
all-of-them (n ∷ ns) (rs ∷ rss) h =
    let e = many-append rs (behind rss) in
    let l = h.0 in
    let rest = all-of-them ns rss h.1 in
    omega arith

limits : List ℕ
limits = 1024 ∷ 64 ∷ 256 ∷ 65536 ∷ 16384 ∷ 64 ∷ 4096 ∷ 16384 ∷ 32 ∷ 32 ∷ 32 ∷ 64 ∷ 16 ∷ 64 ∷ 64 ∷ 64 ∷ 4096 ∷ 256 ∷ []

ready-limits : (p : Policy) → Ready p → many (records_written p) ≤ sum limits
unfolding records_written people_rows task_rows rule_rows limits times
ready-limits p h = all-of-them limits (people_rows p ++ task_rows p ++ rule_rows p) (
    in-turn 1024 1 _ (λ a. one-or-none (p.people.users a) _)
    ⨾ in-turn 64 1 _ (λ a. one-or-none (has p.people.roles a) _)
    ⨾ in-turn 256 1 _ (λ a. one-if-there _ (p.permissions.declared a))
    ⨾ in-turn 1024 64 _ (λ a. in-turn 64 1 _ (λ b. one-or-none (has (p.people.assigned a) b) _))
    ⨾ in-turn 64 256 _ (λ a. in-turn 256 1 _ (λ b. one-or-none (has (p.permissions.holders b) a) _))
    ⨾ in-turn 64 1 _ (λ a. one-if-there _ (p.tasks.template a))
    ⨾ in-turn 64 64 _ (λ a. in-turn 64 1 _ (λ b. one-or-none (has (p.tasks.open_to a) b) _))
    ⨾ in-turn 64 256 _ (λ a. in-turn 256 1 _ (λ b. one-or-none (has (p.permissions.carriers b) a) _))
    ⨾ few-rules _ 32 (λ acc x o. leb-false 32 (many acc) o.3) _ p.rules.statics h.rules.statics
    ⨾ few-rules _ 32 (λ acc x o. leb-false 32 (many acc) o.3) _ p.rules.dynamics h.rules.dynamics
    ⨾ few-rules _ 32 (λ acc x o. leb-false 32 (many acc) o.4) _ p.rules.task_sets h.rules.task_sets
    ⨾ few-rules _ 64 (λ acc x o. leb-false 64 (many acc) o.6) _ p.rules.blocks h.rules.blocks
    ⨾ in-turn 16 1 _ (λ a. one-or-none (p.tasks.banned a) _)
    ⨾ in-turn 64 1 _ (λ a. one-if-there _ (p.tasks.most a))
    ⨾ few-rules _ 64 (λ acc x o. leb-false 64 (many acc) o.2) _ p.rules.bindings h.rules.bindings
    ⨾ few-rules _ 64 (λ acc x o. leb-false 64 (many acc) o.2) _ p.rules.befores h.rules.befores
    ⨾ in-turn 64 64 _ (λ a. in-turn 64 1 _ (λ b. one-or-none (has (p.seniority.juniors a) b) _))
    ⨾ few-rules _ 256 (λ acc x o. leb-false 256 (many acc) o.5) _ p.walls h.walls
    ⨾ tt
    )

pub never-more-written : NeverMoreWritten
unfolding limits sum
never-more-written x = ready-limits (policy_of x) (ready x)
