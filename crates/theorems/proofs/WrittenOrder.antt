-- The theorem WrittenInOrder: the written records are in the order of their kinds, and within a kind in the order of their numbers or that of the policy.
use Prim.Native.Nat.{ℕ, zero, suc, ◌≤◌, ◌<◌}
use mathlib.Core.Path.{◌≡◌, refl, sym, ap, subst, ◌∙◌}
use mathlib.Core.Bool.{Bool, true, false}
use mathlib.Core.Logic.{inl, inr, ⊎_elim}
use mathlib.Core.List.{List, [], ◌∷◌, ◌++◌}
use native.Mathlib.Omega.{arith}
use Rattle.paper_lower.specs.Sets.{has}
use Rattle.paper_lower.specs.Lists.{Maybe, each, Every}
use Rattle.paper_lower.specs.Lists.Maybe.{none, just}
use Rattle.paper_lower.specs.Records.{Record}
use Rattle.paper_lower.specs.Tables.{Policy}
use Rattle.paper_lower.specs.Load.{Loaded, load}
use Rattle.paper_lower.specs.Written.{in_turn, when, of_there, row, people_rows, task_rows, rule_rows, behind, records_written, written}
use Rattle.paper_lower.proofs.ListLaws.{every_map, every_append, ◌⨾◌}
use Rattle.theorems.specs.OverEntries.{EveryTwo}
use Rattle.theorems.specs.Written.{policy_of, ByNumbers, ComesBefore, WrittenInOrder}
use Rattle.theorems.proofs.Made.{made, walls-made}
use Rattle.theorems.proofs.WrittenRuns.{read-run}
use Rattle.theorems.proofs.Written.{written-runs, loads-again}

-- ---- Two lists, one after the other.
joined-two : {A : Type 0} (R : A → A → Type 0) (xs ys : List A) → EveryTwo R xs → EveryTwo R ys → Every (λ x. Every (R x) ys) xs → EveryTwo R (xs ++ ys)
joined-two R [] ys p q h = q
joined-two R (x ∷ xs) ys p q h = (every_append (R x) xs ys p.0 h.0, joined-two R xs ys p.1 q h.1)

-- Every element of xs comes before every element of ys.
across : {A : Type 0} {P Q : A → Type 0} (R : A → A → Type 0) (xs ys : List A) → Every P xs → Every Q ys → ((x y : A) → P x → Q y → R x y) →
    Every (λ x. Every (R x) ys) xs
across R xs ys p q h = every_map xs (λ x px. every_map ys (λ y qy. h x y px qy) q) p

-- ---- Records written for 0, 1 and so on, in order of a key.
module _ (P : Record → Type 0) (key : Record → ℕ) (R : Record → Record → Type 0) (rises : (q r : Record) → P q → P r → key q < key r → R q r) where
  in-turn : (n : ℕ) (f : ℕ → List Record) → ((i : ℕ) → Every (λ r. P r × (key r ≡ i)) (f i)) → ((i : ℕ) → EveryTwo R (f i))
      → EveryTwo R (in_turn n f) × Every (λ r. P r × (key r < n)) (in_turn n f)
  unfolding in_turn
  in-turn zero f keyed two = (tt, tt)
  in-turn (suc n) f keyed two =
      let rest = in-turn n f keyed two in (
        joined-two R (in_turn n f) (f n) rest.0 (two n)
            (across R (in_turn n f) (f n) rest.1 (keyed n) (λ q r x y. rises q r x.0 y.0 (let l = x.1 in let e = y.1 in omega arith))),
        every_append _ (in_turn n f) (f n) (every_map (in_turn n f) (λ r x. (x.0, let l = x.1 in omega arith)) rest.1)
            (every_map (f n) (λ r x. (x.0, let e = x.1 in omega arith)) (keyed n)),
      )

-- ---- The records of one kind.
abbrev Group : ℕ → List Record → Type 0
Group k rs = EveryTwo ComesBefore rs × Every (λ r. r.kind ≡ k) rs

alone : (b : Bool) (r : Record) (P : Record → Type 0) → P r → EveryTwo ComesBefore (when b r) × Every P (when b r)
unfolding when
alone true r P h = ((tt, tt), (h, tt))
alone false r P h = (tt, tt)

alone-there : {A : Type 0} (f : A → Record) (x : Maybe A) (P : Record → Type 0) → ((y : A) → P (f y)) →
    EveryTwo ComesBefore (of_there f x) × Every P (of_there f x)
unfolding of_there
alone-there f none P h = (tt, tt)
alone-there f (just x) P h = ((tt, tt), (h x, tt))

-- In the order of a.
by-a : (k n : ℕ) (f : ℕ → List Record) → ((i : ℕ) → EveryTwo ComesBefore (f i) × Every (λ r. (r.kind ≡ k) × (r.a ≡ i)) (f i)) → Group k (in_turn n f)
by-a k n f h =
    let x = in-turn (λ r. r.kind ≡ k) (λ r. r.a) ComesBefore (λ q r e g l. inr (e ∙ sym g, λ _. inl l)) n f (λ i. (h i).1) (λ i. (h i).0) in
    (x.0, every_map (in_turn n f) (λ r y. y.0) x.1)

-- In the order of a, and for the same a in that of b.
by_both : (k n m : ℕ) (t : ℕ → ℕ → Bool) → Group k (in_turn n (λ a. in_turn m (λ b. when (t a b) (row k 0 a b 0 0))))
by_both k n m t = by-a k n _ (λ a.
    let x = in-turn (λ r. (r.kind ≡ k) × (r.a ≡ a)) (λ r. r.b) ComesBefore (λ q r e g l. inr (e.0 ∙ sym g.0, λ _. inr (e.1 ∙ sym g.1, l))) m
    (λ b. when (t a b) (row k 0 a b 0 0))
    (λ b. (alone (t a b) (row k 0 a b 0 0) (λ r. ((r.kind ≡ k) × (r.a ≡ a)) × (r.b ≡ b)) ((refl, refl), refl)).1)
    (λ b. (alone (t a b) (row k 0 a b 0 0) (λ r. r.kind ≡ k) refl).0) in
    (x.0, every_map (in_turn m (λ b. when (t a b) (row k 0 a b 0 0))) (λ r y. y.0) x.1))

-- Rules, in the order in which the policy has them.
held : {A : Type 0} (k : ℕ) (f : A → Record) → ((x : A) → (f x).kind ≡ k) → (ByNumbers k → ⊥) → (xs : List A) → Group k (each f xs)
unfolding each
held k f e n [] = (tt, tt)
held k f e n (x ∷ xs) =
    let rest = held k f e n xs in (
      (every_map (each f xs) (λ r g. inr (e x ∙ sym g, λ h. absurd (n (subst ByNumbers (e x) h)))) rest.1, rest.0),
      (e x, rest.1),
    )

-- ---- All kinds, in rising order.
abbrev Groups : ℕ → List (List Record) → Type 0
Groups k [] = Unit {0}
Groups k (rs ∷ rss) = Group k rs × Groups (suc k) rss

all-groups : (k : ℕ) (rss : List (List Record)) → Groups k rss → EveryTwo ComesBefore (behind rss) × Every (λ r. k ≤ r.kind) (behind rss)
unfolding behind
all-groups k [] h = (tt, tt)
all-groups k (rs ∷ rss) h =
    let rest = all-groups (suc k) rss h.1 in (
      joined-two ComesBefore rs (behind rss) h.0.0 rest.0
          (across ComesBefore rs (behind rss) h.0.1 rest.1 (λ q r e l. inl (omega arith))),
      every_append _ rs (behind rss) (every_map rs (λ r e. omega arith) h.0.1) (every_map (behind rss) (λ r l. omega arith) rest.1),
    )

-- Kinds 9 to 12, 15, 16 and 18 are not ordered by numbers.
other : (k : ℕ) → 8 < k → (k ≡ 13 → ⊥) → (k ≡ 14 → ⊥) → (k ≡ 17 → ⊥) → ByNumbers k → ⊥
other k l a b c h = ⊎_elim (λ x. let z : ⊥ = omega arith in z) (λ x. ⊎_elim a (λ y. ⊎_elim b c y) x) h

rising : (p : Policy) → EveryTwo ComesBefore (records_written p)
unfolding records_written people_rows task_rows rule_rows
rising p = (all-groups 1 (people_rows p ++ task_rows p ++ rule_rows p) (
    by-a 1 1024 _ (λ a. alone (p.people.users a) (row 1 0 a 0 0 0) (λ r. (r.kind ≡ 1) × (r.a ≡ a)) (refl, refl))
    ⨾ by-a 2 64 _ (λ a. alone (has p.people.roles a) (row 2 0 a 0 0 0) (λ r. (r.kind ≡ 2) × (r.a ≡ a)) (refl, refl))
    ⨾ by-a 3 256 _ (λ a. alone-there _ (p.permissions.declared a) (λ r. (r.kind ≡ 3) × (r.a ≡ a)) (λ y. (refl, refl)))
    ⨾ by_both 4 1024 64 (λ a b. has (p.people.assigned a) b)
    ⨾ by_both 5 64 256 (λ a b. has (p.permissions.holders b) a)
    ⨾ by-a 6 64 _ (λ a. alone-there _ (p.tasks.template a) (λ r. (r.kind ≡ 6) × (r.a ≡ a)) (λ y. (refl, refl)))
    ⨾ by_both 7 64 64 (λ a b. has (p.tasks.open_to a) b)
    ⨾ by_both 8 64 256 (λ a b. has (p.permissions.carriers b) a)
    ⨾ held 9 _ (λ x. refl) (other 9 (omega arith) (λ e. omega arith) (λ e. omega arith) (λ e. omega arith)) p.rules.statics
    ⨾ held 10 _ (λ x. refl) (other 10 (omega arith) (λ e. omega arith) (λ e. omega arith) (λ e. omega arith)) p.rules.dynamics
    ⨾ held 11 _ (λ x. refl) (other 11 (omega arith) (λ e. omega arith) (λ e. omega arith) (λ e. omega arith)) p.rules.task_sets
    ⨾ held 12 _ (λ x. refl) (other 12 (omega arith) (λ e. omega arith) (λ e. omega arith) (λ e. omega arith)) p.rules.blocks
    ⨾ by-a 13 16 _ (λ a. alone (p.tasks.banned a) (row 13 0 a 0 0 0) (λ r. (r.kind ≡ 13) × (r.a ≡ a)) (refl, refl))
    ⨾ by-a 14 64 _ (λ a. alone-there _ (p.tasks.most a) (λ r. (r.kind ≡ 14) × (r.a ≡ a)) (λ y. (refl, refl)))
    ⨾ held 15 _ (λ x. refl) (other 15 (omega arith) (λ e. omega arith) (λ e. omega arith) (λ e. omega arith)) p.rules.bindings
    ⨾ held 16 _ (λ x. refl) (other 16 (omega arith) (λ e. omega arith) (λ e. omega arith) (λ e. omega arith)) p.rules.befores
    ⨾ by_both 17 64 64 (λ a b. has (p.seniority.juniors a) b)
    ⨾ held 18 _ (λ x. refl) (other 18 (omega arith) (λ e. omega arith) (λ e. omega arith) (λ e. omega arith)) p.walls
    ⨾ tt
    )).0

pub written-in-order : WrittenInOrder
unfolding written
written-in-order x =
    let p = policy_of x in
    let back = read-run (records_written p) p (written-runs x) in
    let again = loads-again x in
    let tables : (load (written p)).tables ≡ p = ap (λ (l : Loaded). l.tables) again in
    let m = made (written p) (ap (λ (l : Loaded). l.reply) again) in
    let w = walls-made (written p) (ap (λ (l : Loaded). l.reply) again) in
    record {
      rising = subst (EveryTwo ComesBefore) (sym back) (rising p);
      statics = ap (λ (q : Policy). q.rules.statics) (sym tables) ∙ m.statics;
      dynamics = ap (λ (q : Policy). q.rules.dynamics) (sym tables) ∙ m.dynamics;
      task_sets = ap (λ (q : Policy). q.rules.task_sets) (sym tables) ∙ m.task_sets;
      blocks = ap (λ (q : Policy). q.rules.blocks) (sym tables) ∙ m.blocks;
      bindings = ap (λ (q : Policy). q.rules.bindings) (sym tables) ∙ m.bindings;
      befores = ap (λ (q : Policy). q.rules.befores) (sym tables) ∙ m.befores;
      walls = ap (λ (q : Policy). q.walls) (sym tables) ∙ w;
    }
