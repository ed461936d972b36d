-- A claim (request 50): each of its checks applies exactly when specs/Exactly.antt says so.
use Prim.Native.Nat.{ℕ, zero, suc, ◌+◌, ◌≤◌, ◌<◌}
use mathlib.Core.Path.{◌≡◌, refl, sym, ap, subst, ◌∙◌}
use mathlib.Core.Bool.{Bool, true, false, not, cond, ◌&&◌, ◌||◌, true≢false, false≢true}
use mathlib.Core.Logic.Iff
use mathlib.Core.Logic.{◌↔◌}
use mathlib.Core.List.{List, [], ◌∷◌}
use native.Mathlib.Omega.{arith}
use borrow.Author.Tests.{eqb-true, leb-true, le-leb, not-false}
use lib.Dec.{eqb, leb}
use lib.ListN.{length}
use Rattle.paper_lower.specs.Sets.{Set, has, minus, size, overlap, within}
use Rattle.paper_lower.specs.Lists.{is, some, many, keep, each, place, first_of, Every}
use Rattle.paper_lower.specs.Checks.{first}
use Rattle.paper_lower.specs.Records.{Record}
use Rattle.paper_lower.specs.Policy.{down, tasks_of}
use Rattle.paper_lower.proofs.ListLaws.{every_map, place_none, none-place, some-none, none-some, first-none}
use Rattle.paper_upper.specs.Orders.{is_done, Entry, Engine, are_in_order, of_task, of_user, tasks_where, tasks_by, tasks_done, tasks_others}
use Rattle.paper_upper.specs.Orders.Standing.{done}
use Rattle.paper_upper.specs.Rules.{missing, before, crowded, separation, own, strange, block_within, block, alone, tied, bound, spent, found, gathered_checks, rule_checks}
use Rattle.paper_upper.specs.Requests.{claim_checks}
use Rattle.sets.proofs.SetLaws.{collect-below, has_within, within_has}
use Rattle.theorems.specs.OverEntries.{of_kind, EveryTwo, Any}
use Rattle.theorems.specs.Theorems.{fixed}
use Rattle.theorems.specs.Walls.{Commits}
use Rattle.theorems.specs.Exactly.{Not, GivenExactly, In, TaskOf, OpenTo, Acts, AnEntry, Held, InD, NotReady, TooMany, OtherBlock, AllButOne, Others, BoundToOthers, Spent, claiming}
use Rattle.theorems.proofs.Made.{a_limit, a_block, pair_of_two, of-each}
use Rattle.theorems.proofs.WellMade.{in-collect}
use Rattle.theorems.proofs.Keeps.{Kept}
use Rattle.theorems.proofs.EntryLaws.{has-where}
use Rattle.theorems.proofs.Reflects.{either, together, all_three, negated, same, is_same, turned_same, as-test, some-any, any-map, any-chosen, is-there, common, minus-parts, none_left, check}
use Rattle.theorems.proofs.Declared.{Declared}
use Rattle.theorems.proofs.Limits.{no_more, as_many, own-overlap}
use Rattle.theorems.proofs.Meant.{is-done, of-task, counted, counts-once}
use Rattle.theorems.proofs.ExactlyRoles.{roles-of}
use Rattle.theorems.proofs.ExactlyOrders.{is-held, all, task-of, small-task, unknown-task}

-- ---- A place is not 0 exactly if there is an element with the property.
pub found_some : {X : Type 0} (p : X → Bool) (xs : List X) → found (place p xs) ≡ some p xs
found_some p xs = go (found (place p xs)) refl (some p xs) refl
  where
    go : (a : Bool) → found (place p xs) ≡ a → (b : Bool) → some p xs ≡ b → a ≡ b
    go true e true h = refl
    go true e false h = absurd (true≢false (sym e ∙ ap found (none-place p xs (some-none p xs h))))
    go false e true h = absurd (true≢false (sym h ∙ none-some p xs (place_none p xs e)))
    go false e false h = refl

-- A test of the rules in the tables is a statement about the policy's records of the kind.
of-records : {X : Type 0} (p : X → Bool) (item : Record → X) (P : Record → Type 0) (xs : List X) (rs : List Record) → xs ≡ each item rs
    → ((q : Record) → (p (item q) ≡ true) ↔ P q) → (some p xs ≡ true) ↔ Any P rs
unfolding some each
of-records p item P xs rs e h = as-test (ap (some p) e ∙ over rs) (some-any (λ q. p (item q)) P h rs)
  where
    over : (rs : List Record) → some p (each item rs) ≡ some (λ q. p (item q)) rs
    over [] = refl
    over (q ∷ rs) = ap (λ (b : Bool). p (item q) || b) (over rs)

at_place : {X : Type 0} (p : X → Bool) (item : Record → X) (P : Record → Type 0) (xs : List X) (rs : List Record) → xs ≡ each item rs
    → ((q : Record) → (p (item q) ≡ true) ↔ P q) → (found (place p xs) ≡ true) ↔ Any P rs
at_place p item P xs rs e h = as-test (found_some p xs) (of-records p item P xs rs e h)

-- The first value other than 0 is found exactly if some value is not 0.
first_found : (k n : ℕ) (f : ℕ → ℕ) → found (first_of k n f) ≡ true → (j : ℕ) × (found (f j) ≡ true)
unfolding first_of
first_found k zero f h = absurd (false≢true h)
first_found k (suc n) f h = go (eqb (f k) 0) refl h (first_found (suc k) n f)
  where
    go : (b : Bool) → eqb (f k) 0 ≡ b → found (cond b (first_of (suc k) n f) (f k)) ≡ true
        → (found (first_of (suc k) n f) ≡ true → (j : ℕ) × (found (f j) ≡ true)) → (j : ℕ) × (found (f j) ≡ true)
    go true e h rest = rest h
    go false e h rest = (k, h)

found_first : (n j : ℕ) (f : ℕ → ℕ) → j < n → found (f j) ≡ true → found (first_of 0 n f) ≡ true
found_first n j f l h = go (found (first_of 0 n f)) refl
  where
    go : (b : Bool) → found (first_of 0 n f) ≡ b → b ≡ true
    go true e = refl
    go false e =
        let z : 0 + j ≡ j = omega arith in
        absurd (true≢false (sym h ∙ ap (λ (i : ℕ). found (f i)) (sym z) ∙ ap found (first-none 0 n f (eqb-true _ _ (not-false _ e)) j l)))

-- ---- Counts.
as_long : {A : Type 0} (xs : List A) → many xs ≡ length xs
unfolding many
as_long [] = refl
as_long (x ∷ xs) = ap suc (as_long xs)

-- At least n different members in common.
as-many-as : (m d : Set) (n : ℕ) → (leb n (overlap m d) ≡ true)
    ↔ ((ts : List ℕ) × EveryTwo (λ a b. Not (a ≡ b)) ts × (n ≤ length ts) × Every (λ t. In m t × In d t) ts)
as-many-as m d n = (
  λ e. let l = leb-true n (overlap m d) e in let x = as_many m d n l in let k = x.2 in (x.0, x.1, omega arith, x.3),
  λ x. let l = no_more m d x.0 x.1 x.3 in let k = x.2 in le-leb n (overlap m d) (omega arith),
)

two-members : (m : Set) → (leb 2 (size m) ≡ true) ↔ ((t p : ℕ) × In m t × In m p × Not (t ≡ p))
two-members m = as-test (ap (leb 2) (sym (own-overlap m))) (Iff.trans (as-many-as m m 2) (
  λ x. pick x.0 x.1 x.2 x.3,
  λ x. (x.0 ∷ x.1 ∷ [], ((x.4, tt), (tt, tt)), omega arith, ((x.2, x.2), ((x.3, x.3), tt))),
))
  where
    pick : (ts : List ℕ) → EveryTwo (λ a b. Not (a ≡ b)) ts → 2 ≤ length ts → Every (λ t. In m t × In m t) ts → (t p : ℕ) × In m t × In m p × Not (t ≡ p)
    pick [] two l e = let z : ⊥ = omega arith in absurd z
    pick (t ∷ []) two l e = let z : ⊥ = omega arith in absurd z
    pick (t ∷ p ∷ ts) two l e = (t, p, e.0.0, e.1.0.0, two.0.0)

module _ (policy : List Record) (t : Engine) (kept : Kept policy t) (d : Declared policy (fixed t.lower.policy)) (y : Commits) (r : Record) where
  -- The entries, the claiming user, and the tasks in which the user has entries in the instance.
  abbrev es : List Entry
  es = t.orders.entries

  abbrev u : ℕ
  u = t.lower.sessions.user r.a

  abbrev mine : Set
  mine = tasks_by r.b u es

  -- The tasks of the entries for which p holds.
  tasks-where : (p : Entry → Bool) (P : Entry → Type 0) → ((e : Entry) → (p e ≡ true) ↔ ((e.instance ≡ r.b) × P e)) → (a : ℕ)
      → In (tasks_where p es) a ↔ AnEntry (all policy t kept d y) (λ e. (e.instance ≡ r.b) × (P e × (e.task ≡ a)))
  tasks-where p P h a =
      as-test (has-where p es a)
      (some-any (λ e. p e && eqb a e.task) (λ e. (e.instance ≡ r.b) × (P e × (e.task ≡ a)))
      (λ e. Iff.trans (together (p e) (eqb a e.task) (h e) (turned_same a e.task)) (λ x. (x.0.0, (x.0.1, x.1)), λ x. ((x.0, x.1.0), x.1.1))) es)

  in-d : (a : ℕ) → In mine a ↔ InD (all policy t kept d y) r a
  unfolding tasks_by of_user are_in_order
  in-d a = Iff.trans (tasks-where (of_user r.b u) (λ e. e.user ≡ u) (λ e. together _ _ (is_same e.instance r.b) (is_same e.user u)) a) same

  finished : (a : ℕ) → In (tasks_done r.b es) a ↔ AnEntry (all policy t kept d y) (λ e. (e.instance ≡ r.b) × ((e.standing ≡ done) × (e.task ≡ a)))
  unfolding tasks_done are_in_order
  finished a =
      tasks-where (λ e. eqb e.instance r.b && is_done e.standing) (λ e. e.standing ≡ done)
      (λ e. together _ _ (is_same e.instance r.b) (is-done e.standing)) a

  others : (a : ℕ) → In (tasks_others r.b u es) a ↔ Others (all policy t kept d y) r a
  unfolding tasks_others are_in_order
  others a =
      tasks-where (λ e. eqb e.instance r.b && not (eqb e.user u)) (λ e. Not (e.user ≡ u))
      (λ e. together _ _ (is_same e.instance r.b) (negated _ (is_same e.user u))) a

  -- ---- The six claim rules.
  not-ready : (found (before t.lower.policy.rules (tasks_done r.b es) r.c) ≡ true) ↔ NotReady (all policy t kept d y) r
  unfolding before missing
  not-ready =
      at_place (missing (tasks_done r.b es) r.c) pair_of_two _ t.lower.policy.rules.befores (of_kind 16 policy) kept.0.made.befores
      (λ q. together _ _ (is_same q.b r.c) (negated _ (finished q.a)))

  too_many : (found (separation t.lower.policy.rules mine r.c) ≡ true) ↔ TooMany (all policy t kept d y) r
  unfolding separation crowded
  too_many =
      at_place (crowded mine r.c) a_limit _ t.lower.policy.rules.task_sets (of_kind 11 policy) kept.0.made.task_sets
      (λ q. together _ _ same (Iff.trans (as-many-as q.m (minus mine r.c) q.n) (
        λ x. (x.0, x.1, x.2, every_map x.0 (λ a h. let z = (minus-parts mine r.c a).0 h.1 in (h.0, z.1, (in-d a).0 z.0)) x.3),
        λ x. (x.0, x.1, x.2, every_map x.0 (λ a h. (h.0, (minus-parts mine r.c a).1 ((in-d a).1 h.2, h.1))) x.3),
      )))

  -- Partitioning k refuses the task: one of its blocks has the task, and another of its blocks without the task has a task of D.
  in-partitioning : (k : ℕ) → (found (block_within t.lower.policy.rules mine r.c k) ≡ true)
      ↔ (Any (λ q. (q.a ≡ k) × In q.m r.c) (of_kind 12 policy)
      × Any (λ p. ((p.a ≡ k) × Not (In p.m r.c)) × ((a : ℕ) × In p.m a × InD (all policy t kept d y) r a)) (of_kind 12 policy))
  unfolding block_within own strange
  in-partitioning k =
      let bs = t.lower.policy.rules.blocks in
      as-test (go (some (own k r.c) bs)) (together _ _
      (of-records (own k r.c) a_block _ bs (of_kind 12 policy) kept.0.made.blocks (λ q. together _ _ (is_same q.a k) same))
      (at_place (strange k mine r.c) a_block _ bs (of_kind 12 policy) kept.0.made.blocks (λ p. together _ _
      (together _ _ (is_same p.a k) (negated _ same))
      (Iff.trans (common p.m mine) (λ x. (x.0, x.1, (in-d x.0).0 x.2), λ x. (x.0, x.1, (in-d x.0).1 x.2))))))
    where
      go : (b : Bool) →
          found (cond b (place (strange k mine r.c) t.lower.policy.rules.blocks) 0) ≡
          b && found (place (strange k mine r.c) t.lower.policy.rules.blocks)
      go true = refl
      go false = refl

  other_block : (found (block t.lower.policy.rules mine r.c) ≡ true) ↔ OtherBlock (all policy t kept d y) r
  unfolding block
  other_block = (
    λ e. let x = first_found 0 16 (block_within t.lower.policy.rules mine r.c) e in
        let z = (in-partitioning x.0).0 x.1 in
        any-map (of_kind 12 policy) (λ q h. (h.1, any-map (of_kind 12 policy) (λ p w. (w.0.0 ∙ sym h.0, w.0.1, w.1)) z.1)) z.0,
    λ x. any-chosen (λ q z. (z.a ≡ q.a) × In z.m r.c) _ (of_kind 12 policy) numbers (λ q h. (refl, h.0))
        (λ q l h a. found_first 16 q.a _ l ((in-partitioning q.a).1 (a, any-map (of_kind 12 policy) (λ p w. ((w.0, w.1), w.2)) h.1))) x,
  )
    where
      numbers : Every (λ q. q.a < 16) (of_kind 12 policy)
      numbers = of-each (λ b. b.partitioning < 16) a_block (of_kind 12 policy)
          (subst (Every (λ b. b.partitioning < 16)) kept.0.made.blocks kept.0.well.blocks.partitionings)

  in-template : (j a : ℕ) → In (tasks_of t.lower.policy.tasks j) a ↔ TaskOf (all policy t kept d y) a j
  unfolding tasks_of
  in-template j a = (
    λ h. (task-of policy t kept d y a j).0 (in-collect 64 (λ b. is j (t.lower.policy.tasks.template b)) a h).1,
    λ h. collect-below 64 (λ b. is j (t.lower.policy.tasks.template b)) a (small-task policy t kept d y a j h) ∙ (task-of policy t kept d y a j).1 h,
  )

  all_but_one : (alone t.lower.policy.tasks (t.orders.opened r.b) mine r.c ≡ true) ↔ AllButOne (all policy t kept d y) r
  unfolding alone
  all_but_one =
      let k = t.lower.policy.tasks in
      Iff.trans (is-there (λ j. k.banned j && within (minus (tasks_of k j) r.c) mine && leb 2 (size (tasks_of k j))) (t.orders.opened r.b)) (
        λ x. let z = (at x.0).0 x.2 in (x.0, x.1, z.0, z.1, z.2),
        λ x. (x.0, x.1, (at x.0).1 (x.2, x.3, x.4)),
      )
    where
      banned : (j : ℕ) → (t.lower.policy.tasks.banned j ≡ true) ↔ Any (λ q. q.a ≡ j) (of_kind 13 policy)
      banned j = as-test (kept.0.made.banned j) (some-any (λ q. eqb j q.a) (λ q. q.a ≡ j) (λ q. turned_same j q.a) (of_kind 13 policy))

      rest : (j : ℕ) → (within (minus (tasks_of t.lower.policy.tasks j) r.c) mine ≡ true)
          ↔ ((a : ℕ) → TaskOf (all policy t kept d y) a j → Not (a ≡ r.c) → InD (all policy t kept d y) r a)
      rest j = (
        λ e a h n. (in-d a).0 (within_has _ mine a e ((minus-parts _ r.c a).1 ((in-template j a).1 h, n))),
        λ f. has_within _ mine (λ a h. let z = (minus-parts _ r.c a).0 h in (in-d a).1 (f a ((in-template j a).0 z.0) z.1)),
      )

      at : (j : ℕ) →
          (t.lower.policy.tasks.banned j && within (minus (tasks_of t.lower.policy.tasks j) r.c) mine && leb 2
          (size (tasks_of t.lower.policy.tasks j)) ≡ true)
          ↔ (Any (λ q. q.a ≡ j) (of_kind 13 policy)
          × ((a : ℕ) → TaskOf (all policy t kept d y) a j → Not (a ≡ r.c) → InD (all policy t kept d y) r a)
          × ((a p : ℕ) × TaskOf (all policy t kept d y) a j × TaskOf (all policy t kept d y) p j × Not (a ≡ p)))
      at j = all_three _ _ _ (banned j) (rest j) (Iff.trans (two-members (tasks_of t.lower.policy.tasks j)) (
        λ x. (x.0, x.1, (in-template j x.0).0 x.2, (in-template j x.1).0 x.3, x.4),
        λ x. (x.0, x.1, (in-template j x.0).1 x.2, (in-template j x.1).1 x.3, x.4),
      ))

  bound-to-others : (found (bound t.lower.policy.rules (tasks_others r.b u es) r.c) ≡ true) ↔ BoundToOthers (all policy t kept d y) r
  unfolding bound tied
  bound-to-others =
      at_place (tied (tasks_others r.b u es) r.c) pair_of_two _ t.lower.policy.rules.bindings (of_kind 15 policy) kept.0.made.bindings
      (λ q. either _ _ (together _ _ (is_same q.a r.c) (others q.b)) (together _ _ (is_same q.b r.c) (others q.a)))

  all-spent : (spent t.lower.policy.tasks (many (keep (of_task r.b r.c) es)) r.c ≡ true) ↔ Spent (all policy t kept d y) r
  unfolding spent
  all-spent =
      let n = many (keep (of_task r.b r.c) es) in
      as-test (kept.0.made.most (λ k. leb k n) r.c)
      (some-any (λ q. eqb r.c q.a && leb q.n n) _ (λ q. together _ _ (turned_same r.c q.a) (
        λ e. (n, counted (of_task r.b r.c) _ (of-task r.b r.c) es, leb-true q.n n e),
        λ x. let c = counts-once (of_task r.b r.c) _ (of-task r.b r.c) x.1 in let l = x.2 in le-leb q.n n (omega arith),
      )) (of_kind 14 policy))

  no-entry-free : (leb 2048 (many es) ≡ true) ↔ (length es ≡ 2048)
  no-entry-free =
      let l = kept.1.ledger.room in
      let e = as_long es in
      (λ h. let k = leb-true 2048 (many es) h in omega arith, λ h. le-leb 2048 (many es) (omega arith))

  open-to : (a b : ℕ) → (has (t.lower.policy.tasks.open_to a) b ≡ true) ↔ OpenTo (all policy t kept d y) a b
  open-to a b =
      as-test (d.open_to a b)
      (some-any (λ q. eqb a q.a && eqb b q.b) (λ q. (q.a ≡ a) × (q.b ≡ b)) (λ q. together _ _ (turned_same a q.a) (turned_same b q.b))
      (of_kind 7 policy))

  pub claimed : GivenExactly (claiming (all policy t kept d y) r) (first (claim_checks t r.a r.b r.c))
  unfolding claim_checks gathered_checks rule_checks of_task are_in_order
  claimed =
      check (omega arith) (omega arith) _ (unknown-task policy t kept d y r) (λ _.
      check (omega arith) (omega arith) _ (some-any _ (λ e. (e.instance ≡ r.b) × (e.task ≡ r.c) × Held (all policy t kept d y) e)
      (λ e. all_three _ _ _ (is_same e.instance r.b) (is_same e.task r.c) (is-held e.standing)) es) (λ _.
      check (omega arith) (omega arith) _ (negated _ (Iff.trans (common (t.lower.policy.tasks.open_to r.c) _) (
        λ x. (x.0, (acting x.0).0 x.2, (open-to r.c x.0).0 x.1),
        λ x. (x.0, (open-to r.c x.0).1 x.2, (acting x.0).1 x.1),
      ))) (λ _.
      check (omega arith) (omega arith) _ not-ready (λ _.
      check (omega arith) (omega arith) _ too_many (λ _.
      check (omega arith) (omega arith) _ other_block (λ _.
      check (omega arith) (omega arith) _ all_but_one (λ _.
      check (omega arith) (omega arith) _ bound-to-others (λ _.
      check (omega arith) (omega arith) _ all-spent (λ _.
      check (omega arith) tt _ no-entry-free (λ _. none_left))))))))))
    where
      acting : (q : ℕ) → (has (down t.lower.policy.seniority (t.lower.sessions.active r.a)) q ≡ true) ↔ Acts (all policy t kept d y) r.a q
      acting = roles-of policy t.lower (kept.0, kept.2) d t.orders y (t.lower.sessions.active r.a)
