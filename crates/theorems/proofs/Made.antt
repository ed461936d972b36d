-- The rules, the tasks and the walls in the tables of an accepted policy are those of its records.
use Prim.Native.Nat.{ℕ}
use mathlib.Core.Path.{◌≡◌, refl, sym, ap, subst, ◌∙◌}
use mathlib.Core.Bool.{Bool, true, false, not, cond, ◌&&◌, ◌||◌, true≢false, or-true, or-false}
use mathlib.Core.List.{List, [], ◌∷◌, ◌++◌, append-nil}
use mathlib.Core.Logic.{◌↔◌}
use borrow.Author.Tests.{eqb-true, eq-eqb}
use lib.Dec.{eqb}
use Rattle.paper_lower.specs.Sets.{plus}
use Rattle.paper_lower.specs.Lists.{upd, Maybe, holds, there, some, add, keep, each, place, Every}
use Rattle.paper_lower.specs.Lists.Maybe.{none, just}
use Rattle.paper_lower.specs.Records.{Bytes, Record}
use Rattle.paper_lower.specs.Forms.{policy_forms}
use Rattle.paper_lower.specs.Kinds.{chosen}
use Rattle.paper_lower.specs.Tables.{Tasks, Limit, Block, Pair, Rules, Walled, Policy, no_policy}
use Rattle.paper_lower.specs.Policy.{user_next, role_next, permission_next, assign_next, give_next, task_checks, task_next, open_to_next, carries_next, static_next, dynamic_next, task_set_next, block_next, ban_next, most_checks, most_next, bind_next, before_next, raise_next, wall_next, policy_kinds}
use Rattle.paper_lower.specs.Load.{load, records_of}
use Rattle.paper_lower.proofs.ListLaws.{every-each, place_none, none-place, ◌⨾◌}
use Rattle.paper_lower.proofs.CheckLaws.{Passed}
use Rattle.theorems.specs.OverEntries.{of_kind}
use Rattle.theorems.proofs.Rows.{Rows}
use Rattle.theorems.proofs.Loads.{step, filled, Fits, Accepted, fits-rows, load-accepted}

-- The rule that a record of its kind makes.
abbrev pub a_limit : Record → Limit
a_limit r = record { n = r.n; members = r.m }

abbrev pub a_block : Record → Block
a_block r = record { partitioning = r.a; tasks = r.m }

abbrev pub pair_of_two : Record → Pair
pair_of_two r = record { a = r.a; b = r.b }

abbrev pub a_walled : Record → Walled
a_walled r = record { wall = r.a; block = r.b; object = r.c }

-- These tables are what the records of kinds 6 and 9 to 16 make.
pub record Made (policy : List Record) (tasks : Tasks) (rules : Rules) : Type 0 where
  pub template : (p : ℕ → Bool) (t : ℕ) → holds p (tasks.template t) ≡ some (λ r. eqb t r.a && p r.b) (of_kind 6 policy)
  pub statics : rules.statics ≡ each a_limit (of_kind 9 policy)
  pub dynamics : rules.dynamics ≡ each a_limit (of_kind 10 policy)
  pub task_sets : rules.task_sets ≡ each a_limit (of_kind 11 policy)
  pub blocks : rules.blocks ≡ each a_block (of_kind 12 policy)
  pub banned : (j : ℕ) → tasks.banned j ≡ some (λ r. eqb j r.a) (of_kind 13 policy)
  pub most : (p : ℕ → Bool) (t : ℕ) → holds p (tasks.most t) ≡ some (λ r. eqb t r.a && p r.n) (of_kind 14 policy)
  pub bindings : rules.bindings ≡ each pair_of_two (of_kind 15 policy)
  pub befores : rules.befores ≡ each pair_of_two (of_kind 16 policy)

-- ---- What a record of kind n makes.
abbrev add_rule : ℕ → Record → Rules → Rules
add_rule n r k = record {
  statics = cond (eqb n 9) (add k.statics (a_limit r)) k.statics;
  dynamics = cond (eqb n 10) (add k.dynamics (a_limit r)) k.dynamics;
  task_sets = cond (eqb n 11) (add k.task_sets (a_limit r)) k.task_sets;
  blocks = cond (eqb n 12) (add k.blocks (a_block r)) k.blocks;
  bindings = cond (eqb n 15) (add k.bindings (pair_of_two r)) k.bindings;
  befores = cond (eqb n 16) (add k.befores (pair_of_two r)) k.befores;
}

-- The tasks after a record of kind n.
abbrev set_task : ℕ → Record → Tasks → Tasks
set_task n r k = record {
  template = cond (eqb n 6) (upd k.template r.a (just r.b)) k.template;
  open_to = cond (eqb n 7) (upd k.open_to r.a (plus (k.open_to r.a) r.b)) k.open_to;
  banned = cond (eqb n 13) (upd k.banned r.a true) k.banned;
  most = cond (eqb n 14) (upd k.most r.a (just r.n)) k.most;
}

-- The rules, the tasks and the walls after a record of kind n.
abbrev Makes : ℕ → Policy → Record → Policy → Type 0
Makes n p r x =
    (x.rules ≡ add_rule n r p.rules) × (x.tasks ≡ set_task n r p.tasks) × (x.walls ≡ cond (eqb n 18) (add p.walls (a_walled r)) p.walls)

rows : Rows policy_forms Makes policy_kinds
unfolding policy_kinds user_next role_next permission_next assign_next give_next task_next open_to_next carries_next static_next dynamic_next task_set_next block_next ban_next most_next bind_next before_next raise_next wall_next
rows =
    (λ p r g c. (refl, refl, refl)) ⨾ (λ p r g c. (refl, refl, refl)) ⨾ (λ p r g c. (refl, refl, refl)) ⨾ (λ p r g c. (refl, refl, refl)) ⨾
    (λ p r g c. (refl, refl, refl))
    ⨾ (λ p r g c. (refl, refl, refl)) ⨾ (λ p r g c. (refl, refl, refl)) ⨾ (λ p r g c. (refl, refl, refl)) ⨾ (λ p r g c. (refl, refl, refl)) ⨾
    (λ p r g c. (refl, refl, refl))
    ⨾ (λ p r g c. (refl, refl, refl)) ⨾ (λ p r g c. (refl, refl, refl)) ⨾ (λ p r g c. (refl, refl, refl)) ⨾ (λ p r g c. (refl, refl, refl)) ⨾
    (λ p r g c. (refl, refl, refl))
    ⨾ (λ p r g c. (refl, refl, refl)) ⨾ (λ p r g c. (refl, refl, refl)) ⨾ (λ p r g c. (refl, refl, refl)) ⨾ tt

made-step : (p : Policy) (r : Record) → Fits p r → Makes r.kind p r (step p r)
made-step p r f = fits-rows Makes rows p r f

-- ---- A list to which every record of kind c adds an element.
pub add-more : {X : Type 0} (xs : List X) (y : X) (zs : List X) → add xs y ++ zs ≡ xs ++ (y ∷ zs)
unfolding add
add-more [] y zs = refl
add-more (x ∷ xs) y zs = ap (λ (l : List _). x ∷ l) (add-more xs y zs)

listed : {X : Type 0} (f : Policy → List X) (c : ℕ) (item : Record → X)
    → ((p : Policy) (r : Record) → Fits p r → f (step p r) ≡ cond (eqb r.kind c) (add (f p) (item r)) (f p))
    → (p : Policy) (rs : List Record) → Accepted p rs → f (filled p rs) ≡ f p ++ each item (of_kind c rs)
unfolding filled of_kind keep each
listed f c item one p [] a = sym (append-nil (f p))
listed {X} f c item one p (r ∷ rs) a =
    listed f c item one (step p r) rs a.1 ∙ ap (λ (xs : List X). xs ++ each item (of_kind c rs)) (one p r a.0) ∙ go (eqb r.kind c)
  where
    go : (b : Bool) → cond b (add (f p) (item r)) (f p) ++ each item (of_kind c rs) ≡ f p ++ each item (cond b (r ∷ of_kind c rs) (of_kind c rs))
    go true = add-more (f p) (item r) (each item (of_kind c rs))
    go false = refl

-- ---- A table in which a record of kind c sets a row. A second record for the same row is refused with TAKEN.
pub not_there : {A : Type 0} (p : A → Bool) (x : Maybe A) → there x ≡ false → holds p x ≡ false
unfolding holds
not_there p none h = refl
not_there p (just x) h = absurd (true≢false h)

set-once : (f : ℕ → Maybe ℕ) (a v : ℕ) (p : ℕ → Bool) (t : ℕ) (s : Bool) → there (f a) ≡ false
    → holds p (upd f a (just v) t) || s ≡ holds p (f t) || (eqb t a && p v || s)
unfolding upd holds
set-once f a v p t s h = go (eqb t a) refl
  where
    go : (b : Bool) → eqb t a ≡ b → holds p (cond b (just v) (f t)) || s ≡ holds p (f t) || (b && p v || s)
    go true e = rw (not_there p (f t) (ap (λ (i : ℕ). there (f i)) (eqb-true _ _ e) ∙ h))
    go false e = refl

noted : (f : Tasks → ℕ → Maybe ℕ) (c : ℕ) (v : Record → ℕ)
    → ((n : ℕ) (r : Record) (k : Tasks) → f (set_task n r k) ≡ cond (eqb n c) (upd (f k) r.a (just (v r))) (f k))
    → ((p : Policy) (r : Record) → Fits p r → r.kind ≡ c → there (f p.tasks r.a) ≡ false)
    → (q : ℕ → Bool) (t : ℕ) (p : Policy) (rs : List Record) → Accepted p rs
    → holds q (f (filled p rs).tasks t) ≡ holds q (f p.tasks t) || some (λ r. eqb t r.a && q (v r)) (of_kind c rs)
unfolding filled of_kind keep some
noted f c v one free q t p [] a = sym (or-false (holds q (f p.tasks t)))
noted f c v one free q t p (r ∷ rs) a =
    noted f c v one free q t (step p r) rs a.1
    ∙ ap (λ (g : ℕ → Maybe ℕ). holds q (g t) || some (λ r. eqb t r.a && q (v r)) (of_kind c rs))
    (ap f (made-step p r a.0).1 ∙ one r.kind r p.tasks)
    ∙ go (eqb r.kind c) refl
  where
    go : (b : Bool) → eqb r.kind c ≡ b
        → holds q (cond b (upd (f p.tasks) r.a (just (v r))) (f p.tasks) t) || some (λ r. eqb t r.a && q (v r)) (of_kind c rs)
        ≡ holds q (f p.tasks t) || some (λ r. eqb t r.a && q (v r)) (cond b (r ∷ of_kind c rs) (of_kind c rs))
    go true e = set-once (f p.tasks) r.a (v r) q t _ (free p r a.0 (eqb-true _ _ e))
    go false e = refl

task-new : (p : Policy) (r : Record) → Fits p r → r.kind ≡ 6 → there (p.tasks.template r.a) ≡ false
unfolding policy_kinds chosen task_checks
task-new p r f e =
    let c : Passed ((chosen policy_kinds 6).checks p r) = subst (λ (k : ℕ). Passed ((chosen policy_kinds k).checks p r)) e f.checks in c.0

most-new : (p : Policy) (r : Record) → Fits p r → r.kind ≡ 14 → there (p.tasks.most r.a) ≡ false
unfolding policy_kinds chosen most_checks
most-new p r f e =
    let c : Passed ((chosen policy_kinds 14).checks p r) = subst (λ (k : ℕ). Passed ((chosen policy_kinds k).checks p r)) e f.checks in c.1.0

-- ---- Bans.
mark-once : (f : ℕ → Bool) (a j : ℕ) (s : Bool) → upd f a true j || s ≡ f j || (eqb j a || s)
unfolding upd
mark-once f a j s = go (eqb j a) (f j)
  where
    go : (x b : Bool) → cond x true b || s ≡ b || (x || s)
    go true b = sym (or-true b)
    go false b = refl

marked : (j : ℕ) (p : Policy) (rs : List Record) → Accepted p rs
    → (filled p rs).tasks.banned j ≡ p.tasks.banned j || some (λ r. eqb j r.a) (of_kind 13 rs)
unfolding filled of_kind keep some
marked j p [] a = sym (or-false (p.tasks.banned j))
marked j p (r ∷ rs) a =
    marked j (step p r) rs a.1
    ∙ ap (λ (k : Tasks). k.banned j || some (λ r. eqb j r.a) (of_kind 13 rs)) (made-step p r a.0).1
    ∙ go (eqb r.kind 13)
  where
    go : (b : Bool) → cond b (upd p.tasks.banned r.a true) p.tasks.banned j || some (λ r. eqb j r.a) (of_kind 13 rs)
        ≡ p.tasks.banned j || some (λ r. eqb j r.a) (cond b (r ∷ of_kind 13 rs) (of_kind 13 rs))
    go true = mark-once p.tasks.banned r.a j _
    go false = refl

-- ---- All records of an accepted policy.
pub made_of : (rs : List Record) → Accepted no_policy rs → Made rs (filled no_policy rs).tasks (filled no_policy rs).rules
unfolding no_policy holds
made_of rs a =
    record {
      template = λ q t. noted (λ k. k.template) 6 (λ r. r.b) (λ n r k. refl) task-new q t no_policy rs a;
      statics = listed (λ p. p.rules.statics) 9 a_limit (λ p r f. ap (λ (k : Rules). k.statics) (made-step p r f).0) no_policy rs a;
      dynamics = listed (λ p. p.rules.dynamics) 10 a_limit (λ p r f. ap (λ (k : Rules). k.dynamics) (made-step p r f).0) no_policy rs a;
      task_sets = listed (λ p. p.rules.task_sets) 11 a_limit (λ p r f. ap (λ (k : Rules). k.task_sets) (made-step p r f).0) no_policy rs a;
      blocks = listed (λ p. p.rules.blocks) 12 a_block (λ p r f. ap (λ (k : Rules). k.blocks) (made-step p r f).0) no_policy rs a;
      banned = λ j. marked j no_policy rs a;
      most = λ q t. noted (λ k. k.most) 14 (λ r. r.n) (λ n r k. refl) most-new q t no_policy rs a;
      bindings = listed (λ p. p.rules.bindings) 15 pair_of_two (λ p r f. ap (λ (k : Rules). k.bindings) (made-step p r f).0) no_policy rs a;
      befores = listed (λ p. p.rules.befores) 16 pair_of_two (λ p r f. ap (λ (k : Rules). k.befores) (made-step p r f).0) no_policy rs a;
    }

pub made : (policy : Bytes) → (load policy).reply ≡ 0 → Made (records_of policy) (load policy).tables.tasks (load policy).tables.rules
made policy h = let x = load-accepted policy h in rw x.1 (made_of (records_of policy) x.0)

pub walls-of : (rs : List Record) → Accepted no_policy rs → (filled no_policy rs).walls ≡ each a_walled (of_kind 18 rs)
unfolding no_policy
walls-of rs a = listed (λ p. p.walls) 18 a_walled (λ p r f. (made-step p r f).2) no_policy rs a

pub walls-made : (policy : Bytes) → (load policy).reply ≡ 0 → (load policy).tables.walls ≡ each a_walled (of_kind 18 (records_of policy))
walls-made policy h = let x = load-accepted policy h in rw x.1 (walls-of (records_of policy) x.0)

-- ---- Statements about the rules in the tables as statements about the records.
pub of-each : {A B : Type 0} (P : B → Type 0) (f : A → B) (xs : List A) → Every P (each f xs) → Every (λ x. P (f x)) xs
unfolding each
of-each P f [] h = tt
of-each P f (x ∷ xs) h = (h.0, of-each P f xs h.1)

pub places : {X : Type 0} (p : X → Bool) (item : Record → X) (xs : List X) (rs : List Record) → xs ≡ each item rs
    → (not (eqb (place p xs) 0) ≡ false) ↔ Every (λ r. p (item r) ≡ false) rs
places p item xs rs e = (
  λ h. of-each (λ x. p x ≡ false) item rs (subst (Every (λ x. p x ≡ false)) e (place_none p xs h)),
  λ h. ap not (eq-eqb (place p xs) 0 (none-place p xs (subst (Every (λ x. p x ≡ false)) (sym e) (every-each (λ x. p x ≡ false) item rs h)))),
)
