-- After every accepted load the rules and the walls are well made.
use Prim.Native.Nat.{ℕ, zero, suc, ◌≤◌, ◌<◌}
use mathlib.Core.Path.{◌≡◌, refl, sym, ap, ◌∙◌}
use mathlib.Core.Bool.{Bool, true, false, not, cond, ◌&&◌, ◌||◌, true≢false, false≢true}
use mathlib.Core.List.{List, [], ◌∷◌}
use mathlib.Core.Logic.{⊎_elim}
use native.Mathlib.Omega.{arith}
use borrow.Author.Tests.{eqb-true, leb-true, leb-false, ltb-true, ltb-false, eqb-false, not-false}
use lib.Dec.{eqb, leb, ltb}
use Rattle.paper_lower.specs.Sets.{Set, empty, has, union, size, meets, within, collect}
use Rattle.paper_lower.specs.Lists.{upd, some_number_below, Maybe, holds, there, is, some, many, add, Every}
use Rattle.paper_lower.specs.Lists.Maybe.{none, just}
use Rattle.paper_lower.specs.Records.{Bytes}
use Rattle.paper_lower.specs.Forms.{policy_forms, form_of, above, out_of_range}
use Rattle.paper_lower.specs.Tables.{Tasks, Limit, Block, Pair, Rules, Walled, no_policy, with_statics, with_dynamics, with_task_sets, with_blocks, with_bindings, with_befores}
use Rattle.paper_lower.specs.Policy.{tasks_of, one_template, together, ill_made, user_next, role_next, permission_next, assign_next, give_next, task_checks, task_next, open_to_next, carries_next, static_checks, static_next, dynamic_checks, dynamic_next, task_set_checks, task_set_next, partitioned, block_checks, block_next, ban_next, most_checks, most_next, bind_checks, bind_next, before_checks, before_next, raise_next, block_of, another, same_walled, wall_checks, wall_next, policy_kinds}
use Rattle.paper_lower.specs.Load.{load, records_of}
use Rattle.paper_lower.proofs.ListLaws.{or-none, both, upd_same, upd_other, every_map, every-added, ◌⨾◌}
use Rattle.sets.proofs.Bits.{same-or-other}
use Rattle.sets.proofs.SetLaws.{Part, part-trans, part_left, part_right, within-part, has_part, collect-above, collect-below, none-common, meets-none}
use Rattle.theorems.specs.OverEntries.{EveryTwo}
use Rattle.theorems.specs.WellMade.{Limits, AllOf, Linked, WellCut, WellMade, WellWalled}
use Rattle.theorems.proofs.Rows.{Rows}
use Rattle.theorems.proofs.Loads.{load-keeps, load-accepted}

-- ---- Values that are present.
pub holds-just : {A : Type 0} (p : A → Bool) (x : Maybe A) → holds p x ≡ true → (y : A) × (x ≡ just y) × (p y ≡ true)
unfolding holds
holds-just p none h = absurd (false≢true h)
holds-just p (just y) h = (y, refl, h)

pub is-just : (j : ℕ) (x : Maybe ℕ) → is j x ≡ true → x ≡ just j
is-just j x h = let y = holds-just (λ n. eqb n j) x h in y.1 ∙ ap (λ (n : ℕ). just n) (eqb-true _ _ y.2)

pub below-some : (n : ℕ) (f : ℕ → Bool) → some_number_below n f ≡ true → (k : ℕ) × (f k ≡ true)
unfolding some_number_below
below-some zero f h = absurd (false≢true h)
below-some (suc n) f h = go (f n) refl h (below-some n f)
  where
    go : (b : Bool) → f n ≡ b → b || some_number_below n f ≡ true → (some_number_below n f ≡ true → (k : ℕ) × (f k ≡ true)) → (k : ℕ) × (f k ≡ true)
    go true e h rest = (n, e)
    go false e h rest = rest h

pub in-collect : (n : ℕ) (f : ℕ → Bool) (x : ℕ) → has (collect n f) x ≡ true → (x < n) × (f x ≡ true)
in-collect n f x h = go (ltb x n) refl
  where
    go : (b : Bool) → ltb x n ≡ b → (x < n) × (f x ≡ true)
    go true e = let l = ltb-true x n e in (l, sym (collect-below n f x l) ∙ h)
    go false e = absurd (true≢false (sym h ∙ collect-above n f x (ltb-false x n e)))

all_of : (k : Tasks) (m : Set) (j : ℕ) → Part m (tasks_of k j) → AllOf k.template j m
unfolding tasks_of
all_of k m j h t e = is-just j (k.template t) (in-collect 64 _ t (has_part m _ t h e)).1

-- ---- What follows if the check RULE does not apply.
limits : (n : ℕ) (m : Set) → ill_made n m ≡ false → Limits (record { n = n; members = m })
unfolding ill_made
limits n m h =
    let x = both (leb 1 n) (ltb n (size m)) (not-false (leb 1 n && ltb n (size m)) h) in
    (leb-true 1 n x.0, ltb-true n (size m) x.1)

one_of : (k : Tasks) (m : Set) → not (one_template k m) ≡ false → (j : ℕ) × Part m (tasks_of k j)
unfolding one_template
one_of k m h = let x = below-some 16 (λ j. within m (tasks_of k j)) (not-false _ h) in (x.0, within-part m (tasks_of k x.0) x.1)

linked : (k : Tasks) (a b : ℕ) → eqb a b || not (together k a b) ≡ false → Linked k.template (record { a = a; b = b })
unfolding together
linked k a b h =
    let x = or-none (eqb a b) (not (together k a b)) h in
    let y = holds-just (λ j. is j (k.template b)) (k.template a) (not-false _ x.1) in
    (eqb-false a b x.0, (y.0, y.1, is-just y.0 (k.template b) y.2))

-- ---- One more task.
module _ (f : ℕ → Maybe ℕ) (a b : ℕ) (new : there (f a) ≡ false) where
  still : (t j : ℕ) → f t ≡ just j → upd f a (just b) t ≡ just j
  unfolding holds
  still t j h = upd_other f a t (just b) (λ e. true≢false (sym (ap there (sym (ap f e) ∙ h)) ∙ new)) ∙ h

  still-linked : (x : Pair) → Linked f x → Linked (upd f a (just b)) x
  still-linked x y = (y.0, (y.1.0, still x.a y.1.0 y.1.1, still x.b y.1.0 y.1.2))

  task-more : (most : ℕ → Maybe ℕ) (k : Rules) → a < 64 → WellMade f most k → WellMade (upd f a (just b)) most k
  task-more most k l i = record {
    tasks = λ t j h. ⊎_elim (λ (e : t ≡ a). omega arith) (λ n. i.tasks t j (sym (upd_other f a t (just b) n) ∙ h)) (same-or-other t a);
    counts = i.counts;
    statics = i.statics;
    dynamics = i.dynamics;
    task_sets = every_map k.task_sets (λ s x. (x.0, (x.1.0, λ t h. still t x.1.0 (x.1.1 t h)))) i.task_sets;
    blocks = record {
      partitionings = i.blocks.partitionings;
      none-empty = i.blocks.none-empty;
      one-template = λ q.
          let x = i.blocks.one-template q in
          (x.0, every_map k.blocks (λ s y e t h. still t x.0 (y e t h)) x.1);
      disjoint = i.blocks.disjoint;
    };
    bindings = every_map k.bindings still-linked i.bindings;
    befores = every_map k.befores still-linked i.befores;
  }

-- ---- One more block.
two-added : {A : Type 0} (R : A → A → Type 0) (xs : List A) (y : A) → EveryTwo R xs → Every (λ x. R x y) xs → EveryTwo R (add xs y)
unfolding add
two-added R [] y h k = (tt, tt)
two-added R (x ∷ xs) y h k = (every-added (R x) xs y h.0 k.0, two-added R xs y h.1 k.1)

in-partitioned : (q : ℕ) (bs : List Block) → Every (λ k. k.partitioning ≡ q → Part k.tasks (partitioned q bs)) bs
unfolding partitioned
in-partitioned q [] = tt
in-partitioned q (x ∷ xs) = go (eqb x.partitioning q) refl (in-partitioned q xs)
  where
    go : (b : Bool) → eqb x.partitioning q ≡ b → Every (λ k. k.partitioning ≡ q → Part k.tasks (partitioned q xs)) xs
        → Every (λ k. k.partitioning ≡ q → Part k.tasks (cond b (union x.tasks (partitioned q xs)) (partitioned q xs))) (x ∷ xs)
    go true e h = (λ _. part_left _ _, every_map xs (λ k p i. part-trans _ _ _ (p i) (part_right x.tasks (partitioned q xs))) h)
    go false e h = (λ i. absurd (eqb-false _ _ e i), h)

module _ (k : Tasks) (bs : List Block) (a : ℕ) (m : Set) where
  abbrev new : Block
  new = record { partitioning = a; tasks = m }

  -- If block b is of partitioning q, its tasks are of template j.
  abbrev Of : ℕ → ℕ → Block → Type 0
  Of q j b = b.partitioning ≡ q → AllOf k.template j b.tasks

  -- The new block has tasks of the same template as the other blocks of its partitioning.
  same : (q : ℕ) → a ≡ q → not (one_template k (union m (partitioned a bs))) ≡ false → (j : ℕ) × Every (Of q j) (add bs new)
  same q e one =
      let x = one_of k (union m (partitioned a bs)) one in (
        x.0,
        every-added (Of q x.0) bs new
            (every_map bs (λ b p w. all_of k b.tasks x.0 (part-trans _ _ _ (p (w ∙ sym e)) (part-trans _ _ _ (part_right m _) x.1)))
            (in-partitioned a bs))
            (λ _. all_of k m x.0 (part-trans _ _ _ (part_left m _) x.1)),
      )

  apart : meets m (partitioned a bs) ≡ false → Every (λ b. b.partitioning ≡ a → meets b.tasks m ≡ false) bs
  apart h = every_map bs (λ b p e. meets-none b.tasks m (λ t x y. none-common m _ t h y (has_part _ _ t (p e) x))) (in-partitioned a bs)

  block_more : a < 16 → eqb m empty ≡ false → not (one_template k (union m (partitioned a bs))) ≡ false → meets m (partitioned a bs) ≡ false →
      WellCut k.template bs
      → WellCut k.template (add bs new)
  block_more l some one free i = record {
    partitionings = every-added (λ b. b.partitioning < 16) bs new i.partitionings l;
    none-empty = every-added (λ b. b.tasks ≡ empty → ⊥) bs new i.none-empty (eqb-false m empty some);
    one-template = λ q. ⊎_elim (λ e. same q e one)
        (λ n. let x = i.one-template q in (x.0, every-added (Of q x.0) bs new x.1 (λ e. absurd (n e)))) (same-or-other a q);
    disjoint = two-added _ bs new i.disjoint (apart free);
  }

-- ---- One more rule.
module _ (f g : ℕ → Maybe ℕ) (ru : Rules) (i : WellMade f g ru) where
  with-statics : (ls : List Limit) → Every Limits ls → WellMade f g (with_statics ru ls)
  with-statics ls h =
      record {
        tasks = i.tasks;
        counts = i.counts;
        statics = h;
        dynamics = i.dynamics;
        task_sets = i.task_sets;
        blocks = i.blocks;
        bindings = i.bindings;
        befores = i.befores;
      }

  with-dynamics : (ls : List Limit) → Every Limits ls → WellMade f g (with_dynamics ru ls)
  with-dynamics ls h =
      record {
        tasks = i.tasks;
        counts = i.counts;
        statics = i.statics;
        dynamics = h;
        task_sets = i.task_sets;
        blocks = i.blocks;
        bindings = i.bindings;
        befores = i.befores;
      }

  with-task-sets : (ls : List Limit) → Every (λ l. Limits l × ((j : ℕ) × AllOf f j l.members)) ls → WellMade f g (with_task_sets ru ls)
  with-task-sets ls h =
      record {
        tasks = i.tasks;
        counts = i.counts;
        statics = i.statics;
        dynamics = i.dynamics;
        task_sets = h;
        blocks = i.blocks;
        bindings = i.bindings;
        befores = i.befores;
      }

  with-blocks : (bs : List Block) → WellCut f bs → WellMade f g (with_blocks ru bs)
  with-blocks bs h =
      record {
        tasks = i.tasks;
        counts = i.counts;
        statics = i.statics;
        dynamics = i.dynamics;
        task_sets = i.task_sets;
        blocks = h;
        bindings = i.bindings;
        befores = i.befores;
      }

  with-bindings : (ps : List Pair) → Every (Linked f) ps → WellMade f g (with_bindings ru ps)
  with-bindings ps h =
      record {
        tasks = i.tasks;
        counts = i.counts;
        statics = i.statics;
        dynamics = i.dynamics;
        task_sets = i.task_sets;
        blocks = i.blocks;
        bindings = h;
        befores = i.befores;
      }

  with-befores : (ps : List Pair) → Every (Linked f) ps → WellMade f g (with_befores ru ps)
  with-befores ps h =
      record {
        tasks = i.tasks;
        counts = i.counts;
        statics = i.statics;
        dynamics = i.dynamics;
        task_sets = i.task_sets;
        blocks = i.blocks;
        bindings = i.bindings;
        befores = h;
      }

-- ---- One more count limit, and one more task set.
count-more : (f g : ℕ → Maybe ℕ) (ru : Rules) (a n : ℕ) → eqb n 0 ≡ false → WellMade f g ru → WellMade f (upd g a (just n)) ru
count-more f g ru a n some i = record {
  tasks = i.tasks;
  counts = λ t k h. ⊎_elim (λ (e : t ≡ a). at k (sym (upd_same g a t (just n) e) ∙ h))
      (λ q. i.counts t k (sym (upd_other g a t (just n) q) ∙ h)) (same-or-other t a);
  statics = i.statics;
  dynamics = i.dynamics;
  task_sets = i.task_sets;
  blocks = i.blocks;
  bindings = i.bindings;
  befores = i.befores;
}
  where
    at : (k : ℕ) → just n ≡ just k → 1 ≤ k
    at k e = let d = eqb-false n 0 some in let z : n ≡ k = cc in omega arith

task-set : (k : Tasks) (n : ℕ) (m : Set) → ill_made n m || not (one_template k m) ≡ false
    → Limits (record { n = n; members = m }) × ((j : ℕ) × AllOf k.template j m)
task-set k n m h =
    let x = or-none (ill_made n m) (not (one_template k m)) h in
    let y = one_of k m x.1 in
    (limits n m x.0, (y.0, all_of k m y.0 y.1))

-- ---- Every kind of policy record keeps the rules well made.

-- The field a is within its limit, if a record of these fields is not out of range.
pub a-within : (k a : ℕ) (b : Bool) → false || ltb k a || b || false || false ≡ false → a ≤ k
a-within k a b g = ltb-false k a (or-none (ltb k a) b (or-none _ _ (or-none _ _ g).0).0).0

-- The fields a and b are within their limits.
pub b-within : (n m a b : ℕ) → false || ltb n a || ltb m b || false || false ≡ false → (a ≤ n) × (b ≤ m)
b-within n m a b h = let s = or-none (ltb n a) (ltb m b) (or-none _ _ (or-none _ _ h).0).0 in (ltb-false n a s.0, ltb-false m b s.1)

rows : Rows policy_forms (λ n p r x. WellMade p.tasks.template p.tasks.most p.rules → WellMade x.tasks.template x.tasks.most x.rules)
    policy_kinds
unfolding policy_kinds policy_forms form_of out_of_range above user_next role_next permission_next assign_next give_next task_checks task_next open_to_next carries_next static_checks static_next dynamic_checks dynamic_next task_set_checks task_set_next block_checks block_next ban_next most_checks most_next bind_checks bind_next before_checks before_next raise_next wall_next
rows =
    (λ p r g c i. i) ⨾ (λ p r g c i. i) ⨾ (λ p r g c i. i) ⨾ (λ p r g c i. i) ⨾ (λ p r g c i. i)
    ⨾ (λ p r g c i. task-more _ r.a r.b c.0 _ p.rules (let l = a-within 63 r.a (ltb 15 r.b) g in omega arith) i)
    ⨾ (λ p r g c i. i) ⨾ (λ p r g c i. i)
    ⨾ (λ p r g c i. with-statics _ _ p.rules i _ (every-added Limits p.rules.statics _ i.statics (limits r.n r.m c.1.1.0)))
    ⨾ (λ p r g c i. with-dynamics _ _ p.rules i _ (every-added Limits p.rules.dynamics _ i.dynamics (limits r.n r.m c.1.1.0)))
    ⨾ (λ p r g c i. with-task-sets _ _ p.rules i _
    (every-added _ p.rules.task_sets _ i.task_sets (task-set p.tasks r.n r.m c.1.1.0)))
    ⨾ (λ p r g c i.
    let x = or-none _ (meets r.m (partitioned r.a p.rules.blocks)) c.1.1.0 in
    let y = or-none (eqb r.m empty) _ x.0 in
    let l = a-within 15 r.a false g in
    with-blocks _ _ p.rules i _ (block_more p.tasks p.rules.blocks r.a r.m (omega arith) y.0 y.1 x.1 i.blocks))
    ⨾ (λ p r g c i. i)
    ⨾ (λ p r g c i. count-more _ _ p.rules r.a r.n c.1.1.0 i)
    ⨾ (λ p r g c i. with-bindings _ _ p.rules i _
    (every-added _ p.rules.bindings _ i.bindings (linked p.tasks r.a r.b c.1.1.0)))
    ⨾ (λ p r g c i. with-befores _ _ p.rules i _ (every-added _ p.rules.befores _ i.befores (linked p.tasks r.a r.b c.1.1.0)))
    ⨾ (λ p r g c i. i) ⨾ (λ p r g c i. i)
    ⨾ tt

start : WellMade no_policy.tasks.template no_policy.tasks.most no_policy.rules
unfolding no_policy
start = record {
  tasks = λ t j (e : none ≡ just j). let z : ◌≡◌ {A = ℕ} 0 1 = cc in absurd (omega arith);
  counts = λ t n (e : none ≡ just n). let z : ◌≡◌ {A = ℕ} 0 1 = cc in absurd (omega arith);
  statics = tt;
  dynamics = tt;
  task_sets = tt;
  blocks = record { partitionings = tt; none-empty = tt; one-template = λ q. (0, tt); disjoint = tt };
  bindings = tt;
  befores = tt;
}

pub load-well-made : (policy : Bytes) → (load policy).reply ≡ 0 →
    WellMade (load policy).tables.tasks.template (load policy).tables.tasks.most (load policy).tables.rules
load-well-made policy h =
    let x = load-accepted policy h in
    rw x.1 (load-keeps (λ p. WellMade p.tasks.template p.tasks.most p.rules) rows no_policy (records_of policy) x.0 start)

-- ---- Walls.

-- If wall a has object c in no block other than b, and not in b either, it does not have the object.
not-walled : (xs : List Walled) (a b c : ℕ) → some (same_walled a b c) xs ≡ false → another b (block_of xs c a) ≡ false
    → Every (λ x. x.wall ≡ a → x.object ≡ c → ⊥) xs
unfolding some same_walled another block_of holds
not-walled [] a b c h k = tt
not-walled (x ∷ xs) a b c h k = go (eqb x.wall a) refl (eqb x.object c) refl (eqb x.block b) refl h k (not-walled xs a b c)
  where
    go : (e : Bool) → eqb x.wall a ≡ e → (f : Bool) → eqb x.object c ≡ f → (d : Bool) → eqb x.block b ≡ d →
        (e && d && f) || some (same_walled a b c) xs ≡ false
        → holds (λ j. not (eqb j b)) (cond (f && e) (just x.block) (block_of xs c a)) ≡ false
        → (some (same_walled a b c) xs ≡ false → another b (block_of xs c a) ≡ false → Every (λ x. x.wall ≡ a → x.object ≡ c → ⊥) xs)
        → Every (λ x. x.wall ≡ a → x.object ≡ c → ⊥) (x ∷ xs)
    go true p true q true o h k rest = absurd (true≢false h)
    go true p true q false o h k rest = absurd (true≢false (sym (ap not o) ∙ k))
    go true p false q d o h k rest = (λ w u. absurd (eqb-false _ _ q u), rest (or-none (d && false) _ h).1 k)
    go false p true q d o h k rest = (λ w u. absurd (eqb-false _ _ p w), rest h k)
    go false p false q d o h k rest = (λ w u. absurd (eqb-false _ _ p w), rest h k)

one_more : {A : Type 0} (xs : List A) (y : A) → many (add xs y) ≡ suc (many xs)
unfolding add many
one_more [] y = refl
one_more (x ∷ xs) y = ap suc (one_more xs y)

wall-more : (xs : List Walled) (a b c : ℕ) → a < 16 → b < 16 → some (same_walled a b c) xs ≡ false → another b (block_of xs c a) ≡ false →
    leb 256 (many xs) ≡ false
    → WellWalled xs → WellWalled (add xs (record { wall = a; block = b; object = c }))
wall-more xs a b c la lb new one free i = record {
  numbers = every-added _ xs _ i.numbers (la, lb);
  once = two-added _ xs _ i.once (not-walled xs a b c new one);
  room = let n = one_more xs (record { wall = a; block = b; object = c }) in let l = leb-false 256 (many xs) free in omega arith;
}

wall-rows : Rows policy_forms (λ n p r x. WellWalled p.walls → WellWalled x.walls) policy_kinds
unfolding policy_kinds policy_forms form_of out_of_range above user_next role_next permission_next assign_next give_next task_next open_to_next carries_next static_next dynamic_next task_set_next block_next ban_next most_next bind_next before_next raise_next wall_checks wall_next
wall-rows =
    (λ p r g c i. i) ⨾ (λ p r g c i. i) ⨾ (λ p r g c i. i) ⨾ (λ p r g c i. i) ⨾ (λ p r g c i. i) ⨾ (λ p r g c i. i) ⨾ (λ p r g c i. i) ⨾ (λ p r g c i. i)
    ⨾ (λ p r g c i. i) ⨾ (λ p r g c i. i) ⨾ (λ p r g c i. i) ⨾ (λ p r g c i. i) ⨾ (λ p r g c i. i) ⨾ (λ p r g c i. i) ⨾ (λ p r g c i. i) ⨾ (λ p r g c i. i)
    ⨾ (λ p r g c i. i)
    ⨾ (λ p r g c i.
    let l = b-within 15 15 r.a r.b g in
    let la = l.0 in
    let lb = l.1 in
    wall-more p.walls r.a r.b r.c (omega arith) (omega arith) c.0 c.1.0 c.1.1.0 i)
    ⨾ tt

pub load-well-walled : (policy : Bytes) → (load policy).reply ≡ 0 → WellWalled (load policy).tables.walls
unfolding no_policy many
load-well-walled policy h =
    let x = load-accepted policy h in
    rw x.1
    (load-keeps (λ p. WellWalled p.walls) wall-rows no_policy (records_of policy) x.0 (record { numbers = tt; once = tt; room = omega arith }))
