-- The theorems on the place that goes with a claim's reply (02, Ask 2): it is that of the first rule broken, among the policy's records of the kind.
use Prim.Native.Nat.{ℕ, zero, suc, ◌+◌, ◌<◌, ◌≤◌}
use mathlib.Core.Path.{◌≡◌, refl, sym, ap, subst, ◌∙◌}
use mathlib.Core.Bool.{Bool, true, false, not, cond, ◌&&◌, true≢false, false≢true}
use mathlib.Core.List.{List, [], ◌∷◌, ◌++◌}
use mathlib.Core.Logic.Iff
use mathlib.Core.Logic.{⊎_elim, ◌↔◌}
use native.Mathlib.Nat.{not-suc-le-zero}
use native.Mathlib.Omega.{arith}
use borrow.Author.Tests.{eqb-true, eq-eqb, ne_eqb, not-true}
use lib.Dec.{eqb}
use Rattle.paper_lower.specs.Sets.{Set, has, meets}
use Rattle.paper_lower.specs.Lists.{some, each, many, place_from, place, first_of, Every}
use Rattle.paper_lower.specs.Checks.{BEFORE, SEPARATION, BLOCK, BOUND}
use Rattle.paper_lower.specs.Records.{Bytes, Record, decode}
use Rattle.paper_lower.specs.Kinds.{Said, run}
use Rattle.paper_lower.specs.Tables.{Rules}
use Rattle.paper_lower.specs.Load.{records_of}
use Rattle.paper_lower.proofs.ListLaws.{both, every_map, every-both, every-left, every-right, every-pull, place_none}
use Rattle.sets.proofs.Bits.{same-or-other}
use Rattle.paper_upper.specs.Orders.{Entry, Engine, tasks_by, tasks_done, tasks_others}
use Rattle.paper_upper.specs.Rules.{missing, before, crowded, separation, own, strange, block_within, block, tied, bound, found, gathered_checks, rule_checks, rule_place}
use Rattle.paper_upper.specs.Requests.{claim_place}
use Rattle.paper_upper.specs.Engine.{request, place_of, place_to, placed_run}
use Rattle.theorems.specs.OverEntries.{of_kind, Allows}
use Rattle.theorems.specs.Theorems.{tables_next, shown, Reaches}
use Rattle.theorems.specs.Places.{At, PlacesExist, Prerequisite, TaskSet, Binding, FirstAt, Strange, SearchEndsAt, RuleAt, PlacesAreTrue, OthersCarryNone}
use Rattle.theorems.proofs.EntryLaws.{claiming}
use Rattle.theorems.proofs.Made.{a_limit, a_block, pair_of_two}
use Rattle.theorems.proofs.UserRules.{users-claim}
use Rattle.theorems.proofs.TaskSets.{one_set}
use Rattle.theorems.proofs.Bindings.{one-binding}
use Rattle.theorems.proofs.Prerequisites.{one-before}
use Rattle.theorems.proofs.Keeps.{Kept, kept-after}
use Rattle.theorems.proofs.Outside.{told-is-true}
use Rattle.theorems.proofs.FirstRule.{rules-say, entered}

many-append : (xs ys : List Record) → many (xs ++ ys) ≡ many xs + many ys
unfolding many
many-append [] ys = omega arith
many-append (x ∷ xs) ys = let h = many-append xs ys in omega arith

pub places-exist : PlacesExist
unfolding many
places-exist rs k a =
    let n : many rs ≡ many a.front + suc (many a.back) = ap many a.whole ∙ many-append a.front (a.it ∷ a.back) in
    let c = a.counted in
    (omega arith, omega arith)

-- ---- The first element for which p holds, and its place.
record Found (p : Record → Bool) (j : ℕ) (rs : List Record) (k : ℕ) : Type 0 where
  front : List Record
  it : Record
  back : List Record
  whole : rs ≡ front ++ (it ∷ back)
  counted : k ≡ suc (j + many front)
  here : p it ≡ true
  earlier : Every (λ r. p r ≡ false) front

found_from : (p : Record → Bool) (j : ℕ) (rs : List Record) (k : ℕ) → place_from (suc j) p rs ≡ k → (k ≡ 0 → ⊥) → Found p j rs k
unfolding place_from many
found_from p j [] k e ne = absurd (ne (sym e))
found_from p j (r ∷ rs) k e ne = go (p r) refl e (λ q. found_from p (suc j) rs k q ne)
  where
    go : (b : Bool) → p r ≡ b → cond b (suc j) (place_from (suc (suc j)) p rs) ≡ k → (place_from (suc (suc j)) p rs ≡ k → Found p (suc j) rs k)
        → Found p j (r ∷ rs) k
    go true h q rest = record { front = []; it = r; back = rs; whole = refl; counted = omega arith; here = h; earlier = tt }
    go false h q rest =
        let f = rest q in
        let c = f.counted in
        record {
          front = r ∷ f.front;
          it = f.it;
          back = f.back;
          whole = ap (λ (l : List Record). r ∷ l) f.whole;
          counted = omega arith;
          here = f.here;
          earlier = (h, f.earlier);
        }

-- The element at place k has the property, and none before it has.
record First (p : Record → Bool) (rs : List Record) (k : ℕ) : Type 0 where
  at : At rs k
  here : p at.it ≡ true
  earlier : Every (λ r. p r ≡ false) at.front

first-with : (p : Record → Bool) (rs : List Record) (k : ℕ) → place p rs ≡ k → (k ≡ 0 → ⊥) → First p rs k
unfolding place
first-with p rs k e ne =
    let f = found_from p 0 rs k e ne in
    let c = f.counted in
    record {
      at = record { front = f.front; it = f.it; back = f.back; whole = f.whole; counted = omega arith };
      here = f.here;
      earlier = f.earlier;
    }

-- A place among the rules in the tables is a place among the records.
place-each : {X : Type 0} (j : ℕ) (p : X → Bool) (item : Record → X) (rs : List Record) → place_from j p (each item rs) ≡ place_from j (λ r. p (item r)) rs
unfolding place_from each
place-each j p item [] = refl
place-each j p item (r ∷ rs) = ap (λ (n : ℕ). cond (p (item r)) j n) (place-each (suc j) p item rs)

place-of : {X : Type 0} (p : X → Bool) (item : Record → X) {xs : List X} (rs : List Record) → xs ≡ each item rs → place (λ r. p (item r)) rs ≡ place p xs
unfolding place
place-of p item rs e = rw e (sym (place-each 1 p item rs))

some-of-each : {X : Type 0} (p : X → Bool) (item : Record → X) (rs : List Record) → some p (each item rs) ≡ some (λ r. p (item r)) rs
unfolding some each
some-of-each p item [] = refl
some-of-each p item (r ∷ rs) = rw (some-of-each p item rs)

-- ---- BEFORE, SEPARATION and BOUND.
first-at : (p : Record → Bool) (Old New : Record → Type 0) → ((r : Record) → Old r → (p r ≡ false) ↔ New r) → (rs : List Record) → Every Old rs
    → (k : ℕ) → place p rs ≡ k → (k ≡ 0 → ⊥) → FirstAt New rs k
first-at p Old New f rs old k e ne =
    let w = first-with p rs k e ne in
    let x = w.at in
    let olds = subst (Every Old) x.whole old in
    record {
      at = x;
      broken = λ n. true≢false (sym w.here ∙ (f x.it (every-right Old x.front (x.it ∷ x.back) olds).0).1 n);
      earlier = every-both x.front (λ r h o. (f r o).0 h) w.earlier (every-left Old x.front (x.it ∷ x.back) olds);
    }

-- ---- BLOCK.
record FirstIs (f : ℕ → ℕ) (v : ℕ) : Type 0 where
  q : ℕ
  is : f q ≡ v
  below : (j : ℕ) → j < q → f j ≡ 0

first-is : (f : ℕ → ℕ) (v i n : ℕ) → ((j : ℕ) → j < i → f j ≡ 0) → first_of i n f ≡ v → (v ≡ 0 → ⊥) → FirstIs f v
unfolding first_of
first-is f v i zero h e ne = absurd (ne (sym e))
first-is f v i (suc n) h e ne = go (eqb (f i) 0) refl e (λ z q. first-is f v (suc i) n (more z) q ne)
  where
    more : f i ≡ 0 → (j : ℕ) → j < suc i → f j ≡ 0
    more z j l = ⊎_elim (λ (q : j ≡ i). ap f q ∙ z) (λ d. h j (omega arith)) (same-or-other j i)

    go : (b : Bool) → eqb (f i) 0 ≡ b → cond b (first_of (suc i) n f) (f i) ≡ v → (f i ≡ 0 → first_of (suc i) n f ≡ v → FirstIs f v) → FirstIs f v
    go true z q rest = rest (eqb-true _ _ z) q
    go false z q rest = record { q = i; is = q; below = h }

module _ (blocks : List Record) (d : Set) (c : ℕ) where
  -- Whether the record is a block of partitioning q with task c; `other`: without task
  -- c and with a task of d. `searched q` is the place that the search in q gives.
  abbrev owner : ℕ → Record → Bool
  owner q r = eqb r.a q && has r.m c

  abbrev other : ℕ → Record → Bool
  other q r = eqb r.a q && not (has r.m c) && meets r.m d

  abbrev searched : ℕ → ℕ
  searched q = cond (some (owner q) blocks) (place (other q) blocks) 0

  stops : (b : Bool) (n k : ℕ) → cond b n 0 ≡ k → (k ≡ 0 → ⊥) → (b ≡ true) × (n ≡ k)
  stops true n k e ne = (refl, e)
  stops false n k e ne = absurd (ne (sym e))

  passes : (b : Bool) (n : ℕ) → cond b n 0 ≡ 0 → b ≡ true → n ≡ 0
  passes true n e h = e
  passes false n e h = absurd (false≢true h)

  is-other : (r : Record) (q : ℕ) → r.a ≡ q → Strange blocks d c r → other q r ≡ true
  is-other r q e s = rw (eq-eqb r.a q e, s.1, s.2)

  -- The partitionings before q, in which the search found nothing, have no such block.
  module _ (q : ℕ) (below : (j : ℕ) → j < q → searched j ≡ 0) where
    none_below : Every (λ r. r.a < q → Strange blocks d c r → ⊥) blocks
    none_below =
        every_map blocks (λ r h l s. true≢false (sym (is-other r r.a refl s) ∙ h (r.a, l, s.0)))
        (every-pull {J = (j : ℕ) × (j < q) × (some (owner j) blocks ≡ true)} (λ w r. other w.0 r ≡ false) blocks (λ w.
        place_none (other w.0) blocks (ap not (eq-eqb (place (other w.0) blocks) 0
        (passes (some (owner w.0) blocks) (place (other w.0) blocks) (below w.0 w.1) w.2)))))

  ends_at : (k : ℕ) → FirstIs searched k → (k ≡ 0 → ⊥) → SearchEndsAt blocks d c k
  ends_at k f ne =
      let s = stops (some (owner f.q) blocks) (place (other f.q) blocks) k f.is ne in
      let w = first-with (other f.q) blocks k s.1 ne in
      let v = w.at in
      let x = both (eqb v.it.a f.q && not (has v.it.m c)) (meets v.it.m d) w.here in
      let y = both (eqb v.it.a f.q) (not (has v.it.m c)) x.0 in
      let e : v.it.a ≡ f.q = eqb-true _ _ y.0 in
      let Passed : Record → Type 0 = λ r. r.a < f.q → Strange blocks d c r → ⊥ in
      let passed = subst (Every Passed) v.whole (none_below f.q f.below) in
      record {
        at = v;
        strange = (subst (λ (q : ℕ). some (owner q) blocks ≡ true) (sym e) s.0, not-true _ y.1, x.1);
        front =
            every-both v.front
            (λ r h g l z. ⊎_elim (λ (i : r.a ≡ f.q). true≢false (sym (is-other r f.q i z) ∙ h)) (λ n. g (omega arith) z) (same-or-other r.a f.q))
            w.earlier (every-left Passed v.front (v.it ∷ v.back) passed);
        back = every_map v.back (λ r g l z. g (omega arith) z) (every-right Passed v.front (v.it ∷ v.back) passed).1;
      }

block_at : (ru : Rules) (blocks : List Record) → ru.blocks ≡ each a_block blocks → (d : Set) (c k : ℕ) → block ru d c ≡ k → (k ≡ 0 → ⊥) →
    SearchEndsAt blocks d c k
unfolding block block_within own strange
block_at ru blocks e d c k h ne =
    let f = first-is (block_within ru d c) k 0 16 (λ j l. absurd (not-suc-le-zero l)) h ne in
    ends_at blocks d c k (record { q = f.q; is = sym (same f.q) ∙ f.is; below = λ j l. sym (same j) ∙ f.below j l }) ne
  where
    same : (q : ℕ) → block_within ru d c q ≡ searched blocks d c q
    same q = rw (e, some-of-each (own q c) a_block blocks, ← place-of (strange q d c) a_block blocks refl)

-- ---- A claim.
module _ (t : Engine) (s : Bytes) (e : (decode s).kind ≡ 50) where
  abbrev r : Record
  r = decode s

  abbrev u : ℕ
  u = t.lower.sessions.user r.a

  place_is : {n : ℕ} → (request t s).reply ≡ n → place_to t s ≡ claim_place t r.a r.b r.c n
  unfolding place_to place_of
  place_is q = rw (eq-eqb _ 50 e, q)

  nonzero : (k : ℕ) → found k ≡ true → k ≡ 0 → ⊥
  nonzero k h z = true≢false (sym h ∙ ap not (eq-eqb k 0 z))

  module _ (policy : List Record) (k : Kept policy t) where
    abbrev ru : Rules
    ru = t.lower.policy.rules

    reaches : {n : ℕ} → (request t s).reply ≡ n → 14 ≤ n → Reaches BEFORE (request t s).reply
    reaches q l m = let z : ⊥ = omega arith in absurd z

    -- The rule over task sets, for every order and user, as a statement about each record.
    abbrev es : List Entry
    es = t.orders.entries

    sets-kept : Every (TaskSet t.orders) (of_kind 11 policy)
    sets-kept =
        every-pull {J = ℕ} (λ i x. (v : ℕ) → Allows x (tasks_by i v es)) (of_kind 11 policy) (λ i.
        every-pull {J = ℕ} (λ v x. Allows x (tasks_by i v es)) (of_kind 11 policy) (λ v. k.1.sets i v))

    one-task-set : (x : Record) → TaskSet t.orders x
        → (crowded (tasks_by r.b u es) r.c (a_limit x) ≡ false) ↔ TaskSet (claiming t.orders r.a r.b u r.c) x
    one-task-set x old =
        Iff.trans (one_set x (tasks_by r.b u es) r.c (old r.b u))
        (users-claim (λ template tasks. Allows x tasks) t.orders r.a r.b u r.c old)

    rule-at : RuleAt policy (shown t) r (request t s).reply (place_to t s)
    unfolding claim_place gathered_checks rule_checks rule_place before separation bound
    rule-at = record {
      befores =
          λ q. rw (entered t s e, place_is q) (first-at _ (Prerequisite t.orders) _ (λ x old. one-before es r.a r.b u r.c x old) (of_kind 16 policy)
          k.1.befores _
          (place-of (missing (tasks_done r.b es) r.c) pair_of_two (of_kind 16 policy) k.0.made.befores)
          (nonzero _ ((rules-say t s e (reaches q (omega arith))).0.1 q)));
      sets = λ q. rw (entered t s e, place_is q) (first-at _ (TaskSet t.orders) _ one-task-set (of_kind 11 policy) sets-kept _
          (place-of (crowded (tasks_by r.b u es) r.c) a_limit (of_kind 11 policy) k.0.made.task_sets)
          (nonzero _ ((rules-say t s e (reaches q (omega arith))).1.0.1 q)));
      blocks = λ q. rw (place_is q) (block_at ru (of_kind 12 policy) k.0.made.blocks (tasks_by r.b u es) r.c _ refl
          (nonzero _ ((rules-say t s e (reaches q (omega arith))).1.1.0.1 q)));
      bindings =
          λ q. rw (entered t s e, place_is q) (first-at _ (Binding t.orders) _ (λ x old. one-binding es r.a r.b u r.c x old) (of_kind 15 policy)
          k.1.bindings _
          (place-of (tied (tasks_others r.b u es) r.c) pair_of_two (of_kind 15 policy) k.0.made.bindings)
          (nonzero _ ((rules-say t s e (reaches q (omega arith))).1.1.1.1.0.1 q)));
    }

pub places-are-true : PlacesAreTrue
places-are-true policy accepted ss s e =
    rw (told-is-true policy accepted ss) (rule-at (tables_next policy ss) s e (records_of policy) (kept-after policy accepted ss))

-- A run with places has the requests and replies of the run without them.
pub placed-said : (t : Engine) (ss : List Bytes) → each (λ a. a.said) (placed_run t ss) ≡ run request t ss
unfolding each placed_run run
placed-said t [] = refl
placed-said t (s ∷ ss) = ap (λ (l : List Said). record { request = s; reply = (request t s).reply } ∷ l) (placed-said (request t s).tables ss)

pub others-carry-none : OthersCarryNone
unfolding place_to place_of claim_place rule_place
others-carry-none t s h = go (eqb (decode s).kind 50)
  where
    go : (b : Bool) → cond b (claim_place t (decode s).a (decode s).b (decode s).c (request t s).reply) 0 ≡ 0
    go true = rw (ne_eqb _ BEFORE h.0, ne_eqb _ SEPARATION h.1.0, ne_eqb _ BLOCK h.1.1.0, ne_eqb _ BOUND h.1.1.1.0)
    go false = refl
