-- For every kind of policy record: each check applies exactly when specs/Records.antt says so.
use Prim.Native.Nat.{ℕ, suc, ◌≤◌, ◌<◌}
use mathlib.Core.Path.{◌≡◌, refl, sym, ap, subst, ◌∙◌}
use mathlib.Core.Bool.{Bool, true, false, not, cond, ◌&&◌, ◌||◌, true≢false, false≢true}
use mathlib.Core.Logic.Iff
use mathlib.Core.Logic.{◌⊎◌, inl, inr, ⊎_elim, ◌↔◌}
use mathlib.Core.List.{List, [], ◌∷◌, ◌++◌, append-nil}
use native.Mathlib.Omega.{arith}
use borrow.Author.Tests.{eqb-true, eq-eqb, ltb-true, ltb-false, lt-ltb, leb-true, le-leb, not-false}
use lib.Dec.{eqb, ltb, leb}
use lib.ListN.{length}
use Rattle.paper_lower.specs.Sets.{Set, empty, has, plus, union, size, meets, within}
use Rattle.paper_lower.specs.Lists.{some_number_below, holds, there, is, some, many, keep, each, Every}
use Rattle.paper_lower.specs.Lists.Maybe.{just}
use Rattle.paper_lower.specs.Checks.{first}
use Rattle.paper_lower.specs.Records.{Record}
use Rattle.paper_lower.specs.Forms.{policy_forms, form_of, above, out_of_range}
use Rattle.paper_lower.specs.Tables.{Seniority, Block, Walled, Policy, no_policy}
use Rattle.paper_lower.specs.Policy.{down, breaks, is_for, declared_tasks, tasks_of, has_task, one_template, together as alike, same_limit, is_same_block, same_pair, ill_made, user_checks, role_checks, permission_checks, assign_checks, give_checks, task_checks, open_to_checks, carries_checks, static_checks, dynamic_checks, task_set_checks, partitioned, block_checks, ban_checks, most_checks, bind_checks, before_checks, raised, raisings, raise_checks, block_of, another, same_walled, wall_checks}
use Rattle.paper_lower.proofs.ListLaws.{or-none, or-false, every_map, some_below, many-each}
use Rattle.sets.proofs.SetLaws.{has-empty, same-members, in-or-out, collect-below, some-collected, has_within, within_has}
use Rattle.theorems.specs.Replies.{rank}
use Rattle.theorems.specs.OverEntries.{of_kind, puts, Any, Reached, Exceeded, Broken}
use Rattle.theorems.specs.Theorems.{fixed}
use Rattle.theorems.specs.Seniority.{AsRecorded}
use Rattle.theorems.specs.Exactly.{Not, Refusal, refusal, In}
use Rattle.theorems.specs.Records.{JudgedExactly, AUser, ARole, APermission, ATask, OfTemplate, HasRole, users, roles, permissions, tasks, assignments, roles_have, openings, carryings, statics, dynamics, task_sets, blocks, bans, counts, bindings, befores, seniors, walls}
use Rattle.theorems.proofs.Loads.{filled, Accepted}
use Rattle.theorems.proofs.Made.{a_limit, a_block, pair_of_two, a_walled, Made, made_of, walls-of}
use Rattle.theorems.proofs.WellMade.{a-within, in-collect}
use Rattle.theorems.proofs.Ranks.{named, Ranked, raised-ranked, put, ranked-of, named-of, as-recorded}
use Rattle.theorems.proofs.Reflects.{either, either_same, one_of_three, together, all_three, negated, same, is_same, turned_same, as-test, some-any, any-map, any_of, any-choose, row_below, some-row, astray, common}
use Rattle.theorems.proofs.Declared.{Declared, declared-of}
use Rattle.theorems.proofs.Limits.{no_more, as_many, union-parts, plus-parts, own-overlap, exceeds, reached, broken}
use Rattle.theorems.proofs.RecordsTables.{many-length, all-of-kind, users-of, holders-of, assigned-of, in_order, raisings-of}

-- ---- The first check that applies, in the order of `rank`.
pub none_left : JudgedExactly [] 0
none_left = record { granted = (λ _. tt, λ _. refl); refused = tt; listed = λ _. refl }

-- A refusal of a higher rank has another number.
other : (n : ℕ) (j : Refusal) → rank n < rank j.reply → n ≡ j.reply → ⊥
other n j up e = let q = ap rank e in let z : ⊥ = omega arith in z

module _ {n : ℕ} {When : Type 0} {ks : List Refusal} (low : 0 < n) (rises : Every (λ j. rank n < rank j.reply) ks) where
  applies : When → JudgedExactly (refusal n When ∷ ks) n
  applies w = record {
    granted = (λ e. let z : ⊥ = omega arith in absurd z, λ x. absurd (x.0 w));
    refused = (
      (λ _. (w, (λ l. let z : ⊥ = omega arith in absurd z, every_map ks (λ j up l. let z : ⊥ = omega arith in absurd z) rises)), λ _. refl),
      every_map ks (λ j up. (λ e. absurd (other n j up e), λ x. absurd (x.1.0 up w))) rises,
    );
    listed = λ x. absurd (x.0 refl);
  }

  passes : (q : ℕ) → Not When → JudgedExactly ks q → JudgedExactly (refusal n When ∷ ks) q
  passes q away g = record {
    granted = (λ e. (away, g.granted.0 e), λ x. g.granted.1 x.1);
    refused = (
      (λ e. absurd (different e), λ x. absurd (away x.0)),
      every_map ks (λ j h. (λ e. let x = h.0 e in (x.0, (λ l w. away w, x.1)), λ x. h.1 (x.0, x.1.1))) g.refused,
    );
    listed = λ x. g.listed x.1;
  }
    where
      different : q ≡ n → ⊥
      different e = let z = g.listed (every_map ks (λ j up i. other n j up (sym e ∙ i)) rises) in let w : ⊥ = omega arith in w

  pub check : {q : ℕ} (b : Bool) → (b ≡ true) ↔ When → (b ≡ false → JudgedExactly ks q) → JudgedExactly (refusal n When ∷ ks) (cond b n q)
  check true p rest = applies (p.0 refl)
  check {q} false p rest = passes q (λ w. false≢true (p.1 w)) (rest refl)

-- What follows from any element with the property follows if there is one.
any_some : {A : Type 0} {Q : A → Type 0} (R : Type 0) (xs : List A) → ((x : A) → Q x → R) → Any Q xs → R
any_some R [] f h = absurd h
any_some R (x ∷ xs) f h = ⊎_elim (f x) (any_some R xs f) h

-- ---- The rules in the tables and the policy's records.
pub some-of-each : {A : Type 0} (p : A → Bool) (f : Record → A) (P : Record → Type 0) → ((x : Record) → (p (f x) ≡ true) ↔ P x)
    → (xs : List A) (rs : List Record) → xs ≡ each f rs → (some p xs ≡ true) ↔ Any P rs
unfolding some each
some-of-each p f P h xs rs e = as-test (ap (some p) e) (go rs)
  where
    go : (rs : List Record) → (some p (each f rs) ≡ true) ↔ Any P rs
    go [] = (λ e. false≢true e, λ x. absurd x)
    go (x ∷ rs) = either (p (f x)) (some p (each f rs)) (h x) (go rs)

full : {A : Type 0} (n : ℕ) (f : Record → A) (xs : List A) (rs : List Record) → xs ≡ each f rs → (leb n (many xs) ≡ true) ↔ (n ≤ length rs)
full n f xs rs e =
    let q : many xs ≡ length rs = ap many e ∙ many-each f rs ∙ many-length rs in
    subst (λ (k : ℕ). (leb n (many xs) ≡ true) ↔ (n ≤ k)) q (leb-true n (many xs), le-leb n (many xs))

same-limit : (n m : ℕ) (x : Record) → (same_limit n m (a_limit x) ≡ true) ↔ ((x.n ≡ n) × (x.m ≡ m))
unfolding same_limit
same-limit n m x = together (eqb x.n n) (eqb x.m m) (is_same x.n n) (is_same x.m m)

same-pair : (a b : ℕ) (x : Record) → (same_pair a b (pair_of_two x) ≡ true) ↔ ((x.a ≡ a) × (x.b ≡ b))
unfolding same_pair
same-pair a b x = together (eqb x.a a) (eqb x.b b) (is_same x.a a) (is_same x.b b)

same_block : (a m : ℕ) (x : Record) → (is_same_block a m (a_block x) ≡ true) ↔ ((x.a ≡ a) × (x.m ≡ m))
unfolding is_same_block
same_block a m x = together (eqb x.a a) (eqb x.m m) (is_same x.a a) (is_same x.m m)

-- "1 <= n < number of members"
well-made : (r : Record) → (leb 1 r.n && ltb r.n (size r.m) ≡ true) ↔ ((1 ≤ r.n) × Exceeded (λ _. Unit {0}) r)
well-made r = together _ _ (leb-true 1 r.n, le-leb 1 r.n) (
  λ e.
      let l = ltb-true r.n (size r.m) e in
      let o = own-overlap r.m in
      let y = as_many r.m r.m (suc r.n) (omega arith) in
      let k = y.2 in
      record { roles = y.0; different = y.1; more = omega arith; among = every_map y.0 (λ q h. (h.0, tt)) y.3 },
  λ y.
      let o = own-overlap r.m in
      let l = no_more r.m r.m y.roles y.different (every_map y.roles (λ q h. (h.0, h.0)) y.among) in
      let k = y.more in
      lt-ltb r.n (size r.m) (omega arith),
)

ill-made : (r : Record) → (ill_made r.n r.m ≡ true) ↔ Not ((1 ≤ r.n) × Exceeded (λ _. Unit {0}) r)
unfolding ill_made
ill-made r = negated (leb 1 r.n && ltb r.n (size r.m)) (well-made r)

-- A set is empty exactly if it has no member.
no_member : (m : Set) → (eqb m empty ≡ true) ↔ Not ((t : ℕ) × In m t)
no_member m = (
  λ e x. true≢false (sym x.1 ∙ ap (λ (k : Set). has k x.0) (eqb-true m empty e) ∙ has-empty x.0),
  λ n. eq-eqb m empty (same-members m empty (λ i. go i (has m i) refl n)),
)
  where
    go : (i : ℕ) (b : Bool) → has m i ≡ b → Not ((t : ℕ) × In m t) → has m i ≡ has empty i
    go i true e n = absurd (n (i, e))
    go i false e n = e ∙ sym (has-empty i)

-- ---- The tables after accepted records.
module _ (rs : List Record) (a : Accepted no_policy rs) where
  abbrev p : Policy
  p = filled no_policy rs

  abbrev se : Seniority
  se = p.seniority

  declared : Declared rs (fixed p)
  declared = declared-of rs a

  made : Made rs p.tasks p.rules
  made = made_of rs a

  ranked : Ranked se
  ranked = ranked-of rs a

  recorded : AsRecorded rs se
  recorded = as-recorded rs se ranked (named-of rs a)

  -- ---- What is declared.
  is-user : (u : ℕ) → (p.people.users u ≡ true) ↔ AUser rs u
  is-user u = as-test (users-of rs a u) (some-any (λ q. eqb u q.a) (λ q. q.a ≡ u) (λ q. turned_same u q.a) (of_kind 1 rs))

  is-role : (i : ℕ) → (has p.people.roles i ≡ true) ↔ ARole rs i
  is-role i = as-test (declared.roles i) (some-any (λ q. eqb i q.a) (λ q. q.a ≡ i) (λ q. turned_same i q.a) (of_kind 2 rs))

  just-number : (i : ℕ) (q : Record) → (eqb i q.a && true ≡ true) ↔ (q.a ≡ i)
  just-number i q = Iff.trans (together (eqb i q.a) true (turned_same i q.a) same) (λ x. x.0, λ x. (x, refl))

  is-permission : (i : ℕ) → (there (p.permissions.declared i) ≡ true) ↔ APermission rs i
  is-permission i = as-test (declared.permissions (λ _. true) i) (some-any (λ q. eqb i q.a && true) (λ q. q.a ≡ i) (just-number i) (of_kind 3 rs))

  is-task : (t : ℕ) → (there (p.tasks.template t) ≡ true) ↔ ATask rs t
  is-task t = as-test (made.template (λ _. true) t) (some-any (λ q. eqb t q.a && true) (λ q. q.a ≡ t) (just-number t) (of_kind 6 rs))

  of-template : (j t : ℕ) → (is j (p.tasks.template t) ≡ true) ↔ OfTemplate rs j t
  of-template j t =
      as-test (made.template (λ n. eqb n j) t)
      (some-any (λ q. eqb t q.a && eqb q.b j) (λ q. (q.a ≡ t) × (q.b ≡ j)) (λ q. together _ _ (turned_same t q.a) (is_same q.b j)) (of_kind 6 rs))

  has-role : (u b : ℕ) → (has (p.people.assigned u) b ≡ true) ↔ HasRole rs u b
  has-role u b =
      as-test (assigned-of rs a u b)
      (some-any (λ q. eqb u q.a && eqb b q.b) (λ q. (q.a ≡ u) × (q.b ≡ b)) (λ q. together _ _ (turned_same u q.a) (turned_same b q.b))
      (of_kind 4 rs))

  -- ---- Tasks, templates, roles and permissions have numbers within their limits.
  small-tasks : Every (λ q. q.a ≤ 63) (of_kind 6 rs)
  unfolding policy_forms form_of out_of_range above
  small-tasks = all-of-kind 6 (λ q. q.a ≤ 63) (λ q g. a-within 63 q.a (ltb 15 q.b) g) no_policy rs a

  small-templates : Every (λ q. q.b ≤ 15) (of_kind 6 rs)
  unfolding policy_forms form_of out_of_range above
  small-templates = all-of-kind 6 (λ q. q.b ≤ 15) (λ q g. within q g) no_policy rs a
    where
      within : (q : Record) → ltb 63 q.a || ltb 15 q.b || false || false ≡ false → q.b ≤ 15
      within q g = ltb-false 15 q.b (or-none (ltb 63 q.a) (ltb 15 q.b) (or-none _ false (or-none _ false g).0).0).1

  small-roles : Every (λ q. q.a ≤ 63) (of_kind 2 rs)
  unfolding policy_forms form_of out_of_range above
  small-roles = all-of-kind 2 (λ q. q.a ≤ 63) (λ q g. a-within 63 q.a false g) no_policy rs a

  small-permissions : Every (λ q. q.a ≤ 255) (of_kind 3 rs)
  small-permissions = declared.small

  task-small : (t : ℕ) → ATask rs t → t < 64
  task-small t h = any_of (t < 64) (of_kind 6 rs) small-tasks (λ q l e. omega arith) h

  in-template-small : (j t : ℕ) → OfTemplate rs j t → t < 64
  in-template-small j t h = any_of (t < 64) (of_kind 6 rs) small-tasks (λ q l e. let x = e.0 in omega arith) h

  template-small : (j t : ℕ) → OfTemplate rs j t → j < 16
  template-small j t h = any_of (j < 16) (of_kind 6 rs) small-templates (λ q l e. let x = e.1 in omega arith) h

  -- ---- Members of a set that are not declared.
  without-roles : (m : Set) → (not (within m p.people.roles) ≡ true) ↔ ((i : ℕ) × In m i × Not (ARole rs i))
  without-roles m = Iff.trans (astray m p.people.roles) (
    λ x. (x.0, x.1, λ h. x.2 ((is-role x.0).1 h)),
    λ x. (x.0, x.1, λ h. x.2 ((is-role x.0).0 h)),
  )

  declared-task : (t : ℕ) → (has (declared_tasks p.tasks) t ≡ true) ↔ ATask rs t
  unfolding declared_tasks
  declared-task t = (
    λ h. (is-task t).0 (in-collect 64 (λ t. there (p.tasks.template t)) t h).1,
    λ h. collect-below 64 (λ t. there (p.tasks.template t)) t (task-small t h) ∙ (is-task t).1 h,
  )

  without-tasks : (m : Set) → (not (within m (declared_tasks p.tasks)) ≡ true) ↔ ((i : ℕ) × In m i × Not (ATask rs i))
  without-tasks m = Iff.trans (astray m (declared_tasks p.tasks)) (
    λ x. (x.0, x.1, λ h. x.2 ((declared-task x.0).1 h)),
    λ x. (x.0, x.1, λ h. x.2 ((declared-task x.0).0 h)),
  )

  -- ---- Templates.
  in-template : (j t : ℕ) → (has (tasks_of p.tasks j) t ≡ true) ↔ OfTemplate rs j t
  unfolding tasks_of
  in-template j t = (
    λ h. (of-template j t).0 (in-collect 64 (λ t. is j (p.tasks.template t)) t h).1,
    λ h. collect-below 64 (λ t. is j (p.tasks.template t)) t (in-template-small j t h) ∙ (of-template j t).1 h,
  )

  has-task : (j : ℕ) → (has_task p.tasks j ≡ true) ↔ Any (λ q. q.b ≡ j) (of_kind 6 rs)
  unfolding has_task tasks_of
  has-task j =
      as-test (sym (some-collected 64 (λ t. is j (p.tasks.template t))))
      (Iff.trans (some-row 64 (λ t. is j (p.tasks.template t)) (λ t. OfTemplate rs j t) (λ t l. of-template j t) (λ t h. in-template-small j t h)) (
        λ x. any-map (of_kind 6 rs) (λ q e. e.1) x.1,
        λ h. any-choose (λ t q. (q.a ≡ t) × (q.b ≡ j)) (of_kind 6 rs) (λ q e. (q.a, (refl, e))) h,
      ))

  one-template : (m : Set) → (one_template p.tasks m ≡ true) ↔ ((j : ℕ) × ((t : ℕ) → In m t → OfTemplate rs j t))
  unfolding one_template
  one-template m = (
    λ h. let x = row_below 16 (λ j. within m (tasks_of p.tasks j)) h in (x.0, λ t e. (in-template x.0 t).0 (within_has m _ t x.2 e)),
    λ x. go x.0 x.1 (ltb x.0 16) refl,
  )
    where
      go : (j : ℕ) → ((t : ℕ) → In m t → OfTemplate rs j t) → (b : Bool) → ltb j 16 ≡ b → some_number_below 16 (λ j. within m (tasks_of p.tasks j)) ≡ true
      go j f true e =
          some_below 16 (λ j. within m (tasks_of p.tasks j)) j (ltb-true j 16 e) (has_within m _ (λ t h. (in-template j t).1 (f t h)))
      go j f false e =
          some_below 16 (λ j. within m (tasks_of p.tasks j)) 0 (omega arith) (has_within m _ (λ t h.
          let l = template-small j t (f t h) in let k = ltb-false j 16 e in let z : ⊥ = omega arith in absurd z))

  of_one : (x y : ℕ) → (alike p.tasks x y ≡ true) ↔ ((j : ℕ) × OfTemplate rs j x × OfTemplate rs j y)
  unfolding alike
  of_one x y =
      Iff.trans (as-test (made.template (λ j. is j (p.tasks.template y)) x)
      (some-any (λ q. eqb x q.a && is q.b (p.tasks.template y)) (λ q. (q.a ≡ x) × OfTemplate rs q.b y)
      (λ q. together _ _ (turned_same x q.a) (of-template q.b y)) (of_kind 6 rs))) (
        λ h. let c = any-choose (λ (j : (j : ℕ) × OfTemplate rs j y) q. (q.a ≡ x) × (q.b ≡ j.0)) (of_kind 6 rs) (λ q e. ((q.b, e.1), (e.0, refl))) h in
            (c.0.0, c.1, c.0.1),
        λ z. any-map (of_kind 6 rs) (λ q e. (e.0, subst (λ (i : ℕ). OfTemplate rs i y) (sym e.1) z.2)) z.1,
      )

  ill-paired : (r : Record) → (eqb r.a r.b || not (alike p.tasks r.a r.b) ≡ true)
      ↔ ((r.a ≡ r.b) ⊎ Not ((j : ℕ) × OfTemplate rs j r.a × OfTemplate rs j r.b))
  ill-paired r = either _ _ (is_same r.a r.b) (negated _ (of_one r.a r.b))

  -- ---- Kinds 1 to 8.
  pub user : (r : Record) → JudgedExactly (users rs r) (first (user_checks p r.a))
  unfolding user_checks
  user r = check (omega arith) tt _ (is-user r.a) (λ _. none_left)

  pub role : (r : Record) → JudgedExactly (roles rs r) (first (role_checks p r.a))
  unfolding role_checks
  role r = check (omega arith) tt _ (is-role r.a) (λ _. none_left)

  pub task : (r : Record) → JudgedExactly (tasks rs r) (first (task_checks p r.a))
  unfolding task_checks
  task r = check (omega arith) tt _ (is-task r.a) (λ _. none_left)

  permission-for : (i b c : ℕ) → (holds (is_for b c) (p.permissions.declared i) ≡ true) ↔ Any (λ q. (q.a ≡ i) × (q.b ≡ b) × (q.c ≡ c)) (of_kind 3 rs)
  unfolding is_for
  permission-for i b c =
      as-test (declared.permissions (is_for b c) i)
      (some-any (λ q. eqb i q.a && (eqb q.b b && eqb q.c c)) (λ q. (q.a ≡ i) × (q.b ≡ b) × (q.c ≡ c))
      (λ q. Iff.trans (together (eqb i q.a) _ (turned_same i q.a) (together (eqb q.b b) (eqb q.c c) (is_same q.b b) (is_same q.c c)))
      (λ x. (x.0, x.1.0, x.1.1), λ x. (x.0, (x.1, x.2)))) (of_kind 3 rs))

  pair-taken : (b c : ℕ) → (some_number_below 256 (λ i. holds (is_for b c) (p.permissions.declared i)) ≡ true) ↔ Any (λ q. (q.b ≡ b) × (q.c ≡ c)) (of_kind 3 rs)
  pair-taken b c =
      Iff.trans (some-row 256 (λ i. holds (is_for b c) (p.permissions.declared i)) (λ i. Any (λ q. (q.a ≡ i) × (q.b ≡ b) × (q.c ≡ c)) (of_kind 3 rs))
      (λ i l. permission-for i b c) (λ i h. any_of (i < 256) (of_kind 3 rs) small-permissions (λ q l x. let e = x.0 in omega arith) h)) (
        λ x. any-map (of_kind 3 rs) (λ q e. (e.1, e.2)) x.1,
        λ h. any-choose (λ i q. (q.a ≡ i) × (q.b ≡ b) × (q.c ≡ c)) (of_kind 3 rs) (λ q e. (q.a, (refl, e.0, e.1))) h,
      )

  pub permission : (r : Record) → JudgedExactly (permissions rs r) (first (permission_checks p r.a r.b r.c))
  unfolding permission_checks
  permission r = check (omega arith) tt _ (either _ _ (is-permission r.a) (pair-taken r.b r.c)) (λ _. none_left)

  pub assignment : (r : Record) → JudgedExactly (assignments rs r) (first (assign_checks p r.a r.b))
  unfolding assign_checks rank
  assignment r =
      let m = p.people.assigned r.a in
      check (omega arith) (omega arith) _ (either _ _ (negated _ (is-user r.a)) (negated _ (is-role r.b))) (λ _.
      check (omega arith) (omega arith) _ (has-role r.a r.b) (λ _.
      check (omega arith) tt _
      (broken rs se ranked recorded _ (plus m r.b) (λ q. Iff.trans (plus-parts m r.b q) (either_same (has-role r.a q))) 9 p.rules.statics
      made.statics)
      (λ _. none_left)))

  pub role-has : (r : Record) → JudgedExactly (roles_have rs r) (first (give_checks p r.a r.b))
  unfolding give_checks rank
  role-has r =
      check (omega arith) (omega arith) _ (either _ _ (negated _ (is-role r.a)) (negated _ (is-permission r.b))) (λ _.
      check (omega arith) tt _ (as-test (holders-of rs a r.a r.b)
      (some-any (λ q. eqb r.b q.b && eqb r.a q.a) (λ q. (q.a ≡ r.a) × (q.b ≡ r.b))
      (λ q. Iff.trans (together _ _ (turned_same r.b q.b) (turned_same r.a q.a)) (λ x. (x.1, x.0), λ x. (x.1, x.0))) (of_kind 5 rs)))
      (λ _. none_left))

  pub opening : (r : Record) → JudgedExactly (openings rs r) (first (open_to_checks p r.a r.b))
  unfolding open_to_checks rank
  opening r =
      check (omega arith) (omega arith) _ (either _ _ (negated _ (is-task r.a)) (negated _ (is-role r.b))) (λ _.
      check (omega arith) tt _ (as-test (declared.open_to r.a r.b)
      (some-any (λ q. eqb r.a q.a && eqb r.b q.b) (λ q. (q.a ≡ r.a) × (q.b ≡ r.b))
      (λ q. together _ _ (turned_same r.a q.a) (turned_same r.b q.b)) (of_kind 7 rs))) (λ _. none_left))

  pub carrying : (r : Record) → JudgedExactly (carryings rs r) (first (carries_checks p r.a r.b))
  unfolding carries_checks rank
  carrying r =
      check (omega arith) (omega arith) _ (either _ _ (negated _ (is-task r.a)) (negated _ (is-permission r.b))) (λ _.
      check (omega arith) tt _ (as-test (declared.carriers r.a r.b)
      (some-any (λ q. eqb r.b q.b && eqb r.a q.a) (λ q. (q.a ≡ r.a) × (q.b ≡ r.b))
      (λ q. Iff.trans (together _ _ (turned_same r.b q.b) (turned_same r.a q.a)) (λ x. (x.1, x.0), λ x. (x.1, x.0))) (of_kind 8 rs)))
      (λ _. none_left))

  -- ---- Kinds 9 to 11: sets. A user has more roles of a set than it allows, counting the roles below those assigned.

  -- Who has a role is a user.
  roled : (u q : ℕ) → HasRole rs u q → p.people.users u ≡ true
  roled u q h = ⊎_elim (λ e. e)
      (λ e. absurd (true≢false (sym ((has-role u q).1 h) ∙ ap (λ (m : Set). has m q) ((in_order rs a).bare u e) ∙ has-empty q))) (in-or-out (p.people.users u))

  -- Whoever exceeds a set is a user.
  someone : (u : ℕ) (qs : List Record) (x : Record) → Exceeded (Reached qs (HasRole rs u)) x → p.people.users u ≡ true
  someone u qs x h = go h.roles h.more h.among
    where
      go : (ns : List ℕ) → x.n < length ns → Every (λ i. (has x.m i ≡ true) × Reached qs (HasRole rs u) i) ns → p.people.users u ≡ true
      go [] l e = let z : ⊥ = omega arith in absurd z
      go (i ∷ ns) l e = let y = e.0.1 in roled u y.0 y.1

  user-small : (u : ℕ) → p.people.users u ≡ true → u < 1024
  user-small = (in_order rs a).small

  -- A test of the roles of every user.
  of-users : (f : ℕ → Bool) (P : ℕ → Type 0) → ((u : ℕ) → (f u ≡ true) ↔ P u) → ((u : ℕ) → P u → p.people.users u ≡ true)
      → (some_number_below 1024 (λ u. p.people.users u && f u) ≡ true) ↔ ((u : ℕ) × P u)
  of-users f P each known =
      some-row 1024 (λ u. p.people.users u && f u) P (λ u l. Iff.trans (together (p.people.users u) (f u) same (each u)) (λ x. x.1, λ x. (known u x, x)))
      (λ u x. user-small u (known u x))

  pub static : (r : Record) → JudgedExactly (statics rs r) (first (static_checks p r.n r.m))
  unfolding static_checks rank
  static r =
      check (omega arith) (omega arith) _ (without-roles r.m) (λ _.
      check (omega arith) (omega arith) _
      (some-of-each (same_limit r.n r.m) a_limit _ (same-limit r.n r.m) p.rules.statics (of_kind 9 rs) made.statics) (λ _.
      check (omega arith) (omega arith) _ (ill-made r) (λ _.
      check (omega arith) (omega arith) _
      (of-users (λ u. breaks (down se (p.people.assigned u)) (a_limit r)) (λ u. Exceeded (Reached rs (HasRole rs u)) r)
      (λ u. exceeds (down se (p.people.assigned u)) (Reached rs (HasRole rs u))
      (reached rs se ranked recorded (HasRole rs u) (p.people.assigned u) (has-role u)) r)
      (λ u x. someone u rs r x)) (λ _.
      check (omega arith) tt _ (full 32 a_limit p.rules.statics (of_kind 9 rs) made.statics) (λ _. none_left)))))

  pub dynamic : (r : Record) → JudgedExactly (dynamics rs r) (first (dynamic_checks p r.n r.m))
  unfolding dynamic_checks rank
  dynamic r =
      check (omega arith) (omega arith) _ (without-roles r.m) (λ _.
      check (omega arith) (omega arith) _
      (some-of-each (same_limit r.n r.m) a_limit _ (same-limit r.n r.m) p.rules.dynamics (of_kind 10 rs) made.dynamics) (λ _.
      check (omega arith) (omega arith) _ (ill-made r) (λ _.
      check (omega arith) tt _ (full 32 a_limit p.rules.dynamics (of_kind 10 rs) made.dynamics) (λ _. none_left))))

  pub task-set : (r : Record) → JudgedExactly (task_sets rs r) (first (task_set_checks p r.n r.m))
  unfolding task_set_checks rank
  task-set r =
      check (omega arith) (omega arith) _ (without-tasks r.m) (λ _.
      check (omega arith) (omega arith) _
      (some-of-each (same_limit r.n r.m) a_limit _ (same-limit r.n r.m) p.rules.task_sets (of_kind 11 rs) made.task_sets) (λ _.
      check (omega arith) (omega arith) _ (either _ _ (ill-made r) (negated _ (one-template r.m))) (λ _.
      check (omega arith) tt _ (full 32 a_limit p.rules.task_sets (of_kind 11 rs) made.task_sets) (λ _. none_left))))

  -- ---- Kinds 13 to 16: bans, count limits, bindings and prerequisites.
  pub ban : (r : Record) → JudgedExactly (bans rs r) (first (ban_checks p r.a))
  unfolding ban_checks rank
  ban r =
      check (omega arith) (omega arith) _ (negated _ (has-task r.a)) (λ _.
      check (omega arith) tt _
      (as-test (made.banned r.a) (some-any (λ q. eqb r.a q.a) (λ q. q.a ≡ r.a) (λ q. turned_same r.a q.a) (of_kind 13 rs))) (λ _. none_left))

  pub count : (r : Record) → JudgedExactly (counts rs r) (first (most_checks p r.n r.a))
  unfolding most_checks rank
  count r =
      check (omega arith) (omega arith) _ (negated _ (is-task r.a)) (λ _.
      check (omega arith) (omega arith) _
      (as-test (made.most (λ _. true) r.a) (some-any (λ q. eqb r.a q.a && true) (λ q. q.a ≡ r.a) (just-number r.a) (of_kind 14 rs))) (λ _.
      check (omega arith) tt _ (is_same r.n 0) (λ _. none_left)))

  pub binding : (r : Record) → JudgedExactly (bindings rs r) (first (bind_checks p r.a r.b))
  unfolding bind_checks rank
  binding r =
      check (omega arith) (omega arith) _ (either _ _ (negated _ (is-task r.a)) (negated _ (is-task r.b))) (λ _.
      check (omega arith) (omega arith) _ (either _ _
      (some-of-each (same_pair r.a r.b) pair_of_two _ (same-pair r.a r.b) p.rules.bindings (of_kind 15 rs) made.bindings)
      (some-of-each (same_pair r.b r.a) pair_of_two _ (same-pair r.b r.a) p.rules.bindings (of_kind 15 rs) made.bindings)) (λ _.
      check (omega arith) (omega arith) _ (ill-paired r) (λ _.
      check (omega arith) tt _ (full 64 pair_of_two p.rules.bindings (of_kind 15 rs) made.bindings) (λ _. none_left))))

  pub before : (r : Record) → JudgedExactly (befores rs r) (first (before_checks p r.a r.b))
  unfolding before_checks rank
  before r =
      check (omega arith) (omega arith) _ (either _ _ (negated _ (is-task r.a)) (negated _ (is-task r.b))) (λ _.
      check (omega arith) (omega arith) _
      (some-of-each (same_pair r.a r.b) pair_of_two _ (same-pair r.a r.b) p.rules.befores (of_kind 16 rs) made.befores) (λ _.
      check (omega arith) (omega arith) _ (ill-paired r) (λ _.
      check (omega arith) tt _ (full 64 pair_of_two p.rules.befores (of_kind 16 rs) made.befores) (λ _. none_left))))

  -- ---- Kind 12: blocks. The tasks of a partitioning's blocks are those of its records.
  in_blocks : (q t : ℕ) (xs : List Record) → (has (partitioned q (each a_block xs)) t ≡ true) ↔ Any (λ x. (x.a ≡ q) × In x.m t) xs
  unfolding partitioned each
  in_blocks q t [] = (λ e. true≢false (sym e ∙ has-empty t), λ x. absurd x)
  in_blocks q t (x ∷ xs) = go (eqb x.a q) refl (in_blocks q t xs)
    where
      rest : Set
      rest = partitioned q (each a_block xs)

      go : (b : Bool) → eqb x.a q ≡ b → (has rest t ≡ true) ↔ Any (λ x. (x.a ≡ q) × In x.m t) xs
          → (has (cond b (union x.m rest) rest) t ≡ true) ↔ (((x.a ≡ q) × In x.m t) ⊎ Any (λ x. (x.a ≡ q) × In x.m t) xs)
      go true e ih = (
        λ h. ⊎_elim (λ k. inl (eqb-true _ _ e, k)) (λ k. inr (ih.0 k)) ((union-parts x.m rest t).0 h),
        λ h. (union-parts x.m rest t).1 (⊎_elim (λ k. inl k.1) (λ k. inr (ih.1 k)) h),
      )
      go false e ih = (λ h. inr (ih.0 h), λ h. ⊎_elim (λ k. absurd (true≢false (sym (eq-eqb _ _ k.0) ∙ e))) (λ k. ih.1 k) h)

  every_in : (q : ℕ) (P : ℕ → Type 0) (xs : List Record)
      → ((t : ℕ) → Any (λ x. (x.a ≡ q) × In x.m t) xs → P t) ↔ Every (λ x. x.a ≡ q → (t : ℕ) → In x.m t → P t) xs
  every_in q P [] = (λ f. tt, λ e t h. absurd h)
  every_in q P (x ∷ xs) = (
    λ f. (λ e t h. f t (inl (e, h)), (every_in q P xs).0 (λ t h. f t (inr h))),
    λ e t h. ⊎_elim (λ k. e.0 k.0 t k.1) (λ k. (every_in q P xs).1 e.1 t k) h,
  )

  module _ (r : Record) where
    -- The tasks in the earlier blocks of the record's partitioning.
    abbrev others : Set
    others = partitioned r.a p.rules.blocks

    in-others : (t : ℕ) → In others t ↔ Any (λ x. (x.a ≡ r.a) × In x.m t) (of_kind 12 rs)
    in-others t = as-test (ap (λ (bs : List Block). has (partitioned r.a bs) t) made.blocks) (in_blocks r.a t (of_kind 12 rs))

    alike-blocks : (one_template p.tasks (union r.m others) ≡ true)
        ↔ ((j : ℕ) × ((t : ℕ) → In r.m t → OfTemplate rs j t) × Every (λ q. q.a ≡ r.a → (t : ℕ) → In q.m t → OfTemplate rs j t) (of_kind 12 rs))
    alike-blocks = Iff.trans (one-template (union r.m others)) (
      λ x. (
        x.0,
        λ t h. x.1 t ((union-parts r.m others t).1 (inl h)),
        (every_in r.a (OfTemplate rs x.0) (of_kind 12 rs)).0 (λ t h. x.1 t ((union-parts r.m others t).1 (inr ((in-others t).1 h)))),
      ),
      λ x. (
        x.0,
        λ t h. ⊎_elim (x.1 t) (λ k. (every_in r.a (OfTemplate rs x.0) (of_kind 12 rs)).1 x.2 t ((in-others t).0 k)) ((union-parts r.m others t).0 h),
      ),
    )

    sharing : (meets r.m others ≡ true) ↔ Any (λ q. (q.a ≡ r.a) × ((t : ℕ) × In r.m t × In q.m t)) (of_kind 12 rs)
    sharing = Iff.trans (common r.m others) (
      λ x. any-map (of_kind 12 rs) (λ q e. (e.0, (x.0, x.1, e.1))) ((in-others x.0).0 x.2),
      λ h.
          let c =
          any-choose (λ (t : (t : ℕ) × In r.m t) q. (q.a ≡ r.a) × In q.m t.0) (of_kind 12 rs) (λ q e. ((e.1.0, e.1.1), (e.0, e.1.2))) h in
          (c.0.0, c.0.1, (in-others c.0.0).1 c.1),
    )

    pub block : JudgedExactly (blocks rs r) (first (block_checks p r.a r.m))
    unfolding block_checks rank
    block =
        check (omega arith) (omega arith) _ (without-tasks r.m) (λ _.
        check (omega arith) (omega arith) _
        (some-of-each (is_same_block r.a r.m) a_block _ (same_block r.a r.m) p.rules.blocks (of_kind 12 rs) made.blocks) (λ _.
        check (omega arith) (omega arith) _ (one_of_three _ _ _ (no_member r.m) (negated _ alike-blocks) sharing) (λ _.
        check (omega arith) tt _ (full 64 a_block p.rules.blocks (of_kind 12 rs) made.blocks) (λ _. none_left))))

  -- ---- Kind 17: a role above another. With this record, the roles below a role are those to which a chain of the earlier records and this one leads.
  module _ (r : Record) (kind : r.kind ≡ 17) where
    -- The earlier records and this one.
    abbrev more : List Record
    more = rs ++ (r ∷ [])

    last : (c : ℕ) → of_kind c more ≡ of_kind c rs ++ cond (eqb r.kind c) (r ∷ []) []
    unfolding of_kind keep
    last c = go rs
      where
        go : (xs : List Record) → keep (λ x. eqb x.kind c) (xs ++ (r ∷ [])) ≡ keep (λ x. eqb x.kind c) xs ++ cond (eqb r.kind c) (r ∷ []) []
        go [] = refl
        go (x ∷ xs) = at (eqb x.kind c) (go xs)
          where
            at : (b : Bool) → keep (λ x. eqb x.kind c) (xs ++ (r ∷ [])) ≡ keep (λ x. eqb x.kind c) xs ++ cond (eqb r.kind c) (r ∷ []) []
                → cond b (x ∷ keep (λ x. eqb x.kind c) (xs ++ (r ∷ []))) (keep (λ x. eqb x.kind c) (xs ++ (r ∷ [])))
                ≡ cond b (x ∷ keep (λ x. eqb x.kind c) xs) (keep (λ x. eqb x.kind c) xs) ++ cond (eqb r.kind c) (r ∷ []) []
            at true ih = ap (λ (ys : List Record). x ∷ ys) ih
            at false ih = ih

    some-last : {A : Type 0} (f : A → Bool) (xs : List A) (y : A) → some f (xs ++ (y ∷ [])) ≡ some f xs || f y
    unfolding some
    some-last f [] y = or-false (f y)
    some-last f (x ∷ xs) y = ap (λ (b : Bool). f x || b) (some-last f xs y) ∙ go (f x)
      where
        go : (b : Bool) → b || (some f xs || f y) ≡ (b || some f xs) || f y
        go true = refl
        go false = refl

    statics-same : of_kind 9 more ≡ of_kind 9 rs
    statics-same = last 9 ∙ ap (λ (k : ℕ). of_kind 9 rs ++ cond (eqb k 9) (r ∷ []) []) kind ∙ append-nil (of_kind 9 rs)

    put-more : (x y : ℕ) → named (raised se r.a r.b) x y ≡ puts more x y
    unfolding puts
    put-more x y =
        put se r.a r.b x y
        ∙ ap (λ (b : Bool). b || (eqb r.a x && eqb r.b y)) (named-of rs a x y)
        ∙ sym (ap (some (λ q. eqb q.a x && eqb q.b y)) (last 17 ∙ ap (λ (k : ℕ). of_kind 17 rs ++ cond (eqb k 17) (r ∷ []) []) kind)
        ∙ some-last (λ q. eqb q.a x && eqb q.b y) (of_kind 17 rs) r)

    role-small : (i : ℕ) → ARole rs i → i < 64
    role-small i h = any_of (i < 64) (of_kind 2 rs) small-roles (λ q l e. omega arith) h

    abbrev Known : Type 0
    Known = not (has p.people.roles r.a) || not (has p.people.roles r.b) ≡ false

    module _ (known : Known) (differ : eqb r.a r.b ≡ false) (free : has (se.below r.b) r.a ≡ false) where
      raised-se : Ranked (raised se r.a r.b)
      raised-se =
          raised-ranked se ranked r.a r.b
          (role-small r.a ((is-role r.a).0 (not-false _ (or-none (not (has p.people.roles r.a)) (not (has p.people.roles r.b)) known).0)))
          differ free

      raised-recorded : AsRecorded more (raised se r.a r.b)
      raised-recorded = as-recorded more (raised se r.a r.b) raised-se put-more

      breaks-with :
          (some_number_below 1024 (λ u. p.people.users u && some (breaks (down (raised se r.a r.b) (p.people.assigned u))) p.rules.statics) ≡ true)
          ↔ ((u : ℕ) × Broken more 9 (HasRole rs u))
      breaks-with =
          of-users (λ u. some (breaks (down (raised se r.a r.b) (p.people.assigned u))) p.rules.statics) (λ u. Broken more 9 (HasRole rs u))
          (λ u. broken more (raised se r.a r.b) raised-se raised-recorded (HasRole rs u) (p.people.assigned u) (has-role u) 9 p.rules.statics
          (made.statics ∙ ap (each a_limit) (sym statics-same)))
          (λ u h. any_some (p.people.users u ≡ true) (of_kind 9 more) (λ x e. someone u more x e) h)

    pub senior : JudgedExactly (seniors rs r) (first (raise_checks p r.a r.b))
    unfolding raise_checks rank puts
    senior =
        check (omega arith) (omega arith) _ (either _ _ (negated _ (is-role r.a)) (negated _ (is-role r.b))) (λ known.
        check (omega arith) (omega arith) _ (as-test (named-of rs a r.a r.b)
        (some-any (λ q. eqb q.a r.a && eqb q.b r.b) (λ q. (q.a ≡ r.a) × (q.b ≡ r.b))
        (λ q. together _ _ (is_same q.a r.a) (is_same q.b r.b)) (of_kind 17 rs))) (λ _.
        check (omega arith) (omega arith) _ (is_same r.a r.b) (λ differ.
        check (omega arith) (omega arith) _ (recorded.below r.b r.a) (λ free.
        check (omega arith) (omega arith) _ (breaks-with known differ free) (λ _.
        check (omega arith) tt _ raisings-full (λ _. none_left))))))
      where
        raisings-full : (leb 64 (raisings se) ≡ true) ↔ (64 ≤ length (of_kind 17 rs))
        raisings-full = subst (λ (k : ℕ). (leb 64 (raisings se) ≡ true) ↔ (64 ≤ k)) (raisings-of rs a) (leb-true 64 (raisings se), le-leb 64 (raisings se))

  -- ---- Kind 18: an object in a wall.
  twice : (x y z : ℕ) (qs : List Record) → some (same_walled x y z) (each a_walled qs) ≡ false
      → (another y (block_of (each a_walled qs) z x) ≡ true) ↔ Any (λ q. (q.a ≡ x) × (q.c ≡ z)) qs
  unfolding some each same_walled block_of another holds
  twice x y z [] n = (λ e. false≢true e, λ h. absurd h)
  twice x y z (q ∷ qs) n =
      let w = or-none (same_walled x y z (a_walled q)) _ n in
      go (eqb q.c z) (eqb q.a x) refl refl w.0 (twice x y z qs w.1)
    where
      go : (b c : Bool) → eqb q.c z ≡ b → eqb q.a x ≡ c → c && eqb q.b y && b ≡ false
          → (another y (block_of (each a_walled qs) z x) ≡ true) ↔ Any (λ q. (q.a ≡ x) × (q.c ≡ z)) qs
          → (another y (cond (b && c) (just q.b) (block_of (each a_walled qs) z x)) ≡ true) ↔
          (((q.a ≡ x) × (q.c ≡ z)) ⊎ Any (λ q. (q.a ≡ x) × (q.c ≡ z)) qs)
      go true true e f new ih = (λ _. inl (eqb-true _ _ f, eqb-true _ _ e), λ _. ap not (and_last (eqb q.b y) new))
        where
          and_last : (d : Bool) → d && true ≡ false → d ≡ false
          and_last true h = h
          and_last false h = refl
      go true false e f new ih = (λ h. inr (ih.0 h), λ h. ⊎_elim (λ k. absurd (true≢false (sym (eq-eqb _ _ k.0) ∙ f))) ih.1 h)
      go false true e f new ih = (λ h. inr (ih.0 h), λ h. ⊎_elim (λ k. absurd (true≢false (sym (eq-eqb _ _ k.1) ∙ e))) ih.1 h)
      go false false e f new ih = (λ h. inr (ih.0 h), λ h. ⊎_elim (λ k. absurd (true≢false (sym (eq-eqb _ _ k.0) ∙ f))) ih.1 h)

  same-walled : (x y z : ℕ) (q : Record) → (same_walled x y z (a_walled q) ≡ true) ↔ ((q.a ≡ x) × (q.b ≡ y) × (q.c ≡ z))
  unfolding same_walled
  same-walled x y z q = all_three _ _ _ (is_same q.a x) (is_same q.b y) (is_same q.c z)

  pub wall : (r : Record) → JudgedExactly (walls rs r) (first (wall_checks p r.a r.b r.c))
  unfolding wall_checks rank
  wall r =
      check (omega arith) (omega arith) _
      (some-of-each (same_walled r.a r.b r.c) a_walled _ (same-walled r.a r.b r.c) p.walls (of_kind 18 rs) (walls-of rs a)) (λ new.
      check (omega arith) (omega arith) _
      (as-test (ap (λ (ws : List Walled). another r.b (block_of ws r.c r.a)) (walls-of rs a))
      (twice r.a r.b r.c (of_kind 18 rs) (sym (ap (some (same_walled r.a r.b r.c)) (walls-of rs a)) ∙ new))) (λ _.
      check (omega arith) tt _ (full 256 a_walled p.walls (of_kind 18 rs) (walls-of rs a)) (λ _. none_left)))
