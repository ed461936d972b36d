-- The theorems on senior roles (02, Ask 7): the roles below a role are those of the policy's records,
-- and as long as no role is below another, every reply and all tables are as before that change.
use Prim.Native.Nat.{ℕ, zero, suc, ◌/◌}
use mathlib.Core.Path.{◌≡◌, refl, sym, ap, subst, ◌∙◌}
use mathlib.Core.Bool.{Bool, true, false, not, cond, ◌&&◌, ◌||◌, or-true}
use mathlib.Core.List.{List, [], ◌∷◌, ◌++◌}
use native.Mathlib.Omega.{arith}
use borrow.Author.Tests.{eqb-true, eqb-false, ne_eqb}
use lib.Dec.{eqb, leb}
use lib.ListN.{length, take, drop}
use Rattle.paper_lower.specs.Sets.{Set, has, plus, minus, union, meets, within, without}
use Rattle.paper_lower.specs.Lists.{some_number_below, some, many, keep, each, Every}
use Rattle.paper_lower.specs.Checks.{Check, first, granted, SHAPE, UNKNOWN, TAKEN, IN-USE, RULE, NOT-ASSIGNED, STATIC, DYNAMIC, NO-ROLE, DENIED, FULL, WALL}
use Rattle.paper_lower.specs.Records.{Bytes, Record, decode}
use Rattle.paper_lower.specs.Forms.{Form, policy_forms, lower_forms, request_forms, form_checks}
use Rattle.paper_lower.specs.Kinds.{Kind, chosen, Answer, reply_to, answer}
use Rattle.paper_lower.specs.Tables.{Seniority, Policy, Lower, no_policy}
use Rattle.paper_lower.specs.Policy.{down, breaks, same_limit, ill_made, assign_checks, static_checks, raised, policy_kinds}
use Rattle.paper_lower.specs.Load.{Loaded, accepted, refused, policy_answer, load_on, load, records_from, records_of}
use Rattle.paper_lower.specs.Roles.{active_of, counted_of, join_checks, lost_by, take_back_checks, role_kinds}
use Rattle.paper_lower.specs.Sessions.{allowed, wall_between, create_checks, activate_checks, check_checks, session_kinds, lower_kinds, lower_request}
use Rattle.paper_lower.proofs.ListLaws.{every_map, ◌⨾◌}
use Rattle.paper_upper.specs.Orders.{is_held, Engine, of_task}
use Rattle.paper_upper.specs.Rules.{rule_checks}
use Rattle.paper_upper.specs.Requests.{unknown, claim_checks, upper_kinds}
use Rattle.paper_upper.specs.Engine.{widened, shared_kinds, request_kinds, request}
use Rattle.theorems.specs.OverEntries.{of_kind}
use Rattle.theorems.specs.Theorems.{fixed, Fixed}
use Rattle.theorems.specs.Seniority.{SeniorityIsRecorded, assign_before, static_before, join_before, take_back_before, create_before, activate_before, check_before, claim_before, policy_rows_before, lower_rows_before, rows_before, policy_answer_before, lower_request_before, request_before, load_from_before, load_before, NoneBelow, AsBefore}
use Rattle.theorems.proofs.Replies.{policy-order, lower-order}
use Rattle.theorems.proofs.Rows.{answer-rows, alike_runs}
use Rattle.sets.proofs.DownLaws.{down-alone}
use Rattle.theorems.proofs.Down.{meets-lost}
use Rattle.theorems.proofs.Ranks.{step-rows}
use Rattle.theorems.proofs.Keeps.{kept-after, lower-kept-after}
use Rattle.theorems.proofs.Theorems as theorems

pub seniority-is-recorded : SeniorityIsRecorded
seniority-is-recorded = record {
  engine = λ policy accepted ss. (kept-after policy accepted ss).0.recorded;
  dealers = λ policy accepted ss. (lower-kept-after policy accepted ss).0.recorded;
}

-- ---- Kinds put before a list of kinds. If each of them answers like the kind of the list with the same number, every answer stays the same.
pub first-behind : (xs ys zs : List Check) → first ys ≡ first zs → first (xs ++ ys) ≡ first (xs ++ zs)
first-behind [] ys zs e = e
first-behind (x ∷ xs) ys zs e = ap (λ (k : ℕ). cond x.0 x.1 k) (first-behind xs ys zs e)

-- Two kinds give the same reply to the record and leave the same tables.
abbrev pub Alike : {T : Type 0} → T → Record → Kind T → Kind T → Type 0
Alike t r k j = (first (k.checks t r) ≡ first (j.checks t r)) × (k.next t r ≡ j.next t r)

pub chosen-front : {T : Type 0} (P : Kind T → Type 0) (new ks : List (Kind T)) (n : ℕ) → P (chosen ks n) → Every (λ k. k.kind ≡ n → P k) new →
    P (chosen (new ++ ks) n)
unfolding chosen
chosen-front P [] ks n h a = h
chosen-front P (k ∷ new) ks n h a = go (eqb k.kind n) refl (chosen-front P new ks n h a.1)
  where
    go : (b : Bool) → eqb k.kind n ≡ b → P (chosen (new ++ ks) n) → P (cond b k (chosen (new ++ ks) n))
    go true e rest = a.0 (eqb-true _ _ e)
    go false e rest = rest

pub same_answer : {T : Type 0} (fs : List Form) (new ks : List (Kind T)) (t : T) (s : Bytes)
    → Every (λ k. (r : Record) → Alike t r k (chosen ks k.kind)) new → answer fs (new ++ ks) t s ≡ answer fs ks t s
unfolding answer reply_to
same_answer fs new ks t s rows =
    let r = decode s in
    let a : Alike t r (chosen (new ++ ks) r.kind) (chosen ks r.kind) = chosen-front (λ k. Alike t r k (chosen ks r.kind)) new ks r.kind (refl, refl)
    (every_map new (λ k h e. subst (λ (n : ℕ). Alike t r k (chosen ks n)) e (h r)) rows) in
    let q = first-behind (form_checks fs s) _ _ a.0 in
    λ i. record { reply = q i; tables = granted (q i) (a.1 i) t }

-- ---- The kinds whose checks count roles.
flat : (p : Policy) → NoneBelow p → down p.seniority ≡ (λ m. m)
flat p none = λ i m. down-alone p.seniority m (λ r l h. none r) i

module _ (p : Policy) (none : NoneBelow p) where
  same-assign : (a b : ℕ) → first (assign_before p a b) ≡ first (assign_checks p a b)
  unfolding assign_before assign_checks
  same-assign a b =
      sym (ap (λ (d : Set → Set).
      first ((not (p.people.users a) || not (has p.people.roles b), UNKNOWN)
      ∷ (has (p.people.assigned a) b, TAKEN)
      ∷ (some (breaks (d (plus (p.people.assigned a) b))) p.rules.statics, STATIC)
      ∷ [])) (flat p none))

  same-static : (n : ℕ) (m : Set) → first (static_before p n m) ≡ first (static_checks p n m)
  unfolding static_before static_checks
  same-static n m =
      sym (ap (λ (d : Set → Set).
      first ((not (within m p.people.roles), UNKNOWN)
      ∷ (some (same_limit n m) p.rules.statics, TAKEN)
      ∷ (ill_made n m, RULE)
      ∷ (some_number_below 1024 (λ u. p.people.users u && breaks (d (p.people.assigned u)) (record { n = n; members = m })), STATIC)
      ∷ (leb 32 (many p.rules.statics), FULL)
      ∷ [])) (flat p none))

  same-join : (a : ℕ) (m : Set) → first (join_before p a m) ≡ first (join_checks p a m)
  unfolding join_before join_checks
  same-join a m =
      sym (ap (λ (d : Set → Set).
      first ((not (within m p.people.roles), UNKNOWN) ∷ (p.people.users a, TAKEN) ∷ (some (breaks (d m)) p.rules.statics, STATIC) ∷ []))
      (flat p none))

module _ (t : Lower) (none : NoneBelow t.policy) where
  same-take : (a b : ℕ) → first (take_back_before t a b) ≡ first (take_back_checks t a b)
  unfolding take_back_before take_back_checks lost_by
  same-take a b =
      go (has mine b) refl
      ∙ sym (ap (λ (d : Set → Set). first ((x || not (has mine b), UNKNOWN) ∷ (meets used (without (d mine) (d (minus mine b))), IN-USE) ∷ []))
      (flat t.policy none))
    where
      mine : Set
      mine = t.policy.people.assigned a

      used : Set
      used = active_of t.sessions a

      x : Bool
      x = not (t.policy.people.users a) || not (has t.policy.people.roles b)

      go : (y : Bool) → has mine b ≡ y
          → first ((x || not (has mine b), UNKNOWN) ∷ (has used b, IN-USE) ∷ [])
          ≡ first ((x || not (has mine b), UNKNOWN) ∷ (meets used (without mine (minus mine b)), IN-USE) ∷ [])
      go true e = sym (ap (λ (c : Bool). first ((x || not (has mine b), UNKNOWN) ∷ (c, IN-USE) ∷ [])) (meets-lost used mine b e))
      go false e = rw (e, or-true x) refl

  same-create : (a b : ℕ) (m : Set) → first (create_before t a b m) ≡ first (create_checks t a b m)
  unfolding create_before create_checks
  same-create a b m =
      sym (ap (λ (d : Set → Set).
      first ((not (t.policy.people.users b) || not (within m t.policy.people.roles), UNKNOWN)
      ∷ (t.sessions.live a, TAKEN)
      ∷ (not (within m (d (t.policy.people.assigned b))), NOT-ASSIGNED)
      ∷ (some (breaks (d (union (counted_of t.sessions b) m))) t.policy.rules.dynamics, DYNAMIC)
      ∷ [])) (flat t.policy none))

  same-activate : (a b : ℕ) → first (activate_before t a b) ≡ first (activate_checks t a b)
  unfolding activate_before activate_checks
  same-activate a b =
      sym (ap (λ (d : Set → Set).
      first ((not (t.sessions.live a) || not (has t.policy.people.roles b), UNKNOWN)
      ∷ (has (t.sessions.active a) b, TAKEN)
      ∷ (not (has (d (t.policy.people.assigned (t.sessions.user a))) b), NOT-ASSIGNED)
      ∷ (some (breaks (d (plus (counted_of t.sessions (t.sessions.user a)) b))) t.policy.rules.dynamics, DYNAMIC)
      ∷ [])) (flat t.policy none))

  same_check : (a b c : ℕ) → first (check_before t a b c) ≡ first (check_checks t a b c)
  unfolding check_before check_checks
  same_check a b c =
      sym (ap (λ (d : Set → Set).
      first ((not (t.sessions.live a), UNKNOWN)
      ∷ (not (allowed t.policy.permissions (d (t.sessions.active a)) b c), DENIED)
      ∷ (wall_between t (t.sessions.user a) c, WALL)
      ∷ []))
      (flat t.policy none))

same-claim : (t : Engine) → NoneBelow t.lower.policy → (a b c : ℕ) → first (claim_before t a b c) ≡ first (claim_checks t a b c)
unfolding claim_before claim_checks
same-claim t none a b c =
    sym (ap (λ (d : Set → Set).
    first ((unknown t a b c, UNKNOWN)
    ∷ (some (λ e. of_task b c e && is_held e.standing) t.orders.entries, TAKEN)
    ∷ (not (meets (t.lower.policy.tasks.open_to c) (d (t.lower.sessions.active a))), NO-ROLE)
    ∷ rule_checks t.lower.policy.tasks t.lower.policy.rules (t.orders.opened b) t.orders.entries b (t.lower.sessions.user a) c
    ++ ((leb 2048 (many t.orders.entries), FULL) ∷ []))) (flat t.lower.policy none))

-- ---- Records and requests.
same-record : (p : Policy) → NoneBelow p → (s : Bytes) → policy_answer p s ≡ policy_answer_before p s
unfolding policy_answer policy_answer_before policy_rows_before policy_kinds chosen
same-record p none s =
    sym (same_answer policy_forms policy_rows_before policy_kinds p s
    ((λ r. (same-assign p none r.a r.b, refl)) ⨾ (λ r. (same-static p none r.n r.m, refl)) ⨾ tt))

same-lower : (t : Lower) → NoneBelow t.policy → (s : Bytes) → lower_request t s ≡ lower_request_before t s
unfolding lower_request lower_request_before lower_rows_before lower_kinds role_kinds session_kinds chosen
same-lower t none s =
    sym (same_answer lower_forms lower_rows_before lower_kinds t s
    ((λ r. (same-join t.policy none r.a r.m, refl))
    ⨾ (λ r. (same-assign t.policy none r.a r.b, refl))
    ⨾ (λ r. (same-take t none r.a r.b, refl))
    ⨾ (λ r. (same-create t none r.a r.b r.m, refl))
    ⨾ (λ r. (same-activate t none r.a r.b, refl))
    ⨾ (λ r. (same_check t none r.a r.b r.c, refl))
    ⨾ (λ r. (same_check t none r.a r.b r.c, refl))
    ⨾ tt))

same-request : (t : Engine) → NoneBelow t.lower.policy → (s : Bytes) → request t s ≡ request_before t s
unfolding request request_before rows_before lower_rows_before request_kinds upper_kinds shared_kinds lower_kinds role_kinds session_kinds widened keep each chosen
same-request t none s =
    sym (same_answer request_forms rows_before request_kinds t s
    ((λ r. (same-claim t none r.a r.b r.c, refl))
    ⨾ (λ r. (same-join t.lower.policy none r.a r.m, refl))
    ⨾ (λ r. (same-assign t.lower.policy none r.a r.b, refl))
    ⨾ (λ r. (same-take t.lower none r.a r.b, refl))
    ⨾ (λ r. (same-create t.lower none r.a r.b r.m, refl))
    ⨾ (λ r. (same-activate t.lower none r.a r.b, refl))
    ⨾ (λ r. (same_check t.lower none r.a r.b r.c, refl))
    ⨾ (λ r. (same_check t.lower none r.a r.b r.c, refl))
    ⨾ tt))

-- ---- They put no role below another.
still-none : (t : Engine) → NoneBelow t.lower.policy → (s : Bytes) → NoneBelow (request t s).tables.lower.policy
still-none t none s r = ap (λ (x : Fixed). x.seniority.below r) (theorems.requests-change-no-rule t s) ∙ none r

lower-still : (t : Lower) → NoneBelow t.policy → (s : Bytes) → NoneBelow (lower_request t s).tables.policy
unfolding lower_request
lower-still t none s =
    answer-rows lower_forms (λ n t r x. fixed x.policy ≡ fixed t.policy) lower_kinds lower-order
    (every_map lower_kinds (λ k h t r g p. h t r) theorems.lower-rows)
    t s (λ q x. NoneBelow x.policy) (λ x e r. ap (λ (y : Fixed). y.seniority.below r) e ∙ none r) (λ q. none)

record-still : (p : Policy) → NoneBelow p → (s : Bytes) → ((decode s).kind ≡ 17 → ⊥) → NoneBelow (policy_answer p s).tables
unfolding policy_answer
record-still p none s other =
    answer-rows policy_forms (λ n p r x. x.seniority ≡ cond (eqb n 17) (raised p.seniority r.a r.b) p.seniority) policy_kinds policy-order step-rows
    p s (λ q x. NoneBelow x) (λ x e r. ap (λ (y : Seniority). y.below r) (rw (ne_eqb (decode s).kind 17 other) at e) ∙ none r) (λ q. none)

-- ---- The load.
nothing-below : NoneBelow no_policy
unfolding no_policy
nothing-below r = refl

-- If a list has no record of kind 17, neither its first record nor any later one is of this kind.
none_of : (r : Record) (rs : List Record) → of_kind 17 (r ∷ rs) ≡ [] → (r.kind ≡ 17 → ⊥) × (of_kind 17 rs ≡ [])
unfolding of_kind keep many
none_of r rs h = go (eqb r.kind 17) refl h
  where
    go : (b : Bool) → eqb r.kind 17 ≡ b → cond b (r ∷ of_kind 17 rs) (of_kind 17 rs) ≡ [] → (r.kind ≡ 17 → ⊥) × (of_kind 17 rs ≡ [])
    go true e q = let n = ap (λ (xs : List Record). many xs) q in let z : ⊥ = omega arith in absurd z
    go false e q = (eqb-false _ _ e, q)

same_load : (n place : ℕ) (s : Bytes) (p : Policy) → NoneBelow p → of_kind 17 (records_from n s) ≡ []
    → (load_on n place s p ≡ load_from_before n place s p) × NoneBelow (load_on n place s p).tables
unfolding load_on load_from_before records_from
same_load zero place s p none h = (refl, go (eqb (length s) 0))
  where
    go : (b : Bool) → NoneBelow (cond b (accepted p) (refused SHAPE place)).tables
    go true = none
    go false = nothing-below
same_load (suc n) place s p none h =
    let k = none_of (decode (take 16 s)) (records_from n (drop 16 s)) h in
    let a = policy_answer p (take 16 s) in
    let rest = same_load n (suc place) (drop 16 s) a.tables (record-still p none (take 16 s) k.0) k.1 in (
      ap (λ (x : Loaded). granted a.reply x (refused a.reply place)) rest.0
          ∙ ap (λ (x : Answer Policy). granted x.reply (load_from_before n (suc place) (drop 16 s) x.tables) (refused x.reply place))
          (same-record p none (take 16 s)),
      go a.reply _ rest.1,
    )
  where
    go : (q : ℕ) (x : Loaded) → NoneBelow x.tables → NoneBelow (granted q x (refused q place)).tables
    go zero x w = w
    go (suc q) x w = nothing-below

pub as_before : AsBefore
unfolding load load_before records_of
as_before = record {
  loads = λ policy h. same_load (length policy / 16) 1 policy no_policy nothing-below h;
  records = λ p none s other. same-record p none s;
  requests = λ t none s. (same-request t none s, still-none t none s);
  lower_requests = λ t none s. (same-lower t none s, lower-still t none s);
  runs = λ t none ss. alike_runs request request_before (λ t. NoneBelow t.lower.policy) (λ t none s. (same-request t none s, still-none t none s)) t none ss;
  lower_runs =
      λ t none ss. alike_runs lower_request lower_request_before (λ t. NoneBelow t.policy) (λ t none s. (same-lower t none s, lower-still t none s)) t none ss;
}
