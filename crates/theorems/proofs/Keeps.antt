-- What holds after every accepted load and any requests (`Kept`): the rules and roles are those of the policy's
-- records and well made, the ledger is sound, the six rules hold over the entries, and the limits on roles hold.
use Prim.Native.Nat.{ℕ}
use mathlib.Core.Path.{◌≡◌, refl}
use mathlib.Core.Bool.{Bool, true, false, not, ◌||◌}
use mathlib.Core.List.{List, [], ◌∷◌}
use native.Mathlib.Omega.{arith}
use borrow.Author.Tests.{not-false}
use lib.Dec.{ltb, leb}
use Rattle.paper_lower.specs.Sets.{has}
use Rattle.paper_lower.specs.Lists.{Maybe, holds, there, many, each}
use Rattle.paper_lower.specs.Lists.Maybe.{none, just}
use Rattle.paper_lower.specs.Checks.{FULL}
use Rattle.paper_lower.specs.Records.{Bytes, Record}
use Rattle.paper_lower.specs.Forms.{lower_forms, request_forms, form_of, above, out_of_range}
use Rattle.paper_lower.specs.Tables.{Seniority, Tasks, Rules, Walled, Lower}
use Rattle.paper_lower.specs.Policy.{assign_checks, assign_next, give_next}
use Rattle.paper_lower.specs.Load.{load, records_of}
use Rattle.paper_lower.specs.Roles.{join_checks, join_next, delete_checks, delete_next, forget_next, user_gone, lost_by, take_back_checks, take_back_next, withdraw_next, role_kinds}
use Rattle.paper_lower.specs.Sessions.{create_checks, activate_checks, deactivate_checks, commit_next, session_kinds, lower_kinds, lower_request, lower_of}
use Rattle.paper_lower.proofs.ListLaws.{or-none, every_map, every-left, every-right, ◌⨾◌}
use Rattle.paper_lower.proofs.CheckLaws.{Passed}
use Rattle.paper_upper.specs.Orders.{Engine}
use Rattle.paper_upper.specs.Rules.{rule_checks}
use Rattle.paper_upper.specs.Requests.{open_checks, open_next, end_next, unknown, claim_checks, claim_next, release_next, done_next, upper_kinds}
use Rattle.paper_upper.specs.Engine.{request_kinds, request, engine_of}
use Rattle.theorems.specs.OverEntries.{of_kind}
use Rattle.theorems.specs.WellMade.{WellMade, WellWalled}
use Rattle.theorems.specs.Theorems.{tables_next, lower_after, AfterEvery}
use Rattle.theorems.specs.Seniority.{AsRecorded}
use Rattle.theorems.proofs.Replies.{lower-order, engine-order}
use Rattle.theorems.proofs.Rows.{Rows, run-keeps, engine-rows}
use Rattle.theorems.proofs.Made.{a_walled, Made, made, walls-made}
use Rattle.theorems.proofs.WellMade.{a-within, load-well-made, load-well-walled}
use Rattle.theorems.proofs.Sound.{Sound, sound-start, sound-open, sound-end, sound-claim, sound-release, sound-finish}
use Rattle.theorems.proofs.Ranks.{Ranked, loaded-ranked, loaded-named, as-recorded}
use Rattle.theorems.proofs.Roles.{Limited, joins, deletes, assigns, takes, creates, destroys, activates, deactivates, bound}
use Rattle.theorems.proofs.LoadedRoles.{loaded-limited}

-- What holds of the tables that requests do not change: the senior roles, the tasks,
-- the rules and the walls are those of the policy's records, and are well made.
pub record Given (policy : List Record) (se : Seniority) (k : Tasks) (ru : Rules) (ws : List Walled) : Type 0 where
  pub ranked : Ranked se
  pub recorded : AsRecorded policy se
  pub made : Made policy k ru
  pub well : WellMade k.template k.most ru
  pub walls : ws ≡ each a_walled (of_kind 18 policy)
  pub walled : WellWalled ws

-- Everything that is kept: these tables, the orders, and the limits on roles.
abbrev pub Kept : List Record → Engine → Type 0
Kept policy t =
    Given policy t.lower.policy.seniority t.lower.policy.tasks t.lower.policy.rules t.lower.policy.walls
    × Sound policy t.orders
    × Limited t.lower.policy.people t.lower.policy.seniority t.lower.sessions t.lower.policy.rules

-- The part of it that is about the lower part.
abbrev pub LowerKept : List Record → Lower → Type 0
LowerKept policy t =
    Given policy t.policy.seniority t.policy.tasks t.policy.rules t.policy.walls
    × Limited t.policy.people t.policy.seniority t.sessions t.policy.rules

there-if : (p : ℕ → Bool) (x : Maybe ℕ) → holds p x ≡ true → there x ≡ true
unfolding holds
there-if p none h = h
there-if p (just j) h = refl

-- The instance of a claim is open if the claim is not refused with UNKNOWN.
pub is_open : (t : Engine) (a b c : ℕ) → unknown t a b c ≡ false → there (t.orders.opened b) ≡ true
unfolding unknown
is_open t a b c h = there-if _ (t.orders.opened b) (not-false _ (or-none (not (t.lower.sessions.live a)) _ h).1)

claim-row : (policy : List Record) (t : Engine) (a b c : ℕ) → Passed (claim_checks t a b c) → Kept policy t → Kept policy (claim_next t a b c)
unfolding claim_checks claim_next
claim-row policy t a b c p i =
    let k = t.lower.policy.tasks in
    let ru = t.lower.policy.rules in
    let u = t.lower.sessions.user a in
    let rules = rule_checks k ru (t.orders.opened b) t.orders.entries b u c in
    let room = every-right (λ x. x.0 ≡ false) rules ((leb 2048 (many t.orders.entries), FULL) ∷ []) p.1.1.1 in
    let passed = every-left (λ x. x.0 ≡ false) rules _ p.1.1.1 in
    (i.0, sound-claim policy t.orders i.1 k ru i.0.made i.0.well a b u c (is_open t a b c p.0) p.1.0 room.0 passed, i.2)

-- The first of two names that must be known is known.
named : (x y : Bool) → not x || y ≡ false → x ≡ true
named x y h = not-false x (or-none (not x) y h).0

pub lower-rows : (policy : List Record) → Rows lower_forms (λ n t r x. LowerKept policy t → LowerKept policy x) lower_kinds
unfolding lower_kinds role_kinds session_kinds lower_forms form_of out_of_range above join_checks join_next assign_checks assign_next give_next delete_checks delete_next forget_next user_gone lost_by take_back_checks take_back_next withdraw_next create_checks activate_checks deactivate_checks commit_next
lower-rows policy =
    (λ t r g p i. (i.0, joins _ _ _ _ i.1 r.a r.m p.1.0 p.1.1.0))
    ⨾ (λ t r g p i. (i.0, bound _ _ _ _ (deletes _ _ _ _ i.1 r.a p.1.0) _))
    ⨾ (λ t r g p i. (i.0, assigns _ _ _ _ i.1 r.a r.b p.1.1.0))
    ⨾ (λ t r g p i. (i.0, takes _ _ _ _ i.1 r.a r.b p.1.0))
    ⨾ (λ t r g p i. i)
    ⨾ (λ t r g p i. i)
    ⨾ (λ t r g p i.
    let l = a-within 127 r.a (ltb 1023 r.b) g in
    let u = named (t.policy.people.users r.b) _ p.0 in
    (i.0, creates _ _ _ _ i.1 r.a r.b r.m (omega arith) u (not-false _ p.1.1.0) p.1.1.1.0))
    ⨾ (λ t r g p i. (i.0, destroys _ _ _ _ i.1 r.a))
    ⨾ (λ t r g p i.
    let l = named (t.sessions.live r.a) _ p.0 in
    (i.0, activates _ _ _ _ i.1 r.a r.b l (not-false _ p.1.1.0) p.1.1.1.0))
    ⨾ (λ t r g p i.
    let l = named (t.sessions.live r.a) _ (or-none _ (not (has (t.sessions.active r.a) r.b)) p.0).0 in
    (i.0, deactivates _ _ _ _ i.1 r.a r.b l))
    ⨾ (λ t r g p i. i)
    ⨾ (λ t r g p i. (i.0, bound _ _ _ _ i.1 _))
    ⨾ tt

upper-rows : (policy : List Record) → Rows request_forms (λ n t r x. Kept policy t → Kept policy x) upper_kinds
unfolding upper_kinds delete_checks delete_next forget_next user_gone open_checks open_next end_next release_next done_next
upper-rows policy =
    (λ t r g p i. (i.0, i.1, bound _ _ _ _ (deletes _ _ _ _ i.2 r.a p.1.0) _))
    ⨾ (λ t r g p i. (i.0, i.1, destroys _ _ _ _ i.2 r.a))
    ⨾ (λ t r g p i. (i.0, sound-open policy t.orders i.1 _ _ i.0.made i.0.well r.a r.b (not-false _ p.0) p.1.0, i.2))
    ⨾ (λ t r g p i. (i.0, sound-end policy t.orders i.1 r.a, i.2))
    ⨾ (λ t r g p i. claim-row policy t r.a r.b r.c p i)
    ⨾ (λ t r g p i. (i.0, sound-release policy t.orders i.1 r.a r.b r.c, i.2))
    ⨾ (λ t r g p i. (i.0, sound-finish policy t.orders i.1 r.a r.b r.c, i.2))
    ⨾ (λ t r g p i. i)
    ⨾ (λ t r g p i. i)
    ⨾ (λ t r g p i. i)
    ⨾ tt

pub kept-rows : (policy : List Record) → Rows request_forms (λ n t r x. Kept policy t → Kept policy x) request_kinds
kept-rows policy =
    engine-rows (λ n t r x. Kept policy t → Kept policy x) (upper-rows policy)
    (every_map lower_kinds (λ k h t r g p i. let l = h t.lower r g p (i.0, i.2) in (l.0, i.1, l.1)) (lower-rows policy))

given : (policy : Bytes) → (load policy).reply ≡ 0
    → Given (records_of policy) (load policy).tables.seniority (load policy).tables.tasks (load policy).tables.rules (load policy).tables.walls
given policy h =
    record {
      ranked = loaded-ranked policy h;
      recorded = as-recorded (records_of policy) (load policy).tables.seniority (loaded-ranked policy h) (loaded-named policy h);
      made = made policy h;
      well = load-well-made policy h;
      walls = walls-made policy h;
      walled = load-well-walled policy h;
    }

pub kept-load : (policy : Bytes) → (load policy).reply ≡ 0 → Kept (records_of policy) (engine_of (load policy).tables)
unfolding engine_of lower_of
kept-load policy h = (given policy h, sound-start (records_of policy), loaded-limited policy h)

pub kept-after : AfterEvery (λ policy requests. Kept (records_of policy) (tables_next policy requests))
unfolding request
kept-after policy accepted ss =
    run-keeps request_forms request_kinds engine-order (Kept (records_of policy)) (kept-rows (records_of policy)) (engine_of (load policy).tables) ss
    (kept-load policy accepted)

pub lower-kept-load : (policy : Bytes) → (load policy).reply ≡ 0 → LowerKept (records_of policy) (lower_of (load policy).tables)
unfolding lower_of
lower-kept-load policy h = (given policy h, loaded-limited policy h)

pub lower-kept-after : AfterEvery (λ policy requests. LowerKept (records_of policy) (lower_after policy requests))
unfolding lower_request
lower-kept-after policy accepted ss =
    run-keeps lower_forms lower_kinds lower-order (LowerKept (records_of policy)) (lower-rows (records_of policy)) (lower_of (load policy).tables) ss
    (lower-kept-load policy accepted)
