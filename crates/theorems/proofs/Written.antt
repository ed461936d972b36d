-- The theorems on writing a policy (02, Ask 8): what is written for the policy tables of a running engine loads again and determines the tables.
use Prim.Native.Nat.{ℕ, zero, suc, ◌/◌, ◌<◌}
use mathlib.Core.Path.{◌≡◌, refl, sym, ap, subst, ◌∙◌}
use mathlib.Core.Bool.{Bool, true, false, not, ◌||◌, false≢true}
use mathlib.Core.List.{List, [], ◌∷◌}
use native.Mathlib.Omega.{arith}
use borrow.Author.Tests.{not-false}
use lib.Dec.{eqb}
use lib.ListN.{length, get_or, take, drop, take-append-drop}
use Rattle.paper_lower.specs.Sets.{empty, has, union, meets, ones_in, size}
use Rattle.paper_lower.specs.Lists.{Maybe, holds, there, sum_below, Every}
use Rattle.paper_lower.specs.Lists.Maybe.{none, just}
use Rattle.paper_lower.specs.Records.{Bytes, Record, number, decode}
use Rattle.paper_lower.specs.Forms.{policy_forms, lower_forms, request_forms, form_of, above, out_of_range}
use Rattle.paper_lower.specs.Tables.{Policy, no_policy}
use Rattle.paper_lower.specs.Policy.{down, one_template, ill_made, partitioned, raisings, user_next, role_next, permission_checks, permission_next, assign_checks, assign_next, give_checks, give_next, task_checks, task_next, open_to_checks, open_to_next, carries_checks, carries_next, static_checks, static_next, dynamic_checks, dynamic_next, task_set_checks, task_set_next, block_checks, block_next, ban_checks, ban_next, most_checks, most_next, bind_checks, bind_next, before_checks, before_next, raise_checks, raise_next, wall_checks, wall_next, policy_kinds}
use Rattle.paper_lower.specs.Load.{Loaded, accepted, load, records_from, records_of}
use Rattle.paper_lower.specs.Roles.{join_checks, join_next, delete_next, user_gone, take_back_checks, take_back_next, withdraw_next, role_kinds}
use Rattle.paper_lower.specs.Sessions.{session_kinds, lower_kinds, lower_request, lower_of}
use Rattle.paper_lower.specs.Written.{people_rows, task_rows, rule_rows, behind, records_written, written}
use Rattle.paper_lower.proofs.ListLaws.{or-none, every_map, every-left, every-right, ◌⨾◌}
use Rattle.paper_upper.specs.Requests.{open_next, end_next, claim_next, release_next, done_next, upper_kinds}
use Rattle.paper_upper.specs.Engine.{request_kinds, request, engine_of}
use Rattle.sets.proofs.SetLaws.{has-empty, within_has}
use Rattle.theorems.specs.Written.{Running, policy_of, lower_policy_of, LoadsAgain, BytesTell, DealersWrite}
use Rattle.theorems.proofs.Replies.{lower-order, engine-order}
use Rattle.theorems.proofs.Rows.{Rows, run-keeps, engine-rows}
use Rattle.theorems.proofs.Loads.{step, filled, Accepted, fits-rows, load-accepted}
use Rattle.theorems.proofs.WellMade.{a-within, b-within}
use Rattle.theorems.proofs.Made.{a_limit, a_block, pair_of_two, a_walled}
use Rattle.theorems.proofs.Ranks.{start}
use Rattle.theorems.proofs.Down.{down-has}
use Rattle.theorems.proofs.Roles.{Within, within-less}
use Rattle.theorems.proofs.Keeps.{kept-after, lower-kept-after}
use Rattle.theorems.proofs.WrittenRuns.{Run, run_none, run-then, load-run}
use Rattle.theorems.proofs.WrittenReady.{WallOk, Ready}
use Rattle.theorems.proofs.WrittenStages.{run-1, run-2, run-3, run-4, run-5, run-6, run-7, run-8}
use Rattle.theorems.proofs.WrittenRules.{run-9, run-10, run-11, run-12, run-13, run-14, run-15, run-16, run-18}
use Rattle.theorems.proofs.WrittenRanks.{run-17}
use Rattle.theorems.proofs.WrittenKept.{prefixed-add, with-statics, with-dynamics, with-task-sets, with-blocks, with-bindings, with-befores, a_pair, with-people, with-permissions, joins, leaves, gains, loses, more-roles, ranks-more, ranks-raised, new-grows, rules-grow, permissions-grow, rules-more, permissions-more, tasks-more, declares, gives, withdraws, carries, task-new, opens, bans, limits}

-- ---- The fields of a record that was read from bytes.
abbrev Bounded : Record → Type 0
Bounded r = (r.b < 65536) × (r.c < 65536) × (r.n < 256)

two-known : (x y : Bool) → not x || not y ≡ false → (x ≡ true) × (y ≡ true)
two-known x y h = let s = or-none (not x) (not y) h in (not-false x s.0, not-false y s.1)

-- ---- Every kind of policy record keeps the tables ready.
rows : Rows policy_forms (λ n p r x. Bounded r → Ready p → Ready x) policy_kinds
unfolding policy_kinds policy_forms form_of out_of_range above user_next role_next permission_checks permission_next assign_checks assign_next give_checks give_next task_checks task_next open_to_checks open_to_next carries_checks carries_next static_checks static_next dynamic_checks dynamic_next task_set_checks task_set_next block_checks block_next ban_checks ban_next most_checks most_next bind_checks bind_next before_checks before_next raise_checks raise_next wall_checks wall_next
rows =
    (λ p r g c w i. record {
      people =
          joins p.people i.people r.a empty (let l = a-within 1023 r.a false g in omega arith) (λ q e. absurd (false≢true (sym (has-empty q) ∙ e)));
      ranks = i.ranks;
      permissions = i.permissions;
      tasks = i.tasks;
      rules = i.rules;
      walls = i.walls;
    })
    ⨾ (λ p r g c w i. record {
      people = more-roles p.people i.people r.a (let l = a-within 63 r.a false g in omega arith);
      ranks = ranks-more _ _ i.ranks r.a;
      permissions = permissions-more _ _ _ r.a i.permissions;
      tasks = tasks-more _ _ r.a i.tasks;
      rules = rules-more _ _ _ r.a i.rules;
      walls = i.walls;
    })
    ⨾ (λ p r g c w i. record {
      people = i.people;
      ranks = i.ranks;
      permissions = declares _ _ _ i.permissions r.a r.b r.c (let l = a-within 255 r.a false g in omega arith) w.0 w.1 c.0;
      tasks = i.tasks;
      rules = i.rules;
      walls = i.walls;
    })
    ⨾ (λ p r g c w i. let k = two-known (p.people.users r.a) (has p.people.roles r.b) c.0 in record {
      people = gains p.people i.people r.a r.b k.0 k.1;
      ranks = i.ranks;
      permissions = i.permissions;
      tasks = i.tasks;
      rules = i.rules;
      walls = i.walls;
    })
    ⨾ (λ p r g c w i. let k = two-known (has p.people.roles r.a) (there (p.permissions.declared r.b)) c.0 in record {
      people = i.people;
      ranks = i.ranks;
      permissions = gives _ _ _ i.permissions r.a r.b k.0 k.1;
      tasks = i.tasks;
      rules = i.rules;
      walls = i.walls;
    })
    ⨾ (λ p r g c w i.
    let z = (task_next p r.a r.b).tasks in
    let grown = new-grows p.tasks.template r.a r.b c.0 in
    let l = b-within 63 15 r.a r.b g in
    let la = l.0 in
    let lb = l.1 in
    record {
      people = i.people;
      ranks = i.ranks;
      permissions = permissions-grow p.tasks z grown _ _ i.permissions;
      tasks = task-new _ _ i.tasks r.a r.b (omega arith) (omega arith) c.0;
      rules = rules-grow p.tasks z grown _ _ i.rules;
      walls = i.walls;
    })
    ⨾ (λ p r g c w i. let k = two-known (there (p.tasks.template r.a)) (has p.people.roles r.b) c.0 in record {
      people = i.people;
      ranks = i.ranks;
      permissions = i.permissions;
      tasks = opens _ _ i.tasks r.a r.b k.0 k.1;
      rules = rules-grow p.tasks (open_to_next p r.a r.b).tasks (λ t j e. e) _ _ i.rules;
      walls = i.walls;
    })
    ⨾ (λ p r g c w i. let k = two-known (there (p.tasks.template r.a)) (there (p.permissions.declared r.b)) c.0 in record {
      people = i.people;
      ranks = i.ranks;
      permissions = carries _ _ _ i.permissions r.a r.b k.0 k.1;
      tasks = i.tasks;
      rules = i.rules;
      walls = i.walls;
    })
    ⨾ (λ p r g c w i. record {
      people = i.people;
      ranks = i.ranks;
      permissions = i.permissions;
      tasks = i.tasks;
      rules = with-statics _ _ _ i.rules (a_limit r) (not-false _ c.0, c.1.0, c.1.1.0, c.1.1.1.1.0, w.2);
      walls = i.walls;
    })
    ⨾ (λ p r g c w i. record {
      people = i.people;
      ranks = i.ranks;
      permissions = i.permissions;
      tasks = i.tasks;
      rules = with-dynamics _ _ _ i.rules (a_limit r) (not-false _ c.0, c.1.0, c.1.1.0, c.1.1.1.0, w.2);
      walls = i.walls;
    })
    ⨾ (λ p r g c w i. let q = or-none (ill_made r.n r.m) (not (one_template p.tasks r.m)) c.1.1.0 in record {
      people = i.people;
      ranks = i.ranks;
      permissions = i.permissions;
      tasks = i.tasks;
      rules = with-task-sets _ _ _ i.rules (a_limit r) (not-false _ c.0, c.1.0, q.0, not-false _ q.1, c.1.1.1.0, w.2);
      walls = i.walls;
    })
    ⨾ (λ p r g c w i.
    let l = a-within 15 r.a false g in
    let past = partitioned r.a p.rules.blocks in
    let q = or-none (eqb r.m empty || not (one_template p.tasks (union r.m past))) (meets r.m past) c.1.1.0 in
    let o = or-none (eqb r.m empty) (not (one_template p.tasks (union r.m past))) q.0 in
    record {
      people = i.people;
      ranks = i.ranks;
      permissions = i.permissions;
      tasks = i.tasks;
      rules = with-blocks _ _ _ i.rules (a_block r) (omega arith, not-false _ c.0, c.1.0, o.0, not-false _ o.1, q.1, c.1.1.1.0);
      walls = i.walls;
    })
    ⨾ (λ p r g c w i. record {
      people = i.people;
      ranks = i.ranks;
      permissions = i.permissions;
      tasks = bans _ _ i.tasks r.a (let l = a-within 15 r.a false g in omega arith) (not-false _ c.0);
      rules = rules-grow p.tasks (ban_next p r.a).tasks (λ t j e. e) _ _ i.rules;
      walls = i.walls;
    })
    ⨾ (λ p r g c w i. record {
      people = i.people;
      ranks = i.ranks;
      permissions = i.permissions;
      tasks = limits _ _ i.tasks r.a r.n (not-false _ c.0) c.1.1.0;
      rules = rules-grow p.tasks (most_next p r.n r.a).tasks (λ t j e. e) _ _ i.rules;
      walls = i.walls;
    })
    ⨾ (λ p r g c w i. record {
      people = i.people;
      ranks = i.ranks;
      permissions = i.permissions;
      tasks = i.tasks;
      rules = with-bindings _ _ _ i.rules (pair_of_two r) (a_pair p.tasks r.a r.b c.0 c.1.1.0, c.1.0, c.1.1.1.0);
      walls = i.walls;
    })
    ⨾ (λ p r g c w i. record {
      people = i.people;
      ranks = i.ranks;
      permissions = i.permissions;
      tasks = i.tasks;
      rules = with-befores _ _ _ i.rules (pair_of_two r) (a_pair p.tasks r.a r.b c.0 c.1.1.0, c.1.0, c.1.1.1.0);
      walls = i.walls;
    })
    ⨾ (λ p r g c w i.
    let k = two-known (has p.people.roles r.a) (has p.people.roles r.b) c.0 in
    let l = (b-within 63 63 r.a r.b g).0 in
    record {
      people = i.people;
      ranks = ranks-raised _ _ i.ranks r.a r.b k.0 k.1 (omega arith) c.1.1.0 c.1.1.1.0 c.1.1.1.1.1.0;
      permissions = i.permissions;
      tasks = i.tasks;
      rules = i.rules;
      walls = i.walls;
    })
    ⨾ (λ p r g c w i.
    let l = b-within 15 15 r.a r.b g in
    let la = l.0 in
    let lb = l.1 in
    record {
      people = i.people;
      ranks = i.ranks;
      permissions = i.permissions;
      tasks = i.tasks;
      rules = i.rules;
      walls = prefixed-add WallOk p.walls (a_walled r) i.walls (omega arith, omega arith, w.1, c.0, c.1.0, c.1.1.0);
    })
    ⨾ tt

none-just : {A : Type 0} (x : A) → none ≡ just x → ⊥
unfolding holds
none-just x e = false≢true (ap (λ (m : Maybe _). there m) e)

no_member : (r : ℕ) → has empty r ≡ true → ⊥
no_member r e = false≢true (sym (has-empty r) ∙ e)

ready-start : Ready no_policy
unfolding no_policy raisings sum_below size ones_in
ready-start = record {
  people = record {
    users = λ u e. absurd (false≢true e);
    roles = λ r e. absurd (no_member r e);
    bare = λ u e. refl;
    assigned = λ u r e. absurd (no_member r e);
  };
  ranks = record { ranked = start; known = λ a b e. absurd (no_member b e); room = omega arith };
  permissions = record {
    declared = λ i x e. absurd (none-just x e);
    pairs = λ i j x y e. absurd (none-just x e);
    holders = λ i r e. absurd (no_member r e);
    carriers = λ i r e. absurd (no_member r e);
  };
  tasks = record {
    template = λ t j e. absurd (none-just j e);
    open_to = λ t r e. absurd (no_member r e);
    banned = λ j e. absurd (false≢true e);
    most = λ t n e. absurd (none-just n e);
  };
  rules = record { statics = tt; dynamics = tt; task_sets = tt; blocks = tt; bindings = tt; befores = tt };
  walls = tt;
}

ready-filled : (p : Policy) (rs : List Record) → Accepted p rs → Every Bounded rs → Ready p → Ready (filled p rs)
unfolding filled
ready-filled p [] a w i = i
ready-filled p (r ∷ rs) a w i =
    ready-filled (step p r) rs a.1 w.1 (fits-rows (λ n p r x. Bounded r → Ready p → Ready x) rows p r a.0 w.0 i)

-- ---- Bytes below 256 give records with such fields.
byte_at : (s : Bytes) (i : ℕ) → Every (λ x. x < 256) s → get_or s i 0 < 256
byte_at [] i h = omega arith
byte_at (x ∷ s) zero h = h.0
byte_at (x ∷ s) (suc i) h = byte_at s i h.1

bounded : (s : Bytes) → Every (λ x. x < 256) s → Bounded (decode s)
unfolding decode number
bounded s h =
    let a = byte_at s 4 h in
    let b = byte_at s 5 h in
    let c = byte_at s 6 h in
    let d = byte_at s 7 h in
    (omega arith, omega arith, byte_at s 1 h)

all-bounded : (n : ℕ) (s : Bytes) → Every (λ x. x < 256) s → Every Bounded (records_from n s)
unfolding records_from
all-bounded zero s h = tt
all-bounded (suc n) s h =
    let e = sym (take-append-drop 16 s) in
    let k = subst (Every (λ x. x < 256)) e h in (
      bounded (take 16 s) (every-left (λ x. x < 256) (take 16 s) (drop 16 s) k),
      all-bounded n (drop 16 s) (every-right (λ x. x < 256) (take 16 s) (drop 16 s) k),
    )

-- ---- Every kind of request keeps the policy tables ready.
lower-rows : Rows lower_forms (λ n t r x. Ready t.policy → Ready x.policy) lower_kinds
unfolding lower_kinds role_kinds session_kinds lower_forms form_of out_of_range above join_checks join_next assign_checks assign_next give_checks give_next delete_next user_gone take_back_checks take_back_next withdraw_next
lower-rows =
    (λ t r g c i. with-people _ i _ _ (joins _ i.people r.a r.m (let l = a-within 1023 r.a false g in omega arith)
    (λ q e. within_has r.m _ q (not-false _ c.0) e)))
    ⨾ (λ t r g c i. with-people _ i _ _ (leaves _ i.people r.a))
    ⨾ (λ t r g c i. let k = two-known (t.policy.people.users r.a) (has t.policy.people.roles r.b) c.0 in
    with-people _ i _ _ (gains _ i.people r.a r.b k.0 k.1))
    ⨾ (λ t r g c i.
    let k =
    two-known (t.policy.people.users r.a) (has t.policy.people.roles r.b)
    (or-none _ (not (has (t.policy.people.assigned r.a) r.b)) c.0).0 in
    with-people _ i _ _ (loses _ i.people r.a r.b k.0))
    ⨾ (λ t r g c i. let k = two-known (has t.policy.people.roles r.a) (there (t.policy.permissions.declared r.b)) c.0 in
    with-permissions _ i _ (gives _ _ _ i.permissions r.a r.b k.0 k.1))
    ⨾ (λ t r g c i. with-permissions _ i _ (withdraws _ _ _ i.permissions r.a r.b))
    ⨾ (λ t r g c i. i) ⨾ (λ t r g c i. i) ⨾ (λ t r g c i. i) ⨾ (λ t r g c i. i) ⨾ (λ t r g c i. i) ⨾ (λ t r g c i. i)
    ⨾ tt

upper-rows : Rows request_forms (λ n t r x. Ready t.lower.policy → Ready x.lower.policy) upper_kinds
unfolding upper_kinds delete_next user_gone open_next end_next claim_next release_next done_next
upper-rows =
    (λ t r g c i. with-people _ i _ _ (leaves _ i.people r.a))
    ⨾ (λ t r g c i. i) ⨾ (λ t r g c i. i) ⨾ (λ t r g c i. i) ⨾ (λ t r g c i. i) ⨾ (λ t r g c i. i) ⨾ (λ t r g c i. i) ⨾ (λ t r g c i. i) ⨾ (λ t r g c i. i) ⨾
    (λ t r g c i. i)
    ⨾ tt

pub ready : (x : Running) → Ready (policy_of x)
unfolding request engine_of lower_of records_of
ready x =
    let a = load-accepted x.policy x.loads in
    run-keeps request_forms request_kinds engine-order (λ t. Ready t.lower.policy)
    (engine-rows (λ n t r z. Ready t.lower.policy → Ready z.lower.policy) upper-rows
    (every_map lower_kinds (λ k h t r g c i. h t.lower r g c i) lower-rows))
    (engine_of (load x.policy).tables) x.requests
    (rw a.1 (ready-filled no_policy (records_of x.policy) a.0 (all-bounded (length x.policy / 16) x.policy x.bytes) ready-start))

-- ---- All written records, from the empty policy to the tables.
all_runs : (p : Policy) → Ready p → ((u : ℕ) → Within p.rules.statics (down p.seniority (p.people.assigned u))) → Run no_policy (records_written p) p
unfolding no_policy records_written people_rows task_rows rule_rows behind
all_runs p h hold =
    let bare-hold : (u : ℕ) → Within p.rules.statics (p.people.assigned u) =
    λ u. within-less p.rules.statics _ _ (down-has p.seniority (p.people.assigned u)) (hold u) in
    run-then _ _ p _ _ (run-1 p h)
    (run-then _ _ p _ _ (run-2 p h)
    (run-then _ _ p _ _ (run-3 p h)
    (run-then _ _ p _ _ (run-4 p h)
    (run-then _ _ p _ _ (run-5 p h)
    (run-then _ _ p _ _ (run-6 p h)
    (run-then _ _ p _ _ (run-7 p h)
    (run-then _ _ p _ _ (run-8 p h)
    (run-then _ _ p _ _ (run-9 p h bare-hold)
    (run-then _ _ p _ _ (run-10 p h bare-hold)
    (run-then _ _ p _ _ (run-11 p h bare-hold)
    (run-then _ _ p _ _ (run-12 p h bare-hold)
    (run-then _ _ p _ _ (run-13 p h bare-hold)
    (run-then _ _ p _ _ (run-14 p h bare-hold)
    (run-then _ _ p _ _ (run-15 p h bare-hold)
    (run-then _ _ p _ _ (run-16 p h bare-hold)
    (run-then _ _ p _ _ (run-17 p h hold start)
    (run-then _ _ p _ _ (run-18 p h)
    (run_none p p refl))))))))))))))))))

pub written-runs : (x : Running) → Run no_policy (records_written (policy_of x)) (policy_of x)
written-runs x = all_runs (policy_of x) (ready x) (λ u. (kept-after x.policy x.loads x.requests).2.statics u)

pub loads-again : LoadsAgain
unfolding written
loads-again x = load-run (records_written (policy_of x)) (policy_of x) (written-runs x)

pub bytes-tell : BytesTell
bytes-tell x y = (
  λ e. ap written e,
  λ e. ap (λ (l : Loaded). l.tables) (sym (loads-again x) ∙ ap load e ∙ loads-again y),
)

-- ---- The lower part alone.
pub lower-ready : (x : Running) → Ready (lower_policy_of x)
unfolding lower_request lower_of records_of
lower-ready x =
    let a = load-accepted x.policy x.loads in
    run-keeps lower_forms lower_kinds lower-order (λ t. Ready t.policy) lower-rows (lower_of (load x.policy).tables) x.requests
    (rw a.1 (ready-filled no_policy (records_of x.policy) a.0 (all-bounded (length x.policy / 16) x.policy x.bytes) ready-start))

pub lower-runs : (x : Running) → Run no_policy (records_written (lower_policy_of x)) (lower_policy_of x)
lower-runs x = all_runs (lower_policy_of x) (lower-ready x) (λ u. (lower-kept-after x.policy x.loads x.requests).1.statics u)

lower-again : (x : Running) → load (written (lower_policy_of x)) ≡ accepted (lower_policy_of x)
unfolding written
lower-again x = load-run (records_written (lower_policy_of x)) (lower_policy_of x) (lower-runs x)

pub dealers-write : DealersWrite
dealers-write = record {
  again = lower-again;
  tell = λ x y. (λ e. ap written e, λ e. ap (λ (l : Loaded). l.tables) (sym (lower-again x) ∙ ap load e ∙ lower-again y));
}
