-- Further theorems on walls (02, Ask 11): a commit is refused as the check is, objects in no wall are free, and without walls every reply is as before.
use Prim.Native.Nat.{ℕ, zero, suc, ◌<◌}
use mathlib.Core.Path.{◌≡◌, refl, sym, ap, subst, ◌∙◌}
use mathlib.Core.Bool.{Bool, true, false, not, cond}
use mathlib.Core.List.{List, [], ◌∷◌, ◌++◌}
use mathlib.Core.Logic.{inl, inr}
use native.Mathlib.Omega.{arith}
use lib.ListN.{drop}
use Rattle.paper_lower.specs.Lists.{upd, Maybe, holds, or_else, keep, each, Every}
use Rattle.paper_lower.specs.Lists.Maybe.{none}
use Rattle.paper_lower.specs.Checks.{Check, first, granted, UNKNOWN, DENIED, WALL}
use Rattle.paper_lower.specs.Records.{Bytes, Record, number, decode}
use Rattle.paper_lower.specs.Forms.{Form, lower_forms, upper_forms, request_forms, form_of, misplaced, above, misshapen, out_of_range, form_checks}
use Rattle.paper_lower.specs.Kinds.{Kind, chosen, reply_to, answer}
use Rattle.paper_lower.specs.Tables.{Policy, Lower, no_policy, no_sessions, with_bound_to, with_policy, with_sessions}
use Rattle.paper_lower.specs.Policy.{down, block_of, another, assign_next, give_next}
use Rattle.paper_lower.specs.Load.{load, records_of}
use Rattle.paper_lower.specs.Roles.{join_next, delete_next, forget_next, user_gone, take_back_next, withdraw_next, role_kinds}
use Rattle.paper_lower.specs.Sessions.{create_next, destroy_next, activate_next, deactivate_next, allowed, wall_between, check_checks, commit_next, session_kinds, lower_kinds, lower_request, lower_of}
use Rattle.paper_lower.proofs.ListLaws.{below_none, every_map, ◌⨾◌}
use Rattle.paper_upper.specs.Orders.{Engine, with_lower}
use Rattle.paper_upper.specs.Requests.{open_next, end_next, claim_next, release_next, done_next, upper_kinds}
use Rattle.paper_upper.specs.Engine.{widened, shared_kinds, request_kinds, request}
use Rattle.theorems.specs.OverEntries.{of_kind}
use Rattle.theorems.specs.Walls.{CheckOrCommit, RefusedAsTheCheck, OutsideWallsAllIsFree, check_unwalled, checks_unwalled, lower_unwalled, unwalled, lower_request_unwalled, request_unwalled, Unwalled, AsBeforeWalls}
use Rattle.theorems.proofs.Replies.{lower-order, engine-order, refused-loads-are-empty}
use Rattle.theorems.proofs.Rows.{Rows, answer-rows, engine-rows, alike_runs}
use Rattle.theorems.proofs.Made.{a_walled, walls-made}
use Rattle.theorems.proofs.Seniority.{first-behind, chosen-front, same_answer}
use Rattle.theorems.proofs.WrittenRuns.{upd-idle}
use Rattle.theorems.proofs.Walls.{engine-reply, lower-reply}

-- ---- A commit gets the reply of the check with the same fields.
same-engine : (t : Engine) (x : ℕ) (s : Bytes) → 59 ≡ x → (request t (x ∷ s)).reply ≡ (request t (56 ∷ s)).reply
unfolding request answer reply_to form_checks request_forms lower_forms upper_forms form_of misshapen misplaced out_of_range above decode number request_kinds upper_kinds shared_kinds widened lower_kinds role_kinds session_kinds keep each chosen
same-engine t x s e = subst (λ (k : ℕ). (request t (k ∷ s)).reply ≡ (request t (56 ∷ s)).reply) e refl

same-dealer : (t : Lower) (x : ℕ) (s : Bytes) → 59 ≡ x → (lower_request t (x ∷ s)).reply ≡ (lower_request t (56 ∷ s)).reply
unfolding lower_request answer reply_to form_checks lower_forms form_of misshapen misplaced out_of_range above decode number lower_kinds role_kinds session_kinds chosen
same-dealer t x s e = subst (λ (k : ℕ). (lower_request t (k ∷ s)).reply ≡ (lower_request t (56 ∷ s)).reply) e refl

as-the-check : (t : Engine) (s : Bytes) → (decode s).kind ≡ 59 → (request t s).reply ≡ (request t (56 ∷ drop 1 s)).reply
unfolding decode
as-the-check t [] e = let z : ⊥ = omega arith in absurd z
as-the-check t (x ∷ s) e = same-engine t x s (sym e)

as-the-dealers-check : (t : Lower) (s : Bytes) → (decode s).kind ≡ 59 → (lower_request t s).reply ≡ (lower_request t (56 ∷ drop 1 s)).reply
unfolding decode
as-the-dealers-check t [] e = let z : ⊥ = omega arith in absurd z
as-the-dealers-check t (x ∷ s) e = same-dealer t x s (sym e)

pub refused-as-the-check : RefusedAsTheCheck
refused-as-the-check = record { engine = as-the-check; dealers = as-the-dealers-check }

-- ---- Objects in no wall.
module _ (t : Lower) (c : ℕ) (free : (w : ℕ) → block_of t.policy.walls c w ≡ none) where
  no-wall : (u : ℕ) → wall_between t u c ≡ false
  unfolding wall_between holds
  no-wall u = below_none 16 (λ w. holds (λ b. another b (t.sessions.bound_to u w)) (block_of t.policy.walls c w)) (λ w l. rw (free w) refl)

  none-bound : (a : ℕ) → with_sessions t (commit_next t a c) ≡ t
  unfolding commit_next or_else
  none-bound a =
      ap (λ (f : ℕ → ℕ → Maybe ℕ). with_sessions t (with_bound_to t.sessions f))
      (upd-idle t.sessions.bound_to (t.sessions.user a) (λ w. or_else (block_of t.policy.walls c w) (t.sessions.bound_to (t.sessions.user a) w))
      (λ i w. sym (ap (λ (x : Maybe ℕ). or_else x (t.sessions.bound_to (t.sessions.user a) w)) (free w)) i))

not-wall : (xs : List Check) → Every (λ x. x.1 < WALL) xs → first (xs ++ ((false, WALL) ∷ [])) ≡ WALL → ⊥
not-wall [] l e = omega arith
not-wall (x ∷ xs) l e = go x.0 e (not-wall xs l.1)
  where
    go : (b : Bool) → cond b x.1 (first (xs ++ ((false, WALL) ∷ []))) ≡ WALL → (first (xs ++ ((false, WALL) ∷ [])) ≡ WALL → ⊥) → ⊥
    go true e rest = let m = l.0 in omega arith
    go false e rest = rest e

same_tables : {T : Type 0} (q : ℕ) (x t : T) → x ≡ t → granted q x t ≡ t
same_tables zero x t e = e
same_tables (suc q) x t e = refl

stays : (t : Engine) (s : Bytes) → CheckOrCommit s → ((w : ℕ) → block_of t.lower.policy.walls (decode s).c w ≡ none) → (request t s).tables ≡ t
unfolding request answer request_kinds upper_kinds shared_kinds widened lower_kinds role_kinds session_kinds keep each chosen
stays t s (inl e) free =
    same_tables (request t s).reply ((chosen request_kinds (decode s).kind).next t (decode s)) t (ap (λ (n : ℕ). (chosen request_kinds n).next t (decode s)) e)
stays t s (inr e) free =
    same_tables (request t s).reply ((chosen request_kinds (decode s).kind).next t (decode s)) t
    (ap (λ (n : ℕ). (chosen request_kinds n).next t (decode s)) e ∙ ap (λ (x : Lower). with_lower t x) (none-bound t.lower (decode s).c free (decode s).a))

stays-below : (t : Lower) (s : Bytes) → CheckOrCommit s → ((w : ℕ) → block_of t.policy.walls (decode s).c w ≡ none) → (lower_request t s).tables ≡ t
unfolding lower_request answer lower_kinds role_kinds session_kinds chosen
stays-below t s (inl e) free =
    same_tables (lower_request t s).reply ((chosen lower_kinds (decode s).kind).next t (decode s)) t (ap (λ (n : ℕ). (chosen lower_kinds n).next t (decode s)) e)
stays-below t s (inr e) free =
    same_tables (lower_request t s).reply ((chosen lower_kinds (decode s).kind).next t (decode s)) t
    (ap (λ (n : ℕ). (chosen lower_kinds n).next t (decode s)) e ∙ none-bound t (decode s).c free (decode s).a)

-- No check before WALL gives that reply, and WALL does not apply to an object in no wall.
never-walled : (l : Lower) (fs : List Form) (s : Bytes) → ((w : ℕ) → block_of l.policy.walls (decode s).c w ≡ none) → {q : ℕ}
    → q ≡ first (form_checks fs s ++ check_checks l (decode s).a (decode s).b (decode s).c) → q ≡ WALL → ⊥
unfolding form_checks check_checks
never-walled l fs s free is e =
    let r = decode s in
    let early : List Check = form_checks fs s
    ++ ((not (l.sessions.live r.a), UNKNOWN)
    ∷ (not (allowed l.policy.permissions (down l.policy.seniority (l.sessions.active r.a)) r.b r.c), DENIED)
    ∷ []) in
    let none_between = no-wall l r.c free (l.sessions.user r.a) in
    not-wall early (omega arith) (sym (ap (λ (b : Bool). first (early ++ ((b, WALL) ∷ []))) none_between) ∙ sym is ∙ e)

pub outside-walls-all-is-free : OutsideWallsAllIsFree
outside-walls-all-is-free = record {
  engine = λ t s kind free. (λ e. never-walled t.lower request_forms s free (engine-reply t s kind) e, stays t s kind free);
  dealers = λ t s kind free. (λ e. never-walled t lower_forms s free (lower-reply t s kind) e, stays-below t s kind free);
}

-- ---- Policies without walls.
empty-free : (t : Lower) → t.policy.walls ≡ [] → (c w : ℕ) → block_of t.policy.walls c w ≡ none
unfolding block_of
empty-free t none-there c w = rw none-there refl

same_check : (t : Lower) → t.policy.walls ≡ [] → (a b c : ℕ) → first (check_unwalled t a b c) ≡ first (check_checks t a b c)
unfolding check_unwalled check_checks
same_check t none-there a b c =
    sym (ap (λ (x : Bool).
    first ((not (t.sessions.live a), UNKNOWN)
    ∷ (not (allowed t.policy.permissions (down t.policy.seniority (t.sessions.active a)) b c), DENIED)
    ∷ (x, WALL)
    ∷ [])) (no-wall t c (empty-free t none-there c) (t.sessions.user a)))

same-reply : {T : Type 0} (fs : List Form) (new ks : List (Kind T)) (t : T) (s : Bytes)
    → Every (λ k. (r : Record) → first (k.checks t r) ≡ first ((chosen ks k.kind).checks t r)) new →
    (answer fs (new ++ ks) t s).reply ≡ (answer fs ks t s).reply
unfolding answer reply_to
same-reply fs new ks t s rows =
    let r = decode s in
    first-behind (form_checks fs s) _ _
    (chosen-front (λ k. first (k.checks t r) ≡ first ((chosen ks r.kind).checks t r)) new ks r.kind refl
    (every_map new (λ k h e. subst (λ (n : ℕ). first (k.checks t r) ≡ first ((chosen ks n).checks t r)) e (h r)) rows))

same-engine-reply : (t : Engine) → t.lower.policy.walls ≡ [] → (s : Bytes) → (request t s).reply ≡ (request_unwalled t s).reply
unfolding request request_unwalled unwalled checks_unwalled request_kinds upper_kinds shared_kinds lower_kinds role_kinds session_kinds widened keep each chosen
same-engine-reply t none-there s =
    sym (same-reply request_forms unwalled request_kinds t s
    ((λ r. refl)
    ⨾ (λ r. same_check t.lower none-there r.a r.b r.c)
    ⨾ (λ r. same_check t.lower none-there r.a r.b r.c)
    ⨾ tt))

same-lower-reply : (t : Lower) → t.policy.walls ≡ [] → (s : Bytes) → (lower_request t s).reply ≡ (lower_request_unwalled t s).reply
unfolding lower_request lower_request_unwalled lower_unwalled checks_unwalled lower_kinds role_kinds session_kinds chosen
same-lower-reply t none-there s =
    sym (same-reply lower_forms lower_unwalled lower_kinds t s
    ((λ r. refl) ⨾ (λ r. same_check t none-there r.a r.b r.c) ⨾ (λ r. same_check t none-there r.a r.b r.c) ⨾ tt))

-- ---- If there are no walls and nobody is bound, it stays so.
module _ (t : Lower) (h : Unwalled t) where
  nothing-forgotten : (a : ℕ) → upd t.sessions.bound_to a (λ _. none) ≡ t.sessions.bound_to
  nothing-forgotten a = upd-idle t.sessions.bound_to a (λ _. none) (ap (λ (f : ℕ → ℕ → Maybe ℕ). f a) h.bound)

  gone : (a : ℕ) → with_policy t (delete_next t.policy a) ≡ user_gone t a
  unfolding user_gone forget_next
  gone a = sym (ap (λ (f : ℕ → ℕ → Maybe ℕ). with_sessions (with_policy t (delete_next t.policy a)) (with_bound_to t.sessions f)) (nothing-forgotten a))

  committed : (a c : ℕ) → t ≡ with_sessions t (commit_next t a c)
  committed a c = sym (none-bound t c (empty-free t h.walls c) a)

same-lower-request : (t : Lower) → Unwalled t → (s : Bytes) → lower_request t s ≡ lower_request_unwalled t s
unfolding lower_request lower_request_unwalled lower_unwalled checks_unwalled lower_kinds role_kinds session_kinds chosen
same-lower-request t h s =
    sym (same_answer lower_forms lower_unwalled lower_kinds t s
    ((λ r. (refl, gone t h r.a))
    ⨾ (λ r. (same_check t h.walls r.a r.b r.c, refl))
    ⨾ (λ r. (same_check t h.walls r.a r.b r.c, committed t h r.a r.c))
    ⨾ tt))

same-request : (t : Engine) → Unwalled t.lower → (s : Bytes) → request t s ≡ request_unwalled t s
unfolding request request_unwalled unwalled checks_unwalled request_kinds upper_kinds shared_kinds lower_kinds role_kinds session_kinds widened keep each chosen
same-request t h s =
    sym (same_answer request_forms unwalled request_kinds t s
    ((λ r. (refl, ap (λ (x : Lower). with_lower t x) (gone t.lower h r.a)))
    ⨾ (λ r. (same_check t.lower h.walls r.a r.b r.c, refl))
    ⨾ (λ r. (same_check t.lower h.walls r.a r.b r.c, ap (λ (x : Lower). with_lower t x) (committed t.lower h r.a r.c)))
    ⨾ tt))

lower-rows : Rows lower_forms (λ n t r x. Unwalled t → Unwalled x) lower_kinds
unfolding lower_kinds role_kinds session_kinds join_next assign_next give_next delete_next forget_next user_gone take_back_next withdraw_next create_next destroy_next activate_next deactivate_next
lower-rows =
    (λ t r g p i. record { walls = i.walls; bound = i.bound })
    ⨾ (λ t r g p i. record { walls = i.walls; bound = nothing-forgotten t i r.a ∙ i.bound })
    ⨾ (λ t r g p i. record { walls = i.walls; bound = i.bound })
    ⨾ (λ t r g p i. record { walls = i.walls; bound = i.bound })
    ⨾ (λ t r g p i. record { walls = i.walls; bound = i.bound })
    ⨾ (λ t r g p i. record { walls = i.walls; bound = i.bound })
    ⨾ (λ t r g p i. record { walls = i.walls; bound = i.bound })
    ⨾ (λ t r g p i. record { walls = i.walls; bound = i.bound })
    ⨾ (λ t r g p i. record { walls = i.walls; bound = i.bound })
    ⨾ (λ t r g p i. record { walls = i.walls; bound = i.bound })
    ⨾ (λ t r g p i. i)
    ⨾ (λ t r g p i. subst (λ (x : Lower). Unwalled x) (committed t i r.a r.c) i)
    ⨾ tt

upper-rows : Rows request_forms (λ n t r x. Unwalled t.lower → Unwalled x.lower) upper_kinds
unfolding upper_kinds delete_next forget_next user_gone destroy_next open_next end_next claim_next release_next done_next
upper-rows =
    (λ t r g p i. record { walls = i.walls; bound = nothing-forgotten t.lower i r.a ∙ i.bound })
    ⨾ (λ t r g p i. record { walls = i.walls; bound = i.bound })
    ⨾ (λ t r g p i. i) ⨾ (λ t r g p i. i) ⨾ (λ t r g p i. i) ⨾ (λ t r g p i. i) ⨾ (λ t r g p i. i) ⨾ (λ t r g p i. i) ⨾ (λ t r g p i. i) ⨾ (λ t r g p i. i)
    ⨾ tt

still : (t : Engine) → Unwalled t.lower → (s : Bytes) → Unwalled (request t s).tables.lower
unfolding request
still t h s =
    answer-rows request_forms (λ n t r x. Unwalled t.lower → Unwalled x.lower) request_kinds engine-order
    (engine-rows (λ n t r x. Unwalled t.lower → Unwalled x.lower) upper-rows (every_map lower_kinds (λ k f t r g p i. f t.lower r g p i) lower-rows))
    t s (λ q x. Unwalled x.lower) (λ x f. f h) (λ q. h)

lower-still : (t : Lower) → Unwalled t → (s : Bytes) → Unwalled (lower_request t s).tables
unfolding lower_request
lower-still t h s = answer-rows lower_forms (λ n t r x. Unwalled t → Unwalled x) lower_kinds lower-order lower-rows t s (λ q x. Unwalled x) (λ x f. f h) (λ q. h)

-- ---- Loads and runs.
load-unwalled : (policy : Bytes) → of_kind 18 (records_of policy) ≡ [] → Unwalled (lower_of (load policy).tables)
unfolding lower_of no_sessions each no_policy
load-unwalled policy none-there = record { walls = go (load policy).reply refl; bound = refl }
  where
    go : (q : ℕ) → (load policy).reply ≡ q → (load policy).tables.walls ≡ []
    go zero e = walls-made policy e ∙ ap (each a_walled) none-there
    go (suc q) e = ap (λ (p : Policy). p.walls) (refused-loads-are-empty policy (λ z. let n : ⊥ = omega arith in n))

pub as-before-walls : AsBeforeWalls
as-before-walls = record {
  loads = load-unwalled;
  replies = same-engine-reply;
  lower_replies = same-lower-reply;
  requests = λ t h s. (same-request t h s, still t h s);
  lower_requests = λ t h s. (same-lower-request t h s, lower-still t h s);
  runs = λ t h ss. alike_runs request request_unwalled (λ t. Unwalled t.lower) (λ t h s. (same-request t h s, still t h s)) t h ss;
  lower_runs = λ t h ss. alike_runs lower_request lower_request_unwalled Unwalled (λ t h s. (same-lower-request t h s, lower-still t h s)) t h ss;
}
