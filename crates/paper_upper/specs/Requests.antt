-- Requests 48 to 52, 57, 58 and 60, and the conditions on entries of requests 33 and 41. For each, `...Checks` lists its checks and `...Next` is the engine
-- after a granted request.
use Rattle.std.specs.Prelude.{ℕ, ◌/◌, ◌%◌, Bool, not, cond, ◌&&◌, ◌||◌, List, [], ◌∷◌, ◌++◌, eqb, leb}
use Rattle.paper_lower.specs.Sets.{has, meets}
use Rattle.paper_lower.specs.Lists.{upd, some_number_below, holds, there, is, some, many, keep, each}
use Rattle.paper_lower.specs.Lists.Maybe.{none, just}
use Rattle.paper_lower.specs.Checks.{Check, UNKNOWN, TAKEN, IN-USE, NO-ROLE, NOT-YOURS, DENIED, FULL}
use Rattle.paper_lower.specs.Kinds.{Kind, on}
use Rattle.paper_lower.specs.Tables.{Permissions, Tasks, with_sessions}
use Rattle.paper_lower.specs.Policy.{down, has_task, is_for}
use Rattle.paper_lower.specs.Roles.{delete_checks, user_gone}
use Rattle.paper_lower.specs.Sessions.{destroy_checks, destroy_next}
use Rattle.paper_upper.specs.Orders.{is_held, is_held_by, Entry, entry, Engine, with_lower, with_orders, with_entries, are_in_order, of_task, held_of, tasks_by, tasks_done, tasks_others}
use Rattle.paper_upper.specs.Orders.Standing.{held, done}
use Rattle.paper_upper.specs.Rules.{rule_checks, rule_place}

-- ---- "The conditions of IN USE for 33 and 41 that look at entries are judged above it."

-- Request 33 is IN USE "while the user has .. an entry in an open instance".
unfoldable pub delete_above : Engine → ℕ → List Check
delete_above t a = (some (λ e. eqb e.user a && there (t.orders.opened e.instance)) t.orders.entries, IN-USE) ∷ []

-- Request 41 is IN USE "while the subject holds a task".
unfoldable pub destroy_above : Engine → ℕ → List Check
destroy_above t a = (some (λ e. is_held_by a e.standing) t.orders.entries, IN-USE) ∷ []

-- ---- "48 open instance a of template b." UNKNOWN: "a template has no task".
unfoldable pub open_checks : Engine → ℕ → ℕ → List Check
open_checks t a b = (not (has_task t.lower.policy.tasks b), UNKNOWN) ∷ (there (t.orders.opened a), TAKEN) ∷ []

-- The engine with instance a open, of template b.
unfoldable pub open_next : Engine → ℕ → ℕ → Engine
open_next t a b = with_orders t (record { opened = upd t.orders.opened a (just b); entries = t.orders.entries })

-- ---- "49 end instance a." IN USE: "while a task of the instance is held". "ending the instance removes all its entries"
unfoldable pub end_checks : Engine → ℕ → List Check
end_checks t a =
    (not (there (t.orders.opened a)), UNKNOWN)
    ∷ (some (λ e. are_in_order a e && is_held e.standing) t.orders.entries, IN-USE)
    ∷ []

-- The engine with instance a closed and without its entries.
unfoldable pub end_next : Engine → ℕ → Engine
end_next t a =
    with_orders t (record { opened = upd t.orders.opened a none; entries = keep (λ e. not (are_in_order a e)) t.orders.entries })

-- ---- "50 claim, 51 release, 52 done: subject a, instance b, task c."

-- The condition for UNKNOWN: "something named is not declared, not open or not live", "a task is not of the instance's template"
unfoldable pub unknown : Engine → ℕ → ℕ → ℕ → Bool
unknown t a b c = not (t.lower.sessions.live a) || not (holds (λ j. is j (t.lower.policy.tasks.template c)) (t.orders.opened b))

-- Claim. TAKEN: "a task now held by someone". NO ROLE: "no active role of the subject opens the task", and no role below an active one opens it (02, Ask 7).
-- FULL: "no ledger entry free".
unfoldable pub claim_checks : Engine → ℕ → ℕ → ℕ → List Check
claim_checks t a b c =
    (unknown t a b c, UNKNOWN)
    ∷ (some (λ e. of_task b c e && is_held e.standing) t.orders.entries, TAKEN)
    ∷ (not (meets (t.lower.policy.tasks.open_to c) (down t.lower.policy.seniority (t.lower.sessions.active a))), NO-ROLE)
    ∷ rule_checks t.lower.policy.tasks t.lower.policy.rules (t.orders.opened b) t.orders.entries b (t.lower.sessions.user a) c
    ++ ((leb 2048 (many t.orders.entries), FULL) ∷ [])

-- 02, Ask 2: the place that goes with the reply to a claim.
unfoldable pub claim_place : Engine → ℕ → ℕ → ℕ → ℕ → ℕ
claim_place t a b c reply =
    let u = t.lower.sessions.user a in
    let es = t.orders.entries in
    rule_place t.lower.policy.rules (tasks_by b u es) (tasks_done b es) (tasks_others b u es) c reply

-- The engine with one more entry, of the subject's user and held by the subject.
unfoldable pub claim_next : Engine → ℕ → ℕ → ℕ → Engine
claim_next t a b c = with_entries t (entry b (t.lower.sessions.user a) c (held a) ∷ t.orders.entries)

-- The checks that release, done and task check have in common. NOT YOURS: "the subject does not hold the task".
unfoldable pub hold_checks : Engine → ℕ → ℕ → ℕ → List Check
hold_checks t a b c = (unknown t a b c, UNKNOWN) ∷ (not (some (held_of b c a) t.orders.entries), NOT-YOURS) ∷ []

-- Release: "Release removes it"
unfoldable pub release_next : Engine → ℕ → ℕ → ℕ → Engine
release_next t a b c = with_entries t (keep (λ e. not (held_of b c a e)) t.orders.entries)

-- Done, for one entry: "done turns it from held to done"
unfoldable pub turned : ℕ → ℕ → ℕ → Entry → Entry
turned i t a e = cond (held_of i t a e) (entry e.instance e.user e.task done) e

-- Done, for all entries.
unfoldable pub done_next : Engine → ℕ → ℕ → ℕ → Engine
done_next t a b c = with_entries t (each (turned b c a) t.orders.entries)

-- ---- "57 task check: subject a, instance b, task c, m = operation + 65,536 x object". DENIED: "the task does not carry it", "an undeclared pair".
-- Whether task t carries a permission for this operation on this object.
unfoldable pub carried : Permissions → ℕ → ℕ → ℕ → Bool
carried p t operation object = some_number_below 256 (λ i. holds (is_for operation object) (p.declared i) && has (p.carriers i) t)

-- The checks of a task check.
unfoldable pub task_check_checks : Engine → ℕ → ℕ → ℕ → ℕ → List Check
task_check_checks t a b c m = hold_checks t a b c ++ ((not (carried t.lower.policy.permissions c (m % 65536) (m / 65536)), DENIED) ∷ [])

-- ---- 02, Ask 9: "Refusals of the new question, kind 58 with instance a: SHAPE, RANGE, UNKNOWN." The figures that it returns are in Questions.
unfoldable pub figures_checks : Engine → ℕ → List Check
figures_checks t a = (not (there (t.orders.opened a)), UNKNOWN) ∷ []

-- ---- Ask 13: "kind 60, a question about template a .. Refusals: SHAPE, RANGE,
-- UNKNOWN." UNKNOWN: "a template has no task". The figures that it returns are in Stuck.
unfoldable pub stuck_checks : Tasks → ℕ → List Check
stuck_checks k a = (not (has_task k a), UNKNOWN) ∷ []

-- ---- The requests of this file with their checks and next tables. Requests 33 and 41 run the lower part's checks first.
unfoldable pub upper_kinds : List (Kind Engine)
upper_kinds =
    on 33 (λ t r. delete_checks t.lower r.a ++ delete_above t r.a)
    (λ t r. with_lower t (user_gone t.lower r.a))
    ∷ on 41 (λ t r. destroy_checks t.lower r.a ++ destroy_above t r.a)
    (λ t r. with_lower t (with_sessions t.lower (destroy_next t.lower.sessions r.a)))
    ∷ on 48 (λ t r. open_checks t r.a r.b) (λ t r. open_next t r.a r.b)
    ∷ on 49 (λ t r. end_checks t r.a) (λ t r. end_next t r.a)
    ∷ on 50 (λ t r. claim_checks t r.a r.b r.c) (λ t r. claim_next t r.a r.b r.c)
    ∷ on 51 (λ t r. hold_checks t r.a r.b r.c) (λ t r. release_next t r.a r.b r.c)
    ∷ on 52 (λ t r. hold_checks t r.a r.b r.c) (λ t r. done_next t r.a r.b r.c)
    ∷ on 57 (λ t r. task_check_checks t r.a r.b r.c r.m) (λ t r. t)
    ∷ on 58 (λ t r. figures_checks t r.a) (λ t r. t)
    ∷ on 60 (λ t r. stuck_checks t.lower.policy.tasks r.a) (λ t r. t)
    ∷ []

-- Unfolds all definitions of this file at once, for proofs that compute a case.
unfoldable pub requests_open : Unit {0}
unfolding delete_above destroy_above open_checks open_next end_checks end_next unknown claim_checks claim_place claim_next hold_checks release_next turned done_next carried task_check_checks figures_checks stuck_checks upper_kinds
requests_open = tt
