-- The theorem ToldIsTrue: what an observer knows from records and their replies is what the tables hold.
use mathlib.Core.Path.{◌≡◌, refl, sym, ap, ◌∙◌}
use mathlib.Core.List.{List, [], ◌∷◌}
use Rattle.paper_lower.specs.Lists.{Every}
use Rattle.paper_lower.specs.Records.{Bytes, Record}
use Rattle.paper_lower.specs.Forms.{lower_forms, request_forms}
use Rattle.paper_lower.specs.Kinds.{Kind, chosen}
use Rattle.paper_lower.specs.Tables.{Policy, Lower, no_policy, no_sessions}
use Rattle.paper_lower.specs.Policy.{user_next, role_next, permission_next, assign_next, give_next, task_next, open_to_next, carries_next, static_next, dynamic_next, task_set_next, block_next, ban_next, most_next, bind_next, before_next, raise_next, wall_next, policy_kinds}
use Rattle.paper_lower.specs.Load.{load, records_of}
use Rattle.paper_lower.specs.Roles.{join_next, delete_next, forget_next, user_gone, take_back_next, withdraw_next, role_kinds}
use Rattle.paper_lower.specs.Sessions.{create_next, destroy_next, activate_next, deactivate_next, commit_next, session_kinds, lower_kinds, lower_request, lower_of}
use Rattle.paper_lower.proofs.ListLaws.{every_map, every-all, ◌⨾◌}
use Rattle.paper_upper.specs.Orders.{is_held_by, Orders, Engine, no_orders, are_in_order, of_task, held_of}
use Rattle.paper_upper.specs.Requests.{open_next, end_next, claim_next, release_next, done_next, turned, upper_kinds}
use Rattle.paper_upper.specs.Engine.{widened, request_kinds, request, engine_of}
use Rattle.theorems.specs.Outside.{Told, nothing, of_instance, in_hand, theirs, now_done, telling, hear, hear_all, outside}
use Rattle.theorems.specs.Theorems.{shown, lower_after, lower_told_after, AfterEvery, ToldIsTrue}
use Rattle.theorems.proofs.Replies.{of-both, lower-order, engine-order}
use Rattle.theorems.proofs.Rows.{run-follows}
use Rattle.theorems.proofs.Loads.{step, filled, Accepted, fits-rows, load-accepted}

-- The tables of the lower part and these orders as an engine.
abbrev pub over : Orders → Lower → Engine
over o t = record { lower = t; orders = o }

-- ---- Requests: for every kind, what an observer learns is the change of the tables.
lower-rows : Every (λ k. (o : Orders) (t : Lower) (r : Record) → (chosen telling k.kind).next (shown (over o t)) r ≡ shown (over o (k.next t r))) lower_kinds
unfolding lower_kinds role_kinds session_kinds telling chosen join_next assign_next give_next delete_next forget_next user_gone take_back_next withdraw_next create_next destroy_next activate_next deactivate_next commit_next
lower-rows =
    (λ o t r. refl) ⨾ (λ o t r. refl) ⨾ (λ o t r. refl) ⨾ (λ o t r. refl) ⨾ (λ o t r. refl) ⨾ (λ o t r. refl)
    ⨾ (λ o t r. refl) ⨾ (λ o t r. refl) ⨾ (λ o t r. refl) ⨾ (λ o t r. refl) ⨾ (λ o t r. refl) ⨾ (λ o t r. refl) ⨾ tt

-- An observer learns from a granted record of the kind what the tables become.
abbrev Heard : Kind Engine → Type 0
Heard k = (t : Engine) (r : Record) → (chosen telling k.kind).next (shown t) r ≡ shown (k.next t r)

upper-rows : Every Heard upper_kinds
unfolding upper_kinds telling chosen delete_next forget_next user_gone destroy_next open_next end_next claim_next release_next done_next turned are_in_order of_task held_of is_held_by of_instance in_hand theirs now_done
upper-rows =
    (λ t r. refl) ⨾ (λ t r. refl) ⨾ (λ t r. refl) ⨾ (λ t r. refl) ⨾ (λ t r. refl) ⨾ (λ t r. refl) ⨾ (λ t r. refl) ⨾ (λ t r. refl) ⨾ (λ t r. refl) ⨾
    (λ t r. refl) ⨾ tt

request-rows : Every Heard request_kinds
unfolding widened
request-rows = of-both Heard upper-rows (every_map lower_kinds (λ k h t r. h t.orders t.lower r) lower-rows)

-- ---- The load.
load-rows : Every (λ k. (p : Policy) (r : Record) → (chosen telling k.kind).next (shown (engine_of p)) r ≡ shown (engine_of (k.next p r))) policy_kinds
unfolding policy_kinds engine_of lower_of telling chosen user_next role_next permission_next assign_next give_next task_next open_to_next carries_next static_next dynamic_next task_set_next block_next ban_next most_next bind_next before_next raise_next wall_next
load-rows =
    (λ p r. refl) ⨾ (λ p r. refl) ⨾ (λ p r. refl) ⨾ (λ p r. refl) ⨾ (λ p r. refl) ⨾ (λ p r. refl) ⨾ (λ p r. refl) ⨾ (λ p r. refl)
    ⨾ (λ p r. refl) ⨾ (λ p r. refl) ⨾ (λ p r. refl) ⨾ (λ p r. refl) ⨾ (λ p r. refl) ⨾ (λ p r. refl) ⨾ (λ p r. refl) ⨾ (λ p r. refl) ⨾ (λ p r. refl) ⨾
    (λ p r. refl) ⨾ tt

heard-records : (p : Policy) (rs : List Record) → Accepted p rs → hear_all (shown (engine_of p)) rs ≡ shown (engine_of (filled p rs))
unfolding hear_all hear filled
heard-records p [] a = refl
heard-records p (r ∷ rs) a =
    ap (λ (x : Told). hear_all x rs)
    (fits-rows (λ n p r x. (chosen telling n).next (shown (engine_of p)) r ≡ shown (engine_of x))
    (every_map policy_kinds (λ k h p r g c. h p r) load-rows) p r a.0)
    ∙ heard-records (step p r) rs a.1

heard : (policy : Bytes) → (load policy).reply ≡ 0 → hear_all nothing (records_of policy) ≡ shown (engine_of (load policy).tables)
unfolding nothing no_policy no_sessions no_orders engine_of lower_of
heard policy accepted =
    let x = load-accepted policy accepted in
    heard-records no_policy (records_of policy) x.0 ∙ ap (λ (p : Policy). shown (engine_of p)) (sym x.1)

-- ---- The theorem.
pub told-is-true : ToldIsTrue
unfolding outside hear request
told-is-true policy accepted ss =
    run-follows request_forms request_kinds engine-order (λ t. Unit {0}) (λ t y. y ≡ shown t) (λ n y r. (chosen telling n).next y r)
    (every-all request_kinds (λ k t r g p i. i))
    (every_map request_kinds (λ k h t r g p i y e. ap (λ (y : Told). (chosen telling k.kind).next y r) e ∙ h t r) request-rows)
    (engine_of (load policy).tables) _ ss tt (heard policy accepted)

-- The same for the lower part alone, where no order is open.
pub lower-told : AfterEvery (λ policy requests. lower_told_after policy requests ≡ shown (over no_orders (lower_after policy requests)))
unfolding outside hear lower_request engine_of
lower-told policy accepted ss =
    run-follows lower_forms lower_kinds lower-order (λ t. Unit {0}) (λ t y. y ≡ shown (over no_orders t)) (λ n y r. (chosen telling n).next y r)
    (every-all lower_kinds (λ k t r g p i. i))
    (every_map lower_kinds (λ k h t r g p i y e. ap (λ (y : Told). (chosen telling k.kind).next y r) e ∙ h no_orders t r) lower-rows)
    (lower_of (load policy).tables) _ ss tt (heard policy accepted)
