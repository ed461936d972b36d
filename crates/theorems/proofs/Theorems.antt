-- The theorems of specs/Theorems.antt. Most follow from what every load and every request keeps (Keeps), and from what an observer knows (Outside).
use Prim.Native.Nat.{ℕ, ◌≤◌}
use mathlib.Core.Path.{◌≡◌, refl, sym, ap, ◌∙◌}
use mathlib.Core.Bool.{Bool, true, false, cond}
use mathlib.Core.List.{List}
use borrow.Author.Tests.{leb-true, le-leb}
use native.Mathlib.Omega.{arith}
use lib.Dec.{leb}
use Rattle.paper_lower.specs.Lists.{many, Every}
use Rattle.paper_lower.specs.Checks.{FULL}
use Rattle.paper_lower.specs.Records.{Record}
use Rattle.paper_lower.specs.Forms.{request_forms}
use Rattle.paper_lower.specs.Tables.{Seniority, Lower}
use Rattle.paper_lower.specs.Policy.{assign_next, give_next}
use Rattle.paper_lower.specs.Load.{records_of}
use Rattle.paper_lower.specs.Roles.{counted_of, join_next, delete_next, user_gone, take_back_next, withdraw_next, role_kinds}
use Rattle.paper_lower.specs.Sessions.{session_kinds, lower_kinds}
use Rattle.paper_lower.proofs.ListLaws.{every_map, ◌⨾◌}
use Rattle.paper_upper.specs.Orders.{Orders}
use Rattle.paper_upper.specs.Requests.{open_next, end_next, claim_next, release_next, done_next, upper_kinds}
use Rattle.paper_upper.specs.Engine.{request_kinds, request}
use Rattle.theorems.specs.Outside.{Told}
use Rattle.theorems.specs.OverEntries.{HasHad, RoleLimits}
use Rattle.theorems.specs.InUse.{is_in_use}
use Rattle.theorems.specs.Theorems.{tables_next, said_after, lower_after, shown, OrdersKeepTheRules, ClerksKeepTheLimits, DealersKeepTheLimits, FirstRuleBroken, EntriesInUse, RulesAreWellMade, WallsAreWellMade, LedgerIsSound, fixed, RequestsChangeNoRule}
use Rattle.theorems.specs.Seniority.{AsRecorded}
use Rattle.sets.proofs.SetLaws.{within_has}
use Rattle.theorems.proofs.Replies.{engine-order}
use Rattle.theorems.proofs.Rows.{Rows, answer-rows, engine-rows}
use Rattle.theorems.proofs.Sound.{kept}
use Rattle.theorems.proofs.Ranks.{Ranked}
use Rattle.theorems.proofs.Reflects.{same}
use Rattle.theorems.proofs.Limits.{reached, none-broken}
use Rattle.theorems.proofs.Meant.{counted-had}
use Rattle.theorems.proofs.Keeps.{LowerKept, kept-after, lower-kept-after}
use Rattle.theorems.proofs.Outside.{over, told-is-true, lower-told}
use Rattle.theorems.proofs.FirstRule.{first-of-six, full-reply}
use Rattle.theorems.proofs.InUse.{counted, in_use}

pub orders-keep-the-rules : OrdersKeepTheRules
orders-keep-the-rules policy accepted ss =
    rw (told-is-true policy accepted ss) (kept (records_of policy) (tables_next policy ss).orders (kept-after policy accepted ss).1)

role-limits : (policy : List Record) (o : Orders) (t : Lower) → LowerKept policy t → RoleLimits policy (shown (over o t))
role-limits policy o t k =
    record {
      statics =
          λ u. none-broken policy se ranked recorded _ (t.policy.people.assigned u) (λ q. same) 9 t.policy.rules.statics k.0.made.statics
          (k.1.statics u);
      dynamics =
          λ u. none-broken policy se ranked recorded (HasHad (shown (over o t)) u) (counted_of t.sessions u) (counted-had t.sessions k.1.small u) 10
          t.policy.rules.dynamics k.0.made.dynamics (k.1.dynamics u);
      active = λ s l r e. (reached policy se ranked recorded _ (t.policy.people.assigned (t.sessions.user s)) (λ q. same) r).0
          (within_has (t.sessions.active s) _ r (k.1.active s l) e);
    }
  where
    se : Seniority
    se = t.policy.seniority

    ranked : Ranked se
    ranked = k.0.ranked

    recorded : AsRecorded policy se
    recorded = k.0.recorded

pub clerks-keep-the-limits : ClerksKeepTheLimits
clerks-keep-the-limits policy accepted ss =
    let k = kept-after policy accepted ss in
    rw (told-is-true policy accepted ss) (role-limits (records_of policy) _ (tables_next policy ss).lower (k.0, k.2))

pub dealers-keep-the-limits : DealersKeepTheLimits
dealers-keep-the-limits policy accepted ss =
    rw (lower-told policy accepted ss) (role-limits (records_of policy) _ (lower_after policy ss) (lower-kept-after policy accepted ss))

pub rules-are-well-made : RulesAreWellMade
rules-are-well-made policy accepted ss = (kept-after policy accepted ss).0.well

pub walls-are-well-made : WallsAreWellMade
walls-are-well-made policy accepted ss = (kept-after policy accepted ss).0.walled

pub ledger-is-sound : LedgerIsSound
ledger-is-sound policy accepted ss = (kept-after policy accepted ss).1.ledger

-- ---- Requests do not change the declared roles, permissions and tasks, the senior roles, the rules and the walls.
pub lower-rows : Every (λ k. (t : Lower) (r : Record) → fixed (k.next t r).policy ≡ fixed t.policy) lower_kinds
unfolding lower_kinds role_kinds session_kinds join_next assign_next give_next delete_next user_gone take_back_next withdraw_next
lower-rows =
    (λ t r. refl) ⨾ (λ t r. refl) ⨾ (λ t r. refl) ⨾ (λ t r. refl) ⨾ (λ t r. refl) ⨾ (λ t r. refl)
    ⨾ (λ t r. refl) ⨾ (λ t r. refl) ⨾ (λ t r. refl) ⨾ (λ t r. refl) ⨾ (λ t r. refl) ⨾ (λ t r. refl) ⨾ tt

upper-rows : Rows request_forms (λ n t r x. fixed x.lower.policy ≡ fixed t.lower.policy) upper_kinds
unfolding upper_kinds delete_next user_gone open_next end_next claim_next release_next done_next
upper-rows =
    (λ t r g p. refl) ⨾ (λ t r g p. refl) ⨾ (λ t r g p. refl) ⨾ (λ t r g p. refl) ⨾ (λ t r g p. refl)
    ⨾ (λ t r g p. refl) ⨾ (λ t r g p. refl) ⨾ (λ t r g p. refl) ⨾ (λ t r g p. refl) ⨾ (λ t r g p. refl) ⨾ tt

rows : Rows request_forms (λ n t r x. fixed x.lower.policy ≡ fixed t.lower.policy) request_kinds
rows =
    engine-rows (λ n t r x. fixed x.lower.policy ≡ fixed t.lower.policy) upper-rows
    (every_map lower_kinds (λ k h t r g p. h t.lower r) lower-rows)

pub requests-change-no-rule : RequestsChangeNoRule
unfolding request
requests-change-no-rule t s =
    answer-rows request_forms (λ n t r x. fixed x.lower.policy ≡ fixed t.lower.policy) request_kinds engine-order rows
    t s (λ q x. fixed x.lower.policy ≡ fixed t.lower.policy) (λ x h. h) (λ q. refl)

-- ---- Claims.
pub first-rule-broken : FirstRuleBroken
first-rule-broken policy accepted ss s e h =
    rw (told-is-true policy accepted ss) (first-of-six (tables_next policy ss) s e (records_of policy) (kept-after policy accepted ss) h)

pub entries-in-use : EntriesInUse
entries-in-use policy accepted ss =
    let b = counted policy accepted ss in
    let c : is_in_use (said_after policy ss) ≡ used = in_use policy accepted ss in
    let l = (ledger-is-sound policy accepted ss).room in
    let e = ap (λ (x : Told). many x.orders.entries) (sym (told-is-true policy accepted ss)) in
    record {
      balance = omega arith;
      entries = c ∙ e;
      room = omega arith;
      full = λ s e h. let q = full-reply (tables_next policy ss) s e h in
          (λ w. at c l (leb 2048 used) refl (sym q ∙ w), λ w. q ∙ rw (le-leb 2048 used (omega arith)));
    }
  where
    used : ℕ
    used = many (tables_next policy ss).orders.entries

    at : is_in_use (said_after policy ss) ≡ used → used ≤ 2048 → (b : Bool) → leb 2048 used ≡ b → cond b FULL 0 ≡ FULL
        → is_in_use (said_after policy ss) ≡ 2048
    at c l true e w = let m = leb-true 2048 used e in omega arith
    at c l false e w = let z : ⊥ = omega arith in absurd z
