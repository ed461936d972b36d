-- After an accepted load no user's roles, with the roles below them, break a static set, and no subject is live.
use Prim.Native.Nat.{ℕ, ◌<◌, ◌≤◌}
use mathlib.Core.Path.{◌≡◌, refl, sym, ap, ◌∙◌}
use mathlib.Core.Bool.{Bool, true, false, not, ◌&&◌, true≢false, false≢true}
use mathlib.Core.List.{List, [], ◌∷◌}
use mathlib.Core.Logic.{⊎_elim}
use native.Mathlib.Omega.{arith}
use borrow.Author.Tests.{ltb-false, not-false}
use Rattle.paper_lower.specs.Sets.{Set, empty, has, plus, overlap}
use Rattle.paper_lower.specs.Lists.{upd, some_number_below, some, add}
use Rattle.paper_lower.specs.Records.{Bytes}
use Rattle.paper_lower.specs.Forms.{policy_forms, form_of, above, out_of_range}
use Rattle.paper_lower.specs.Tables.{Seniority, Limit, Policy, no_policy, no_sessions}
use Rattle.paper_lower.specs.Policy.{down, breaks, user_next, role_next, permission_next, assign_checks, assign_next, give_next, task_next, open_to_next, carries_next, static_checks, static_next, dynamic_next, task_set_next, block_next, ban_next, most_next, bind_next, before_next, raised, raise_checks, raise_next, wall_next, policy_kinds}
use Rattle.paper_lower.specs.Load.{load, records_of}
use Rattle.paper_lower.proofs.ListLaws.{or-none, not-both, upd_same, upd_other, none_below, every-added, ◌⨾◌}
use Rattle.sets.proofs.Bits.{same-or-other}
use Rattle.theorems.proofs.Rows.{Rows}
use Rattle.theorems.proofs.Loads.{load-keeps, load-accepted}
use Rattle.theorems.proofs.WellMade.{a-within}
use Rattle.theorems.proofs.Roles.{Within, not-broken, Limited, nothing-down, none-counted}

-- The roles of all users are within the static sets.
pub record Assigned (se : Seniority) (users : ℕ → Bool) (assigned : ℕ → Set) (statics : List Limit) : Type 0 where
  -- Who is not declared has no roles.
  pub bare : (u : ℕ) → users u ≡ false → assigned u ≡ empty
  pub small : (u : ℕ) → users u ≡ true → u < 1024
  pub hold : (u : ℕ) → Within statics (down se (assigned u))

module _ (se : Seniority) (users : ℕ → Bool) (assigned : ℕ → Set) (statics : List Limit) (i : Assigned se users assigned statics) where
  declares : (a : ℕ) → a < 1024 → Assigned se (upd users a true) (upd assigned a empty) statics
  declares a l = record {
    bare = λ u n. ⊎_elim (λ e. upd_same assigned a u empty e)
        (λ q. upd_other assigned a u empty q ∙ i.bare u (sym (upd_other users a u true q) ∙ n)) (same-or-other u a);
    small = λ u n. ⊎_elim (λ (e : u ≡ a). omega arith) (λ q. i.small u (sym (upd_other users a u true q) ∙ n)) (same-or-other u a);
    hold = λ u. ⊎_elim (λ e. rw (upd_same assigned a u empty e) (nothing-down statics se)) (λ q. rw (upd_other assigned a u empty q) (i.hold u))
        (same-or-other u a);
  }

  assigns : (a : ℕ) (m : Set) → users a ≡ true → some (breaks (down se m)) statics ≡ false → Assigned se users (upd assigned a m) statics
  assigns a m known c = record {
    bare = λ u n. ⊎_elim (λ (e : u ≡ a). absurd (true≢false (sym known ∙ ap users (sym e) ∙ n))) (λ q. upd_other assigned a u m q ∙ i.bare u n)
        (same-or-other u a);
    small = i.small;
    hold = λ u. ⊎_elim (λ e. rw (upd_same assigned a u m e) (not-broken statics _ c)) (λ q. rw (upd_other assigned a u m q) (i.hold u))
        (same-or-other u a);
  }

  limits : (l : Limit) → some_number_below 1024 (λ u. users u && breaks (down se (assigned u)) l) ≡ false → Assigned se users assigned (add statics l)
  unfolding breaks
  limits l c = record {
    bare = i.bare;
    small = i.small;
    hold = λ u. every-added (λ l. overlap l.members (down se (assigned u)) ≤ l.n) statics l (i.hold u) (go u (users u) refl);
  }
    where
      go : (u : ℕ) (b : Bool) → users u ≡ b → overlap l.members (down se (assigned u)) ≤ l.n
      go u true e = ltb-false l.n _ (not-both (users u) _ (none_below 1024 (λ u. users u && breaks (down se (assigned u)) l) c u (i.small u e)) e)
      go u false e = rw (i.bare u e) (nothing-down (l ∷ []) se).0

  raises : (z : Seniority) → some_number_below 1024 (λ u. users u && some (breaks (down z (assigned u))) statics) ≡ false → Assigned z users assigned statics
  raises z c = record { bare = i.bare; small = i.small; hold = λ u. go u (users u) refl }
    where
      go : (u : ℕ) (b : Bool) → users u ≡ b → Within statics (down z (assigned u))
      go u true e =
          not-broken statics _ (not-both (users u) _ (none_below 1024 (λ u. users u && some (breaks (down z (assigned u))) statics) c u (i.small u e)) e)
      go u false e = rw (i.bare u e) (nothing-down statics z)

-- The same for the tables of a policy.
abbrev pub InOrder : Policy → Type 0
InOrder p = Assigned p.seniority p.people.users p.people.assigned p.rules.statics

pub rows : Rows policy_forms (λ n p r x. InOrder p → InOrder x) policy_kinds
unfolding policy_kinds policy_forms form_of out_of_range above user_next role_next permission_next assign_checks assign_next give_next task_next open_to_next carries_next static_checks static_next dynamic_next task_set_next block_next ban_next most_next bind_next before_next raise_checks raise_next wall_next
rows =
    (λ p r g c i. declares _ _ _ _ i r.a (let l = a-within 1023 r.a false g in omega arith))
    ⨾ (λ p r g c i. i) ⨾ (λ p r g c i. i)
    ⨾ (λ p r g c i. assigns _ _ _ _ i r.a (plus (p.people.assigned r.a) r.b)
    (not-false _ (or-none (not (p.people.users r.a)) (not (has p.people.roles r.b)) c.0).0) c.1.1.0)
    ⨾ (λ p r g c i. i) ⨾ (λ p r g c i. i) ⨾ (λ p r g c i. i) ⨾ (λ p r g c i. i)
    ⨾ (λ p r g c i. limits _ _ _ _ i (record { n = r.n; members = r.m }) c.1.1.1.0)
    ⨾ (λ p r g c i. i) ⨾ (λ p r g c i. i) ⨾ (λ p r g c i. i) ⨾ (λ p r g c i. i) ⨾ (λ p r g c i. i) ⨾ (λ p r g c i. i) ⨾ (λ p r g c i. i)
    ⨾ (λ p r g c i. raises _ _ _ _ i (raised p.seniority r.a r.b) c.1.1.1.1.0)
    ⨾ (λ p r g c i. i)
    ⨾ tt

pub in-order-start : InOrder no_policy
unfolding no_policy
in-order-start = record { bare = λ u e. refl; small = λ u e. absurd (false≢true e); hold = λ u. tt }

pub loaded-limited : (policy : Bytes) → (load policy).reply ≡ 0 →
    Limited (load policy).tables.people (load policy).tables.seniority no_sessions (load policy).tables.rules
unfolding no_policy no_sessions
loaded-limited policy h =
    let x = load-accepted policy h in
    let y = load-keeps InOrder rows no_policy (records_of policy) x.0 in-order-start in
    record {
      statics = rw x.1 y.hold;
      dynamics = λ u. none-counted (load policy).tables.rules.dynamics (load policy).tables.seniority u;
      small = λ k l. absurd (false≢true l);
      known = λ k l. absurd (false≢true l);
      active = λ k l. absurd (false≢true l);
    }
