-- The theorems on stuck tasks and orders (02, Ask 13). A task with an entry is free: each task required before it is done, so it has an entry too and is free.
use Prim.Native.Nat.{ℕ, ◌<◌, ◌^◌}
use mathlib.Core.Path.{◌≡◌, refl, sym, ap, subst, ◌∙◌}
use mathlib.Core.Logic.{⊎_elim}
use mathlib.Core.Bool.{Bool, true, false, not, ◌&&◌, ◌||◌, or-true, true≢false, false≢true}
use mathlib.Core.List.{List, [], ◌∷◌, ◌++◌}
use native.Mathlib.Omega.{arith}
use borrow.Author.Tests.{eqb-true, eqb-false, eq-eqb, not-true, not-false}
use lib.Dec.{eqb}
use Rattle.paper_lower.specs.Sets.{Set, empty, has, plus}
use Rattle.paper_lower.specs.Lists.{holds, there, is, some, Every}
use Rattle.paper_lower.specs.Lists.Maybe.{none, just}
use Rattle.paper_lower.specs.Checks.{BEFORE}
use Rattle.paper_lower.specs.Records.{Bytes, Record, decode}
use Rattle.paper_lower.specs.Forms.{request_forms}
use Rattle.paper_lower.specs.Tables.{Pair, Rules}
use Rattle.paper_lower.specs.Policy.{tasks_of}
use Rattle.paper_lower.specs.Load.{load, records_of}
use Rattle.paper_lower.specs.Roles.{delete_next, user_gone}
use Rattle.paper_lower.specs.Kinds.{after}
use Rattle.paper_lower.specs.Sessions.{lower_kinds, lower_of}
use Rattle.paper_lower.proofs.ListLaws.{or-none, both, upd_other, every_map, every-both, every-kept, every-each, some-elim, some-none, none-some, place_none, none-place, ◌⨾◌}
use Rattle.paper_lower.proofs.CheckLaws.{Passed}
use Rattle.sets.proofs.Bits.{same-or-other}
use Rattle.sets.proofs.SetLaws.{Part, part-has, collect-below, collect-lt, has-empty, plus-member}
use Rattle.paper_upper.specs.Orders.{is_done, Engine, no_orders, are_in_order, tasks_done}
use Rattle.paper_upper.specs.Rules.{missing, before, gathered_checks, rule_checks}
use Rattle.paper_upper.specs.Stuck.{ready, Orderly, free_tasks}
use Rattle.paper_upper.specs.Requests.{unknown, open_checks, open_next, end_next, claim_checks, claim_next, release_next, done_next, turned, upper_kinds}
use Rattle.paper_upper.specs.Engine.{request_kinds, request, engine_of}
use Rattle.theorems.specs.Theorems.{tables_next, Fixed, fixed}
use Rattle.theorems.specs.Stuck.{on_list, NoneStuck, StuckAreNeverEntered, Passes, TheListPasses, BeforeRefusesNobody}
use Rattle.theorems.proofs.EntryLaws.{has-where, turned_same}
use Rattle.theorems.proofs.Replies.{engine-order}
use Rattle.theorems.proofs.FirstRule.{rules-say}
use Rattle.theorems.proofs.Rows.{Rows, run-keeps, engine-rows}
use Rattle.theorems.proofs.WellMade.{is-just}
use Rattle.theorems.proofs.Keeps.{Kept, kept-rows, kept-load}
use Rattle.theorems.proofs.Outside.{told-is-true}
use Rattle.theorems.proofs.Theorems.{lower-rows, requests-change-no-rule}
use Rattle.theorems.proofs.Stuck.{had-all, one-had, is-had, member, answered}

-- ---- A claim that BEFORE does not refuse is of a free task.
module _ (policy : List Record) (t : Engine) (kp : Kept policy t) (u : NoneStuck (fixed t.lower.policy) t.orders) (a b c : ℕ) (p : Passed (claim_checks t a b c)) (j : ℕ)
    (o : t.orders.opened b ≡ just j) where
  abbrev m : Set
  m = tasks_of t.lower.policy.tasks j

  abbrev rs : List Pair
  rs = t.lower.policy.rules.befores

  small : m < 2 ^ 64
  unfolding tasks_of
  small = collect-lt 64 _

  named : is j (t.lower.policy.tasks.template c) ≡ true
  unfolding claim_checks unknown holds
  named =
      let f : ℕ → Bool = λ i. is i (t.lower.policy.tasks.template c) in
      let h = not-false (holds f (t.orders.opened b)) (or-none (not (t.lower.sessions.live a)) _ p.0).1 in
      rw o at h

  in-template : has m c ≡ true
  unfolding tasks_of
  in-template = collect-below 64 _ c (kp.0.well.tasks c j (is-just j _ named)) ∙ named

  done-had : Part (tasks_done b t.orders.entries) (had-all m rs small)
  unfolding tasks_done are_in_order
  done-had = part-has _ _ (λ i h. some-elim _ (has (had-all m rs small) i ≡ true) t.orders.entries (sym (has-where _ t.orders.entries i) ∙ h)
      (every_map t.orders.entries (λ e v q.
      let x = both (eqb e.instance b && is_done e.standing) (eqb i e.task) q in
      let y = both (eqb e.instance b) (is_done e.standing) x.0 in
      ap (has (had-all m rs small)) (eqb-true i e.task x.1) ∙ member m rs small e.task ∙ v j (ap t.orders.opened (eqb-true _ _ y.0) ∙ o)) u))

  passes : Every (λ x. missing (tasks_done b t.orders.entries) c x ≡ false) rs
  unfolding claim_checks gathered_checks rule_checks before
  passes = place_none _ rs p.1.1.1.0

  claimed : on_list (fixed t.lower.policy) j c ≡ true
  unfolding ready
  claimed =
      sym (member m rs small c)
      ∙ is-had m rs small c in-template
      (ap not (none-some _ rs (every_map rs (one-had m rs small (tasks_done b t.orders.entries) (had-all m rs small) c done-had) passes)))

-- ---- Every kind of request keeps all entries on free tasks.
abbrev Unstuck : List Record → Engine → Type 0
Unstuck policy t = Kept policy t × NoneStuck (fixed t.lower.policy) t.orders

upper-rows : (policy : List Record) → Rows request_forms (λ n t r x. Unstuck policy t → NoneStuck (fixed x.lower.policy) x.orders) upper_kinds
unfolding upper_kinds delete_next user_gone open_checks open_next end_next claim_next release_next done_next are_in_order
upper-rows policy =
    (λ t r g p i. i.1)
    ⨾ (λ t r g p i. i.1)
    ⨾ (λ t r g p i. every-both t.orders.entries (λ e o v j h. ⊎_elim
    (λ (q : e.instance ≡ r.a). absurd (true≢false (sym o ∙ ap (λ (k : ℕ). there (t.orders.opened k)) q ∙ p.1.0)))
    (λ n. v j (sym (upd_other t.orders.opened r.a e.instance (just r.b) n) ∙ h)) (same-or-other e.instance r.a))
    i.0.1.ledger.open-orders i.1)
    ⨾ (λ t r g p i. every-kept _ _ _ t.orders.entries (λ e y v j h.
    v j (sym (upd_other t.orders.opened r.a e.instance none (eqb-false _ _ (not-true _ y))) ∙ h)) i.1)
    ⨾ (λ t r g p i. (λ j h. claimed policy t i.0 i.1 r.a r.b r.c p j h, i.1))
    ⨾ (λ t r g p i. every-kept _ _ _ t.orders.entries (λ e y v. v) i.1)
    ⨾ (λ t r g p i. every-each _ (turned r.b r.c r.a) t.orders.entries (every_map t.orders.entries (λ e v j h.
    ap (on_list (fixed t.lower.policy) j) (turned_same (λ e. e.task) r.b r.c r.a e refl)
    ∙ v j (sym (ap t.orders.opened (turned_same (λ e. e.instance) r.b r.c r.a e refl)) ∙ h)) i.1))
    ⨾ (λ t r g p i. i.1)
    ⨾ (λ t r g p i. i.1)
    ⨾ (λ t r g p i. i.1)
    ⨾ tt

rows : (policy : List Record) → Rows request_forms (λ n t r x. Unstuck policy t → Unstuck policy x) request_kinds
rows policy =
    every-both request_kinds (λ k f h t r g p i. (f t r g p i.0, h t r g p i)) (kept-rows policy)
    (engine-rows (λ n t r x. Unstuck policy t → NoneStuck (fixed x.lower.policy) x.orders) (upper-rows policy)
    (every_map lower_kinds (λ k h t r g p i. subst (λ (x : Fixed). NoneStuck x t.orders) (sym (h t.lower r)) i.1) lower-rows))

fixed-after : (t : Engine) (ss : List Bytes) → fixed (after request t ss).lower.policy ≡ fixed t.lower.policy
unfolding after
fixed-after t [] = refl
fixed-after t (s ∷ ss) = fixed-after (request t s).tables ss ∙ requests-change-no-rule t s

unstuck-after : (policy : Bytes) → (load policy).reply ≡ 0 → (ss : List Bytes) → Unstuck (records_of policy) (tables_next policy ss)
unfolding request engine_of no_orders
unstuck-after policy accepted ss =
    run-keeps request_forms request_kinds engine-order (Unstuck (records_of policy)) (rows (records_of policy)) (engine_of (load policy).tables) ss
    (kept-load policy accepted, tt)

pub stuck-are-never-entered : StuckAreNeverEntered
unfolding engine_of lower_of
stuck-are-never-entered policy accepted ss =
    rw (told-is-true policy accepted ss)
    (subst (λ (x : Fixed). NoneStuck x (tables_next policy ss).orders) (fixed-after (engine_of (load policy).tables) ss) (unstuck-after policy accepted ss).1)

-- ---- Claiming the tasks of the list in its order.
orderly-passes : (m : Set) (k : Rules) → m < 2 ^ 64 → (had : Set) (ts : List ℕ) → Orderly m k.befores had ts → Passes k had ts
unfolding ready before
orderly-passes m k l had [] o = tt
orderly-passes m k l had (t ∷ ts) o = (
  λ finished h. none-place (missing finished t) k.befores
      (every_map k.befores (one-had m k.befores l had finished t (part-has had finished h)) (some-none (missing had t) k.befores (not-true _ o.2))),
  orderly-passes m k l (plus had t) ts o.3,
)

pub the-list-passes : TheListPasses
the-list-passes m k l = orderly-passes m k l empty (free_tasks m k.befores) (answered m k.befores l).orderly

-- A task of a list, if the tasks before it on the list are done.
passes_at : (k : Rules) (had : Set) (front : List ℕ) (t : ℕ) (back : List ℕ) → Passes k had (front ++ (t ∷ back)) → (finished : Set)
    → ((x : ℕ) → has had x ≡ true → has finished x ≡ true) → ((x : ℕ) → some (eqb x) front ≡ true → has finished x ≡ true) → before k finished t ≡ 0
unfolding some
passes_at k had [] t back p finished h d = p.0 finished h
passes_at k had (s ∷ front) t back p finished h d =
    passes_at k (plus had s) front t back p.1 finished
    (λ x e. ⊎_elim (λ (q : x ≡ s). d x (ap (λ (b : Bool). b || some (eqb x) front) (eq-eqb x s q))) (λ q. h x q) (plus-member had s x e))
    (λ x e. d x (ap (λ (b : Bool). eqb x s || b) e ∙ or-true (eqb x s)))

-- The check that applies if a claim is refused with BEFORE.
refused-before : (t : Engine) (s : Bytes) → (decode s).kind ≡ 50 → (request t s).reply ≡ BEFORE
    → before t.lower.policy.rules (tasks_done (decode s).b t.orders.entries) (decode s).c ≡ 0 → ⊥
unfolding gathered_checks rule_checks
refused-before t s e q z =
    let says = rules-say t s e (λ l. let n : ⊥ = omega arith in absurd n) in
    false≢true (ap (λ (k : ℕ). not (eqb k 0)) (sym z) ∙ says.0.1 q)

pub before-refuses-nobody : BeforeRefusesNobody
unfolding engine_of lower_of
before-refuses-nobody policy accepted ss claim e n q =
    let t = tables_next policy ss in
    let f : fixed t.lower.policy ≡ fixed (load policy).tables = fixed-after (engine_of (load policy).tables) ss in
    let k : Rules = (load policy).tables.rules in
    let m : Set = tasks_of (load policy).tables.tasks n.template in
    let passes : Passes k empty (free_tasks m k.befores) = the-list-passes m k (unfold tasks_of in collect-lt 64 _) in
    let told : (x : ℕ) → some (eqb x) n.front ≡ true → has (tasks_done (decode claim).b t.orders.entries) x ≡ true =
    (rw (told-is-true policy accepted ss) at n.done) in
    refused-before t claim e q
    (ap (λ (x : Fixed). before x.rules (tasks_done (decode claim).b t.orders.entries) (decode claim).c) f
    ∙ passes_at k empty n.front (decode claim).c n.back (rw n.list at passes) (tasks_done (decode claim).b t.orders.entries)
    (λ x h. absurd (false≢true (sym (has-empty x) ∙ h))) told)
