-- What the empty engine answers: it grants kind 32, a new user, when the record names no roles. To every other request its reply is UNKNOWN.
use Rattle.std.specs.Prelude.{Err}
use Rattle.replies.specs.Replies.{Outcome, outcome_number, outcome_place, placeless}
use Prim.Native.Nat.{ℕ, zero, suc}
use mathlib.Core.Bool.{Bool, true, false, not, cond, ◌||◌, false≢true}
use mathlib.Core.List.{List, [], ◌∷◌}
use mathlib.Core.Path.{◌≡◌, refl, sym, ap, subst, ◌∙◌}
use native.Mathlib.Omega.{arith}
use borrow.Author.Tests.{eq-eqb, eqb-true, ne_eqb, not-false}
use lib.Bits.{and_zero_r}
use lib.Dec.{eqb, T}
use Rattle.paper_lower.specs.Sets.{empty, cut, within, collect}
use Rattle.paper_lower.specs.Lists.{holds, there, some, keep, each, Every}
use Rattle.paper_lower.specs.Lists.Maybe.{just}
use Rattle.paper_lower.specs.Checks.{first, UNKNOWN}
use Rattle.paper_lower.specs.Records.{Record}
use Rattle.paper_lower.specs.Forms.{Form, form_of, lower_forms, upper_forms, request_forms}
use Rattle.paper_lower.specs.Kinds.{Kind, chosen}
use Rattle.paper_lower.proofs.ListLaws.{◌⨾◌, or-none}
use Rattle.sets.proofs.SetLaws.{has-empty}
use Rattle.paper_lower.specs.Tables.{no_policy, no_sessions}
use Rattle.paper_lower.specs.Policy.{tasks_of, has_task, assign_checks, give_checks}
use Rattle.paper_lower.specs.Roles.{join_checks, delete_checks, take_back_checks, withdraw_checks, role_kinds}
use Rattle.paper_lower.specs.Sessions.{create_checks, destroy_checks, activate_checks, deactivate_checks, check_checks, session_kinds, lower_kinds, lower_of}
use Rattle.paper_upper.specs.Orders.{Engine, no_orders}
use Rattle.paper_upper.specs.Requests.{delete_above, destroy_above, open_checks, end_checks, unknown, claim_checks, hold_checks, task_check_checks, figures_checks, stuck_checks, upper_kinds}
use Rattle.paper_upper.specs.Engine.{widened, shared_kinds, request_kinds, engine_of}
use Rattle.policy.specs.Reading.{policy_of}
use Rattle.sessions.specs.Reading.{sessions_of}
use Rattle.order_entries.specs.Reading.{orders_of}
use Rattle.order_requests.specs.Tables.{engine_tables}
use Rattle.order_links.specs.Chains.{sound_of}
use Rattle.records.specs.Reading.{paper_of}
use Rattle.records.specs.declared.Record.{Record as Decoded}
use Rattle.replies.specs.declared.Refusal.TheVariants.{Unknown}
use Rattle.engine.specs.Buffers.{Buffers, product_of, no_engine, tables_of}
use Rattle.engine.specs.Step.{StepOf, SoundStep, SettlingStep}
use Rattle.engine.proofs.Lifts.{alike}
use Rattle.engine.proofs.PlaceLaws.{no_place}
use Rattle.engine.proofs.Ways.{tables-sound, tables-broken}

-- ---- Every kind but 32 gets UNKNOWN.
abbrev Lone : Kind Engine → Type 0
Lone k = (r : Record) → (k.kind ≡ 32 → ⊥) → first (k.checks no_engine r) ≡ UNKNOWN

none-collected : (n : ℕ) (f : ℕ → Bool) → ((x : ℕ) → f x ≡ false) → collect n f ≡ empty
unfolding collect
none-collected zero f h = refl
none-collected (suc n) f h = rw (h n) (none-collected n f h)

no-task : (b : ℕ) → has_task no_policy.tasks b ≡ false
unfolding has_task tasks_of no_policy holds
no-task b = ap (λ (m : ℕ). not (eqb m empty)) (none-collected 64 _ (λ x. refl))

lone-open : (a b : ℕ) → first (open_checks no_engine a b) ≡ UNKNOWN
unfolding open_checks engine_of lower_of
lone-open a b = rw (no-task b)

lone-stuck : (a : ℕ) → first (stuck_checks no_policy.tasks a) ≡ UNKNOWN
unfolding stuck_checks
lone-stuck a = rw (no-task a)

all-lone : Every Lone request_kinds
unfolding request_kinds upper_kinds shared_kinds widened lower_kinds role_kinds session_kinds keep each engine_of lower_of no_policy no_sessions no_orders delete_checks destroy_checks delete_above destroy_above end_checks unknown claim_checks hold_checks task_check_checks figures_checks assign_checks take_back_checks give_checks withdraw_checks create_checks activate_checks deactivate_checks check_checks holds
all-lone =
    (λ r h. refl) ⨾ (λ r h. refl) ⨾ (λ r h. lone-open r.a r.b) ⨾ (λ r h. refl) ⨾ (λ r h. refl) ⨾ (λ r h. refl) ⨾ (λ r h. refl) ⨾ (λ r h. refl) ⨾
    (λ r h. refl) ⨾ (λ r h. lone-stuck r.a)
    ⨾ (λ r h. absurd (h refl)) ⨾ (λ r h. refl) ⨾ (λ r h. refl) ⨾ (λ r h. rw (has-empty r.a)) ⨾ (λ r h. rw (has-empty r.a)) ⨾ (λ r h. refl) ⨾ (λ r h. refl)
    ⨾ (λ r h. refl) ⨾ (λ r h. refl) ⨾ (λ r h. refl) ⨾ tt

-- A property of every row in the table of kinds holds for the row chosen for n, if some row has the number n. Here it is `Lone`: the reply UNKNOWN.
has-row : (ks : List (Kind Engine)) (n : ℕ) → some (λ k. eqb k.kind n) ks ≡ true → Every Lone ks → (r : Record) → (n ≡ 32 → ⊥) →
    first ((chosen ks n).checks no_engine r) ≡ UNKNOWN
unfolding chosen some
has-row [] n h e r d = absurd (false≢true h)
has-row (k ∷ ks) n h e r d = go (eqb k.kind n) refl h (λ z. has-row ks n z e.1 r d)
  where
    go : (b : Bool) → eqb k.kind n ≡ b → (b || some (λ k. eqb k.kind n) ks) ≡ true →
        (some (λ k. eqb k.kind n) ks ≡ true → first ((chosen ks n).checks no_engine r) ≡ UNKNOWN)
        → first ((cond b k (chosen ks n)).checks no_engine r) ≡ UNKNOWN
    go true q z rest = e.0 r (λ y. d (sym (eqb-true k.kind n q) ∙ y))
    go false q z rest = rest z

-- A test that every form's kind passes is passed by each number that has a form.
known-row : (p : ℕ → Bool) (fs : List Form) → Every (λ f. p f.kind ≡ true) fs → (n : ℕ) → T (there (form_of fs n)) → p n ≡ true
unfolding form_of holds
known-row p [] h n t = absurd t
known-row p (f ∷ fs) h n t = go (eqb f.kind n) refl t (known-row p fs h.1 n)
  where
    go : (b : Bool) → eqb f.kind n ≡ b → T (there (cond b (just f) (form_of fs n))) → (T (there (form_of fs n)) → p n ≡ true) → p n ≡ true
    go true q z rest = ap p (sym (eqb-true f.kind n q)) ∙ h.0
    go false q z rest = rest z

-- Every kind that has a form has a row in the table of kinds.
all-rows : Every (λ f. some (λ k. eqb k.kind f.kind) request_kinds ≡ true) request_forms
unfolding request_forms lower_forms upper_forms request_kinds upper_kinds shared_kinds widened lower_kinds role_kinds session_kinds keep each some
all-rows = refl ⨾ refl ⨾ refl ⨾ refl ⨾ refl ⨾ refl ⨾ refl ⨾ refl ⨾ refl ⨾ refl ⨾ refl ⨾ refl ⨾ refl ⨾ refl ⨾ refl ⨾ refl ⨾ refl ⨾ refl ⨾ refl ⨾ refl ⨾ tt

-- ---- Kind 32 is granted without roles, and gets UNKNOWN with roles.
no-roles : (r : Record) → (r.m ≡ 0 → ⊥) → first ((chosen request_kinds 32).checks no_engine r) ≡ UNKNOWN
unfolding chosen request_kinds upper_kinds shared_kinds widened lower_kinds role_kinds session_kinds keep each engine_of lower_of no_policy join_checks within cut
no-roles r h = rw (and_zero_r r.m, ne_eqb 0 r.m (λ e. h (sym e)))

pub joins : (r : Record) → r.m ≡ 0 → first ((chosen request_kinds 32).checks no_engine r) ≡ 0
unfolding chosen request_kinds upper_kinds shared_kinds widened lower_kinds role_kinds session_kinds keep each engine_of lower_of no_policy join_checks within cut some
joins r h = rw h

pub all-unknown : (r : Record) → T (there (form_of request_forms r.kind)) → ((r.kind ≡ 32) → r.m ≡ 0 → ⊥) →
    first ((chosen request_kinds r.kind).checks no_engine r) ≡ UNKNOWN
all-unknown r t h = go (eqb r.kind 32) refl
  where
    go : (b : Bool) → eqb r.kind 32 ≡ b → first ((chosen request_kinds r.kind).checks no_engine r) ≡ UNKNOWN
    go true q = let e = eqb-true r.kind 32 q in subst (λ (n : ℕ). first ((chosen request_kinds n).checks no_engine r) ≡ UNKNOWN) (sym e) (no-roles r (h e))
    go false q =
        has-row request_kinds r.kind (known-row (λ n. some (λ k. eqb k.kind n) request_kinds) request_forms all-rows r.kind t) all-lone r
        (λ e. false≢true (sym q ∙ ap (λ (n : ℕ). eqb n 32) e))

-- ---- A step on links that are not sound, which read as the empty engine.
pub unknown-step : (r : Decoded) (x : Buffers) → sound_of x.orders ≡ false
    → first ((chosen request_kinds r.kind).checks no_engine (paper_of r)) ≡ UNKNOWN → SettlingStep no_engine r x x (Err (placeless Unknown))
unknown-step r x broken e = (
  record { replies = sym e; places = no_place no_engine (paper_of r) e; tables = rw e (alike (tables-broken x broken)); kept = λ _. refl },
  λ z. let n : ⊥ = omega arith in absurd n,
)

pub joined_step : (r : Decoded) (x z x' : Buffers) {j : Outcome} → product_of z ≡ no_engine → sound_of x'.orders ≡ true
    → first ((chosen request_kinds r.kind).checks no_engine (paper_of r)) ≡ 0 → StepOf (product_of z) (product_of x') r z x' j → SettlingStep no_engine r x x' j
joined_step r x z x' {j} e s zero-reply d₀ =
    let d : StepOf no_engine (product_of x') r z x' j = subst (λ (t : Engine). StepOf t (product_of x') r z x' j) e d₀ in
    (record { replies = d.replies; places = d.places; tables = rw (tables-sound x' s) d.tables; kept = λ h. absurd (h (d.replies ∙ zero-reply)) }, λ _. s)

-- ---- A step on any content.
pub broken-step : (r : Decoded) (x x' : Buffers) {j : Outcome} → sound_of x.orders ≡ false → SettlingStep no_engine r x x' j →
    SettlingStep (tables_of x) r x x' j
broken-step r x x' {j} b d = subst (λ (t : Engine). SettlingStep t r x x' j) (sym (tables-broken x b)) d

pub sound-step : (r : Decoded) (x x' : Buffers) {j : Outcome} → sound_of x.orders ≡ true → SoundStep r x x' j → StepOf (tables_of x) (tables_of x') r x x' j
sound-step r x x' {j} b d =
    subst (λ (t : Engine). StepOf t (tables_of x') r x x' j) (sym (tables-sound x b))
    (subst (λ (u : Engine). StepOf (product_of x) u r x x' j) (sym (tables-sound x' d.1)) d.0)

-- The code's test of kind and roles: if it is true, the record is not kind 32 without roles; if it is false, it is.
pub other-kind : (k m : ℕ) → (not (eqb k 32) || not (eqb m 0)) ≡ true → k ≡ 32 → m ≡ 0 → ⊥
other-kind k m h a b = false≢true ((λ i. not (sym (eq-eqb k 32 a) i) || not (sym (eq-eqb m 0 b) i)) ∙ h)

pub that-kind : (k m : ℕ) → (not (eqb k 32) || not (eqb m 0)) ≡ false → (k ≡ 32) × (m ≡ 0)
that-kind k m h =
    let e = or-none (not (eqb k 32)) (not (eqb m 0)) h in
    (eqb-true k 32 (not-false (eqb k 32) e.0), eqb-true m 0 (not-false (eqb m 0) e.1))

pub emptied : (p s o : List ℕ) → policy_of p ≡ no_policy → sessions_of s ≡ no_sessions → orders_of o ≡ no_orders → engine_tables p s o ≡ no_engine
unfolding engine_of lower_of
emptied p s o a b c = λ i. record { lower = record { policy = a i; sessions = b i }; orders = c i }

pub that-step : (r : Decoded) → r.kind ≡ 32 → r.m ≡ 0 → first ((chosen request_kinds r.kind).checks no_engine (paper_of r)) ≡ 0
that-step r k m = subst (λ (n : ℕ). first ((chosen request_kinds n).checks no_engine (paper_of r)) ≡ 0) (sym k) (joins (paper_of r) m)
