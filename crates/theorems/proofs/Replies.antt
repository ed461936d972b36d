-- The theorems ChecksInOrder, RepliesAreListed and RefusedLoadsAreEmpty: the checks of every kind come in the
-- order of `rank`, so that the first that applies is the first of the table, and every reply is one of the table.
use Prim.Native.Nat.{ℕ, zero, suc, ◌+◌, ◌*◌, ◌≤◌, ◌/◌}
use mathlib.Core.Path.{◌≡◌, refl, sym, ap, ◌∙◌}
use mathlib.Core.Bool.{Bool, true, false, not, cond, ◌&&◌, ◌||◌, true≢false, false≢true, or-true}
use mathlib.Core.List.{List, [], ◌∷◌}
use native.Mathlib.Omega.{arith}
use borrow.Author.Tests.{eqb-true, eq-eqb, ne_eqb, leb-true, le-leb}
use lib.Dec.{eqb, leb}
use lib.ListN.{length, take, drop}
use Rattle.paper_lower.specs.Lists.{some, keep, each, Every}
use Rattle.paper_lower.specs.Lists.Maybe.{none, just}
use Rattle.paper_lower.specs.Checks.{Check, first, granted, SHAPE, RANGE, UNKNOWN, RULE, DENIED, FULL, LOOP, WALL}
use Rattle.paper_lower.specs.Records.{Bytes, Record, decode}
use Rattle.paper_lower.specs.Forms.{Form, policy_forms, lower_forms, upper_forms, request_forms, form_of, misshapen, form_checks}
use Rattle.paper_lower.specs.Kinds.{Kind, chosen, reply_to, answer}
use Rattle.paper_lower.specs.Tables.{Policy, no_policy}
use Rattle.paper_lower.specs.Policy.{user_checks, role_checks, permission_checks, assign_checks, give_checks, task_checks, open_to_checks, carries_checks, static_checks, dynamic_checks, task_set_checks, block_checks, ban_checks, most_checks, bind_checks, before_checks, raise_checks, wall_checks, policy_kinds}
use Rattle.paper_lower.specs.Load.{Loaded, accepted, refused, policy_answer, load_on, load}
use Rattle.paper_lower.specs.Roles.{join_checks, delete_checks, take_back_checks, withdraw_checks, role_kinds}
use Rattle.paper_lower.specs.Sessions.{create_checks, destroy_checks, activate_checks, deactivate_checks, check_checks, session_kinds, lower_kinds, lower_request}
use Rattle.paper_lower.proofs.ListLaws.{both, every_map, every_append, every-each, every-kept, ◌⨾◌}
use Rattle.paper_lower.proofs.CheckLaws.{none-applies}
use Rattle.paper_lower.proofs.KindLaws.{AllNumbered, of-chosen}
use Rattle.paper_upper.specs.Rules.{gathered_checks, rule_checks}
use Rattle.paper_upper.specs.Requests.{delete_above, destroy_above, open_checks, end_checks, claim_checks, hold_checks, task_check_checks, figures_checks, stuck_checks, upper_kinds}
use Rattle.paper_upper.specs.Orders.{Engine}
use Rattle.paper_upper.specs.Engine.{widened, shared_kinds, request_kinds, request}
use Rattle.theorems.specs.Replies.{rank, in_table, rising, InOrder, FirstRefusal, checks_of, ChecksInOrder, Listed, RepliesAreListed, RefusedLoadsAreEmpty}

-- ---- A property of the upper part's kinds, and of the lower part's kinds as kinds of the engine, is one of all request kinds.
pub of-both : (P : Kind Engine → Type 0) → Every P upper_kinds → Every (λ k. P (widened k)) lower_kinds → Every P request_kinds
unfolding request_kinds shared_kinds
of-both P upper lower =
    every_append P upper_kinds (each widened shared_kinds) upper
    (every-each P widened shared_kinds (every-kept (λ k. P (widened k)) (λ k. P (widened k)) _ lower_kinds (λ k e h. h) lower))

-- ---- The checks of each kind are in order, by computing.
pub policy-order : InOrder policy_kinds
unfolding rising rank in_table policy_kinds user_checks role_checks permission_checks assign_checks give_checks task_checks open_to_checks carries_checks static_checks dynamic_checks task_set_checks block_checks ban_checks most_checks bind_checks before_checks raise_checks wall_checks
policy-order =
    (λ t r. refl) ⨾ (λ t r. refl) ⨾ (λ t r. refl) ⨾ (λ t r. refl) ⨾ (λ t r. refl) ⨾ (λ t r. refl) ⨾ (λ t r. refl) ⨾ (λ t r. refl)
    ⨾ (λ t r. refl) ⨾ (λ t r. refl) ⨾ (λ t r. refl) ⨾ (λ t r. refl) ⨾ (λ t r. refl) ⨾ (λ t r. refl) ⨾ (λ t r. refl) ⨾ (λ t r. refl) ⨾ (λ t r. refl) ⨾
    (λ t r. refl) ⨾ tt

pub lower-order : InOrder lower_kinds
unfolding rising rank in_table lower_kinds role_kinds session_kinds join_checks assign_checks give_checks delete_checks take_back_checks withdraw_checks create_checks destroy_checks activate_checks deactivate_checks check_checks
lower-order =
    (λ t r. refl) ⨾ (λ t r. refl) ⨾ (λ t r. refl) ⨾ (λ t r. refl) ⨾ (λ t r. refl) ⨾ (λ t r. refl)
    ⨾ (λ t r. refl) ⨾ (λ t r. refl) ⨾ (λ t r. refl) ⨾ (λ t r. refl) ⨾ (λ t r. refl) ⨾ (λ t r. refl) ⨾ tt

upper-order : InOrder upper_kinds
unfolding rising rank in_table upper_kinds delete_checks delete_above destroy_checks destroy_above open_checks end_checks claim_checks gathered_checks rule_checks hold_checks task_check_checks figures_checks stuck_checks
upper-order =
    (λ t r. refl) ⨾ (λ t r. refl) ⨾ (λ t r. refl) ⨾ (λ t r. refl) ⨾ (λ t r. refl) ⨾ (λ t r. refl) ⨾ (λ t r. refl) ⨾ (λ t r. refl) ⨾ (λ t r. refl) ⨾
    (λ t r. refl) ⨾ tt

pub engine-order : InOrder request_kinds
unfolding request_kinds widened
engine-order =
    of-both (λ k. (t : Engine) (r : Record) → rising UNKNOWN (k.checks t r) ≡ true) upper-order (every_map lower_kinds (λ k h t r. h t.lower r) lower-order)

-- ---- The rank of a reply.
not-granted : (k : ℕ) → 1 ≤ rank k → k ≡ 0 → ⊥
unfolding rank
not-granted k l e = let q = ap rank e in omega arith

-- A number whose rank is at least that of SHAPE is at least SHAPE.
from-shape : (k : ℕ) → rank SHAPE ≤ rank k → SHAPE ≤ k
unfolding rank
from-shape k l = go (eqb k LOOP) refl (eqb k WALL) refl l
  where
    go : (b : Bool) → eqb k LOOP ≡ b → (d : Bool) → eqb k WALL ≡ d → rank SHAPE ≤ cond b (2 * RULE + 1) (cond d (2 * DENIED + 1) (2 * k)) → SHAPE ≤ k
    go true e d f l = let q = eqb-true k LOOP e in omega arith
    go false e true f l = let q = eqb-true k WALL f in omega arith
    go false e false f l = omega arith

unknown-behind : (rank SHAPE ≤ rank UNKNOWN) × (rank RANGE ≤ rank UNKNOWN) × (1 ≤ rank SHAPE)
unfolding rank
unknown-behind = (omega arith, omega arith, omega arith)

-- Every number of the table is at most 24 and fits a byte.
pub in-byte : (k : ℕ) → in_table k ≡ true → k ≤ WALL
unfolding in_table
in-byte k h = go (leb k FULL) refl (eqb k LOOP) refl h
  where
    go : (b : Bool) → leb k FULL ≡ b → (d : Bool) → eqb k LOOP ≡ d → b || d || eqb k WALL ≡ true → k ≤ WALL
    go true e d f h = let l = leb-true k FULL e in omega arith
    go false e true f h = let q = eqb-true k LOOP f in omega arith
    go false e false f h = let q = eqb-true k WALL h in omega arith

-- ---- What follows if the checks are in order.
Within : ℕ → Check → Type 0
Within k x = (rank k ≤ rank x.1) × (in_table x.1 ≡ true)

all-within : (j k : ℕ) (xs : List Check) → rank j ≤ rank k → rising k xs ≡ true → Every (Within j) xs
unfolding rising Within
all-within j k [] l h = tt
all-within j k (x ∷ xs) l h =
    let a = both (leb (rank k) (rank x.1) && in_table x.1) _ h in
    let b = both (leb (rank k) (rank x.1)) _ a.0 in
    let m = leb-true (rank k) (rank x.1) b.0 in
    ((omega arith, b.1), all-within j x.1 xs (omega arith) a.1)

pub numbered : {A : Type 0} (ks : List (Kind A)) → InOrder ks → AllNumbered ks
unfolding Within
numbered ks order =
    every_map ks (λ k h t r.
    every_map (k.checks t r)
    (λ x w. let u = unknown-behind in let l = u.0 in let m = u.2 in let q = w.0 in rw (ne_eqb x.1 0 (not-granted x.1 (omega arith))) tt)
    (all-within UNKNOWN UNKNOWN (k.checks t r) (omega arith) (h t r))) order

-- Every check of a record gives a number of the table.
all_listed : {A : Type 0} (fs : List Form) (ks : List (Kind A)) → InOrder ks → (t : A) (s : Bytes) → Every (Within SHAPE) (checks_of fs ks t s)
unfolding chosen form_checks Within rank in_table
all_listed fs ks order t s =
    let w = of-chosen (λ n k. (t : _) (r : Record) → Every (Within SHAPE) (k.checks t r)) ks
    (every_map ks (λ k h t r. all-within SHAPE UNKNOWN (k.checks t r) unknown-behind.0 (h t r)) order)
    (λ n t r. ((omega arith, refl), tt)) (decode s).kind t (decode s) in
    ((omega arith, refl), ((omega arith, refl), w))

-- ---- The first check that applies has the lowest rank of those that apply.
lowest : (k : ℕ) (xs : List Check) → 1 ≤ rank k → rising k xs ≡ true → Every (λ x. x.0 ≡ true → (first xs ≡ 0 → ⊥) × (rank (first xs) ≤ rank x.1)) xs
unfolding rising Within
lowest k [] l h = tt
lowest k (x ∷ xs) l h =
    let a = both (leb (rank k) (rank x.1) && in_table x.1) _ h in
    let b = both (leb (rank k) (rank x.1)) _ a.0 in
    let m = leb-true (rank k) (rank x.1) b.0 in
    go x.0 (omega arith) (lowest x.1 xs (omega arith) a.1) (all-within x.1 x.1 xs (omega arith) a.1)
  where
    go : (b : Bool) → 1 ≤ rank x.1 → Every (λ y. y.0 ≡ true → (first xs ≡ 0 → ⊥) × (rank (first xs) ≤ rank y.1)) xs → Every (Within x.1) xs
        → (b ≡ true → (cond b x.1 (first xs) ≡ 0 → ⊥) × (rank (cond b x.1 (first xs)) ≤ rank x.1))
        × Every (λ y. y.0 ≡ true → (cond b x.1 (first xs) ≡ 0 → ⊥) × (rank (cond b x.1 (first xs)) ≤ rank y.1)) xs
    go true p rest above = (λ _. (not-granted x.1 p, omega arith), every_map xs (λ y q _. (not-granted x.1 p, q.0)) above)
    go false p rest above = (λ e. absurd (false≢true e), rest)

from-range : (xs : List Check) → rising UNKNOWN xs ≡ true → rising RANGE xs ≡ true
unfolding rising
from-range [] h = refl
from-range (x ∷ xs) h =
    let a = both (leb (rank UNKNOWN) (rank x.1) && in_table x.1) _ h in
    let b = both (leb (rank UNKNOWN) (rank x.1)) _ a.0 in
    let m = leb-true (rank UNKNOWN) (rank x.1) b.0 in
    let u = unknown-behind.1 in
    rw (le-leb (rank RANGE) (rank x.1) (omega arith), b.1) a.1

given : (xs : List Check) → (first xs ≡ 0 → ⊥) → some (λ x. x.0 && eqb x.1 (first xs)) xs ≡ true
unfolding some
given [] n = absurd (n refl)
given (x ∷ xs) n = go x.0 refl (given xs)
  where
    go : (b : Bool) → x.0 ≡ b → ((first xs ≡ 0 → ⊥) → some (λ x. x.0 && eqb x.1 (first xs)) xs ≡ true)
        → b && eqb x.1 (cond b x.1 (first xs)) || some (λ y. y.0 && eqb y.1 (cond b x.1 (first xs))) xs ≡ true
    go true e rest = rw (eq-eqb x.1 x.1 refl)
    go false e rest = rest (λ z. n (rw e z))

-- ---- Kinds that the call takes; any other kind has no form and gets SHAPE.
abbrev takes : {A : Type 0} → List (Kind A) → ℕ → Bool
takes ks n = some (λ k. eqb k.kind n) ks

taken : {A : Type 0} (P : Kind A → Type 0) (ks : List (Kind A)) (n : ℕ) → Every P ks → takes ks n ≡ true → P (chosen ks n)
unfolding some chosen
taken P [] n h e = absurd (false≢true e)
taken P (k ∷ ks) n h e = go (eqb k.kind n) e (taken P ks n h.1)
  where
    go : (b : Bool) → b || takes ks n ≡ true → (takes ks n ≡ true → P (chosen ks n)) → P (cond b k (chosen ks n))
    go true e rest = h.0
    go false e rest = rest e

no-form : {A : Type 0} (ks : List (Kind A)) (fs : List Form) (n : ℕ) → Every (λ f. takes ks f.kind ≡ true) fs → takes ks n ≡ false → form_of fs n ≡ none
unfolding form_of
no-form ks [] n h e = refl
no-form ks (f ∷ fs) n h e = go (eqb f.kind n) refl (no-form ks fs n h.1 e)
  where
    go : (b : Bool) → eqb f.kind n ≡ b → form_of fs n ≡ none → cond b (just f) (form_of fs n) ≡ none
    go true q rest = absurd (true≢false (sym h.0 ∙ ap (takes ks) (eqb-true _ _ q) ∙ e))
    go false q rest = rest

module _ {A : Type 0} (fs : List Form) (ks : List (Kind A)) (order : InOrder ks) (forms : Every (λ f. takes ks f.kind ≡ true) fs) (t : A) (s : Bytes) where
  rises : takes ks (decode s).kind ≡ true → rising SHAPE (checks_of fs ks t s) ≡ true
  unfolding form_checks rising rank in_table
  rises e =
      from-range ((chosen ks (decode s).kind).checks t (decode s))
      (taken (λ k. (t : A) (r : Record) → rising UNKNOWN (k.checks t r) ≡ true) ks (decode s).kind order e t (decode s))

  misshapes : takes ks (decode s).kind ≡ false → first (checks_of fs ks t s) ≡ SHAPE
  unfolding form_checks misshapen
  misshapes e = rw (no-form ks fs (decode s).kind forms e, or-true (not (eqb (length s) 16)))

  lowest-of : (b : Bool) → takes ks (decode s).kind ≡ b
      → Every (λ x. x.0 ≡ true → (first (checks_of fs ks t s) ≡ 0 → ⊥) × (rank (first (checks_of fs ks t s)) ≤ rank x.1)) (checks_of fs ks t s)
  unfolding Within
  lowest-of true e = lowest SHAPE (checks_of fs ks t s) unknown-behind.2 (rises e)
  lowest-of false e =
      let m = misshapes e in
      every_map (checks_of fs ks t s) (λ x w _. (λ z. omega arith, rw m w.0)) (all_listed fs ks order t s)

  first-refusal : FirstRefusal (checks_of fs ks t s) (answer fs ks t s).reply
  unfolding answer reply_to
  first-refusal = record {
    grants = none-applies (checks_of fs ks t s);
    refuses = lowest-of (takes ks (decode s).kind) refl;
    given = given (checks_of fs ks t s);
  }

policy-forms : Every (λ f. takes policy_kinds f.kind ≡ true) policy_forms
unfolding some policy_forms policy_kinds
policy-forms = refl ⨾ refl ⨾ refl ⨾ refl ⨾ refl ⨾ refl ⨾ refl ⨾ refl ⨾ refl ⨾ refl ⨾ refl ⨾ refl ⨾ refl ⨾ refl ⨾ refl ⨾ refl ⨾ refl ⨾ refl ⨾ tt

lower-forms : Every (λ f. takes lower_kinds f.kind ≡ true) lower_forms
unfolding some lower_forms lower_kinds role_kinds session_kinds
lower-forms = refl ⨾ refl ⨾ refl ⨾ refl ⨾ refl ⨾ refl ⨾ refl ⨾ refl ⨾ refl ⨾ refl ⨾ refl ⨾ refl ⨾ tt

request-forms : Every (λ f. takes request_kinds f.kind ≡ true) request_forms
unfolding some request_forms lower_forms upper_forms request_kinds upper_kinds shared_kinds lower_kinds role_kinds session_kinds keep each widened
request-forms = refl ⨾ refl ⨾ refl ⨾ refl ⨾ refl ⨾ refl ⨾ refl ⨾ refl ⨾ refl ⨾ refl ⨾ refl ⨾ refl ⨾ refl ⨾ refl ⨾ refl ⨾ refl ⨾ refl ⨾ refl ⨾ refl ⨾ refl ⨾ tt

pub checks-in-order : ChecksInOrder
checks-in-order = record {
  policy = (policy-order, first-refusal policy_forms policy_kinds policy-order policy-forms);
  lower = (lower-order, first-refusal lower_forms lower_kinds lower-order lower-forms);
  engine = (engine-order, first-refusal request_forms request_kinds engine-order request-forms);
}

-- ---- Every reply is one of the table.
first-listed : (xs : List Check) → Every (Within SHAPE) xs → Listed (first xs)
unfolding Within in_table
first-listed [] h = (refl, λ n. absurd (n refl))
first-listed (x ∷ xs) h = go x.0 (first-listed xs h.1)
  where
    go : (b : Bool) → Listed (first xs) → Listed (cond b x.1 (first xs))
    go true rest = (h.0.1, λ n. from-shape x.1 h.0.0)
    go false rest = rest

answer-listed : {A : Type 0} (fs : List Form) (ks : List (Kind A)) → InOrder ks → (t : A) (s : Bytes) → Listed (answer fs ks t s).reply
unfolding answer reply_to
answer-listed fs ks order t s = first-listed (checks_of fs ks t s) (all_listed fs ks order t s)

-- ---- The load: its reply is one of the table, and a refused one leaves the empty policy.
record Outcome (x : Loaded) : Type 0 where
  reply : Listed x.reply
  empty : (x.reply ≡ 0 → ⊥) → x.tables ≡ no_policy

outcome : (n place : ℕ) (s : Bytes) (p : Policy) → Outcome (load_on n place s p)
unfolding load_on policy_answer in_table
outcome zero place s p = go (eqb (length s) 0)
  where
    go : (b : Bool) → Outcome (cond b (accepted p) (refused SHAPE place))
    go true = record { reply = (refl, λ n. absurd (n refl)); empty = λ n. absurd (n refl) }
    go false = record { reply = (refl, λ n. omega arith); empty = λ n. refl }
outcome (suc n) place s p =
    go (policy_answer p (take 16 s)).reply (answer-listed policy_forms policy_kinds policy-order p (take 16 s)) (outcome n (suc place) (drop 16 s) _)
  where
    go : (q : ℕ) → Listed q → {x : Loaded} → Outcome x → Outcome (granted q x (refused q place))
    go zero l o = o
    go (suc q) l o = record { reply = l; empty = λ n. refl }

pub replies-are-listed : RepliesAreListed
unfolding request lower_request load
replies-are-listed = record {
  requests = answer-listed request_forms request_kinds engine-order;
  lower_requests = answer-listed lower_forms lower_kinds lower-order;
  loads = λ s. (outcome (length s / 16) 1 s no_policy).reply;
}

pub refused-loads-are-empty : RefusedLoadsAreEmpty
unfolding load
refused-loads-are-empty s n = (outcome (length s / 16) 1 s no_policy).empty n
