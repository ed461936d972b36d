-- The theorem EveryReply: for every kind of request, each reply is given exactly when the table of specs/Exactly.antt says so.
use Prim.Native.Nat.{ℕ, ◌^◌, ◌<◌}
use mathlib.Core.Path.{◌≡◌, refl, sym, ap, subst}
use mathlib.Core.Bool.{Bool, true, false, not, cond, ◌||◌, true≢false, false≢true}
use mathlib.Core.Logic.{◌↔◌}
use mathlib.Core.List.{List, [], ◌∷◌}
use native.Mathlib.Omega.{arith}
use borrow.Author.Tests.{eqb-true, eq-eqb, ne_eqb, ltb-false, le-ltb, leb-false, lt-leb, not-false}
use lib.Dec.{eqb}
use lib.ListN.{length}
use Rattle.paper_lower.specs.Lists.{Maybe, keep, each, Every}
use Rattle.paper_lower.specs.Lists.Maybe.{none, just}
use Rattle.paper_lower.specs.Checks.{first, SHAPE, RANGE}
use Rattle.paper_lower.specs.Records.{Bytes, Record, decode}
use Rattle.paper_lower.specs.Forms.{Field, Form, lower_forms, upper_forms, request_forms, form_of, misplaced, above, misshapen, out_of_range, form_checks}
use Rattle.paper_lower.specs.Forms.Field.{·, to, any, pair}
use Rattle.paper_lower.specs.Kinds.{Kind, chosen, reply_to, answer}
use Rattle.paper_lower.specs.Tables.{Lower}
use Rattle.paper_lower.specs.Load.{records_of}
use Rattle.paper_lower.specs.Roles.{role_kinds}
use Rattle.paper_lower.specs.Sessions.{session_kinds, lower_kinds, lower_request}
use Rattle.paper_lower.proofs.ListLaws.{every_map, ◌⨾◌}
use Rattle.paper_upper.specs.Orders.{Engine, no_orders}
use Rattle.paper_upper.specs.Requests.{upper_kinds}
use Rattle.paper_upper.specs.Engine.{widened, shared_kinds, request_kinds, request}
use Rattle.theorems.specs.Theorems.{tables_next, lower_after, fixed}
use Rattle.theorems.specs.Walls.{Commits, commits_after, lower_commits_after}
use Rattle.theorems.specs.Exactly.{Not, Known, GivenExactly, Fits, WithinLimit, OfFields, Asked, refusals_of, lower_kinds_asked, engine_kinds_asked, Answered, EveryReply}
use Rattle.theorems.proofs.Keeps.{Kept, LowerKept, kept-after, lower-kept-after}
use Rattle.theorems.proofs.Outside.{told-is-true, lower-told}
use Rattle.theorems.proofs.Walls.{Told, told-after, lower-told-after}
use Rattle.theorems.proofs.Reflects.{check}
use Rattle.theorems.proofs.Declared.{Declared, declared-after, lower-declared-after}
use Rattle.theorems.proofs.ExactlyRoles.{seen, joined, assigned, taken, given, withdrawn, created, activated, deactivated, checked, lower-deleted, lower-destroyed}
use Rattle.theorems.proofs.ExactlyOrders.{all, deleted, destroyed, opened, ended, left, task-checked, figured, stuck-asked}
use Rattle.theorems.proofs.ExactlyClaims.{claimed}

-- ---- SHAPE and RANGE.

-- The test b does not apply exactly if P holds.
abbrev Passes : Bool → Type 0 → Type 0
Passes b P = (b ≡ false) ↔ P

always : {P : Type 0} → P → Passes false P
always x = (λ _. x, λ _. refl)

fits : (f : Field) (x : ℕ) → Passes (misplaced f x) (Fits f x)
unfolding misplaced
fits · x = (λ e. eqb-true x 0 (not-false (eqb x 0) e), λ e. ap not (eq-eqb x 0 e))
fits (to k) x = always tt
fits any x = always tt
fits pair x = (λ e. leb-false (2 ^ 32) x e, λ l. lt-leb (2 ^ 32) x l)

within-limit : (f : Field) (x : ℕ) → Passes (above f x) (WithinLimit f x)
unfolding above
within-limit · x = always tt
within-limit (to k) x = (λ e. ltb-false k x e, λ l. le-ltb k x l)
within-limit any x = always tt
within-limit pair x = always tt

neither : (a b : Bool) {P Q : Type 0} → Passes a P → Passes b Q → Passes (a || b) (P × Q)
neither true b p q = (λ e. absurd (true≢false e), λ x. p.1 x.0)
neither false b p q = (λ e. (p.0 refl, q.0 e), λ x. q.1 x.1)

five : (a b c d e : Bool) {P Q R S T : Type 0} → Passes a P → Passes b Q → Passes c R → Passes d S → Passes e T
    → Passes (a || b || c || d || e) (P × Q × R × S × T)
five a b c d e p q r s t =
    let x = neither (a || b || c || d) e (neither (a || b || c) d (neither (a || b) c (neither a b p q) r) s) t in
    (λ h. let y = x.0 h in (y.0.0.0.0, y.0.0.0.1, y.0.0.1, y.0.1, y.1), λ y. x.1 ((((y.0, y.1), y.2), y.3), y.4))

not-passed : (b : Bool) {P : Type 0} → Passes b P → (b ≡ true) ↔ Not P
not-passed true p = (λ _ x. true≢false (p.1 x), λ _. refl)
not-passed false p = (λ e. absurd (false≢true e), λ n. absurd (n (p.0 refl)))

module _ (f : Form) (s : Bytes) where
  pub misshaped : (not (eqb (length s) 16) || misshapen (just f) (decode s) ≡ true) ↔ Not ((length s ≡ 16) × OfFields Fits f (decode s))
  unfolding misshapen
  misshaped =
      let r = decode s in
      not-passed _ (neither (not (eqb (length s) 16)) _ (λ e. eqb-true _ _ (not-false _ e), λ e. ap not (eq-eqb (length s) 16 e))
      (five _ _ _ _ _ (fits f.n r.n) (fits f.a r.a) (fits f.b r.b) (fits f.c r.c) (fits f.m r.m)))

  pub too_large : (out_of_range (just f) (decode s) ≡ true) ↔ Not (OfFields WithinLimit f (decode s))
  unfolding out_of_range
  too_large =
      let r = decode s in
      not-passed _ (five _ _ _ _ _ (within-limit f.n r.n) (within-limit f.a r.a) (within-limit f.b r.b) (within-limit f.c r.c)
      (within-limit f.m r.m))

-- ---- One kind: its form is the one of the table, and each of its checks applies exactly when the table says so. Then its replies are those of the table.
module _ {T : Type 0} (fs : List Form) (ks : List (Kind T)) (t : T) (k : Known) (s : Bytes) where
  -- The kind's form and replies are those of the table's row a.
  pub record Agrees (a : Asked) : Type 0 where
    pub form : form_of fs a.fields.kind ≡ just a.fields
    pub low : Every (λ j. RANGE < j.reply) (a.refusals k (decode s))
    pub replies : GivenExactly (a.refusals k (decode s)) (first ((chosen ks a.fields.kind).checks t (decode s)))

  of-kind : (a : Asked) → Agrees a → (decode s).kind ≡ a.fields.kind → GivenExactly (refusals_of a k s) (reply_to fs ks t s)
  unfolding reply_to form_checks
  of-kind a h e =
      subst (λ (n : ℕ). GivenExactly (refusals_of a k s)
      (first ((not (eqb (length s) 16) || misshapen (form_of fs n) (decode s), SHAPE)
      ∷ (out_of_range (form_of fs n) (decode s), RANGE)
      ∷ (chosen ks n).checks t (decode s)))) (sym e)
      (subst (λ (f : Maybe Form). GivenExactly (refusals_of a k s)
      (first ((not (eqb (length s) 16) || misshapen f (decode s), SHAPE)
      ∷ (out_of_range f (decode s), RANGE)
      ∷ (chosen ks a.fields.kind).checks t (decode s)))) (sym h.form)
      (check (omega arith) (omega arith, every_map (a.refusals k (decode s)) (λ j l. omega arith) h.low) _ (misshaped a.fields s) (λ _.
      check (omega arith) h.low _ (too_large a.fields s) (λ _. h.replies))))

  of-kinds : (table : List Asked) → Every Agrees table →
      Every (λ a. (decode s).kind ≡ a.fields.kind → GivenExactly (refusals_of a k s) (reply_to fs ks t s)) table
  of-kinds [] h = tt
  of-kinds (a ∷ table) h = (of-kind a h.0, of-kinds table h.1)

-- ---- A kind that the call does not take: SHAPE.
no-form : (fs : List Form) (n : ℕ) → Every (λ f. Not (n ≡ f.kind)) fs → form_of fs n ≡ none
unfolding form_of
no-form [] n h = refl
no-form (f ∷ fs) n h = rw (ne_eqb f.kind n (λ e. h.0 (sym e))) (no-form fs n h.1)

pub unlisted : {T : Type 0} (fs : List Form) (ks : List (Kind T)) (t : T) (s : Bytes) → Every (λ f. Not ((decode s).kind ≡ f.kind)) fs →
    reply_to fs ks t s ≡ SHAPE
unfolding reply_to form_checks misshapen
unlisted fs ks t s h = rw (no-form fs (decode s).kind h) (go (not (eqb (length s) 16)) _)
  where
    go : (b : Bool) (q : ℕ) → cond (b || true) SHAPE q ≡ SHAPE
    go true q = refl
    go false q = refl

-- ---- All kinds: of the lower part, and of the whole engine.
module _ (policy : List Record) (t : Lower) (kept : LowerKept policy t) (d : Declared policy (fixed t.policy)) (y : Commits) (h : Told t y) (s : Bytes) where
  -- What an observer knows, with no order open.
  abbrev here : Known
  here = seen policy t kept d no_orders y

  abbrev r : Record
  r = decode s

  lower-table : Every (Agrees lower_forms lower_kinds t here s) lower_kinds_asked
  unfolding lower_forms form_of lower_kinds role_kinds session_kinds chosen
  lower-table =
      record { form = refl; low = omega arith; replies = joined policy t kept d no_orders y r }
      ⨾ record { form = refl; low = omega arith; replies = lower-deleted policy t kept d y r }
      ⨾ record { form = refl; low = omega arith; replies = assigned policy t kept d no_orders y r }
      ⨾ record { form = refl; low = omega arith; replies = taken policy t kept d no_orders y r }
      ⨾ record { form = refl; low = omega arith; replies = given policy t kept d no_orders y r }
      ⨾ record { form = refl; low = omega arith; replies = withdrawn policy t kept d no_orders y r }
      ⨾ record { form = refl; low = omega arith; replies = created policy t kept d no_orders y r }
      ⨾ record { form = refl; low = omega arith; replies = lower-destroyed policy t kept d y r }
      ⨾ record { form = refl; low = omega arith; replies = activated policy t kept d no_orders y r }
      ⨾ record { form = refl; low = omega arith; replies = deactivated policy t kept d no_orders y r }
      ⨾ record { form = refl; low = omega arith; replies = checked policy t kept d no_orders y h r }
      ⨾ record { form = refl; low = omega arith; replies = checked policy t kept d no_orders y h r }
      ⨾ tt

  lower-answered : Answered lower_kinds_asked here s (lower_request t s).reply
  unfolding lower_request answer lower_forms
  lower-answered = record {
    kinds = of-kinds lower_forms lower_kinds t here s lower_kinds_asked lower-table;
    others = λ n. unlisted lower_forms lower_kinds t s n;
  }

module _ (policy : List Record) (t : Engine) (kept : Kept policy t) (d : Declared policy (fixed t.lower.policy)) (y : Commits) (h : Told t.lower y) (s : Bytes) where
  -- What an observer knows of the whole engine.
  abbrev there : Known
  there = all policy t kept d y

  abbrev low : LowerKept policy t.lower
  low = (kept.0, kept.2)

  abbrev q : Record
  q = decode s

  table : Every (Agrees request_forms request_kinds t there s) engine_kinds_asked
  unfolding request_forms lower_forms upper_forms form_of request_kinds upper_kinds shared_kinds widened lower_kinds role_kinds session_kinds keep each chosen
  table =
      record { form = refl; low = omega arith; replies = joined policy t.lower low d t.orders y q }
      ⨾ record { form = refl; low = omega arith; replies = deleted policy t kept d y q }
      ⨾ record { form = refl; low = omega arith; replies = assigned policy t.lower low d t.orders y q }
      ⨾ record { form = refl; low = omega arith; replies = taken policy t.lower low d t.orders y q }
      ⨾ record { form = refl; low = omega arith; replies = given policy t.lower low d t.orders y q }
      ⨾ record { form = refl; low = omega arith; replies = withdrawn policy t.lower low d t.orders y q }
      ⨾ record { form = refl; low = omega arith; replies = created policy t.lower low d t.orders y q }
      ⨾ record { form = refl; low = omega arith; replies = destroyed policy t kept d y q }
      ⨾ record { form = refl; low = omega arith; replies = activated policy t.lower low d t.orders y q }
      ⨾ record { form = refl; low = omega arith; replies = deactivated policy t.lower low d t.orders y q }
      ⨾ record { form = refl; low = omega arith; replies = checked policy t.lower low d t.orders y h q }
      ⨾ record { form = refl; low = omega arith; replies = checked policy t.lower low d t.orders y h q }
      ⨾ record { form = refl; low = omega arith; replies = opened policy t kept d y q }
      ⨾ record { form = refl; low = omega arith; replies = ended policy t kept d y q }
      ⨾ record { form = refl; low = omega arith; replies = claimed policy t kept d y q }
      ⨾ record { form = refl; low = omega arith; replies = left policy t kept d y q }
      ⨾ record { form = refl; low = omega arith; replies = left policy t kept d y q }
      ⨾ record { form = refl; low = omega arith; replies = task-checked policy t kept d y q }
      ⨾ record { form = refl; low = omega arith; replies = figured policy t kept d y q }
      ⨾ record { form = refl; low = omega arith; replies = stuck-asked policy t kept d y q }
      ⨾ tt

  answered : Answered engine_kinds_asked there s (request t s).reply
  unfolding request answer request_forms lower_forms upper_forms
  answered = record {
    kinds = of-kinds request_forms request_kinds t there s engine_kinds_asked table;
    others = λ n. unlisted request_forms request_kinds t s n;
  }

pub every-reply : EveryReply
every-reply = record {
  engine = λ policy accepted ss s.
      rw (told-is-true policy accepted ss)
      (answered (records_of policy) (tables_next policy ss) (kept-after policy accepted ss) (declared-after policy accepted ss) (commits_after policy ss)
      (told-after policy accepted ss) s);
  dealers = λ policy accepted ss s.
      rw (lower-told policy accepted ss)
      (lower-answered (records_of policy) (lower_after policy ss) (lower-kept-after policy accepted ss) (lower-declared-after policy accepted ss)
      (lower_commits_after policy ss) (lower-told-after policy accepted ss) s);
}
