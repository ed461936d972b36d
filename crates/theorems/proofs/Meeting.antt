-- The theorems on two claims in different orders (02, Ask 14): apart from FULL, a claim depends only on the entries of its own instance.
use Prim.Native.Nat.{ℕ, zero, suc, ◌+◌, ◌≤◌}
use mathlib.Core.Path.{◌≡◌, refl, sym, ap, subst, ◌∙◌}
use mathlib.Core.Bool.{false, not, ◌&&◌}
use mathlib.Core.List.{List, [], ◌∷◌, ◌++◌}
use native.Mathlib.Omega.{arith}
use borrow.Author.Tests.{eq-eqb, ne_eqb, lt-leb}
use lib.Dec.{eqb, leb}
use Rattle.paper_lower.specs.Sets.{meets}
use Rattle.paper_lower.specs.Lists.{some, many, keep}
use Rattle.paper_lower.specs.Checks.{Check, first, granted, UNKNOWN, TAKEN, NO-ROLE, FULL}
use Rattle.paper_lower.specs.Records.{Bytes, Record, decode}
use Rattle.paper_lower.specs.Forms.{request_forms, form_checks}
use Rattle.paper_lower.specs.Kinds.{chosen, reply_to, answer}
use Rattle.paper_lower.specs.Policy.{down}
use Rattle.paper_lower.proofs.ListLaws.{every-left}
use Rattle.paper_lower.proofs.CheckLaws.{passed, first-passed}
use Rattle.paper_upper.specs.Orders.{Entry, entry, Engine, SameTables, with_entries, is_held, are_in_order, of_task, of_user, tasks_where, tasks_by, tasks_done, tasks_others}
use Rattle.paper_upper.specs.Orders.Standing.{held}
use Rattle.paper_upper.specs.Rules.{gathered_checks, rule_checks}
use Rattle.paper_upper.specs.Requests.{unknown, claim_checks, claim_place, claim_next, upper_kinds}
use Rattle.paper_upper.specs.Engine.{request_kinds, request, place_of, place_to}
use Rattle.paper_upper.proofs.OrderedLaws.{swapped}
use Rattle.theorems.specs.Theorems.{tables_next}
use Rattle.theorems.specs.Meeting.{Apart, EitherFirst, ClaimsDoNotMeet, OneEntryFree}
use Rattle.theorems.proofs.InUse.{in_use}

-- The checks of a claim before FULL.
abbrev early : Engine → ℕ → ℕ → ℕ → List Check
early t a b c =
    (unknown t a b c, UNKNOWN)
    ∷ (some (λ e. of_task b c e && is_held e.standing) t.orders.entries, TAKEN)
    ∷ (not (meets (t.lower.policy.tasks.open_to c) (down t.lower.policy.seniority (t.lower.sessions.active a))), NO-ROLE)
    ∷ rule_checks t.lower.policy.tasks t.lower.policy.rules (t.orders.opened b) t.orders.entries b (t.lower.sessions.user a) c

-- The check FULL, for n entries in use.
abbrev full : ℕ → List Check
full n = (leb 2048 n, FULL) ∷ []

-- An entry of another instance changes neither these checks nor the place of a claim.
module _ (t : Engine) (a b c : ℕ) (e : Entry) (h : eqb e.instance b ≡ false) where
  -- The engine with one more entry.
  abbrev more : Engine
  more = with_entries t (e ∷ t.orders.entries)

  early-same : early more a b c ≡ early t a b c
  unfolding unknown gathered_checks rule_checks some keep of_task of_user are_in_order tasks_where tasks_by tasks_done tasks_others
  early-same = rw h

  place_same : (q : ℕ) → claim_place more a b c q ≡ claim_place t a b c q
  unfolding claim_place of_user are_in_order tasks_where tasks_by tasks_done tasks_others
  place_same q = rw h

-- ---- Two claims, one after the other.
module _ (t : Engine) (s : Bytes) (k : (decode s).kind ≡ 50) where
  abbrev r : Record
  r = decode s

  reply-is : (request t s).reply ≡ first (form_checks request_forms s ++ (early t r.a r.b r.c ++ full (many t.orders.entries)))
  unfolding request answer reply_to request_kinds upper_kinds chosen claim_checks gathered_checks rule_checks form_checks
  reply-is = ap (λ (n : ℕ). first (form_checks request_forms s ++ (chosen request_kinds n).checks t r)) k

  place_is : place_to t s ≡ claim_place t r.a r.b r.c (request t s).reply
  unfolding place_to place_of
  place_is = rw (eq-eqb _ 50 k)

  tables-are : (request t s).tables ≡ granted (request t s).reply (claim_next t r.a r.b r.c) t
  unfolding request answer request_kinds upper_kinds chosen
  tables-are = ap (λ (n : ℕ). granted (reply_to request_forms request_kinds t s) ((chosen request_kinds n).next t r) t) k

-- The entry that a claim adds.
abbrev entered : Engine → Record → Entry
entered t r = entry r.b (t.lower.sessions.user r.a) r.c (held r.a)

-- The tables after the claim, if it is granted.
abbrev claimed : Engine → Bytes → Engine
claimed t s = claim_next t (decode s).a (decode s).b (decode s).c

module _ (t : Engine) (s d : Bytes) (k : (decode s).kind ≡ 50) (l : (decode d).kind ≡ 50) (n : (decode d).b ≡ (decode s).b → ⊥) where
  -- After a granted claim d in another instance, the checks of s before FULL are the same.
  reply-after : (request (claimed t d) s).reply ≡
      first (form_checks request_forms s ++ (early t (decode s).a (decode s).b (decode s).c ++ full (suc (many t.orders.entries))))
  unfolding claim_next many
  reply-after =
      reply-is (claimed t d) s k
      ∙ ap (λ (cs : List Check). first (form_checks request_forms s ++ (cs ++ full (suc (many t.orders.entries)))))
      (early-same t (decode s).a (decode s).b (decode s).c (entered t (decode d)) (ne_eqb (decode d).b (decode s).b n))

  place_after : {q p : ℕ} → q ≡ p →
      claim_place (claimed t d) (decode s).a (decode s).b (decode s).c q ≡ claim_place t (decode s).a (decode s).b (decode s).c p
  unfolding claim_next
  place_after {q} e =
      place_same t (decode s).a (decode s).b (decode s).c (entered t (decode d)) (ne_eqb (decode d).b (decode s).b n) q
      ∙ ap (claim_place t (decode s).a (decode s).b (decode s).c) e

  still : many t.orders.entries + 2 ≤ 2048 → ((request (claimed t d) s).reply ≡ (request t s).reply) × (place_to (claimed t d) s ≡ place_to t s)
  still room =
      let e : (request (claimed t d) s).reply ≡ (request t s).reply =
      reply-after ∙ rw (lt-leb 2048 (suc (many t.orders.entries)) (omega arith))
      (rw (lt-leb 2048 (many t.orders.entries) (omega arith)) at (sym (reply-is t s k))) in
      (e, place_is (claimed t d) s k ∙ place_after e ∙ sym (place_is t s k))

  -- The same after d was granted or refused.
  same_after : many t.orders.entries + 2 ≤ 2048 →
      ((request (request t d).tables s).reply ≡ (request t s).reply) × (place_to (request t d).tables s ≡ place_to t s)
  same_after room = rw (tables-are t d l) (go (request t d).reply)
    where
      go : (q : ℕ) → ((request (granted q (claimed t d) t) s).reply ≡ (request t s).reply) × (place_to (granted q (claimed t d) t) s ≡ place_to t s)
      go zero = still room
      go (suc q) = (refl, refl)

  tables_after : many t.orders.entries + 2 ≤ 2048
      → let x = granted (request t d).reply (claimed t d) t in (request (request t d).tables s).tables ≡ granted (request t s).reply (claimed x s) x
  tables_after room =
      tables-are (request t d).tables s k
      ∙ ap (λ (q : ℕ). granted q (claimed (request t d).tables s) (request t d).tables) (same_after room).0
      ∙ ap (λ (x : Engine). granted (request t s).reply (claimed x s) x) (tables-are t d l)

  -- With one entry free: if each of the two claims would be granted, the second is refused with FULL.
  last_entry : many t.orders.entries ≡ 2047 → (request t s).reply ≡ 0 → (request t d).reply ≡ 0 → (request (request t d).tables s).reply ≡ FULL
  unfolding form_checks gathered_checks rule_checks
  last_entry m g h =
      let p =
      passed (form_checks request_forms s ++ (early t (decode s).a (decode s).b (decode s).c ++ full (many t.orders.entries))) (omega arith)
      (sym (reply-is t s k) ∙ g) in
      let x = form_checks request_forms s ++ early t (decode s).a (decode s).b (decode s).c in
      ap (λ (y : Engine). (request y s).reply) (tables-are t d l ∙ rw h)
      ∙ reply-after
      ∙ first-passed x (full (suc (many t.orders.entries))) (every-left (λ y. y.0 ≡ false) x (full (many t.orders.entries)) p)
      ∙ rw m

both_ways : (t : Engine) (c d : Bytes) → ((decode c).b ≡ (decode d).b → ⊥) → (q p : ℕ)
    → let x = granted q (claimed t c) t in
    let y = granted p (claimed t d) t in
    SameTables (granted p (claimed x d) x) (granted q (claimed y c) y)
unfolding claim_next
both_ways t c d n zero zero =
    record { lower = refl; opened = refl; entries = λ i. swapped i (entered t (decode d)) (entered t (decode c)) t.orders.entries (λ e. n (sym e)) }
both_ways t c d n zero (suc p) = record { lower = refl; opened = refl; entries = λ i. refl }
both_ways t c d n (suc q) zero = record { lower = refl; opened = refl; entries = λ i. refl }
both_ways t c d n (suc q) (suc p) = record { lower = refl; opened = refl; entries = λ i. refl }

pub either_first : (t : Engine) (c d : Bytes) → Apart c d → many t.orders.entries + 2 ≤ 2048 → EitherFirst t c d
either_first t c d a room =
    let x = same_after t c d a.one a.other (λ e. a.differ (sym e)) room in
    let y = same_after t d c a.other a.one a.differ room in
    record {
      replies = (x.0, y.0);
      places = (x.1, y.1);
      tables =
          subst (λ (z : Engine). SameTables z (request (request t d).tables c).tables) (sym (tables_after t d c a.other a.one a.differ room))
          (subst (λ (z : Engine). SameTables
          (granted (request t d).reply (claimed (granted (request t c).reply (claimed t c) t) d) (granted (request t c).reply (claimed t c) t)) z)
          (sym (tables_after t c d a.one a.other (λ e. a.differ (sym e)) room))
          (both_ways t c d a.differ (request t c).reply (request t d).reply));
    }

pub claims-do-not-meet : ClaimsDoNotMeet
claims-do-not-meet policy accepted ss c d a room = either_first (tables_next policy ss) c d a (rw (in_use policy accepted ss) at room)

pub one-entry-free : OneEntryFree
one-entry-free t c d a m g h = (last_entry t d c a.other a.one a.differ m h g, last_entry t c d a.one a.other (λ e. a.differ (sym e)) m g h)
