-- Replies, places and next tables do not depend on the relative order of entries of different orders (`Respects`). Within one order, entries keep their order.
-- The proof goes row by row through the table of kinds, then through a sequence of requests.
use Prim.Native.Nat.{ℕ, zero, suc}
use mathlib.Core.Path.{◌≡◌, refl, ap, subst, ◌∙◌}
use mathlib.Core.List.{List, [], ◌∷◌, ◌++◌}
use mathlib.Core.Bool.{Bool, true, false, cond}
use lib.Dec.{eqb}
use Rattle.paper_lower.specs.Lists.{Every, Maybe, each}
use Rattle.paper_lower.specs.Checks.{Check, first, granted}
use Rattle.paper_lower.specs.Records.{Record, decode}
use Rattle.paper_lower.specs.Forms.{request_forms, form_checks}
use Rattle.paper_lower.specs.Kinds.{Kind, chosen, reply_to, answer, after}
use Rattle.paper_lower.specs.Tables.{Lower}
use Rattle.paper_lower.proofs.ListLaws.{every_map, every_append, every-each, every-all, ◌⨾◌}
use Rattle.paper_lower.proofs.KindLaws.{of-chosen}
use Rattle.paper_upper.specs.Orders.{Entry, entry, Engine, SameTables, are_in_order, held_of, tasks_by, tasks_done, tasks_others}
use Rattle.paper_upper.specs.Orders.Standing.{done}
use Rattle.paper_upper.specs.Rules.{gathered_checks, rule_checks}
use Rattle.paper_upper.specs.Requests.{delete_above, destroy_above, open_checks, open_next, end_checks, end_next, unknown, claim_checks, claim_next, hold_checks, release_next, turned, done_next, task_check_checks, claim_place, figures_checks, stuck_checks, upper_kinds}
use Rattle.paper_upper.specs.Engine.{widened, shared_kinds, request_kinds, request, place_of, place_to, placed_run}
use Rattle.engine.specs.Respects.{Respects, RunsRespect}
use Rattle.paper_upper.proofs.OrderedLaws.{Same, Ordered, ordered-more, ordered-keep, ordered-each, ordered_same, tables-bag}
use Rattle.order_links.proofs.SameLaws.{some_same, many-same, many-kept, tasks-same}

-- ---- One row of the table of kinds, on tables that differ only in the relative order of entries of different orders.
abbrev engine : Lower → (ℕ → Maybe ℕ) → List Entry → Engine
engine x opened es = record { lower = x; orders = record { opened = opened; entries = es } }

-- The row has the same checks on both tables, and its next tables are the same.
abbrev Alike : Kind Engine → Record → Engine → Engine → Type 0
Alike k r t t' = (k.checks t r ≡ k.checks t' r) × SameTables (k.next t r) (k.next t' r)

-- That holds for all tables which differ only in the relative order of entries of different orders.
abbrev InAnyOrder : Kind Engine → Type 0
InAnyOrder k = (x : Lower) (opened : ℕ → Maybe ℕ) (es es' : List Entry) → Ordered es es' → (r : Record) → Alike k r (engine x opened es) (engine x opened es')

-- For a row with this property, `SameTables` is enough: the same checks, and the same next tables.
in-any-order : (k : Kind Engine) → InAnyOrder k → (t t' : Engine) → SameTables t t' → (r : Record) → Alike k r t t'
in-any-order k f t t' h r =
    subst (λ (x : Lower). Alike k r t (engine x t'.orders.opened t'.orders.entries)) h.lower
    (subst (λ (o : ℕ → Maybe ℕ). Alike k r t (engine t.lower o t'.orders.entries)) h.opened
    (f t.lower t.orders.opened t.orders.entries t'.orders.entries h.entries r))

-- Entries that differ only in that order make the same tables.
left : {x : Lower} {opened : ℕ → Maybe ℕ} {es es' : List Entry} → Ordered es es' → SameTables (engine x opened es) (engine x opened es')
left h = record { lower = refl; opened = refl; entries = h }

-- A kind of the lower part reads no entry.
lower-row : (k : Kind Lower) → InAnyOrder (widened k)
unfolding widened
lower-row k x opened es es' h r = (refl, left h)

turned-stays : (b c a i : ℕ) (e : Entry) → are_in_order i (turned b c a e) ≡ are_in_order i e
unfolding turned are_in_order
turned-stays b c a i e = go (held_of b c a e)
  where
    go : (x : Bool) → eqb (cond x (entry e.instance e.user e.task done) e).instance i ≡ eqb e.instance i
    go true = refl
    go false = refl

-- The checks of the upper kinds do not depend on that order either.
upper-rows : Every InAnyOrder upper_kinds
unfolding upper_kinds delete_above destroy_above open_checks open_next end_checks end_next claim_checks claim_next hold_checks release_next done_next task_check_checks figures_checks stuck_checks gathered_checks rule_checks tasks_by tasks_done tasks_others unknown
upper-rows =
    (λ x opened es es' h r. let s = ordered_same es es' h in (rw (some_same _ s), left h))
    ⨾ (λ x opened es es' h r. let s = ordered_same es es' h in (rw (some_same _ s), left h))
    ⨾ (λ x opened es es' h r. (refl, left h))
    ⨾ (λ x opened es es' h r. let s = ordered_same es es' h in (rw (some_same _ s), left (ordered-keep _ es es' h)))
    ⨾ (λ x opened es es' h r.
    let s = ordered_same es es' h in
    (rw (some_same _ s, tasks-same _ s, tasks-same _ s, tasks-same _ s, many-kept _ s, many-same s), left (ordered-more _ es es' h)))
    ⨾ (λ x opened es es' h r. let s = ordered_same es es' h in (rw (some_same _ s), left (ordered-keep _ es es' h)))
    ⨾ (λ x opened es es' h r. let s = ordered_same es es' h in (rw (some_same _ s), left (ordered-each _ (turned-stays r.b r.c r.a) es es' h)))
    ⨾ (λ x opened es es' h r. let s = ordered_same es es' h in (rw (some_same _ s), left h))
    ⨾ (λ x opened es es' h r. (refl, left h))
    ⨾ (λ x opened es es' h r. (refl, left h))
    ⨾ tt

rows : Every InAnyOrder request_kinds
unfolding request_kinds
rows = every_append InAnyOrder upper_kinds (each widened shared_kinds) upper-rows (every-each InAnyOrder widened shared_kinds (every-all shared_kinds lower-row))

-- ---- One request, and a sequence of requests.
same-reply : (k : Kind Engine) (r : Record) (cs : List Check) (t t' : Engine) → Alike k r t t' → first (cs ++ k.checks t r) ≡ first (cs ++ k.checks t' r)
same-reply k r cs t t' a = ap (λ (xs : List Check). first (cs ++ xs)) a.0

granted-same : (q : ℕ) {t t' u u' : Engine} → SameTables t t' → SameTables u u' → SameTables (granted q t u) (granted q t' u')
granted-same zero h k = h
granted-same (suc q) h k = k

-- The place is the same too.
place_same : (x : Lower) (opened : ℕ → Maybe ℕ) {es es' : List Entry} → Same es es' → (r : Record) (reply : ℕ) →
    place_of (engine x opened es) r reply ≡ place_of (engine x opened es') r reply
unfolding place_of claim_place tasks_by tasks_done tasks_others
place_same x opened h r reply = rw (tasks-same _ h, tasks-same _ h, tasks-same _ h)

placed_same : (t t' : Engine) → SameTables t t' → (r : Record) (reply : ℕ) → place_of t r reply ≡ place_of t' r reply
placed_same t t' h r reply =
    subst (λ (x : Lower). place_of t r reply ≡ place_of (engine x t'.orders.opened t'.orders.entries) r reply) h.lower
    (subst (λ (o : ℕ → Maybe ℕ). place_of t r reply ≡ place_of (engine t.lower o t'.orders.entries) r reply) h.opened
    (place_same t.lower t.orders.opened (tables-bag h) r reply))

pub respects : Respects
unfolding request answer reply_to chosen place_to
respects t t' h s =
    let a = of-chosen (λ n k. (t t' : Engine) → SameTables t t' → (r : Record) → Alike k r t t') request_kinds
    (every_map request_kinds (λ k f. in-any-order k f) rows) (λ n t t' h r. (refl, h)) (decode s).kind t t' h (decode s) in
    let q = same-reply (chosen request_kinds (decode s).kind) (decode s) (form_checks request_forms s) t t' a in (
      q,
      placed_same t t' h (decode s) _ ∙ ap (place_of t' (decode s)) q,
      rw (← q) (granted-same (reply_to request_forms request_kinds t s) a.1 h),
    )

pub runs-respect : RunsRespect
unfolding placed_run after
runs-respect t t' h [] = (refl, h)
runs-respect t t' h (s ∷ ss) =
    let a = respects t t' h s in
    let b = runs-respect (request t s).tables (request t' s).tables a.2 ss in
    (λ i. record { said = record { request = s; reply = a.0 i }; place = a.1 i } ∷ b.0 i, b.1)
