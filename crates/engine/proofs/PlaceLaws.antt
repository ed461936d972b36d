-- The place of a reply is at most 64. It is 0 for a refusal of the form (SHAPE, RANGE), for UNKNOWN, and for every kind but a claim.
use Rattle.replies.specs.Replies.{Outcome, outcome_number, outcome_place}
use Prim.Native.Nat.{ℕ, ◌≤◌}
use mathlib.Core.Bool.{Bool, true, false, not, cond, ◌||◌}
use mathlib.Core.List.{List}
use mathlib.Core.Path.{◌≡◌, refl}
use native.Mathlib.Omega.{arith}
use borrow.Author.Tests.{ne_eqb}
use lib.Dec.{eqb}
use lib.ListN.{length}
use Rattle.paper_lower.specs.Lists.{many}
use Rattle.paper_lower.specs.Checks.{first, ROOM, SHAPE, RANGE, UNKNOWN}
use Rattle.paper_lower.specs.Records.{Bytes, Record, decode}
use Rattle.paper_lower.specs.Forms.{Form, form_of, misshapen, out_of_range, form_checks}
use Rattle.paper_lower.specs.Tables.{no_policy}
use Rattle.paper_lower.specs.Sessions.{lower_of}
use Rattle.paper_upper.specs.Orders.{Engine}
use Rattle.paper_upper.specs.Rules.{rule_place}
use Rattle.paper_upper.specs.Requests.{claim_place}
use Rattle.paper_upper.specs.Engine.{request, place_of, place_to, engine_of}
use Rattle.order_rules.proofs.PlaceLaws.{either-within, rule-place-within, policy-place}
use Rattle.order_links.specs.Chains.{sound_of}
use Rattle.engine.specs.Buffers.{Buffers, product_of, no_engine, tables_of, fit}
use Rattle.engine.specs.Answers.{CallAnswer, request_answer, Requested}

-- ---- A place is at most 64, the largest number of rules of one kind in a policy.
-- "Rules per policy: .. 64 blocks, 64 bindings, 64 prerequisites"
pub place-small : (x : Buffers) (s : Bytes) → place_to (tables_of x) s ≤ 64
unfolding tables_of place_to place_of claim_place no_policy engine_of lower_of many
place-small x s = go (sound_of x.orders)
  where
    go : (b : Bool) → place_to (cond b (product_of x) no_engine) s ≤ 64
    go true =
        either-within 64 (eqb (decode s).kind 50) _ 0 (policy-place x.policy _ _ _ (decode s).c (request (product_of x) s).reply) (omega arith)
    go false =
        either-within 64 (eqb (decode s).kind 50) _ 0
        (rule-place-within 64 no_policy.rules (omega arith) (omega arith) (omega arith) (omega arith) _ _ _ (decode s).c (request no_engine s).reply)
        (omega arith)

pub requested-small : {bytes : Bytes} {x x' : Buffers} {j : Outcome} → Requested bytes x x' j → outcome_place j ≤ 64
unfolding request_answer
requested-small {bytes} {x} d = rw d.places (go (fit x))
  where
    go : (b : Bool)
        → (cond {A = CallAnswer} b
        (record { reply = (request (tables_of x) bytes).reply; place = place_to (tables_of x) bytes; tables = (request (tables_of x) bytes).tables })
        (record { reply = ROOM; place = 0; tables = tables_of x })).place ≤ 64
    go true = place-small x bytes
    go false = omega arith

-- ---- Replies whose place is 0.
pub no-claim : (t : Engine) (r : Record) (reply : ℕ) → (r.kind ≡ 50 → ⊥) → 0 ≡ place_of t r reply
unfolding place_of
no-claim t r reply h = rw (ne_eqb r.kind 50 h)

pub no-form : (fs : List Form) (s : Bytes) (t : Engine) (r : Record) {reply : ℕ} → reply ≡ first (form_checks fs s) → 0 ≡ place_of t r reply
unfolding form_checks place_of claim_place rule_place
no-form fs s t r e =
    rw e
    (go (not (eqb (length s) 16) || misshapen (form_of fs (decode s).kind) (decode s)) (out_of_range (form_of fs (decode s).kind) (decode s))
    (eqb r.kind 50))
  where
    go : (a b c : Bool) → 0 ≡ cond c (claim_place t r.a r.b r.c (cond a SHAPE (cond b RANGE 0))) 0
    go true b true = refl
    go true b false = refl
    go false true true = refl
    go false true false = refl
    go false false true = refl
    go false false false = refl

pub no_place : (t : Engine) (r : Record) {reply : ℕ} → reply ≡ UNKNOWN → 0 ≡ place_of t r reply
unfolding place_of claim_place rule_place
no_place t r e = rw e (go (eqb r.kind 50))
  where
    go : (c : Bool) → 0 ≡ cond c (claim_place t r.a r.b r.c UNKNOWN) 0
    go true = refl
    go false = refl
