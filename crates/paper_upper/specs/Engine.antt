-- The request of the whole engine, and the place of the rule that refuses a claim. The load is that of the lower part; after it no subject is live and no
-- order is open.
use Rattle.std.specs.Prelude.{ℕ, not, cond, ◌||◌, List, [], ◌∷◌, ◌++◌, eqb}
use Rattle.paper_lower.specs.Lists.{keep, each}
use Rattle.paper_lower.specs.Records.{Bytes, Record, decode}
use Rattle.paper_lower.specs.Forms.{request_forms}
use Rattle.paper_lower.specs.Kinds.{Kind, on, Answer, answer, Said}
use Rattle.paper_lower.specs.Tables.{Policy, Lower}
use Rattle.paper_lower.specs.Sessions.{lower_kinds, lower_of, lower_open}
use Rattle.paper_upper.specs.Orders.{Engine, no_orders, with_lower, orders_open}
use Rattle.paper_upper.specs.Rules.{rules_open}
use Rattle.paper_upper.specs.Requests.{claim_place, upper_kinds, requests_open}

-- A kind of the lower part as a kind of the whole engine.
unfoldable pub widened : Kind Lower → Kind Engine
widened k = on k.kind (λ t r. k.checks t.lower r) (λ t r. with_lower t (k.next t.lower r))

-- The kinds of the lower part that do not depend on entries: all but 33 and 41, which Requests defines for the whole engine.
unfoldable pub shared_kinds : List (Kind Lower)
shared_kinds = keep (λ k. not (eqb k.kind 33 || eqb k.kind 41)) lower_kinds

-- All request kinds of the engine.
unfoldable pub request_kinds : List (Kind Engine)
request_kinds = upper_kinds ++ each widened shared_kinds

-- The answer of the engine to a request.
unfoldable pub request : Engine → Bytes → Answer Engine
request t s = answer request_forms request_kinds t s

-- ---- 02, Ask 2: a reply to a claim comes with a place; "all other replies carry 0"

-- The place for this record and reply.
unfoldable pub place_of : Engine → Record → ℕ → ℕ
place_of t r reply = cond (eqb r.kind 50) (claim_place t r.a r.b r.c reply) 0

-- The place that goes with the reply to the request s.
unfoldable pub place_to : Engine → Bytes → ℕ
place_to t s = place_of t (decode s) (request t s).reply

-- A request with the reply and the place that it got.
pub record Placed : Type 0 where
  pub said : Said
  pub place : ℕ

-- The requests with their replies and places. Each request starts from the tables that the previous one left.
unfoldable pub placed_run : Engine → List Bytes → List Placed
placed_run t [] = []
placed_run t (s ∷ ss) =
    record { said = record { request = s; reply = (request t s).reply }; place = place_to t s } ∷ placed_run (request t s).tables ss

-- The engine after a load.
unfoldable pub engine_of : Policy → Engine
engine_of p = record { lower = lower_of p; orders = no_orders }

-- Unfolds all definitions of both parts at once, for proofs that compute a case.
unfoldable pub engine_open : Unit {0}
unfolding lower_open orders_open rules_open requests_open widened shared_kinds request_kinds request place_of place_to placed_run engine_of
engine_open = tt
