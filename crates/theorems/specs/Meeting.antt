-- 02, Ask 14: "Two desks claim in the same second, and nobody can say which call went in first. It should not matter."
use Rattle.std.specs.Prelude.{◌+◌, ◌≤◌, ◌≡◌}
use Rattle.paper_lower.specs.Lists.{many}
use Rattle.paper_lower.specs.Checks.{GRANTED, FULL}
use Rattle.paper_lower.specs.Records.{Bytes, decode}
use Rattle.paper_upper.specs.Orders.{Engine, SameTables}
use Rattle.paper_upper.specs.Engine.{request, place_to}
use Rattle.theorems.specs.InUse.{is_in_use}
use Rattle.theorems.specs.Theorems.{AfterEvery, tables_next, said_after}

-- The requests are claims in different instances.
pub record Apart (c d : Bytes) : Type 0 where
  pub one : (decode c).kind ≡ 50
  pub other : (decode d).kind ≡ 50
  pub differ : (decode c).b ≡ (decode d).b → ⊥

-- The order of two requests does not matter: "both orders give the same replies, the same places of Ask 2 and the same tables; which ledger slot an entry
-- sits in is not part of a table"
pub record EitherFirst (t : Engine) (c d : Bytes) : Type 0 where
  pub replies : ((request (request t d).tables c).reply ≡ (request t c).reply) × ((request (request t c).tables d).reply ≡ (request t d).reply)
  pub places : (place_to (request t d).tables c ≡ place_to t c) × (place_to (request t c).tables d ≡ place_to t d)
  pub tables : SameTables (request (request t c).tables d).tables (request (request t d).tables c).tables

-- "Show, after an accepted load and any requests: for two claims in different open instances, with at least two ledger entries free beforehand". It holds for
-- instances that are not open too.
abbrev pub ClaimsDoNotMeet : Type 0
ClaimsDoNotMeet =
    AfterEvery (λ policy requests. (c d : Bytes) → Apart c d → is_in_use (said_after policy requests) + 2 ≤ 2048 → EitherFirst (tables_next policy requests) c d)

-- "With one entry free the order matters": if each of two claims would be granted, the one that is made second is FULL.
abbrev pub OneEntryFree : Type 0
OneEntryFree =
    (t : Engine) (c d : Bytes) → Apart c d → many t.orders.entries ≡ 2047 → (request t c).reply ≡ GRANTED → (request t d).reply ≡ GRANTED
    → ((request (request t c).tables d).reply ≡ FULL) × ((request (request t d).tables c).reply ≡ FULL)
