-- The relative order of entries of different orders is not part of the tables: replies, places and the next tables do not depend on it. Within one order, the
-- entries stay in order of entry. `SameTables` is equality up to that.
use Rattle.std.specs.Prelude.{◌≡◌, List}
use Rattle.paper_lower.specs.Records.{Bytes}
use Rattle.paper_lower.specs.Kinds.{after}
use Rattle.paper_upper.specs.Orders.{Engine, SameTables}
use Rattle.paper_upper.specs.Engine.{request, place_to, placed_run}

-- One request, made on two engines with the same tables.
abbrev pub Respects : Type 0
Respects =
    (t t' : Engine) → SameTables t t' → (s : Bytes)
    → ((request t s).reply ≡ (request t' s).reply) × (place_to t s ≡ place_to t' s) × SameTables (request t s).tables (request t' s).tables

-- Any sequence of requests: the same replies and places, and the same tables at the end.
abbrev pub RunsRespect : Type 0
RunsRespect =
    (t t' : Engine) → SameTables t t' → (ss : List Bytes)
    → (placed_run t ss ≡ placed_run t' ss) × SameTables (after request t ss) (after request t' ss)
