-- The three buffers read together as the tables of the engine. Also requests 33
-- and 41 of the whole engine: the checks of the lower part, then those on entries.
use Rattle.std.specs.Prelude.{ℕ, List, ◌++◌}
use Rattle.paper_lower.specs.Checks.{Check}
use Rattle.paper_lower.specs.Tables.{with_sessions}
use Rattle.paper_lower.specs.Roles.{delete_checks, user_gone}
use Rattle.paper_lower.specs.Sessions.{destroy_checks, destroy_next}
use Rattle.paper_upper.specs.Orders.{Engine, with_lower}
use Rattle.paper_upper.specs.Requests.{delete_above, destroy_above}
use Rattle.sessions.specs.Lower.{lower_tables}
use Rattle.order_entries.specs.Reading.{orders_of}

-- The tables of the engine.
abbrev pub engine_tables : List ℕ → List ℕ → List ℕ → Engine
engine_tables p s o = record { lower = lower_tables p s; orders = orders_of o }

-- ---- 33: its checks, and the engine after it.
abbrev pub delete_whole : Engine → ℕ → List Check
delete_whole t a = delete_checks t.lower a ++ delete_above t a

abbrev pub delete_whole_next : Engine → ℕ → Engine
delete_whole_next t a = with_lower t (user_gone t.lower a)

-- ---- 41: its checks, and the engine after it.
abbrev pub destroy_whole : Engine → ℕ → List Check
destroy_whole t a = destroy_checks t.lower a ++ destroy_above t a

abbrev pub destroy_whole_next : Engine → ℕ → Engine
destroy_whole_next t a = with_lower t (with_sessions t.lower (destroy_next t.lower.sessions a))
