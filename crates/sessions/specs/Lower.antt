-- The policy and sessions buffers read together as the tables of the lower part.
use Rattle.std.specs.Prelude.{List, ℕ}
use Rattle.paper_lower.specs.Tables.{Lower}
use Rattle.policy.specs.Reading.{policy_of}
use Rattle.sessions.specs.Reading.{sessions_of}

-- The tables of the lower part.
abbrev pub lower_tables : List ℕ → List ℕ → Lower
lower_tables p s = record { policy = policy_of p; sessions = sessions_of s }
