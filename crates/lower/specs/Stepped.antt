-- What a request does to the two buffers of the lower part: its reply, the tables afterwards, and no change by a refusal.
use Rattle.std.specs.Prelude.{ℕ, List}
use Rattle.paper_lower.specs.Tables.{Lower}
use Rattle.replies.specs.Replies.{Reply}
use Rattle.sessions.specs.Lower.{lower_tables}
use Rattle.sessions.specs.Both.{Both}

-- The contract of `step`.
abbrev pub Stepped : ℕ → Lower → List ℕ → List ℕ → List ℕ → List ℕ → Reply → Type 0
Stepped reply next p s p' s' r = Both lower_tables reply next p s p' s' r
