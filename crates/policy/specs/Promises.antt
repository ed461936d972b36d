-- The contracts of the functions that check and carry out a policy record, stated with the checks and next tables of its kind.
use Rattle.std.specs.Prelude.{ℕ, List, ◌≡◌}
use Rattle.paper_lower.specs.Checks.{Check, first}
use Rattle.paper_lower.specs.Tables.{Policy}
use Rattle.replies.specs.Replies.{Reply, number_of}
use Rattle.replies.specs.Done.{Done}
use Rattle.policy.specs.Reading.{policy_of}

-- The reply is that of the first check that applies.
abbrev pub Judged : (Policy → List Check) → List ℕ → Reply → Type 0
Judged checks l r = number_of r ≡ first (checks (policy_of l))

-- The same, and the buffer reads as the next tables if the record is accepted, and no word changes if it is refused.
abbrev pub Recorded : (Policy → List Check) → (Policy → Policy) → List ℕ → List ℕ → Reply → Type 0
Recorded checks next l l' r = Done policy_of (first (checks (policy_of l))) (next (policy_of l)) l l' r
