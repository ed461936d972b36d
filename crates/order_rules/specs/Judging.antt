-- The contract of a search for the first rule broken, and of the claim rules together. The arguments are what was collected from the entries: D, the tasks done, the tasks of other users, and the
-- number of entries of the task.
use Rattle.std.specs.Prelude.{ℕ, zero, suc, List, ◌≡◌, Option, None, Some}
use Rattle.paper_lower.specs.Sets.{Set}
use Rattle.paper_lower.specs.Lists.{Maybe}
use Rattle.paper_lower.specs.Checks.{Check, first}
use Rattle.paper_lower.specs.Tables.{Tasks, Rules}
use Rattle.paper_upper.specs.Rules.{gathered_checks, rule_place}
use Rattle.replies.specs.Replies.{Outcome, outcome_number, outcome_place}

-- The place of a rule broken, where 0 says that none is.
abbrev pub place_if_any : ℕ → Option ℕ
place_if_any zero = None
place_if_any (suc k) = Some (suc k)

-- The reply is that of the first check that applies, and the place is the one that goes with the reply.
pub record Verdict (cs : List Check) (place : ℕ → ℕ) (r : Outcome) : Type 0 where
  pub replies : outcome_number r ≡ first cs
  pub places : outcome_place r ≡ place (outcome_number r)

-- The contract of `judge`.
abbrev pub Judging : Tasks → Rules → Maybe ℕ → Set → Set → Set → ℕ → ℕ → Outcome → Type 0
Judging k rules template d finished others times t r =
    Verdict (gathered_checks k rules template d finished others times t) (rule_place rules d finished others t) r
