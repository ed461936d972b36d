-- The contracts of requests 32, 33, 35 and 37 on the policy buffer p and the sessions buffer s. `...Judged` says that the reply is that of the definition's
-- checks. The other definition of a request also says which tables the request leaves, and that a refusal changes no word.
use Rattle.std.specs.Prelude.{ℕ, List, ◌≡◌}
use Rattle.paper_lower.specs.Checks.{first}
use Rattle.paper_lower.specs.Roles.{join_checks, join_next, delete_checks, user_gone, take_back_checks, take_back_next, withdraw_checks, withdraw_next}
use Rattle.replies.specs.Replies.{Reply, number_of}
use Rattle.replies.specs.Done.{Done}
use Rattle.policy.specs.Reading.{policy_of}
use Rattle.sessions.specs.Lower.{lower_tables}
use Rattle.sessions.specs.Both.{Both}

-- ---- 32, which does not depend on the sessions.
abbrev pub JoinJudged : List ℕ → ℕ → ℕ → Reply → Type 0
JoinJudged p a m r = number_of r ≡ first (join_checks (policy_of p) a m)

-- The contract of `join`.
abbrev pub Joined : List ℕ → List ℕ → ℕ → ℕ → Reply → Type 0
Joined p p' a m r = Done policy_of (first (join_checks (policy_of p) a m)) (join_next (policy_of p) a m) p p' r

-- ---- 33: the contract of `delete_reply`.
abbrev pub DeleteJudged : List ℕ → List ℕ → ℕ → Reply → Type 0
DeleteJudged p s a r = number_of r ≡ first (delete_checks (lower_tables p s) a)

-- The contract of `delete`.
abbrev pub Deleted : List ℕ → List ℕ → List ℕ → List ℕ → ℕ → Reply → Type 0
Deleted p s p' s' a r = Both lower_tables (first (delete_checks (lower_tables p s) a)) (user_gone (lower_tables p s) a) p s p' s' r

-- ---- 35: the contract of `take_back_reply`.
abbrev pub TakeBackJudged : List ℕ → List ℕ → ℕ → ℕ → Reply → Type 0
TakeBackJudged p s a b r = number_of r ≡ first (take_back_checks (lower_tables p s) a b)

-- The contract of `take_back`.
abbrev pub TakenBack : List ℕ → List ℕ → List ℕ → ℕ → ℕ → Reply → Type 0
TakenBack p p' s a b r = Done policy_of (first (take_back_checks (lower_tables p s) a b)) (take_back_next (policy_of p) a b) p p' r

-- ---- 37, which does not depend on the sessions.
abbrev pub WithdrawJudged : List ℕ → ℕ → ℕ → Reply → Type 0
WithdrawJudged p a b r = number_of r ≡ first (withdraw_checks (policy_of p) a b)

-- The contract of `withdraw`.
abbrev pub Withdrawn : List ℕ → List ℕ → ℕ → ℕ → Reply → Type 0
Withdrawn p p' a b r = Done policy_of (first (withdraw_checks (policy_of p) a b)) (withdraw_next (policy_of p) a b) p p' r
