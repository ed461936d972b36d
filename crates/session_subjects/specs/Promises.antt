-- The contracts of requests 40 to 43, 56 and 59 on the policy buffer p and the sessions buffer s. `...Judged` says that the reply is that of the definition's
-- checks. The other definition of a request also says which sessions the request leaves, and that a refusal changes no word.
use Rattle.std.specs.Prelude.{ℕ, cond, List, ◌≡◌, eqb, take, Option, Some, None}
use Rattle.paper_lower.specs.Checks.{first}
use Rattle.paper_lower.specs.Tables.{Policy, Lower}
use Rattle.paper_lower.specs.Sessions.{create_checks, create_next, destroy_checks, destroy_next, activate_checks, activate_next, deactivate_checks, deactivate_next, check_checks, commit_next}
use Rattle.replies.specs.Replies.{Reply, number_of}
use Rattle.replies.specs.Done.{Done}
use Rattle.sessions.specs.Reading.{sessions_of}
use Rattle.sessions.specs.Lower.{lower_tables}

-- ---- 40: the contract of `create_reply`.
abbrev pub CreateJudged : List ℕ → List ℕ → ℕ → ℕ → ℕ → Reply → Type 0
CreateJudged p s a b m r = number_of r ≡ first (create_checks (lower_tables p s) a b m)

-- The contract of `create`.
abbrev pub Created : List ℕ → List ℕ → List ℕ → ℕ → ℕ → ℕ → Reply → Type 0
Created p s s' a b m r = Done sessions_of (first (create_checks (lower_tables p s) a b m)) (create_next (sessions_of s) a b m) s s' r

-- ---- 41, which does not depend on the policy.

-- The tables of the lower part with this policy.
abbrev pub under : Policy → List ℕ → Lower
under t s = record { policy = t; sessions = sessions_of s }

-- The contract of `destroy_reply`.
abbrev pub DestroyJudged : List ℕ → ℕ → Reply → Type 0
DestroyJudged s a r = (t : Policy) → number_of r ≡ first (destroy_checks (under t s) a)

-- The contract of `destroy`.
abbrev pub Destroyed : List ℕ → List ℕ → ℕ → Reply → Type 0
Destroyed s s' a r = (t : Policy) → Done sessions_of (first (destroy_checks (under t s) a)) (destroy_next (sessions_of s) a) s s' r

-- ---- 42: the contract of `activate_reply`.
abbrev pub ActivateJudged : List ℕ → List ℕ → ℕ → ℕ → Reply → Type 0
ActivateJudged p s a b r = number_of r ≡ first (activate_checks (lower_tables p s) a b)

-- The contract of `activate`.
abbrev pub Activated : List ℕ → List ℕ → List ℕ → ℕ → ℕ → Reply → Type 0
Activated p s s' a b r = Done sessions_of (first (activate_checks (lower_tables p s) a b)) (activate_next (sessions_of s) a b) s s' r

-- ---- 43: the contract of `deactivate_reply`.
abbrev pub DeactivateJudged : List ℕ → List ℕ → ℕ → ℕ → Reply → Type 0
DeactivateJudged p s a b r = number_of r ≡ first (deactivate_checks (lower_tables p s) a b)

-- The contract of `deactivate`.
abbrev pub Deactivated : List ℕ → List ℕ → List ℕ → ℕ → ℕ → Reply → Type 0
Deactivated p s s' a b r = Done sessions_of (first (deactivate_checks (lower_tables p s) a b)) (deactivate_next (sessions_of s) a b) s s' r

-- ---- 56: the checks before WALL.
abbrev pub OpenJudged : List ℕ → List ℕ → ℕ → ℕ → ℕ → Reply → Type 0
OpenJudged p s a operation object r = number_of r ≡ first (take 2 (check_checks (lower_tables p s) a operation object))

-- A reply is that of all checks. Without a reply it promises nothing.
abbrev pub QuickJudged : List ℕ → List ℕ → ℕ → ℕ → ℕ → Option Reply → Type 0
QuickJudged p s a operation object (Some r) = number_of r ≡ first (check_checks (lower_tables p s) a operation object)
QuickJudged p s a operation object None = Unit {0}

-- ---- 59, and 56, which has the same checks and changes nothing.
abbrev pub Asked : List ℕ → List ℕ → List ℕ → ℕ → ℕ → ℕ → ℕ → Reply → Type 0
Asked p s s' kind a operation object r =
    Done sessions_of (first (check_checks (lower_tables p s) a operation object)) (cond (eqb kind 56) (sessions_of s) (commit_next (lower_tables p s) a object)) s s' r
