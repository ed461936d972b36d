-- The contracts of requests 50 to 52 and 57 on the buffers p (policy), s (sessions) and o (orders). `...Judged` says that the reply is that of the
-- definition's checks. The other definition of a request also says which tables it leaves, that a refusal changes no word, and that the links stay sound. All
-- of this is promised for sound links. For other contents it is promised that a refusal changes no word, and that a place is at most 64.
use Rattle.std.specs.Prelude.{ℕ, ◌<◌, true, false, List, ◌≡◌, Option, MatchOption}
use Rattle.paper_lower.specs.Lists.Maybe.{just}
use Rattle.paper_lower.specs.Checks.{first, granted}
use Rattle.paper_upper.specs.Orders.{Engine, SameTables}
use Rattle.paper_upper.specs.Requests.{unknown, claim_checks, claim_place, claim_next, hold_checks, release_next, done_next, task_check_checks}
use Rattle.replies.specs.Replies.{Reply, number_of, Outcome, outcome_number, outcome_place}
use Rattle.replies.specs.Done.{Done}
use Rattle.order_links.specs.Chains.{sound_of}
use Rattle.order_rules.specs.Judging.{Verdict}
use Rattle.order_requests.specs.Tables.{engine_tables}

-- Nothing is unknown: subject a is live, instance b is open, and j is its template, which has task c.
pub record KnownTemplate (t : Engine) (a b c j : ℕ) : Type 0 where
  pub known : unknown t a b c ≡ false
  pub template : t.orders.opened b ≡ just j
  pub small : j < 16

-- The template is given exactly if nothing is unknown.
abbrev pub Known : Engine → ℕ → ℕ → ℕ → Option ℕ → Type 0
Known t a b c r = MatchOption r (unknown t a b c ≡ true) (KnownTemplate t a b c)

-- ---- 50: the contract of `claim_reply`.
abbrev pub ClaimJudged : List ℕ → List ℕ → List ℕ → ℕ → ℕ → ℕ → Outcome → Type 0
ClaimJudged p s o a b c j = Verdict (claim_checks (engine_tables p s o) a b c) (claim_place (engine_tables p s o) a b c) j

-- The same, and the tables afterwards, with the new entry as the newest of its instance. The place is that of 02, Ask 2.
pub record Claimed (p s o o' : List ℕ) (a b c : ℕ) (j : Outcome) : Type 0 where
  pub replies : outcome_number j ≡ first (claim_checks (engine_tables p s o) a b c)
  pub places : outcome_place j ≡ claim_place (engine_tables p s o) a b c (first (claim_checks (engine_tables p s o) a b c))
  pub tables : SameTables (engine_tables p s o') (granted (first (claim_checks (engine_tables p s o) a b c)) (claim_next (engine_tables p s o) a b c) (engine_tables p s o))
  pub kept : (outcome_number j ≡ 0 → ⊥) → o' ≡ o
  pub sound : sound_of o' ≡ true

-- ---- 51 and 52: the reply of their checks, which task checks share.
abbrev pub HoldJudged : List ℕ → List ℕ → List ℕ → ℕ → ℕ → ℕ → Reply → Type 0
HoldJudged p s o a b c r = number_of r ≡ first (hold_checks (engine_tables p s o) a b c)

-- The contract of `release`.
abbrev pub Released : List ℕ → List ℕ → List ℕ → List ℕ → ℕ → ℕ → ℕ → Reply → Type 0
Released p s o o' a b c r =
    Done (engine_tables p s) (first (hold_checks (engine_tables p s o) a b c)) (release_next (engine_tables p s o) a b c) o o' r
    × (sound_of o' ≡ true)

-- The contract of `finish`.
abbrev pub Finished : List ℕ → List ℕ → List ℕ → List ℕ → ℕ → ℕ → ℕ → Reply → Type 0
Finished p s o o' a b c r =
    Done (engine_tables p s) (first (hold_checks (engine_tables p s o) a b c)) (done_next (engine_tables p s o) a b c) o o' r
    × (sound_of o' ≡ true)

-- ---- 57: the contract of `task_check_reply`.
abbrev pub TaskCheckJudged : List ℕ → List ℕ → List ℕ → ℕ → ℕ → ℕ → ℕ → Reply → Type 0
TaskCheckJudged p s o a b c m r = number_of r ≡ first (task_check_checks (engine_tables p s o) a b c m)
