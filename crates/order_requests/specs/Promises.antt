-- The contracts of requests 33, 41, 48, 49 and 58 on the buffers p (policy), s (sessions) and o (orders). `...Judged` says that the reply is that of the
-- definition's checks. The other definition of a request also says which tables it leaves, that a refusal changes no word, and that the links stay sound. If
-- a request does not depend on a buffer, its contract holds for every content of that buffer. All of this is promised for sound links. For other contents
-- only the unchanged words after a refusal are promised.
use Rattle.std.specs.Prelude.{ℕ, true, List, ◌≡◌}
use Rattle.paper_lower.specs.Checks.{first}
use Rattle.paper_upper.specs.Requests.{open_checks, open_next, end_checks, end_next, figures_checks}
use Rattle.replies.specs.Replies.{Reply, number_of}
use Rattle.replies.specs.Done.{Done}
use Rattle.sessions.specs.Both.{Both}
use Rattle.order_links.specs.Chains.{sound_of}
use Rattle.order_requests.specs.Tables.{engine_tables, delete_whole, delete_whole_next, destroy_whole, destroy_whole_next}

-- On any content a refusal changes no word, which `same` says; if the links are sound, the promise holds.
pub record AnyContent (o : List ℕ) (same promise : Type 0) (r : Reply) : Type 0 where
  pub kept : (number_of r ≡ 0 → ⊥) → same
  pub sound : sound_of o ≡ true → promise

-- ---- 33: the contract of `delete_reply`.
abbrev pub DeleteJudged : List ℕ → List ℕ → List ℕ → ℕ → Reply → Type 0
DeleteJudged p s o a r = number_of r ≡ first (delete_whole (engine_tables p s o) a)

-- The contract of `delete`.
abbrev pub Deleted : List ℕ → List ℕ → List ℕ → List ℕ → List ℕ → ℕ → Reply → Type 0
Deleted p s p' s' o a r =
    Both (λ k l. engine_tables k l o) (first (delete_whole (engine_tables p s o) a)) (delete_whole_next (engine_tables p s o) a) p s p' s' r

-- ---- 41, which does not depend on the policy.
abbrev pub DestroyJudged : List ℕ → List ℕ → ℕ → Reply → Type 0
DestroyJudged s o a r = (p : List ℕ) → number_of r ≡ first (destroy_whole (engine_tables p s o) a)

-- The contract of `destroy`.
abbrev pub Destroyed : List ℕ → List ℕ → List ℕ → ℕ → Reply → Type 0
Destroyed s s' o a r =
    (p : List ℕ) → Done (λ l. engine_tables p l o) (first (destroy_whole (engine_tables p s o) a)) (destroy_whole_next (engine_tables p s o) a) s s' r

-- ---- 48, which does not depend on the sessions.
abbrev pub OpenJudged : List ℕ → List ℕ → ℕ → ℕ → Reply → Type 0
OpenJudged p o a b r = (s : List ℕ) → number_of r ≡ first (open_checks (engine_tables p s o) a b)

-- The contract of `open_order`.
abbrev pub Opened : List ℕ → List ℕ → List ℕ → ℕ → ℕ → Reply → Type 0
Opened p o o' a b r =
    ((s : List ℕ) → Done (engine_tables p s) (first (open_checks (engine_tables p s o) a b)) (open_next (engine_tables p s o) a b) o o' r)
    × (sound_of o' ≡ true)

-- ---- 49, which does not depend on the policy and the sessions.
abbrev pub EndJudged : List ℕ → ℕ → Reply → Type 0
EndJudged o a r = (p s : List ℕ) → number_of r ≡ first (end_checks (engine_tables p s o) a)

-- The contract of `end_order`.
abbrev pub Ended : List ℕ → List ℕ → ℕ → Reply → Type 0
Ended o o' a r =
    ((p s : List ℕ) → Done (engine_tables p s) (first (end_checks (engine_tables p s o) a)) (end_next (engine_tables p s o) a) o o' r)
    × (sound_of o' ≡ true)

-- ---- 58, which does not depend on the policy and the sessions.
abbrev pub FiguresJudged : List ℕ → ℕ → Reply → Type 0
FiguresJudged o a r = (p s : List ℕ) → number_of r ≡ first (figures_checks (engine_tables p s o) a)
