-- The table of roles below each role, while one role is put above another.
use Rattle.std.specs.Prelude.{ℕ, cond, ◌||◌, eqb, ltb}
use Rattle.paper_lower.specs.Sets.{Set, has, union}
use Rattle.paper_lower.specs.Tables.{Policy, Seniority, with_seniority}
use Rattle.policy.specs.Reading.{below_anew}

-- The roles below role r after the roles `under` were put below role a.
abbrev pub lowered : Seniority → ℕ → Set → ℕ → Set
lowered s a under r = cond (eqb r a || has (s.below r) a) (union (s.below r) under) (s.below r)

-- The policy with row r changed so.
abbrev pub lowered_at : Policy → ℕ → ℕ → Set → Policy
lowered_at t r a under = below_anew t r (lowered t.seniority a under r)

-- The policy with all rows before r changed so.
abbrev pub lowered_to : Policy → ℕ → ℕ → Set → Policy
lowered_to t r a under =
    with_seniority t (record { juniors = t.seniority.juniors; below = λ k. cond (ltb k r) (lowered t.seniority a under k) (t.seniority.below k) })
