-- Checks that several kinds of rules share: those of kinds 9, 10 and 11, and those of kinds 15 and 16.
use Rattle.std.specs.Prelude.{ℕ, Bool, not, ◌||◌, List, [], ◌∷◌, eqb, leb}
use Rattle.paper_lower.specs.Sets.{Set, within}
use Rattle.paper_lower.specs.Lists.{there, some, many}
use Rattle.paper_lower.specs.Checks.{Check, UNKNOWN, TAKEN, RULE, STATIC, FULL}
use Rattle.paper_lower.specs.Tables.{Policy}
use Rattle.paper_lower.specs.Policy.{together, same_limit}
use Rattle.policy.specs.Reading.{limit_rows_of, pairs_of}

-- The checks of a set: the members must be in `known`; `ill` says that the rule is ill made; `over` that a user already has more than n of the members.
unfoldable pub limit_checks : Policy → ℕ → Set → Bool → Bool → ℕ → Set → List Check
limit_checks p which known ill over n m =
    (not (within m known), UNKNOWN)
    ∷ (some (same_limit n m) (limit_rows_of p.rules which), TAKEN)
    ∷ (ill, RULE)
    ∷ (over, STATIC)
    ∷ (leb 32 (many (limit_rows_of p.rules which)), FULL)
    ∷ []

-- The checks of a pair; `repeated` says that the policy already has it.
unfoldable pub pair_checks : Policy → ℕ → Bool → ℕ → ℕ → List Check
pair_checks p which repeated a b =
    (not (there (p.tasks.template a)) || not (there (p.tasks.template b)), UNKNOWN)
    ∷ (repeated, TAKEN)
    ∷ (eqb a b || not (together p.tasks a b), RULE)
    ∷ (leb 64 (many (pairs_of p.rules which)), FULL)
    ∷ []
