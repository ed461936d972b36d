-- The number of entries in use, counted from the requests and replies since the load.
use Rattle.std.specs.Prelude.{ℕ, ◌+◌, ◌-◌, List, [], ◌∷◌}
use Rattle.paper_lower.specs.Lists.{upd}
use Rattle.paper_lower.specs.Records.{Record}
use Rattle.paper_lower.specs.Kinds.{Kind, on, chosen, Said}
use Rattle.theorems.specs.Outside.{followed}

-- The counts.
pub record Tally : Type 0 where
  -- The granted claims and the granted releases.
  pub claims : ℕ
  pub releases : ℕ
  -- For each instance: its granted claims less its granted releases since it was last opened.
  pub since : ℕ → ℕ
  -- The sum of these numbers over all granted ends.
  pub ended : ℕ

-- The counts with these parts.
abbrev pub tally : ℕ → ℕ → (ℕ → ℕ) → ℕ → Tally
tally claims releases since ended = record { claims = claims; releases = releases; since = since; ended = ended }

-- The counts after a load.
unfoldable pub no_tally : Tally
no_tally = tally 0 0 (λ _. 0) 0

-- A kind that changes the counts by f.
abbrev pub counts : ℕ → (Tally → Record → Tally) → Kind Tally
counts k f = on k (λ x r. []) f

-- What a granted record of each kind changes: open, end, claim, release. Other kinds change nothing.
unfoldable pub counting : List (Kind Tally)
counting =
    counts 48 (λ x r. tally x.claims x.releases (upd x.since r.a 0) x.ended)
    ∷ counts 49 (λ x r. tally x.claims x.releases x.since (x.ended + x.since r.a))
    ∷ counts 50 (λ x r. tally (x.claims + 1) x.releases (upd x.since r.b (x.since r.b + 1)) x.ended)
    ∷ counts 51 (λ x r. tally x.claims (x.releases + 1) (upd x.since r.b (x.since r.b - 1)) x.ended)
    ∷ []

-- The counts after a granted record.
unfoldable pub count : Tally → Record → Tally
count x r = (chosen counting r.kind).next x r

-- "The entries in use number the granted claims, less the granted releases, less, for each granted end, that instance's granted claims
-- less its granted releases since it was last opened; all read from the requests and replies since the load."
unfoldable pub is_in_use : List Said → ℕ
is_in_use ys = let x = followed count no_tally ys in x.claims - x.releases - x.ended
