-- A change of the sessions buffer alone, or of neither buffer, as a step (`Stepped`) of both. Also what the proof of `step` unfolds.
use Prim.Native.Nat.{ℕ, zero, suc}
use mathlib.Core.List.{List}
use mathlib.Core.Path.{◌≡◌, refl, ap}
use Rattle.paper_lower.specs.Checks.{granted}
use Rattle.paper_lower.specs.Kinds.{chosen}
use Rattle.paper_lower.specs.Roles.{role_kinds}
use Rattle.paper_lower.specs.Sessions.{lower_kinds, session_kinds}
use Rattle.paper_lower.specs.Tables.{Sessions, Lower, with_sessions}
use Rattle.records.specs.Limits.{limits_open}
use Rattle.replies.specs.Replies.{Reply, number_of}
use Rattle.replies.specs.Done.{Done}
use Rattle.policy.specs.Reading.{policy_of}
use Rattle.sessions.specs.Reading.{sessions_of}
use Rattle.sessions.specs.Lower.{lower_tables}
use Rattle.lower.specs.Stepped.{Stepped}

-- Unfolds what the kinds and their limits are computed from, for `step`.
unfoldable pub step_open : Unit {0}
unfolding chosen lower_kinds role_kinds session_kinds limits_open
step_open = tt

-- If one table is `next` or the old one, as the reply says, so are the tables of the lower part that contain it.
lift : {T : Type 0} (put : T → Lower) (k : ℕ) (next old : T) {new : T} → new ≡ granted k next old → put new ≡ granted k (put next) (put old)
lift put zero next old e = ap put e
lift put (suc k) next old e = ap put e

module _ {p s : List ℕ} {reply : ℕ} {r : Reply} where
  pub of_sessions : {s' : List ℕ} {next : Sessions} → Done sessions_of reply next s s' r → Stepped reply (with_sessions (lower_tables p s) next) p s p s' r
  of_sessions {s'} {next} d =
      record {
        replies = d.replies;
        tables = lift (λ x. record { policy = policy_of p; sessions = x }) reply next (sessions_of s) d.tables;
        kept = λ h. (refl, d.kept h);
      }

  pub of-neither : number_of r ≡ reply → Stepped reply (lower_tables p s) p s p s r
  of-neither e = record { replies = e; tables = same reply; kept = λ h. (refl, refl) }
    where
      same : (k : ℕ) → lower_tables p s ≡ granted k (lower_tables p s) (lower_tables p s)
      same zero = refl
      same (suc k) = refl
