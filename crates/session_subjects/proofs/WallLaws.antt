-- Laws for requests 56 and 59: without walls WALL does not apply, the test and the store
-- of a commit are those of the definition, and the checks before WALL.
use Prim.Native.Nat.{ℕ}
use mathlib.Core.Bool.{Bool, true, false, not, cond}
use mathlib.Core.List.{List, []}
use mathlib.Core.Path.{◌≡◌, refl, sym, ap, ap₂, ◌∙◌}
use native.Mathlib.Omega.{arith}
use lib.ListN.{take}
use Rattle.paper_lower.specs.Checks.{first, UNKNOWN, DENIED, WALL}
use Rattle.paper_lower.specs.Lists.{Maybe, some_number_below, holds}
use Rattle.paper_lower.specs.Tables.{Walled, Lower}
use Rattle.paper_lower.specs.Policy.{block_of, down}
use Rattle.paper_lower.specs.Sessions.{allowed, wall_between, check_checks, commit_next}
use Rattle.replies.specs.Cells.{rows, rows_from}
use Rattle.replies.specs.Replies.{refusal_number}
use Rattle.replies.specs.declared.Refusal.{Refusal}
use Rattle.replies.proofs.ReplyLaws.{not-granted}
use Rattle.policy.specs.Layout.{wall_count, walled_at}
use Rattle.policy.specs.Reading.{policy_of}
use Rattle.policy.proofs.RuleLaws.{walls-are}
use Rattle.blocks.specs.Reading.{over, apart}
use Rattle.sessions.specs.Reading.{bound_anew}
use Rattle.sessions.specs.Lower.{lower_tables}

nobody : (f : ℕ → Maybe ℕ) (object : ℕ) → some_number_below 16 (apart (block_of [] object) f) ≡ false
unfolding some_number_below holds block_of
nobody f object = refl

pub no_walls : (p s : List ℕ) (u object : ℕ) → wall_count p ≡ 0 → wall_between (lower_tables p s) u object ≡ false
unfolding wall_between rows_from
no_walls p s u object e =
    let none : (policy_of p).walls ≡ [] = walls-are p ∙ ap (λ (n : ℕ). rows (walled_at p) n) e in
    ap (λ (x : List Walled). some_number_below 16 (apart (block_of x object) ((lower_tables p s).sessions.bound_to u))) none ∙
    nobody ((lower_tables p s).sessions.bound_to u) object

pub walls-between : (t : Lower) (u object : ℕ) (f g : ℕ → Maybe ℕ) → f ≡ block_of t.policy.walls object → g ≡ t.sessions.bound_to u
    → some_number_below 16 (apart f g) ≡ wall_between t u object
unfolding wall_between
walls-between t u object f g d e = ap₂ (λ (x y : ℕ → Maybe ℕ). some_number_below 16 (apart x y)) d e

-- The same for the user of a subject.
pub walls-of-user : (t : Lower) (a object u : ℕ) (f g : ℕ → Maybe ℕ) → u ≡ t.sessions.user a → f ≡ block_of t.policy.walls object → g ≡ t.sessions.bound_to u
    → some_number_below 16 (apart f g) ≡ wall_between t (t.sessions.user a) object
walls-of-user t a object u f g e d k = walls-between t u object f g d k ∙ ap (λ (n : ℕ). wall_between t n object) e

pub committed : (t : Lower) (a object u : ℕ) (f g h : ℕ → Maybe ℕ) → u ≡ t.sessions.user a → f ≡ block_of t.policy.walls object →
    g ≡ t.sessions.bound_to u → h ≡ over f g
    → bound_anew t.sessions u h ≡ commit_next t a object
unfolding commit_next
committed t a object u f g h e d k m =
    ap (bound_anew t.sessions u) (m ∙ ap₂ over d k)
    ∙ ap (λ (n : ℕ). bound_anew t.sessions n (over (block_of t.policy.walls object) (t.sessions.bound_to n))) e

-- Whether none of the subject's roles, or of the roles below them, has a permission for this operation on this object.
abbrev shut : Lower → ℕ → ℕ → ℕ → Bool
shut t a operation object = not (allowed t.policy.permissions (down t.policy.seniority (t.sessions.active a)) operation object)

-- ---- The checks before WALL: the reply to all checks if one of them refuses, and if they are passed.
module _ (t : Lower) (a operation object : ℕ) where
  pub stopped : (e : Refusal) → refusal_number e ≡ first (take 2 (check_checks t a operation object)) → refusal_number e ≡ first (check_checks t a operation object)
  unfolding check_checks
  stopped e q = q ∙ go (not (t.sessions.live a)) (shut t a operation object) (λ z. not-granted e (q ∙ z))
    where
      go : (x y : Bool) → (cond x UNKNOWN (cond y DENIED 0) ≡ 0 → ⊥)
          → cond x UNKNOWN (cond y DENIED 0) ≡ cond x UNKNOWN (cond y DENIED (cond (wall_between t (t.sessions.user a) object) WALL 0))
      go true y h = refl
      go false true h = refl
      go false false h = absurd (h refl)

  pub walled : {wall : Bool} → 0 ≡ first (take 2 (check_checks t a operation object)) → wall ≡ wall_between t (t.sessions.user a) object
      → first (check_checks t a operation object) ≡ cond wall WALL 0
  unfolding check_checks
  walled {wall} q w = rw (← w) (go (not (t.sessions.live a)) (shut t a operation object) (sym q))
    where
      go : (x y : Bool) → cond x UNKNOWN (cond y DENIED 0) ≡ 0 → cond x UNKNOWN (cond y DENIED (cond wall WALL 0)) ≡ cond wall WALL 0
      go true y h = absurd (omega arith)
      go false true h = absurd (omega arith)
      go false false h = refl
