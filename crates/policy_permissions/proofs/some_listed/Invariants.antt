-- `some_listed` meets its contract: it tests the two rows and then the groups. The invariant of
-- the loop: the test holds for a row that w lists exactly if it holds for a row of one of the groups that are left.
use Prim.Native.Nat.{ℕ, ◌<◌}
use mathlib.Core.Bool.{Bool, ◌||◌}
use mathlib.Core.Path.{◌≡◌}
use Rattle.policy.specs.Layout.{eights_in}
use Rattle.policy_permissions.specs.Rows.{Computes, in_two, in_eights}
use Rattle.policy_permissions.proofs.some_listed.Given as goal

abbrev pub invariant-loop-eight : goal.invariant-loop-eight
invariant-loop-eight g l =
    ((row : ℕ → Bool) → Computes (goal.F-post g l.test) row → (in_two row l.w || in_eights (eights_in l.w) row) ≡ in_eights l.left.bits row) ×
    (l.left.bits < 4294967296)

abbrev pub decreases-loop-eight : goal.decreases-loop-eight
decreases-loop-eight g l = l.left.bits
