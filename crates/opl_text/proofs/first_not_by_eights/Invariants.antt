-- `first_not_by_eights` meets its contract: it advances eight bytes at a time, and then byte by byte.
use Rattle.std.specs.Prelude.{ℕ, Bool, ◌≡◌, ◌-◌, ◌≤◌, length, drop}
use Rattle.paper_opl.specs.Reading.{behind}
use Rattle.opl_text.specs.Steps.{Implies}
use Rattle.opl_text.proofs.first_not_by_eights.Given as goal

abbrev pub invariant-loop-i : goal.invariant-loop-i
invariant-loop-i g l =
    (l.i ≤ length l.s) × ((p : ℕ → Bool) → Implies (goal.Q-post g l.quick) p → behind p (drop l.at l.s) ≡ behind p (drop l.i l.s))

abbrev pub decreases-loop-i : goal.decreases-loop-i
decreases-loop-i g l = length l.s - l.i
