-- `first_not` meets its contract: it advances while the byte passes.
use Rattle.std.specs.Prelude.{ℕ, Bool, ◌≡◌, drop}
use Rattle.paper_opl.specs.Reading.{behind}
use Rattle.opl_text.specs.Steps.{Decides}
use Rattle.opl_text.proofs.first_not.Given as goal

abbrev pub invariant-loop-i : goal.invariant-loop-i
invariant-loop-i g l = (l.end ≡ l.i) × ((p : ℕ → Bool) → Decides (goal.F-post g l.passes) p → behind p (drop l.at l.s) ≡ behind p (drop l.i l.s))
