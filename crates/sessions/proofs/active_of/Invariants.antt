-- `active_of` meets its contract. The invariant of the loop: the set is the union of the active roles of user u's subjects below a.
use mathlib.Core.Bool.{cond}
use mathlib.Core.Path.{◌≡◌}
use Rattle.paper_lower.specs.Roles.{subject_of}
use Rattle.paper_lower.specs.Sets.{empty, union_below}
use Rattle.sessions.specs.Reading.{sessions_of}
use Rattle.sessions.proofs.active_of.Given as goal

abbrev pub invariant-loop-a : goal.invariant-loop-a
invariant-loop-a l = l.all.bits ≡ union_below l.a (λ k. cond (subject_of (sessions_of l.s) l.u k) ((sessions_of l.s).active k) empty)
