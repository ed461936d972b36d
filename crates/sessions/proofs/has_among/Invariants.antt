-- `has_among` meets its contract. The invariant of the loop: there were hits exactly
-- if one of the first a subjects from `from` on is live and belongs to user u.
use Prim.Native.Nat.{◌+◌, ◌≤◌}
use mathlib.Core.Path.{◌≡◌}
use lib.Dec.{ltb}
use Rattle.paper_lower.specs.Lists.{some_number_below}
use Rattle.paper_lower.specs.Roles.{subject_of}
use Rattle.sessions.specs.Reading.{sessions_of}
use Rattle.sessions.proofs.has_among.Given as goal

abbrev pub invariant-loop-a : goal.invariant-loop-a
invariant-loop-a l = (l.hits ≤ l.a) × (ltb 0 l.hits ≡ some_number_below l.a (λ k. subject_of (sessions_of l.s) l.u (l.from + k)))
