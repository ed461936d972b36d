-- `next` meets its contract. The invariant of the loop: mending the rest of the file from record i on, with
-- the current output and tables, gives the same result as from `place` on with those at the start.
use mathlib.Core.Path.{◌≡◌}
use Rattle.policy.specs.Reading.{policy_of}
use Rattle.policy_mending.specs.Rest.{rest_from}
use Rattle.policy_mending.proofs.next.Given as goal

abbrev pub invariant-loop-i : goal.invariant-loop-i
invariant-loop-i l = rest_from l.i l.dropped l.input l.output (policy_of l.p) ≡ rest_from l.place l.dropped l.input l.initial.output (policy_of l.initial.p)
