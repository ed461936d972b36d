-- `raise` meets its contract. The invariant of the loop: the rows before r are those of the result. Then the pair of the record is stored.
use mathlib.Core.Path.{◌≡◌}
use Rattle.policy.specs.Reading.{policy_of}
use Rattle.policy_seniors.specs.Rows.{lowered_to}
use Rattle.policy_seniors.proofs.raise.Given as goal

abbrev pub invariant-loop-r : goal.invariant-loop-r
invariant-loop-r l = policy_of l.p ≡ lowered_to (policy_of l.initial.p) l.r l.a l.under.bits
