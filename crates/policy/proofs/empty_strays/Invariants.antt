-- `empty_strays` meets its contract: a loop over the rows of the group. Its invariant: the rows
-- passed so far that the bucket does not list are emptied if they have a pair of the bucket.
use Rattle.policy.specs.Reading.{Tidied}
use Rattle.policy.proofs.empty_strays.Given as goal

abbrev pub invariant-loop-b : goal.invariant-loop-b
invariant-loop-b l = Tidied l.initial.p l.eight l.bucket l.b l.p
