use Rattle.std.proofs.Common.{◌≤◌}
use Rattle.cases.proofs.filled.Given as goal

-- the count of granted claims is at most the number of turns
abbrev pub invariant-loop-turn : goal.invariant-loop-turn
invariant-loop-turn l = l.granted ≤ l.turn
