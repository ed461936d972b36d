-- `begin` meets its contract: the sum of the counts of the lower kinds is the place where a kind begins.
use Rattle.opl_passes.proofs.TagLaws.{BeginLeft}
use Rattle.opl_passes.proofs.begin.Given as goal

abbrev pub invariant-loop-k : goal.invariant-loop-k
invariant-loop-k l = BeginLeft l.initial.counts l.cap l.counts l.sum l.k
