-- `write_kept` meets its contract: after j turns the first j kept records are written.
use Rattle.opl_passes.proofs.TagLaws.{KeptPut}
use Rattle.opl_passes.proofs.write_kept.Given as goal

abbrev pub invariant-loop-j : goal.invariant-loop-j
invariant-loop-j l = KeptPut l.w l.initial.next l.initial.out l.n l.next l.out l.j
