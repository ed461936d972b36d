-- `find_marked` meets its contract: it searches one bucket, from its newest number down.
use Rattle.opl_names.specs.Table.{bucket_of}
use Rattle.opl_names.proofs.TableLaws.{Walking}
use Rattle.opl_names.proofs.find_marked.Given as goal

abbrev pub invariant-loop-next : goal.invariant-loop-next
invariant-loop-next l = Walking l.s l.n l.t l.name (bucket_of l.n l.m) l.next

abbrev pub decreases-loop-next : goal.decreases-loop-next
decreases-loop-next l = l.next
