-- `mark` meets its contract: it takes four bytes at a time, and then the rest.
use Rattle.std.specs.Prelude.{◌≡◌, ◌<◌}
use Rattle.opl_names.specs.Table.{mark_to}
use Rattle.opl_names.proofs.mark.Given as goal

abbrev pub invariant-loop-k : goal.invariant-loop-k
invariant-loop-k l = (l.h < 1099511627776) × (l.h ≡ mark_to l.name l.k)
