-- `empty_all` meets its contract: each space is emptied without changing those before it; then the list of tags is emptied.
use Rattle.opl_naming.proofs.NamingLaws.{EmptyLeft}
use Rattle.opl_naming.proofs.empty_all.Given as goal

abbrev pub invariant-loop-i : goal.invariant-loop-i
invariant-loop-i l = EmptyLeft l.initial.w l.w l.i
