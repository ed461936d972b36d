-- `pick` meets its contract: the search goes from place to place.
use Rattle.std.proofs.Common.{◌≡◌, ◌-◌}
use Rattle.opl_table.specs.Found.{place_of}
use Rattle.opl_table.proofs.pick.Given as goal

abbrev pub invariant-loop-k : goal.invariant-loop-k
invariant-loop-k l = place_of l.v l.from (l.end - l.from) ≡ place_of l.v l.k (l.end - l.k)
