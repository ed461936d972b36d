-- `same_rest` meets its contract: the rest of two texts of the same length is compared byte by byte.
use Rattle.std.specs.Prelude.{◌≡◌, drop}
use Rattle.paper_opl.specs.Reading.{same}
use Rattle.opl_text.proofs.same_rest.Given as goal

abbrev pub invariant-loop-i : goal.invariant-loop-i
invariant-loop-i l = same (drop l.from l.v) (drop l.from l.w) ≡ same (drop l.i l.v) (drop l.i l.w)
