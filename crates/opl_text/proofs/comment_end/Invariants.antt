-- `comment_end` meets its contract: it advances byte by byte. Two hyphens must be followed by ">", and a control byte is refused.
use Rattle.std.specs.Prelude.{◌≡◌, drop}
use Rattle.paper_opl.specs.Reading.{comment}
use Rattle.opl_text.proofs.comment_end.Given as goal

abbrev pub invariant-loop-i : goal.invariant-loop-i
invariant-loop-i l = comment (drop l.at l.s) ≡ comment (drop l.i l.s)
