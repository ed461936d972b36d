-- `expect` meets its contract: it compares the literal byte by byte, and refuses at the first byte that differs.
use Rattle.std.specs.Prelude.{◌≡◌, ◌+◌, ◌≤◌, length, drop}
use Rattle.paper_opl.specs.Reading.{expect as expect_of}
use Rattle.opl_text.proofs.expect.Given as goal

abbrev pub invariant-loop-i : goal.invariant-loop-i
invariant-loop-i l = (l.at + l.i ≤ length l.s) × (expect_of l.w (drop l.at l.s) ≡ expect_of (drop l.i l.w) (drop (l.at + l.i) l.s))
