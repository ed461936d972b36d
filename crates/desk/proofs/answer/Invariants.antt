use Rattle.std.proofs.Common.{◌*◌, ◌≤◌}
use Rattle.engine.specs.Buffers.{buffers}
use Rattle.engine.specs.Settling.{Settling}
use Rattle.desk.proofs.answer.Given as goal

-- each record adds at most 63 bytes, and a block has at most 256 records; each request leaves the links sound
abbrev pub invariant-loop-i : goal.invariant-loop-i
invariant-loop-i l = record { written : l.to ≤ l.i * 63; settled : Settling (buffers l.policy l.sessions l.orders) }
