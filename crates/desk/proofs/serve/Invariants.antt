use Rattle.std.proofs.Common.{◌-◌, ◌≤◌}
use Rattle.engine.specs.Buffers.{buffers}
use Rattle.engine.specs.Settling.{Settling}
use Rattle.desk.proofs.serve.Given as goal

-- a turn after which the loop goes on has read at least one byte and at most 4,096, so the total stays within the bound and one buffer more
abbrev pub invariant-loop-seen : goal.invariant-loop-seen
invariant-loop-seen g l = record {
  seen : l.seen ≤ 1152921504606851072;
  settled : Settling (buffers l.state.policy l.state.sessions l.state.orders);
}

abbrev pub decreases-loop-seen : goal.decreases-loop-seen
decreases-loop-seen g l = 1152921504606851072 - l.seen
