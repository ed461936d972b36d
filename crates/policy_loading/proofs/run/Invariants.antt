-- `run` meets its contract. The invariant of the loop: loading the bytes that are left into
-- the current tables gives the same as loading all bytes into the tables at the start.
use Prim.Native.Nat.{◌+◌, ◌*◌, ◌/◌}
use mathlib.Core.Path.{◌≡◌}
use lib.ListN.{length}
use Rattle.paper_lower.specs.Load.{load_on}
use Rattle.policy.specs.Reading.{policy_of}
use Rattle.policy_loading.proofs.run.Given as goal

abbrev pub invariant-loop-passed : goal.invariant-loop-passed
invariant-loop-passed l = record {
  size : l.passed-iterator.iter.size ≡ 16;
  left : 16 * l.passed-iterator.count + length l.passed-iterator.iter.rest.now ≡ length l.bytes;
  same :
      load_on (length l.passed-iterator.iter.rest.now / 16) (l.passed-iterator.count + 1) l.passed-iterator.iter.rest.now (policy_of l.p) ≡
      load_on (length l.bytes / 16) 1 l.bytes (policy_of l.initial.p);
}
