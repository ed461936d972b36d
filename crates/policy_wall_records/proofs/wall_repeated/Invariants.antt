-- `wall_repeated` meets its contract: a loop over the rows kept. Its invariant: the test holds for some row exactly if it holds for some row from k on.
use mathlib.Core.Path.{◌≡◌}
use Prim.Native.Nat.{◌-◌}
use Rattle.paper_lower.specs.Lists.{some}
use Rattle.paper_lower.specs.Policy.{same_walled}
use Rattle.policy.specs.Layout.{walled_at}
use Rattle.policy.specs.Reading.{policy_of}
use Rattle.replies.specs.Cells.{rows_from}
use Rattle.policy_wall_records.proofs.wall_repeated.Given as goal

abbrev pub invariant-loop-k : goal.invariant-loop-k
invariant-loop-k l = some (same_walled l.a l.b l.c) (policy_of l.p).walls ≡ some (same_walled l.a l.b l.c) (rows_from (walled_at l.p) l.k (l.count - l.k))
