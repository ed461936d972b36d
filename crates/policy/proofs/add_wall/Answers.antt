-- `add_wall` meets its contract: it stores the new row after the rows kept, its bit in the bucket of its object, and the number of rows kept, one higher.
use mathlib.Core.Path.{ap, ◌∙◌}
use Prim.Native.Nat.{◌%◌}
use native.Mathlib.Omega.{arith}
use Rattle.paper_lower.specs.Sets.{plus}
use Rattle.policy.proofs.AddLaws.{wall-added}
use Rattle.policy.proofs.add_wall.Goals as goal

pub returns : goal.returns
returns c =
    let pre = c.requires in
    let wall-count = c.wall_count-k in
    rw c.wall_word-word.ensures.0 (wall-added _ c.told-p wall-count.result _ _ _ _ pre.0 pre.1.0 pre.1.1.0 (omega arith)
    wall-count.ensures.0 (c.with-rows.ensures ∙ ap (λ m. plus m (wall-count.result % 64)) c.wall_rows.ensures))
