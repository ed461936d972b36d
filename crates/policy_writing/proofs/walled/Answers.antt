-- `walled` meets its contract: it writes the numbers of the row, of the object the lowest two bytes.
use native.Mathlib.Omega.{arith}
use Rattle.paper_lower.specs.Written.{when}
use Rattle.policy_writing.proofs.Laws.{as_row, same_bytes, cut-third}
use Rattle.policy_writing.proofs.walled.Goals as goal

pub returns : goal.returns
unfolding when
returns c =
    let walled-wall = c.walled_wall-a in
    let walled-block = c.walled_block-b in
    let walled-object = c.walled_object-c in
    as_row 1 (same_bytes c.put.ensures (cut-third 18 0 _ _ walled-object.result 0))
    (rw (walled-wall.ensures.0, walled-block.ensures.0, walled-object.ensures.0)) (omega arith)
