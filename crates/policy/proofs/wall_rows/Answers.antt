-- `wall_rows` meets its contract: it reads the word of the object's bucket.
use mathlib.Core.Path.{sym, ap, ◌∙◌}
use Rattle.replies.proofs.CellLaws.{column-at}
use Rattle.policy.specs.Layout.{table_in, wall_bucket_table, wall_rows}
use Rattle.policy.proofs.wall_rows.Goals as goal

pub returns : goal.returns
unfolding wall_rows
returns c =
    let args = c.args in
    sym (column-at _ _ _ _ _ _ c.wall_word.ensures.1) ∙ ap (table_in wall_bucket_table args.p.now) c.wall_word.ensures.0
