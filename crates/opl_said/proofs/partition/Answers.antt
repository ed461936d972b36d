-- `partition` meets its contract: a partitioning has a number below 16; otherwise there is no record.
use native.Mathlib.Omega.{arith}
use Rattle.opl_said.proofs.FormLaws.{partition-inner, few-tasks}
use Rattle.opl_said.proofs.partition.Goals as goal

pub of_set-requires : goal.of_set-requires
of_set-requires c =
    let pre = c.requires in
    (pre.0, ((omega arith, omega (arith, c.if-number-ge-MOST.false)), (pre.1, (partition-inner, (omega arith, few-tasks)))))
