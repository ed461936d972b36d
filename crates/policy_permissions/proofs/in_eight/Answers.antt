-- `in_eight` meets its contract: its eight tests are those of the definition.
use native.Mathlib.Omega.{arith}
use Rattle.policy_permissions.proofs.Eights.{in-eight}
use Rattle.policy_permissions.proofs.in_eight.Goals as goal

pub returns : goal.returns
returns g c row is =
    in-eight row c.args.eight
    (is _ _ (omega arith) c.test.ensures)
    (is _ _ (omega arith) c.test-2.ensures)
    (is _ _ (omega arith) c.test-3.ensures)
    (is _ _ (omega arith) c.test-4.ensures)
    (is _ _ (omega arith) c.test-5.ensures)
    (is _ _ (omega arith) c.test-6.ensures)
    (is _ _ (omega arith) c.test-7.ensures)
    (is _ _ (omega arith) c.test-8.ensures)
