-- `mishantral_request` meets its contract: it is `request`, with reply and place in one number.
use native.Mathlib.Omega.{arith}
use Rattle.lower.proofs.Numbers.{number_small}
use Rattle.engine.proofs.PlaceLaws.{requested-small}
use Rattle.engine.proofs.mishantral_request.Goals as goal

pub overflow_mul-result : goal.overflow_mul-result
overflow_mul-result c = omega (arith, requested-small c.request-outcome.ensures, c.place.ensures)

pub overflow_add-result : goal.overflow_add-result
overflow_add-result c =
    omega (arith, requested-small c.request-outcome.ensures, c.place.ensures, number_small c.reply.result, c.number.ensures)
