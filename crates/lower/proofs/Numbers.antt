-- The number of a reply is at most 24, so that a reply and a place fit one number of 64 bits.
use Prim.Native.Nat.{◌≤◌}
use native.Mathlib.Omega.{arith}
use Rattle.std.specs.Prelude.{Ok, Err}
use Rattle.replies.specs.Replies.{Reply, number_of}
use Rattle.replies.specs.declared.Refusal.TheVariants.{Room, Shape, Range, Unknown, Taken, InUse, Rule, NotAssigned, Static, Dynamic, NoRole, NotYours, Denied, Before, Separation, Block, Alone, Bound, Count, Full, Loop, Wall}

pub number_small : (r : Reply) → number_of r ≤ 24
number_small (Ok _) = omega arith
number_small (Err Room) = omega arith
number_small (Err Shape) = omega arith
number_small (Err Range) = omega arith
number_small (Err Unknown) = omega arith
number_small (Err Taken) = omega arith
number_small (Err InUse) = omega arith
number_small (Err Rule) = omega arith
number_small (Err NotAssigned) = omega arith
number_small (Err Static) = omega arith
number_small (Err Dynamic) = omega arith
number_small (Err NoRole) = omega arith
number_small (Err NotYours) = omega arith
number_small (Err Denied) = omega arith
number_small (Err Before) = omega arith
number_small (Err Separation) = omega arith
number_small (Err Block) = omega arith
number_small (Err Alone) = omega arith
number_small (Err Bound) = omega arith
number_small (Err Count) = omega arith
number_small (Err Full) = omega arith
number_small (Err Loop) = omega arith
number_small (Err Wall) = omega arith
