-- The loop in `mishantral_mend`: what is written so far, and what is left to do, together make the whole answer (Going.antt). What is left to report gets less.
use lib.ListN.{length}
use Rattle.call_mend.proofs.Going.{Now, Going, left-of}
use Rattle.call_mend.proofs.mishantral_mend.Given as goal

abbrev pub invariant-loop-d : goal.invariant-loop-d
invariant-loop-d l =
    let first : Now = record { place = 0; k = 0; out = l.fn.output; ys = l.fn.report; p = l.fn.policy; s = l.fn.sessions; o = l.fn.orders } in
    let now : Now = record { place = l.place; k = l.k; out = l.output; ys = l.report; p = l.policy; s = l.sessions; o = l.orders } in
    Going l.input l.room first (length (left-of l.input l.room first now).report) now

abbrev pub decreases-loop-d : goal.decreases-loop-d
decreases-loop-d l =
    let first : Now = record { place = 0; k = 0; out = l.fn.output; ys = l.fn.report; p = l.fn.policy; s = l.fn.sessions; o = l.fn.orders } in
    let now : Now = record { place = l.place; k = l.k; out = l.output; ys = l.report; p = l.policy; s = l.sessions; o = l.orders } in
    length (left-of l.input l.room first now).report
