use Rattle.std.proofs.Common.{◌≡◌}
use Rattle.scripts.specs.Lines.{spaces_in, number_in}
use Rattle.scripts.proofs.number.Given as goal

-- after some bytes, the loop has the number of spaces in them and the value of the digits so far
abbrev pub invariant-loop-b : goal.invariant-loop-b
invariant-loop-b l = record { counted : l.spaces ≡ spaces_in l.line l.b-index; value : l.x ≡ number_in l.k l.line l.b-index }
