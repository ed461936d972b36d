use Rattle.std.proofs.Common.{ℕ, ◌<◌, ◌≤◌, ◌≡◌, get_or}
use Rattle.scripts.proofs.line_end.Given as goal

-- no byte before the index is a newline
abbrev pub invariant-loop-i : goal.invariant-loop-i
invariant-loop-i l = record {
  begins : l.at ≤ l.i;
  inside : (k : ℕ) → k < l.i → l.at ≤ k → get_or l.text k 0 ≡ 10 → ⊥;
}
