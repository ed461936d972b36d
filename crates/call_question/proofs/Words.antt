-- The words of an answer of two words.
use Prim.Native.Nat.{ℕ}
use mathlib.Core.List.{[], ◌∷◌}
use mathlib.Core.Path.{◌≡◌, refl}
use lib.ListN.{set, replicate}
use Rattle.paper_upper.specs.Questions.{answer_words, padded}

-- An answer of two words.
pub two-words : (a b : ℕ) → set (set (replicate answer_words 0) 0 a) 1 b ≡ padded (a ∷ b ∷ [])
unfolding padded
two-words a b = refl
