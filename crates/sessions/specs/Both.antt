-- What a call does to the policy and sessions buffers, which are read together as tables.
use Rattle.std.specs.Prelude.{ℕ, List, ◌≡◌}
use Rattle.paper_lower.specs.Checks.{granted}
use Rattle.replies.specs.Replies.{Reply, number_of}

-- The reply is the given one, the tables afterwards are `next` if it is GRANTED and unchanged otherwise, and a refusal changes no word.
pub record Both {T : Type 0} (read : List ℕ → List ℕ → T) (reply : ℕ) (next : T) (p s p' s' : List ℕ) (r : Reply) : Type 0 where
  pub replies : number_of r ≡ reply
  pub tables : read p' s' ≡ granted reply next (read p s)
  pub kept : (number_of r ≡ 0 → ⊥) → (p' ≡ p) × (s' ≡ s)
