-- What a call does to a buffer that is read as tables.
use Rattle.std.specs.Prelude.{ℕ, List, ◌≡◌}
use Rattle.paper_lower.specs.Checks.{granted}
use Rattle.replies.specs.Replies.{Reply, number_of}

-- The reply is the given one, the tables afterwards are `next` if it is GRANTED and unchanged otherwise, and a refusal changes no word.
pub record Done {T : Type 0} (read : List ℕ → T) (reply : ℕ) (next : T) (l l' : List ℕ) (r : Reply) : Type 0 where
  pub replies : number_of r ≡ reply
  pub tables : read l' ≡ granted reply next (read l)
  pub kept : (number_of r ≡ 0 → ⊥) → l' ≡ l
