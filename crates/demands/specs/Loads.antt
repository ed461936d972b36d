-- Every load by the real calls is accepted, or refused at the first record that is not accepted, with its refusal and place, exactly under the conditions of
-- theorems/specs/Records. "A load .. gives the record's place, counted from 1".
use Rattle.std.specs.Prelude.{ℕ, true, List, ◌≡◌}
use Rattle.paper_lower.specs.Records.{Bytes}
use Rattle.replies.specs.Replies.{Reply, number_of}
use Rattle.lower.specs.Answers as lower
use Rattle.lower.specs.Exports as exports
use Rattle.engine.specs.Buffers.{Buffers, fit}
use Rattle.engine.specs.Answers.{LoadDone}
use Rattle.engine.specs.Exports.{LoadExported}
use Rattle.theorems.specs.Records.{LoadedExactly}

-- The number that combines the reply and the place of the load.
abbrev pub AsOne : Bytes → ℕ → Type 0
AsOne policy number = (reply : ℕ) × (place : ℕ) × (number ≡ exports.inside_one reply place) × LoadedExactly policy reply place

-- The statement for each of the four load functions.
pub record LoadsExactly : Type 0 where
  -- The engine's load, and the exported one.
  pub engine : {policy : Bytes} {x y : Buffers} {r : Reply} {place : ℕ} → fit x ≡ true → LoadDone policy x y r place → LoadedExactly policy (number_of r) place
  pub exported : {policy : Bytes} {x y : Buffers} {number : ℕ} → fit x ≡ true → LoadExported policy x y number → AsOne policy number
  -- The lower part's load, and the exported one: "dealers build the lower part alone"
  pub dealers : {policy : Bytes} {p s p' s' : List ℕ} {r : Reply} {place : ℕ} → lower.fit p s ≡ true → lower.Loads policy p s p' s' r place
      → LoadedExactly policy (number_of r) place
  pub dealers-exported : {policy : Bytes} {p s p' s' : List ℕ} {number : ℕ} → lower.fit p s ≡ true → exports.LoadExported policy p s p' s' number → AsOne policy number
