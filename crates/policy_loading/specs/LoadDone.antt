-- The contract of a load, for any bytes and any buffer; and the state in which the records leave the buffer, before a refused load empties it.
use Rattle.std.specs.Prelude.{ℕ, List, ◌≡◌, length}
use Rattle.paper_lower.specs.Checks.{ROOM, granted}
use Rattle.paper_lower.specs.Records.{Bytes}
use Rattle.paper_lower.specs.Tables.{Policy, no_policy}
use Rattle.paper_lower.specs.Load.{Loaded, load}
use Rattle.replies.specs.Replies.{Reply, number_of}
use Rattle.policy.specs.Layout.{policy_words}
use Rattle.policy.specs.Reading.{policy_of, Cleared}

-- The answer to a load whose records left the tables t: "a refused one leaves it empty"
abbrev pub leaves : Reply → ℕ → Policy → Loaded
leaves r place t = record { reply = number_of r; place = place; tables = granted (number_of r) t no_policy }

-- The contract of `load`.
pub record LoadDone (bytes : Bytes) (l l' : List ℕ) (r : Reply) (place : ℕ) : Type 0 where
  -- Reply, place and tables are those of the definition, whatever the buffer contained.
  pub answers : length l ≡ policy_words → record { reply = number_of r; place = place; tables = policy_of l' } ≡ load bytes
  -- After a refused load every word is 0.
  pub emptied : length l ≡ policy_words → (number_of r ≡ 0 → ⊥) → Cleared l'
  -- "a lent state buffer has not its fixed length; nothing is written, place 0"
  pub room : (length l ≡ policy_words → ⊥) → (number_of r ≡ ROOM) × ((place ≡ 0) × (l' ≡ l))
