-- The contracts of the functions that C and Rust link. The answers are the same, as one number: the reply plus 256 times the place.
use Rattle.std.specs.Prelude.{ℕ, ◌+◌, ◌*◌, ◌%◌, true, false, cond, List, ◌≡◌, eqb, get_or}
use Rattle.paper_lower.specs.Records.{Bytes}
use Rattle.policy.specs.Layout.{policy_words}
use Rattle.sessions.specs.Reading.{sessions_words}
use Rattle.sessions.specs.Lower.{lower_tables}
use Rattle.lower.specs.Answers.{fit, SameLengths, request_answer, load_answer}

-- The reply and the place as one number. A place of 2 ^ 55 or more does not fit; no memory holds so many records.
abbrev pub inside_one : ℕ → ℕ → ℕ
inside_one reply place = reply + 256 * (place % 36028797018963968)

-- The contract of the load.
pub record LoadExported (bytes : Bytes) (p s p' s' : List ℕ) (number : ℕ) : Type 0 where
  pub answers : number ≡ inside_one (load_answer bytes p s).reply (load_answer bytes p s).place
  pub tables : lower_tables p' s' ≡ (load_answer bytes p s).tables
  pub lengths : SameLengths p s p' s'
  pub room : fit p s ≡ false → (p' ≡ p) × (s' ≡ s)
  pub zeros : fit p s ≡ true → ((load_answer bytes p s).reply ≡ 0 → ⊥) → (i : ℕ) → (get_or p' i 0 ≡ 0) × (get_or s' i 0 ≡ 0)

-- The contract of the request.
pub record RequestExported (bytes : Bytes) (p s p' s' : List ℕ) (number : ℕ) : Type 0 where
  pub answers : number ≡ (request_answer bytes p s).reply
  pub tables : lower_tables p' s' ≡ (request_answer bytes p s).tables
  pub lengths : SameLengths p s p' s'
  pub kept : ((request_answer bytes p s).reply ≡ 0 → ⊥) → (p' ≡ p) × (s' ≡ s)

-- The length of a buffer in words: 0 for the policy, 1 for the sessions, and 0 for any other number.
abbrev pub words_of : ℕ → ℕ
words_of group = cond (eqb group 0) policy_words (cond (eqb group 1) sessions_words 0)
