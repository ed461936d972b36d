-- The contract of the pile, for every byte string, answer buffer, place and content of the state; and what follows from it.
use Rattle.std.specs.Prelude.{ℕ, true, List, [], ◌++◌, ◌⊎◌, ◌≡◌, drop}
use Rattle.paper_lower.specs.Lists.{Every}
use Rattle.paper_lower.specs.Records.{Bytes}
use Rattle.paper_lower.specs.Kinds.{after}
use Rattle.paper_upper.specs.Orders.{SameTables}
use Rattle.paper_upper.specs.Engine.{request, Placed, placed_run}
use Rattle.order_links.specs.Chains.{sound_of}
use Rattle.engine.specs.Buffers.{Buffers, tables_of, fit, SameLengths}
use Rattle.demands.specs.Calls.{Together, Requests, fitting, asked}
use Rattle.call_pile.specs.Pile.{whole_from, whole, replies_of, written_at, pile_answer}

-- A reply that is a refusal.
abbrev pub NotGranted : ℕ → Type 0
NotGranted reply = reply ≡ 0 → ⊥

-- The contract of `pile` and `mishantral_pile`: reply, answer buffer and tables are those of `pile_answer`.
pub record PileDone (bytes answers : Bytes) (at : ℕ) (answers' : Bytes) (x x' : Buffers) (number : ℕ) : Type 0 where
  pub replies : number ≡ (pile_answer bytes answers at x).reply
  pub written : answers' ≡ (pile_answer bytes answers at x).answers
  pub tables : SameTables (tables_of x') (pile_answer bytes answers at x).tables
  pub lengths : SameLengths x x'
  -- "Refusals, before any request is done": no word of the state changes
  pub kept : (number ≡ 0 → ⊥) → x' ≡ x
  -- "Refused requests change no byte of the state.": so a pile in which every request is refused changes nothing
  pub still : Every NotGranted (replies_of (placed_run (tables_of x) (whole bytes))) → x' ≡ x
  -- The links are sound as soon as one request was granted; otherwise nothing changed.
  pub settles : (sound_of x'.orders ≡ true) ⊎ (x' ≡ x)

-- The contract of `answer_all`: n requests, with their replies at the front of `out`.
pub record Answers (n : ℕ) (bytes : Bytes) (x x' : Buffers) (out out' : Bytes) : Type 0 where
  pub replies : out' ≡ replies_of (placed_run (tables_of x) (whole_from n bytes)) ++ drop n out
  pub tables : SameTables (tables_of x') (after request (tables_of x) (whole_from n bytes))
  pub lengths : SameLengths x x'
  pub still : Every NotGranted (replies_of (placed_run (tables_of x) (whole_from n bytes))) → x' ≡ x
  pub settles : (sound_of x'.orders ≡ true) ⊎ (x' ≡ x)

-- "Replies and tables equal those of the requests made one by one": by any of the engine's request functions, whichever ledger slots the entries take
pub record AsOneByOne : Type 0 where
  pub same : {bytes answers answers' : Bytes} {at : ℕ} {x y z : Buffers} {said : List Placed}
      → PileDone bytes answers at answers' x y 0 → Requests x said z → asked (λ a. a.said) (fitting (λ a. a.said) said) ≡ whole bytes
      → (answers' ≡ written_at at answers (replies_of (fitting (λ a. a.said) said))) × SameTables (tables_of y) (tables_of z)

-- A pile may be one of a chain of calls, like the requests in it. So everything that the demands say about chains of calls covers piles.
pub record InChains : Type 0 where
  -- An accepted pile counts as its requests: each record with its reply, as written to the answer buffer.
  pub taken : {bytes answers answers' : Bytes} {at : ℕ} {x y : Buffers} → PileDone bytes answers at answers' x y 0
      → (said : List Placed)
      × Together said x y
      × (asked (λ a. a.said) said ≡ whole bytes)
      × (answers' ≡ written_at at answers (replies_of said))
  -- A refused pile counts as no request, and changes nothing.
  pub refused : {bytes answers answers' : Bytes} {at number : ℕ} {x y : Buffers} → PileDone bytes answers at answers' x y number → (number ≡ 0 → ⊥)
      → Together [] x y

-- "A proof shows that no second answer fits": reply, answer buffer and tables are the same
pub record OneAnswer : Type 0 where
  pub piles : {bytes answers a b : Bytes} {at : ℕ} {x x' y y' : Buffers} {q r : ℕ} → fit x ≡ fit x' → SameTables (tables_of x) (tables_of x')
      → PileDone bytes answers at a x y q → PileDone bytes answers at b x' y' r → (q ≡ r) × (a ≡ b) × SameTables (tables_of y) (tables_of y')
