-- Calls of the engine on real buffers. A call is represented by its contract: `Requested` and `LoadDone` are the contracts of engine::request and
-- engine::load, `RequestExported` and `LoadExported` those of the functions that C and Rust link. No call has a precondition on bytes or buffers.
use Rattle.std.specs.Prelude.{ℕ, ◌/◌, ◌%◌, Bool, true, false, not, List, [], ◌∷◌, ◌++◌, ◌≡◌, eqb}
use Rattle.paper_lower.specs.Lists.{keep, each}
use Rattle.paper_lower.specs.Checks.{ROOM}
use Rattle.paper_lower.specs.Records.{Bytes}
use Rattle.paper_lower.specs.Kinds.{Said, after}
use Rattle.paper_upper.specs.Orders.{SameTables}
use Rattle.paper_upper.specs.Engine.{request, Placed, placed_run}
use Rattle.replies.specs.Replies.{Reply, number_of, Outcome, outcome_number, outcome_place}
use Rattle.order_links.specs.Chains.{sound_of}
use Rattle.engine.specs.Buffers.{Buffers, tables_of, fit, SameLengths}
use Rattle.engine.specs.Answers.{Requested, LoadDone}
use Rattle.engine.specs.Settling.{SettledRequest, SettledExported}
use Rattle.engine.specs.Exports.{RequestExported, LoadExported}

-- A request by any of the four functions: the bytes, the buffers before and after, the reply and the place. The number that an exported function returns is
-- the reply plus 256 times the place. The functions that do not check the links count as requests only on sound links; what they promise on other contents is
-- part of demand 1.
pub data Request (bytes : Bytes) (x y : Buffers) : ℕ → ℕ → Type 0 where
  within : {j : Outcome} → Requested bytes x y j → Request bytes x y (outcome_number j) (outcome_place j)
  exported : {n : ℕ} → RequestExported bytes x y n → Request bytes x y (n % 256) (n / 256)
  settled : {j : Outcome} → sound_of x.orders ≡ true → SettledRequest bytes x y j → Request bytes x y (outcome_number j) (outcome_place j)
  settled-exported : {n : ℕ} → sound_of x.orders ≡ true → SettledExported bytes x y n → Request bytes x y (n % 256) (n / 256)

-- A load by either function.
pub data Load (bytes : Bytes) (x y : Buffers) : ℕ → Type 0 where
  within : {r : Reply} {place : ℕ} → LoadDone bytes x y r place → Load bytes x y (number_of r)
  exported : {n : ℕ} → LoadExported bytes x y n → Load bytes x y (n % 256)

-- A sequence of calls, each on the buffers that the previous one left, with a list of what was asked and answered (for the engine also the places). P is the
-- contract of a call that answers one request, Q that of a call that answers several requests or none; `fit` says whether buffers have the right lengths. The
-- sequence may include calls on other buffers of a wrong length, even on parts of these buffers: by demand 1 they are not written.
pub data Chain {L A : Type 0} (P : A → L → L → Type 0) (Q : List A → L → L → Type 0) (fit : L → Bool) : L → List A → L → Type 0 where
  no_more : {x : L} → Chain P Q fit x [] x
  one : {x y z : L} {a : A} {said : List A} → P a x y → Chain P Q fit y said z → Chain P Q fit x (a ∷ said) z
  misfit : {x v w z : L} {a : A} {said : List A} → fit v ≡ false → P a v w → Chain P Q fit x said z → Chain P Q fit x (a ∷ said) z
  several : {x y z : L} {now rest said : List A} → Q now x y → Chain P Q fit y rest z → said ≡ now ++ rest → Chain P Q fit x said z

-- The requests that were made.
abbrev pub asked : {A : Type 0} → (A → Said) → List A → List Bytes
asked f said = each (λ a. (f a).request) said

-- One request, as an element of such a sequence.
abbrev pub Called : Placed → Buffers → Buffers → Type 0
Called a x y = Request a.said.request x y a.said.reply a.place

-- A call that answers several requests as if they were made one by one, as the pile does. Or a call that answers no request and leaves the tables the same:
-- settling, or a call that only reads the state (the question and the writing of the policy).
pub record Together (now : List Placed) (x y : Buffers) : Type 0 where
  pub answers : now ≡ placed_run (tables_of x) (asked (λ a. a.said) now)
  pub tables : SameTables (tables_of y) (after request (tables_of x) (asked (λ a. a.said) now))
  pub lengths : SameLengths x y
  -- Sound links stay sound.
  pub links : sound_of x.orders ≡ true → sound_of y.orders ≡ true

-- Any sequence of calls on the engine's buffers.
abbrev pub Requests : Buffers → List Placed → Buffers → Type 0
Requests x said z = Chain Called Together fit x said z

-- The requests with their replies, without the places.
abbrev pub all_of_said : List Placed → List Said
all_of_said said = each (λ a. a.said) said

-- The requests that were not refused because of the lengths of the buffers.
abbrev pub fitting : {A : Type 0} → (A → Said) → List A → List A
fitting f said = keep (λ a. not (eqb (f a).reply ROOM)) said
