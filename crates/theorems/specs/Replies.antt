-- Replies are those of the table, and the first refusal in the order of the numbers is given. A refused load leaves the empty engine's tables.
use Rattle.std.specs.Prelude.{ℕ, ◌+◌, ◌*◌, ◌≤◌, ◌≡◌, Bool, true, false, cond, ◌&&◌, ◌||◌, List, [], ◌∷◌, ◌++◌, eqb, leb}
use Rattle.paper_lower.specs.Lists.{some, Every}
use Rattle.paper_lower.specs.Checks.{Check, GRANTED, SHAPE, UNKNOWN, RULE, DENIED, FULL, LOOP, WALL}
use Rattle.paper_lower.specs.Records.{Bytes, Record, decode}
use Rattle.paper_lower.specs.Forms.{Form, policy_forms, lower_forms, request_forms, form_checks}
use Rattle.paper_lower.specs.Kinds.{Kind, chosen, answer}
use Rattle.paper_lower.specs.Tables.{Lower, no_policy}
use Rattle.paper_lower.specs.Policy.{policy_kinds}
use Rattle.paper_lower.specs.Load.{load}
use Rattle.paper_lower.specs.Sessions.{lower_kinds, lower_request}
use Rattle.paper_upper.specs.Orders.{Engine}
use Rattle.paper_upper.specs.Engine.{request_kinds, request}

-- ---- "Checks run in the order of their numbers"

-- The position of a reply in the order of checks: by its number, except that "LOOP (23) after RULE" (02, Ask 7) and "WALL (24), after DENIED" (Ask 11).
unfoldable pub rank : ℕ → ℕ
rank k = cond (eqb k LOOP) (2 * RULE + 1) (cond (eqb k WALL) (2 * DENIED + 1) (2 * k))

-- Whether a number is in 01's table, or is LOOP or WALL.
unfoldable pub in_table : ℕ → Bool
in_table k = leb k FULL || eqb k LOOP || eqb k WALL

-- Whether the checks are in order from reply k on, and all replies are in the table.
unfoldable pub rising : ℕ → List Check → Bool
rising k [] = true
rising k (x ∷ xs) = leb (rank k) (rank x.1) && in_table x.1 && rising x.1 xs

-- The checks of every kind are in order. SHAPE and RANGE, which every record meets before them, have lower numbers.
abbrev pub InOrder : {T : Type 0} → List (Kind T) → Type 0
InOrder {T} ks = Every (λ k. (t : T) (r : Record) → rising UNKNOWN (k.checks t r) ≡ true) ks

-- "the first that applies is given, and none is given otherwise": the reply is the first, in that order, of the checks that apply.
pub record FirstRefusal (checks : List Check) (reply : ℕ) : Type 0 where
  pub grants : Every (λ x. x.0 ≡ false) checks → reply ≡ GRANTED
  pub refuses : Every (λ x. x.0 ≡ true → (reply ≡ GRANTED → ⊥) × (rank reply ≤ rank x.1)) checks
  pub given : (reply ≡ GRANTED → ⊥) → some (λ x. x.0 && eqb x.1 reply) checks ≡ true

-- The checks that a record meets.
abbrev pub checks_of : {T : Type 0} → List Form → List (Kind T) → T → Bytes → List Check
checks_of fs ks t s = form_checks fs s ++ (chosen ks (decode s).kind).checks t (decode s)

-- Every reply of a call is the first refusal.
abbrev pub FirstRefusals : {T : Type 0} → List Form → List (Kind T) → Type 0
FirstRefusals {T} fs ks = (t : T) (s : Bytes) → FirstRefusal (checks_of fs ks t s) (answer fs ks t s).reply

-- The checks are in order and the first refusal is given: in a load, in the lower part and in the whole engine.
pub record ChecksInOrder : Type 0 where
  pub policy : InOrder policy_kinds × FirstRefusals policy_forms policy_kinds
  pub lower : InOrder lower_kinds × FirstRefusals lower_forms lower_kinds
  pub engine : InOrder request_kinds × FirstRefusals request_forms request_kinds

-- ---- The reply is GRANTED or a refusal of the table other than ROOM, which is about the lengths of buffers.
abbrev pub Listed : ℕ → Type 0
Listed reply = (in_table reply ≡ true) × ((reply ≡ GRANTED → ⊥) → SHAPE ≤ reply)

-- Every reply of a request and of a load is one of these.
pub record RepliesAreListed : Type 0 where
  pub requests : (t : Engine) (s : Bytes) → Listed (request t s).reply
  pub lower_requests : (t : Lower) (s : Bytes) → Listed (lower_request t s).reply
  pub loads : (s : Bytes) → Listed (load s).reply

-- The tables after a refused load: "a refused one leaves it empty"
abbrev pub RefusedLoadsAreEmpty : Type 0
RefusedLoadsAreEmpty = (s : Bytes) → ((load s).reply ≡ GRANTED → ⊥) → (load s).tables ≡ no_policy
