-- 02, Ask 1: a user who joins with roles. "the result equals adding, then assigning one role after another, whenever none of those would be refused". It is
-- shown in both directions and for every order of the roles. And "m = 0 does what it did".
use Rattle.std.specs.Prelude.{ℕ, ◌<◌, ◌^◌, ◌≡◌, ◌↔◌, false, List, [], ◌∷◌}
use Rattle.paper_lower.specs.Sets.{Set, empty, has, plus}
use Rattle.paper_lower.specs.Lists.{each, Every}
use Rattle.paper_lower.specs.Checks.{GRANTED, first, granted}
use Rattle.paper_lower.specs.Records.{Bytes}
use Rattle.paper_lower.specs.Kinds.{Answer, Said, run, after}
use Rattle.paper_lower.specs.Tables.{Policy, Lower, with_policy}
use Rattle.paper_lower.specs.Policy.{user_checks, user_next}
use Rattle.paper_lower.specs.Roles.{join_checks, join_next}
use Rattle.paper_lower.specs.Sessions.{lower_request}
use Rattle.paper_lower.specs.Words.{add_user, join, assign}
use Rattle.paper_upper.specs.Orders.{Engine, with_lower}
use Rattle.paper_upper.specs.Engine.{request}

-- The set m with the roles of a list added.
unfoldable pub gathered : Set → List ℕ → Set
gathered m [] = m
gathered m (r ∷ rs) = gathered (plus m r) rs

-- The list has roles that are not in m, each once.
abbrev pub EachOnce : Set → List ℕ → Type 0
EachOnce m [] = Unit {0}
EachOnce m (r ∷ rs) = (r < 64) × (has m r ≡ false) × EachOnce (plus m r) rs

-- Every set of roles is that of such a list, so that statements about lists cover every m.
abbrev pub EverySetIsListed : Type 0
EverySetIsListed = (m : Set) → m < 2 ^ 64 → (rs : List ℕ) × EachOnce empty rs × (gathered empty rs ≡ m)

-- The requests of "the tools that sent 32 followed by several 34s".
abbrev pub one_at_a_time : ℕ → List ℕ → List Bytes
one_at_a_time a rs = add_user a ∷ each (assign a) rs

-- All requests were granted.
abbrev pub AllGranted : List Said → Type 0
AllGranted said = Every (λ y. y.reply ≡ GRANTED) said

-- The join is granted exactly if all requests one by one are, and then leaves the same tables.
pub record AsOneByOne {T : Type 0} (ask : T → Bytes → Answer T) (t : T) (a : ℕ) (rs : List ℕ) : Type 0 where
  pub granted : ((ask t (join a (gathered empty rs))).reply ≡ GRANTED) ↔ AllGranted (run ask t (one_at_a_time a rs))
  pub tables : (ask t (join a (gathered empty rs))).reply ≡ GRANTED → (ask t (join a (gathered empty rs))).tables ≡ after ask t (one_at_a_time a rs)

-- The statement for the engine and for the lower part that dealers build.
pub record JoinedAsOneByOne : Type 0 where
  pub engine : (t : Engine) (a : ℕ) → a < 1024 → (rs : List ℕ) → EachOnce empty rs → AsOneByOne request t a rs
  pub dealers : (t : Lower) (a : ℕ) → a < 1024 → (rs : List ℕ) → EachOnce empty rs → AsOneByOne lower_request t a rs

-- "m = 0 does what it did": request 32 without roles has the checks and next tables of policy kind 1.
abbrev pub JoinedWithoutRoles : Type 0
JoinedWithoutRoles = (p : Policy) (a : ℕ) → (first (join_checks p a empty) ≡ first (user_checks p a)) × (join_next p a empty ≡ user_next p a)

-- The same for the whole request: its reply and tables are those of policy kind 1.
pub record AddedAsBefore : Type 0 where
  pub engine : (t : Engine) (a : ℕ) → a < 1024
      → let p = t.lower.policy in
      ((request t (add_user a)).reply ≡ first (user_checks p a))
      × ((request t (add_user a)).tables ≡ granted (first (user_checks p a)) (with_lower t (with_policy t.lower (user_next p a))) t)
  pub dealers : (t : Lower) (a : ℕ) → a < 1024
      → ((lower_request t (add_user a)).reply ≡ first (user_checks t.policy a))
      × ((lower_request t (add_user a)).tables ≡ granted (first (user_checks t.policy a)) (with_policy t (user_next t.policy a)) t)
