-- The three buffers that the caller lends, and the tables that they read as.
use Rattle.std.specs.Prelude.{ℕ, Bool, cond, ◌&&◌, List, ◌≡◌, eqb, length}
use Rattle.paper_lower.specs.Tables.{no_policy}
use Rattle.paper_upper.specs.Orders.{Engine}
use Rattle.paper_upper.specs.Engine.{engine_of}
use Rattle.policy.specs.Layout.{policy_words}
use Rattle.sessions.specs.Reading.{sessions_words}
use Rattle.order_links.specs.Chains.{orders_words, sound_of}
use Rattle.order_requests.specs.Tables.{engine_tables}

-- The content of the three buffers, as lists of words.
pub record Buffers : Type 0 where
  pub policy : List ℕ
  pub sessions : List ℕ
  pub orders : List ℕ

-- Builds `Buffers` from the contents of the policy, sessions and orders buffers.
abbrev pub buffers : List ℕ → List ℕ → List ℕ → Buffers
buffers p s o = record { policy = p; sessions = s; orders = o }

-- The three buffers, each read by its own definition, without regard to whether the links are sound.
abbrev pub product_of : Buffers → Engine
product_of x = engine_tables x.policy x.sessions x.orders

-- The empty engine.
abbrev pub no_engine : Engine
no_engine = engine_of no_policy

-- The tables that the buffers read as. Every content of the right length reads as some tables. 02, Ask 9, amended this: "A state whose links or kept figures
-- break this reads as the empty engine from now on".
unfoldable pub tables_of : Buffers → Engine
tables_of x = cond (sound_of x.orders) (product_of x) no_engine

-- Whether three lengths in words are the fixed ones.
abbrev pub fit_words : ℕ → ℕ → ℕ → Bool
fit_words p s o = (eqb p policy_words && eqb s sessions_words) && eqb o orders_words

-- Whether the three buffers have their fixed lengths.
abbrev pub fit : Buffers → Bool
fit x = fit_words (length x.policy) (length x.sessions) (length x.orders)

-- A call does not change the lengths of the buffers, whatever they are.
pub record SameLengths (x x' : Buffers) : Type 0 where
  pub policy : length x'.policy ≡ length x.policy
  pub sessions : length x'.sessions ≡ length x.sessions
  pub orders : length x'.orders ≡ length x.orders
