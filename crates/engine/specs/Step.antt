-- The effect on the three buffers of a request that has passed SHAPE and RANGE.
use Rattle.std.specs.Prelude.{ℕ, ◌≤◌, true, ◌≡◌}
use Rattle.paper_lower.specs.Checks.{first, granted}
use Rattle.paper_lower.specs.Kinds.{chosen}
use Rattle.paper_upper.specs.Orders.{Engine, SameTables}
use Rattle.paper_upper.specs.Engine.{request_kinds, place_of}
use Rattle.replies.specs.Replies.{number_of, Outcome, outcome_number, outcome_place}
use Rattle.records.specs.Reading.{paper_of}
use Rattle.records.specs.declared.Record.{Record}
use Rattle.order_links.specs.Chains.{sound_of}
use Rattle.engine.specs.Buffers.{Buffers, product_of, tables_of}

-- The result j has this reply and place, and the tables u afterwards are `next` if the request is granted and t otherwise. A refusal changes no word.
pub record Step (t u : Engine) (reply place : ℕ) (next : Engine) (x x' : Buffers) (j : Outcome) : Type 0 where
  pub replies : outcome_number j ≡ reply
  pub places : outcome_place j ≡ place
  pub tables : SameTables u (granted reply next t)
  pub kept : (outcome_number j ≡ 0 → ⊥) → x' ≡ x

-- The step that the rules define for a record on tables t, by its kind.
abbrev pub StepOf : Engine → Engine → Record → Buffers → Buffers → Outcome → Type 0
StepOf t u r x x' j =
    Step t u (first ((chosen request_kinds r.kind).checks t (paper_of r)))
    (place_of t (paper_of r) (first ((chosen request_kinds r.kind).checks t (paper_of r))))
    ((chosen request_kinds r.kind).next t (paper_of r)) x x' j

-- The step on sound links, which stay sound.
abbrev pub SoundStep : Record → Buffers → Buffers → Outcome → Type 0
SoundStep r x x' j = StepOf (product_of x) (product_of x') r x x' j × (sound_of x'.orders ≡ true)

-- The step on any content, without checking the links: a refusal changes no word, and a place is at most 64.
pub record AnyStep (r : Record) (x x' : Buffers) (j : Outcome) : Type 0 where
  pub kept : (outcome_number j ≡ 0 → ⊥) → x' ≡ x
  pub small : outcome_place j ≤ 64
  pub sound : sound_of x.orders ≡ true → SoundStep r x x' j

-- The step from tables t, whatever the links are: if it is granted, the links are sound afterwards.
abbrev pub SettlingStep : Engine → Record → Buffers → Buffers → Outcome → Type 0
SettlingStep t r x x' j = StepOf t (tables_of x') r x x' j × (outcome_number j ≡ 0 → sound_of x'.orders ≡ true)
