-- The tests on a single rule with which the searches for BEFORE and BLOCK start.
use Rattle.std.specs.Prelude.{ℕ, Bool, not, ◌&&◌, eqb}
use Rattle.paper_lower.specs.Sets.{Set, has, meets}
use Rattle.paper_lower.specs.Tables.{Block, Pair}

-- Whether the prerequisite requires something before t.
abbrev pub after : ℕ → Pair → Bool
after t x = eqb x.b t

-- Whether the block, of any partitioning, does not have t and has a task of d.
unfoldable pub apart : Set → ℕ → Block → Bool
apart d t x = not (has x.tasks t) && meets x.tasks d
