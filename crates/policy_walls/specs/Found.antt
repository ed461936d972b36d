-- What a walk over the rows of walls finds of an object: in each wall the block of the first row about it.
use Rattle.std.specs.Prelude.{ℕ, zero, suc, ◌-◌, ◌*◌, ◌/◌, ◌%◌, Bool, not, cond, ◌&&◌, ◌||◌, List, eqb, leb}
use Rattle.paper_lower.specs.Sets.{Set, has}
use Rattle.paper_lower.specs.Lists.{Maybe}
use Rattle.paper_lower.specs.Lists.Maybe.{none, just}
use Rattle.paper_lower.specs.Tables.{Walled}
use Rattle.paper_lower.specs.Policy.{block_of}
use Rattle.replies.specs.Cells.{rows_from}
use Rattle.blocks.specs.Reading.{nowhere, only}
use Rattle.policy.specs.Layout.{wall_rows, walled_is, wall_count, walled_at}

-- the object's blocks by the rows 64 part and later
unfoldable pub blocks_from : List ℕ → ℕ → ℕ → ℕ → Maybe ℕ
blocks_from l object part = block_of (rows_from (walled_at l) (64 * part) (wall_count l - 64 * part)) object

-- by row k alone
unfoldable pub rows_block : List ℕ → ℕ → ℕ → ℕ → Maybe ℕ
rows_block l object k = cond (leb (wall_count l) k || not (walled_is l object k)) nowhere (only (walled_at l k).wall (walled_at l k).block)

-- of rows k, k + 1, .., so many of them, those that q has
unfoldable pub found_from : (ℕ → Bool) → (ℕ → Walled) → ℕ → ℕ → ℕ → Maybe ℕ
found_from q f k zero w = none
found_from q f k (suc n) w = cond (q k && eqb (f k).wall w) (just (f k).block) (found_from q f (suc k) n w)

-- the rows about the object, of the part those alone that are in m
unfoldable pub about : List ℕ → ℕ → ℕ → Set → ℕ → Bool
about l object part m k = has (cond (eqb (k / 64) part) m (wall_rows l object (k / 64))) (k % 64) && walled_is l object k

-- by the rows 64 part and later, of the part those alone that are in m
unfoldable pub blocks_left : List ℕ → ℕ → ℕ → Set → ℕ → Maybe ℕ
blocks_left l object part m = found_from (about l object part m) (walled_at l) (64 * part) (wall_count l - 64 * part)
