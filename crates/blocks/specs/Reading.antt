-- Blocks of walls as functions of the wall, from two words: bit w of the first says that wall w has a block; its number has bit k where bit 16 * k + w of the
-- second is set. Every content reads as some blocks.
use Rattle.std.specs.Prelude.{ℕ, ◌+◌, ◌*◌, ◌/◌, ◌%◌, Bool, cond, eqb}
use Rattle.paper_lower.specs.Sets.{has}
use Rattle.paper_lower.specs.Lists.{Maybe, holds, or_else}
use Rattle.paper_lower.specs.Lists.Maybe.{none, just}
use Rattle.paper_lower.specs.Policy.{another}
use Rattle.blocks.specs.declared.Blocks.{Blocks}

-- the number with these four bits
unfoldable pub told : Bool → Bool → Bool → Bool → ℕ
told a b c d = cond a 1 0 + 2 * (cond b 1 0 + 2 * (cond c 1 0 + 2 * cond d 1 0))

unfoldable pub block_within : ℕ → ℕ → ℕ
block_within x w =
    told (has (x % 65536) w) (has (x / 65536 % 65536) w) (has (x / 4294967296 % 65536) w) (has (x / 281474976710656 % 65536) w)

unfoldable pub blocks_in : ℕ → ℕ → ℕ → Maybe ℕ
blocks_in walls blocks w = cond (has (walls % 65536) w) (just (block_within blocks w)) none

abbrev pub blocks_of : Blocks → ℕ → Maybe ℕ
blocks_of b = blocks_in b.walls b.blocks

-- ---- blocks of no wall, of one wall, of f and else of g; and whether those of f and g are others
abbrev pub nowhere : ℕ → Maybe ℕ
nowhere w = none

unfoldable pub only : ℕ → ℕ → ℕ → Maybe ℕ
only wall block w = cond (eqb wall w) (just block) none

-- bit k of a block's number at the lowest place of plane k
unfoldable pub spread : ℕ → ℕ
spread x = x % 2 + 65536 * (x / 2 % 2) + 4294967296 * (x / 4 % 2) + 281474976710656 * (x / 8 % 2)

abbrev pub over : (ℕ → Maybe ℕ) → (ℕ → Maybe ℕ) → ℕ → Maybe ℕ
over f g w = or_else (f w) (g w)

abbrev pub apart : (ℕ → Maybe ℕ) → (ℕ → Maybe ℕ) → ℕ → Bool
apart f g w = holds (λ k. another k (g w)) (f w)
