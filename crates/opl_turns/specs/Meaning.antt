-- What the name of a tag's element means, found by one guess at its number and one comparison.
use Rattle.std.specs.Prelude.{ℕ, ◌+◌, ◌*◌, ◌-◌, ◌%◌, Bool, cond, ◌&&◌, List, [], ◌∷◌, eqb, leb, length, get_or}
use Rattle.paper_lower.specs.Lists.{some}
use Rattle.paper_opl.specs.Reading.{Text, same}
use Rattle.opl_table.specs.Numbers.{name_of, CHINESE-WALL, CW-PARTITION, PARTITION-OBJECT}

-- By a hash of a name: the only element that it can be. Listed are the elements that yield a record, declare a name, change the context or occur inside one
-- that yields a record; 127 stands for none.
unfoldable pub guesses : List ℕ
guesses =
    127 ∷ 25 ∷ 29 ∷ 40 ∷ 127 ∷ 127 ∷ 23 ∷ 35 ∷ 15 ∷ 46 ∷ 127 ∷ 127 ∷ 14 ∷ 127 ∷ 33 ∷ 127 ∷ 127 ∷ 12 ∷ 67 ∷ 127 ∷ 24 ∷ 127 ∷
    127 ∷ 127 ∷ 69 ∷ 127 ∷ 127 ∷ 36 ∷ 127 ∷ 127 ∷ 127 ∷ 16 ∷ 127 ∷ 127 ∷ 127 ∷ 43 ∷ 127 ∷ 13 ∷ 127 ∷ 71 ∷ 127 ∷ 20 ∷ 127 ∷
    49 ∷ 72 ∷ 127 ∷ 127 ∷ 127 ∷ 127 ∷ 18 ∷ 127 ∷ 127 ∷ 127 ∷ 38 ∷ 127 ∷ 127 ∷ 127 ∷ 127 ∷ 17 ∷ 39 ∷ 30 ∷ 21 ∷ 127 ∷ 127 ∷ []

-- The guess for a name, by its length, its last byte and its first.
unfoldable pub guess_of : Text → ℕ
guess_of w = get_or guesses ((length w + 47 * get_or w (length w - 1) 0 + 3 * get_or w 0 0) % 64) 0

-- The number of the element of this name, if it is listed; otherwise 127, which no name has.
unfoldable pub element_of : Text → ℕ
element_of w = cond (same w (name_of (guess_of w))) (guess_of w) 127

-- The elements that occur inside one that yields a record.
abbrev pub inners : List ℕ
inners = 15 ∷ 16 ∷ 24 ∷ 25 ∷ 36 ∷ 40 ∷ []

-- Whether an element is one of these.
unfoldable pub inner_of : ℕ → Bool
inner_of id = some (eqb id) inners

-- The kind of record that each element yields; 0 for none, and for a set of roles, whose kind depends on the context.
unfoldable pub kind_list : List ℕ
kind_list =
    0 ∷ 0 ∷ 0 ∷ 0 ∷ 0 ∷ 0 ∷ 0 ∷ 0 ∷ 0 ∷ 0 ∷ 0 ∷ 0 ∷ 1 ∷ 2 ∷ 3 ∷ 0 ∷ 0 ∷ 4 ∷ 5 ∷ 0 ∷ 0 ∷ 0 ∷ 0 ∷ 0 ∷ 0 ∷ 0 ∷ 0 ∷ 0 ∷ 0 ∷ 8 ∷
    7 ∷ 0 ∷ 0 ∷ 13 ∷ 0 ∷ 11 ∷ 0 ∷ 0 ∷ 0 ∷ 12 ∷ 0 ∷ 0 ∷ 0 ∷ 14 ∷ 0 ∷ 0 ∷ 15 ∷ 0 ∷ 0 ∷ 16 ∷ 0 ∷ 0 ∷ 0 ∷ 0 ∷ 0 ∷ 0 ∷ 0 ∷ 0 ∷
    0 ∷ 0 ∷ 0 ∷ 0 ∷ 0 ∷ 0 ∷ 0 ∷ 0 ∷ 0 ∷ 17 ∷ 0 ∷ 0 ∷ 0 ∷ 0 ∷ 18 ∷ []

-- The kind of record that an element yields in a context where sets of roles have the kind `sets`.
unfoldable pub kind_by : ℕ → ℕ → ℕ
kind_by sets id = cond (eqb id 23) sets (get_or kind_list id 0)

-- The kind of a set of roles after the tag of an element.
abbrev pub sets_by : ℕ → ℕ → ℕ
sets_by sets id = cond (eqb id 20) 9 (cond (eqb id 21) 10 sets)

-- The number of partitionings after it.
abbrev pub parts_by : ℕ → ℕ → ℕ
parts_by parts id = cond (eqb id 38) (parts + 1) parts

-- The number of walls after it.
abbrev pub walls_by : ℕ → ℕ → ℕ
walls_by walls id = cond (eqb id CHINESE-WALL) (walls + 1) walls

-- The number of the next block after it.
abbrev pub blocks_by : ℕ → ℕ → ℕ → ℕ
blocks_by walls blocks id = cond (eqb id CHINESE-WALL) (16 * walls) (cond (eqb id CW-PARTITION) (blocks + 1) blocks)

-- The number that a record takes from the context: of its partitioning for a partition, of its block for an object in a block.
abbrev pub number_by : ℕ → ℕ → ℕ → ℕ
number_by parts blocks id = cond (eqb id 39) (parts - 1) (cond (eqb id PARTITION-OBJECT) (blocks - 1) 0)

-- Whether the counts are within their limits.
abbrev pub few_by : ℕ → ℕ → ℕ → Bool
few_by parts walls blocks = leb parts 16 && (leb walls 16 && leb blocks (16 * walls))
