-- Tests on one row of the permissions, and on the rows that are tested together.
use Rattle.std.specs.Prelude.{ℕ, ◌+◌, ◌*◌, ◌<◌, ◌≡◌, Bool, ◌&&◌, ◌||◌, List}
use Rattle.paper_lower.specs.Sets.{Set, has, meets}
use Rattle.paper_lower.specs.Lists.{some_number_below}
use Rattle.policy.specs.Layout.{first_in, second_in, row_holds}
use Rattle.policy.specs.Reading.{policy_of}

-- Whether row b is for the pair and one of the roles m has it. It is a declared permission only if the word of the pair lists it.
abbrev pub opens : List ℕ → Set → ℕ → ℕ → ℕ → Bool
opens l m operation object b = row_holds l operation object b && meets ((policy_of l).permissions.holders b) m

-- Whether row b is for the pair and task t carries it.
abbrev pub bears : List ℕ → ℕ → ℕ → ℕ → ℕ → Bool
bears l t operation object b = row_holds l operation object b && has ((policy_of l).permissions.carriers b) t

-- Whether the test holds for one of the two rows that w lists by number.
abbrev pub in_two : (ℕ → Bool) → ℕ → Bool
in_two row w = row (first_in w) || row (second_in w)

-- Whether the test holds for a row of group t, which is rows 8 t to 8 t + 7.
unfoldable pub in_eight : (ℕ → Bool) → ℕ → Bool
in_eight row t = some_number_below 8 (λ j. row (8 * t + j))

-- Whether the test holds for a row of a set of groups.
abbrev pub in_eights : Set → (ℕ → Bool) → Bool
in_eights w row = some_number_below 32 (λ t. has w t && in_eight row t)

-- ---- A test that is handed over as a closure: it may be asked of any permission, and it computes `row`.
abbrev pub Asks : (ℕ → Type 0) → Type 0
Asks may = (b : ℕ) → b < 256 → may b

abbrev pub Computes : (ℕ → Bool → Type 0) → (ℕ → Bool) → Type 0
Computes gives row = (b : ℕ) (x : Bool) → b < 256 → gives b x → x ≡ row b
