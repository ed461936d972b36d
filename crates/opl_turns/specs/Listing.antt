-- The list of start tags that one pass leaves in the scratch buffer for the next: their number, and a word for each, which holds the index where the tag's name
-- ends and the number of its element.
use Rattle.std.specs.Prelude.{ℕ, zero, suc, ◌+◌, ◌*◌, ◌-◌, ◌/◌, ◌%◌, ◌≤◌, ◌<◌, ◌≡◌, cond, List, [], ◌∷◌, leb, length, get_or, set, Option, Some, None}
use Rattle.paper_opl.specs.Reading.{Text}
use Rattle.opl_spaces.specs.Spaces.{list_place, list_room}
use Rattle.opl_tags.specs.Tags.{given_at, walk_at}
use Rattle.opl_turns.specs.Meaning.{element_of}
use Rattle.opl_turns.specs.declared.Met.{Met}
use Rattle.opl_turns.specs.declared.Met.TheVariants.{Begun, Ended}

-- The number of listed tags.
abbrev pub count_in : List ℕ → ℕ
count_in l = get_or l 0 0

-- The word of tag k.
abbrev pub entry_in : List ℕ → ℕ → ℕ
entry_in l k = get_or l (1 + k) 0

-- The index where the tag's name ends.
abbrev pub end_of : ℕ → ℕ
end_of x = x / 128

-- The number of its element.
abbrev pub id_of : ℕ → ℕ
id_of x = x % 128

-- The length from which on a text is not listed: an index into it might not fit into a word together with the element's number.
abbrev pub longest : ℕ
longest = 144115188075855872

-- The scratch buffer after adding a tag to the list, if there is room.
unfoldable pub entered : ℕ → List ℕ → ℕ → ℕ → List ℕ
entered size w end id =
    cond (leb list_room (get_or w list_place 0)) w
    (cond (leb longest size) w (set (set w (list_place + 1 + get_or w list_place 0) (end * 128 + id)) list_place (get_or w list_place 0 + 1)))

-- ---- What a listed tag means.

-- The next tag from `at` on is a start tag of element `id`, whose name ends at `end`.
pub record Opened (s : Text) (at end id : ℕ) : Type 0 where
  pub name : Text
  pub walk : walk_at s at ≡ record { name = name; given = given_at s end } ∷ walk_at s end
  pub element : element_of name ≡ id
  pub past : at < end
  pub inside : end ≤ length s

-- The m listed tags from number k on are the next start tags from an index on.
unfoldable pub Chain : Text → List ℕ → ℕ → ℕ → ℕ → Type 0
Chain s l zero k at = Unit {0}
Chain s l (suc m) k at = Opened s at (end_of (entry_in l k)) (id_of (entry_in l k)) × Chain s l m (suc k) (end_of (entry_in l k))

-- The index after these tags.
unfoldable pub last_of : List ℕ → ℕ → ℕ → ℕ → ℕ
last_of l zero k at = at
last_of l (suc m) k at = last_of l m (suc k) (end_of (entry_in l k))

-- All listed tags but the first k are the next start tags from an index on.
pub record Leads (s : Text) (l : List ℕ) (k at : ℕ) : Type 0 where
  pub room : count_in l ≤ list_room
  pub chain : Chain s l (count_in l - k) k at

-- ---- The list while it is being made.

-- No start tag lies between the last listed one and the index `at`.
pub record Joined (s : Text) (last at : ℕ) : Type 0 where
  pub order : last ≤ at
  pub walk : walk_at s last ≡ walk_at s at

-- The listed tags are the first ones from `from` on; while there is room, they are all up to `at`.
pub record Listing (s : Text) (from : ℕ) (l : List ℕ) (at : ℕ) : Type 0 where
  pub room : count_in l ≤ list_room
  pub chain : Chain s l (count_in l) 0 from
  pub joined : length s < longest → count_in l < list_room → Joined s (last_of l (count_in l) 0 from) at

-- ---- The next tag, from the text and from the list.

-- The next tag from `at` on is an end tag, and n is the index after it.
pub record Passed (s : Text) (at n : ℕ) : Type 0 where
  pub past : at < n
  pub inside : n ≤ length s
  pub walk : walk_at s at ≡ walk_at s n

-- The contract of `read`: the next tag from the text.
abbrev pub Reads : Text → ℕ → ℕ → Option Met → Type 0
Reads s at k (Some (Begun id end next)) = Opened s at end id × (next ≡ k)
Reads s at k (Some (Ended n)) = Passed s at n
Reads s at k None = walk_at s at ≡ []

-- The contract of `meet`: the next tag, from the list or the text.
abbrev pub Meets : Text → List ℕ → ℕ → ℕ → Option Met → Type 0
Meets s l at k (Some (Begun id end next)) = Opened s at end id × Leads s l next end
Meets s l at k (Some (Ended n)) = Passed s at n × Leads s l k n
Meets s l at k None = walk_at s at ≡ []
