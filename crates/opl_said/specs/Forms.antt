-- The parts of a tag's record: from its attributes, and from the elements inside it; and the fields that these parts make.
use Rattle.std.specs.Prelude.{ℕ, ◌/◌, ◌≤◌, ◌<◌, ◌≡◌, true, cond, List, [], ◌∷◌, ltb, length, Option, Some, None}
use Rattle.paper_lower.specs.Lists.{Maybe, keep, each}
use Rattle.paper_lower.specs.Lists.Maybe.{none, just}
use Rattle.paper_opl.specs.Reading.{Text, same}
use Rattle.paper_opl.specs.Tree.{Given, Tag}
use Rattle.paper_opl.specs.Naming.{Names, value_of, number_in, set_of}
use Rattle.paper_opl.specs.Walk.{leading}
use Rattle.opl_table.specs.Numbers.{name_of}
use Rattle.opl_tags.specs.Tags.{given_at, walk_at}
use Rattle.opl_turns.specs.Meaning.{inner_of}
use Rattle.opl_turns.specs.Listing.{Leads}
use Rattle.opl_said.specs.declared.Member.{Member}
use Rattle.opl_said.specs.declared.Member.TheVariants.{Other, Here, Last}
use Rattle.opl_said.specs.declared.StartTag.{StartTag}
use Rattle.opl_said.specs.declared.Fields.{Fields}
use Rattle.opl_said.specs.Said.{space_at, all_names, Fit}

-- ---- From its attributes.

-- The number, in space i, of the name in attribute `id`.
abbrev pub number_by : Names → ℕ → ℕ → List Given → Maybe ℕ
number_by ns id i gs = number_in (space_at ns i) (value_of (name_of id) gs)

-- The same for the start tag whose name ends at `end`.
abbrev pub field_at : Text → Text → ℕ → ℕ → ℕ → Maybe ℕ
field_at s t end id i = number_by (all_names s t) id i (given_at s end)

-- ---- From the elements inside it.

-- The attributes of each tag of element e.
abbrev pub givens_of : ℕ → List Tag → List (List Given)
givens_of e ts = each (λ t. t.given) (keep (λ t. same t.name (name_of e)) ts)

-- The same for the elements inside the one whose start tag's name ends at an index.
abbrev pub inside_at : Text → ℕ → ℕ → List (List Given)
inside_at s e at = givens_of e (leading (walk_at s at))

-- The element e is one of those that occur inside an element which yields a record.
abbrev pub Inner : ℕ → Type 0
Inner e = inner_of e ≡ true

-- A step over a tag that is not looked for: the elements e from both indices on are the same.
pub record Onward (s : Text) (l : List ℕ) (e at next entry : ℕ) : Type 0 where
  pub past : at < next
  pub inside : next ≤ length s
  pub rest : inside_at s e at ≡ inside_at s e next
  pub leads : Leads s l entry next

-- A step over an element e, the next one from `at` on.
pub record HereIs (s : Text) (l : List ℕ) (e at end entry : ℕ) : Type 0 where
  pub past : at < end
  pub inside : end ≤ length s
  pub first : inside_at s e at ≡ given_at s end ∷ inside_at s e end
  pub leads : Leads s l entry end

-- The contract of `member_at`.
abbrev pub MemberIs : Text → List ℕ → ℕ → ℕ → Member → Type 0
MemberIs s l e at (Other next entry) = Onward s l e at next entry
MemberIs s l e at (Here tag) = HereIs s l e at tag.end tag.entry
MemberIs s l e at Last = inside_at s e at ≡ []

-- The contract of `next_member`.
abbrev pub NextIs : Text → List ℕ → ℕ → ℕ → Option StartTag → Type 0
NextIs s l e at (Some tag) = HereIs s l e at tag.end tag.entry
NextIs s l e at None = inside_at s e at ≡ []

-- The first number of a list; absent if there is none.
abbrev pub head_of : List (Maybe ℕ) → Maybe ℕ
head_of [] = none
head_of (k ∷ ks) = k

-- The number of the first element's name.
abbrev pub first_by : Names → ℕ → ℕ → List (List Given) → Maybe ℕ
first_by ns id i gss = head_of (each (number_by ns id i) gss)

-- The set of the numbers of all elements' names.
abbrev pub set_by : Names → ℕ → ℕ → List (List Given) → Maybe ℕ
set_by ns id i gss = set_of (each (number_by ns id i) gss)

-- The number of the first element e inside the one whose start tag's name ends at `end`.
abbrev pub first_at : Text → Text → ℕ → ℕ → ℕ → ℕ → Maybe ℕ
first_at s t end e id i = first_by (all_names s t) id i (inside_at s e end)

-- The set of the numbers of all elements e inside it.
abbrev pub set_at : Text → Text → ℕ → ℕ → ℕ → ℕ → Maybe ℕ
set_at s t end e id i = set_by (all_names s t) id i (inside_at s e end)

-- ---- The fields of a record.

-- A record with these fields.
abbrev pub numbers : ℕ → ℕ → ℕ → ℕ → ℕ → Option Fields
numbers n a b c m = Some (record { n = n; a = a; b = b; c = c; m = m })

-- The fields of a record with one name and n.
abbrev pub one_said : ℕ → Maybe ℕ → Option Fields
one_said n none = None
one_said n (just a) = numbers n a 0 0 0

-- The fields of a record with two names.
abbrev pub two_said : Maybe ℕ → Maybe ℕ → Option Fields
two_said none b = None
two_said (just a) none = None
two_said (just a) (just b) = numbers 0 a b 0 0

-- The fields of a record with three numbers.
abbrev pub three_said : Maybe ℕ → Maybe ℕ → Maybe ℕ → Option Fields
three_said none b c = None
three_said (just a) none c = None
three_said (just a) (just b) none = None
three_said (just a) (just b) (just c) = numbers 0 a b c 0

-- The fields of a record with n, a and a set.
abbrev pub set_said : ℕ → Maybe ℕ → Maybe ℕ → Option Fields
set_said n none m = None
set_said n (just a) none = None
set_said n (just a) (just m) = numbers n a 0 0 m

-- The number of a partitioning, if it is below 16.
abbrev pub partitioning_of : ℕ → Maybe ℕ
partitioning_of n = cond (ltb n 16) (just n) none

-- The wall of a block, by the block's number, if that is below 256.
abbrev pub wall_of : ℕ → Maybe ℕ
wall_of n = cond (ltb n 256) (just (n / 16)) none

-- The code's fields are these, and fit into a record.
pub record FieldsAre (want r : Option Fields) : Type 0 where
  pub fields-are : r ≡ want
  pub fits : Fit r
