-- The record that one tag of an accepted text yields, when the tables of the scratch buffer hold the names.
use Rattle.std.specs.Prelude.{ℕ, zero, suc, ◌<◌, ◌≡◌, List, length, Option, Some, None}
use Rattle.paper_lower.specs.Lists.{Maybe}
use Rattle.paper_lower.specs.Lists.Maybe.{none, just}
use Rattle.paper_lower.specs.Records.{Record}
use Rattle.paper_opl.specs.Reading.{Text, text}
use Rattle.paper_opl.specs.Tree.{decimal}
use Rattle.paper_opl.specs.Naming.{Space, Names, value_of, number_in}
use Rattle.paper_opl.specs.Walk.{tags, names_in}
use Rattle.opl_names.specs.Table.{Sound, found_of}
use Rattle.opl_lines.specs.Lines.{lines_in}
use Rattle.opl_tags.specs.Tags.{given_at}
use Rattle.opl_spaces.specs.Spaces.{limit_of, scratch_words, table_of, numbered}
use Rattle.opl_said.specs.declared.Fields.{Fields}

-- ---- The names.

-- The name space with this number.
unfoldable pub space_at : Names → ℕ → Space
space_at ns zero = ns.users
space_at ns (suc zero) = ns.roles
space_at ns (suc (suc zero)) = ns.permissions
space_at ns (suc (suc (suc zero))) = ns.operations
space_at ns (suc (suc (suc (suc zero)))) = ns.objects
space_at ns (suc (suc (suc (suc (suc zero))))) = ns.tasks
space_at ns (suc (suc (suc (suc (suc (suc i)))))) = ns.templates

-- The names that a policy text and its task lines declare.
abbrev pub all_names : Text → Text → Names
all_names s t = names_in (tags s) (lines_in t)

-- The tables of the scratch buffer hold these names: five tables by the tags of the policy text, two by the task lines.
pub record Held (s t : Text) (ns : Names) (l : List ℕ) : Type 0 where
  pub room : length l ≡ scratch_words
  pub tags-sound : (i : ℕ) → i < 5 → Sound s (limit_of i) (table_of i l)
  pub lines-sound : (i : ℕ) → 4 < i → i < 7 → Sound t (limit_of i) (table_of i l)
  pub tag-numbers : (i : ℕ) → i < 5 → (w : Text) → numbered s i l w ≡ number_in (space_at ns i) w
  pub line-numbers : (i : ℕ) → 4 < i → i < 7 → (w : Text) → numbered t i l w ≡ number_in (space_at ns i) w

-- They hold the names of the two texts.
abbrev pub Holds : Text → Text → List ℕ → Type 0
Holds s t l = Held s t (all_names s t) l

-- A number that was found is below the limit of its space.
abbrev pub Below : ℕ → Option ℕ → Type 0
Below n (Some k) = k < n
Below n None = Unit {0}

-- The contract of a lookup of a name, in a space that holds n names.
pub record NumberIs (n : ℕ) (number : Maybe ℕ) (r : Option ℕ) : Type 0 where
  pub number_is : found_of r ≡ number
  pub small : Below n r

-- ---- The record.

-- The cardinality of the start tag whose name ends at `end`. "a cardinality that is no number up to 255" is refused, so in an accepted text it is small
abbrev pub cardinality_at : Text → ℕ → ℕ
cardinality_at s end = decimal 0 (value_of (text "cardinality") (given_at s end))

-- The record with these fields; none if a name has no number.
abbrev pub a_record_of : ℕ → Option Fields → Maybe Record
a_record_of kind (Some f) = just (record { kind = kind; n = f.n; a = f.a; b = f.b; c = f.c; m = f.m })
a_record_of kind None = none

-- The numbers fit into a record.
pub record Small (n a b c : ℕ) : Type 0 where
  pub n-fits : n < 256
  pub a-fits : a < 65536
  pub b-fits : b < 65536
  pub c-fits : c < 65536

-- The same for the code's fields.
abbrev pub Fit : Option Fields → Type 0
Fit (Some f) = Small f.n f.a f.b f.c
Fit None = Unit {0}

-- The contract of `said`: the fields are those of the record, or both are absent.
pub record SaysIt (kind : ℕ) (said : Maybe Record) (r : Option Fields) : Type 0 where
  pub says : a_record_of kind r ≡ said
  pub fits : Fit r
