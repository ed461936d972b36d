-- What the results of the code's lookups mean in paper_opl's definitions.
use Rattle.std.specs.Prelude.{ℕ, zero, suc, ◌+◌, ◌≡◌, cond, List, Option, Some, None, get_or}
use Rattle.paper_lower.specs.Lists.{Maybe}
use Rattle.paper_lower.specs.Lists.Maybe.{none, just}
use Rattle.paper_opl.specs.Reading.{Text, same}
use Rattle.paper_opl.specs.Elements.{Attribute, Child, next}
use Rattle.paper_opl.specs.Tree.{find, without}
use Rattle.opl_table.specs.declared.Known.{Known}
use Rattle.opl_table.specs.declared.TheConstants.{PLACE_NAME}
use Rattle.opl_table.specs.Numbers.{name_of, left_of, list_of, class_of}

-- The first of n places from k on whose name is v.
unfoldable pub place_of : Text → ℕ → ℕ → Option ℕ
place_of v k zero = None
place_of v k (suc n) = cond (same v (name_of (get_or PLACE_NAME k 0))) (Some k) (place_of v (k + 1) n)

-- The children that may follow an element that was found.
abbrev pub moved_of : Option Known → Maybe (List Child)
moved_of (Some known) = just (left_of known.after)
moved_of None = none

-- Looking up the name v among the children `left`: which element it is, and the children that may follow it.
pub record Follows (v : Text) (left : List Child) (r : Option Known) : Type 0 where
  pub moved : next left v ≡ moved_of r
  pub named : (known : Known) → r ≡ Some known → v ≡ name_of known.number

-- The attribute that was found, by its class.
abbrev pub allowed_of : Text → Option Known → Maybe Attribute
allowed_of v (Some known) = just (record { name = v; class = class_of known.number })
allowed_of v None = none

-- Looking up the name v among the attributes `left`: its class, and the attributes that may be given after it.
pub record Allows (v : Text) (left : List Attribute) (r : Option Known) : Type 0 where
  pub found : find left v ≡ allowed_of v r
  pub behind : (known : Known) → r ≡ Some known → without v left ≡ list_of known.after
