-- The numbers in the code stand for the right rows: the children and the attributes that an element has at first, and the two masks. Each table is one
-- computation.
use mathlib.Core.Path.{◌≡◌, refl}
use mathlib.Core.List.{List, [], ◌∷◌}
use mathlib.Core.Bool.{Bool, true, false, not, ◌&&◌, false≢true}
use Prim.Native.Nat.{ℕ, ◌/◌, ◌%◌, ◌^◌, ◌<◌, ◌≤◌}
use native.Mathlib.Omega.{arith}
use lib.Dec.{eqb, leb}
use lib.ListN.{length, get_or, get_or-eq_default}
use borrow.Author.Tests.{ne_eqb, le-leb}
use Rattle.paper_lower.specs.Lists.{some, every, each}
use Rattle.paper_opl.specs.Reading.{text, same}
use Rattle.paper_opl.specs.Elements.{Attribute, Child, elements, elements_of, row_in, one, may_end}
use Rattle.paper_opl.specs.Tree.{required}
use Rattle.opl_table.specs.declared.TheConstants.{FIRST_STATE, FIRST_LIST}
use Rattle.opl_table.specs.Numbers.{names, name_of, stages, joined, lefts, left_of, lists, list_of, first_in, given_in}
use Rattle.opl_table.proofs.Cases.{values_to, agree, agree-everywhere, lefts-length, lists_length, names-length}

nothing-named : (id : ℕ) → 76 ≤ id → name_of id ≡ []
unfolding name_of
nothing-named id h = let n : length names ≤ id = omega (arith, names-length) in get_or-eq_default names [] n

-- The children of an element at first, by the code's numbers and by the definition.
abbrev coded-children : Bool → ℕ → List Child
coded-children all id = left_of (first_in all id)

abbrev children : Bool → ℕ → List Child
children all id = (row_in (elements_of all) (name_of id)).children

all_first : (all : Bool) → values_to (coded-children all) 76 ≡ values_to (children all) 76
unfolding left_of lefts stages joined each elements elements_of text name_of names row_in same
all_first false = refl
all_first true = refl

none_first : (all : Bool) → left_of 0 ≡ (row_in (elements_of all) []).children
unfolding left_of lefts row_in elements elements_of text same
none_first false = refl
none_first true = refl

past_states : (id : ℕ) → 76 ≤ id → get_or FIRST_STATE id 0 ≡ 0
past_states id h = let n : length FIRST_STATE ≤ id = omega arith in get_or-eq_default FIRST_STATE 0 n

past_first : (all : Bool) (id : ℕ) → 76 ≤ id → left_of (first_in all id) ≡ (row_in (elements_of all) (name_of id)).children
past_first true id h = rw (nothing-named id (omega arith), past_states id h) (none_first true)
past_first false id h = rw (nothing-named id (omega arith), ne_eqb id 5 (λ e. omega arith), le-leb 65 id (omega arith)) (none_first false)

first-is : (all : Bool) (id r : ℕ) → r ≡ first_in all id → left_of r ≡ (row_in (elements_of all) (name_of id)).children
first-is all id r e = rw e (agree-everywhere (coded-children all) (children all) 76 (all_first all) (past_first all) id)

-- The attributes of an element, by the code's numbers and by the definition.
abbrev coded-attributes : Bool → ℕ → List Attribute
coded-attributes all id = list_of (given_in all id)

abbrev attributes : Bool → ℕ → List Attribute
attributes all id = (row_in (elements_of all) (name_of id)).attributes

all-given : (all : Bool) → values_to (coded-attributes all) 76 ≡ values_to (attributes all) 76
unfolding list_of lists each elements elements_of text name_of names row_in same
all-given false = refl
all-given true = refl

none-given : (all : Bool) → list_of 0 ≡ (row_in (elements_of all) []).attributes
unfolding list_of lists row_in elements elements_of text same
none-given false = refl
none-given true = refl

past_lists : (id : ℕ) → 76 ≤ id → get_or FIRST_LIST id 0 ≡ 0
past_lists id h = let n : length FIRST_LIST ≤ id = omega arith in get_or-eq_default FIRST_LIST 0 n

past-given : (all : Bool) (id : ℕ) → 76 ≤ id → list_of (given_in all id) ≡ (row_in (elements_of all) (name_of id)).attributes
past-given true id h = rw (nothing-named id (omega arith), past_lists id h) (none-given true)
past-given false id h = rw (nothing-named id (omega arith), le-leb 65 id (omega arith)) (none-given false)

given_is : (all : Bool) (id r : ℕ) → r ≡ given_in all id → list_of r ≡ (row_in (elements_of all) (name_of id)).attributes
given_is all id r e = rw e (agree-everywhere (coded-attributes all) (attributes all) 76 (all-given all) (past-given all) id)

-- The branches of the code: the modules in Ask 4's table, elements that have no row there, and otherwise the number in the table.
module _ (id : ℕ) where
  pub first_modules : (all : Bool) → not all && eqb id 5 ≡ true → left_of 7 ≡ (row_in (elements_of all) (name_of id)).children
  first_modules true e = absurd (false≢true e)
  first_modules false e = first-is false id 7 (rw e)

  pub first_none : (all : Bool) → not all && eqb id 5 ≡ false → not all && leb 65 id ≡ true → left_of 0 ≡ (row_in (elements_of all) (name_of id)).children
  first_none true n e = absurd (false≢true e)
  first_none false n e = first-is false id 0 (rw (n, e))

  pub first_other : (all : Bool) (r : ℕ) → not all && eqb id 5 ≡ false → not all && leb 65 id ≡ false → r ≡ get_or FIRST_STATE id 0 →
      left_of r ≡ (row_in (elements_of all) (name_of id)).children
  first_other true r n m e = first-is true id r e
  first_other false r n m e = first-is false id r (rw (n, m) e)

  pub given_none : (all : Bool) → not all && leb 65 id ≡ true → list_of 0 ≡ (row_in (elements_of all) (name_of id)).attributes
  given_none true e = absurd (false≢true e)
  given_none false e = given_is false id 0 (rw e)

  pub given_other : (all : Bool) (r : ℕ) → not all && leb 65 id ≡ false → r ≡ get_or FIRST_LIST id 0 → list_of r ≡ (row_in (elements_of all) (name_of id)).attributes
  given_other true r m e = given_is true id r e
  given_other false r m e = given_is false id r (rw m e)

-- ---- The masks: which states may end, and which attribute lists lack a required attribute.

-- Bit k of a mask.
abbrev bit : ℕ → ℕ → Bool
bit mask k = eqb (mask / 2 ^ k % 2) 1

abbrev ends : ℕ → Bool
ends left = may_end (left_of left)

all-ends : values_to (bit 18102970491452506465) 64 ≡ values_to ends 64
unfolding left_of lefts stages joined each elements text every
all-ends = refl

pub ends_is : (left : ℕ) → left < 64 → eqb (18102970491452506465 / 2 ^ left % 2) 1 ≡ may_end (left_of left)
ends_is left h = agree (bit 18102970491452506465) ends 64 all-ends left h

pub ends_past : (left : ℕ) → 64 ≤ left → true ≡ may_end (left_of left)
unfolding left_of every
ends_past left h =
    let n : length lefts ≤ left = omega (arith, lefts-length) in
    let e : get_or lefts left [] ≡ [] = get_or-eq_default lefts [] n in
    rw e

abbrev needs : ℕ → Bool
needs list = some (λ a. required a.class) (list_of list)

all-missing : values_to (bit 8485011454) 64 ≡ values_to needs 64
unfolding list_of lists text some
all-missing = refl

pub missing_is : (list : ℕ) → list < 64 → eqb (8485011454 / 2 ^ list % 2) 1 ≡ some (λ a. required a.class) (list_of list)
missing_is list h = agree (bit 8485011454) needs 64 all-missing list h

pub missing_past : (list : ℕ) → 64 ≤ list → false ≡ some (λ a. required a.class) (list_of list)
unfolding list_of some
missing_past list h =
    let n : length lists ≤ list = omega (arith, lists_length) in
    let e : get_or lists list [] ≡ [] = get_or-eq_default lists [] n in
    rw e

-- State 1 is the document before its root element.
pub document-left : left_of 1 ≡ one "policy_object" ∷ []
unfolding left_of lefts
document-left = refl
