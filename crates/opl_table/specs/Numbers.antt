-- Numbers for names, for lists of children that may still follow in an open element, and for lists of attributes that may still be given, so that the code can
-- carry them.
use Rattle.std.specs.Prelude.{ℕ, zero, suc, Bool, true, false, cond, List, [], ◌∷◌, ◌++◌, eqb, leb, get_or}
use Rattle.paper_lower.specs.Lists.{each}
use Rattle.paper_opl.specs.Reading.{Text, text}
use Rattle.paper_opl.specs.Elements.{Class, Attribute, Times, Child, element, any_of, wider_modules, further_elements, elements, one, id, cardinality, given, optional}
use Rattle.paper_opl.specs.Elements.Class.{names as named, number, any, spare}
use Rattle.opl_table.specs.declared.TheConstants.{FIRST_STATE, FIRST_LIST}
use Rattle.paper_opl.specs.Elements.Times.{once, perhaps, often, least}

-- ---- Names. First the fifty elements of Ask 4 in the order of the table and their fifteen attributes; then the further elements and attributes of the wider
-- call.

-- All names; a name's number is its index.
unfoldable pub names : List Text
names =
    each (λ e. e.name) elements
    ++ each text ("key" ∷ "value" ∷ "name" ∷ "user_id" ∷ "role_id" ∷ "role_description" ∷ "permission_id" ∷ "operation_id" ∷ "object_id" ∷ "cardinality" ∷ "description" ∷ "task_id" ∷ "template_id" ∷ "bound_task_id" ∷ "prereq_task_id" ∷ [])
    ++ each (λ e. e.name) further_elements
    ++ each text ("upper_role" ∷ "lower_role" ∷ [])

-- The name with this number; no bytes if there is none.
unfoldable pub name_of : ℕ → Text
name_of id = get_or names id []

-- The numbers of the names that other definitions use.
abbrev pub OPERATION : ℕ
OPERATION = 15

abbrev pub OBJECT : ℕ
OBJECT = 16

abbrev pub PARTITION-TASK : ℕ
PARTITION-TASK = 40

abbrev pub PERMISSION-ID : ℕ
PERMISSION-ID = 56

abbrev pub OPERATION-ID : ℕ
OPERATION-ID = 57

abbrev pub OBJECT-ID : ℕ
OBJECT-ID = 58

abbrev pub TASK-ID : ℕ
TASK-ID = 61

abbrev pub CHINESE-WALL : ℕ
CHINESE-WALL = 69

abbrev pub CW-PARTITION : ℕ
CW-PARTITION = 71

abbrev pub PARTITION-OBJECT : ℕ
PARTITION-OBJECT = 72

-- ---- Lists of children that may still follow in an open element, called states in the code. Number 0 is no child; number 1 is the document before its root
-- element.

-- Adds the list after the first occurrence of a child that must occur and may repeat; for other children no list of their own is needed.
abbrev pub again : Times → List Text → List Child → List (List Child) → List (List Child)
again once ws cs more = more
again perhaps ws cs more = more
again often ws cs more = more
again least ws cs more = (record { times = often; names = ws } ∷ cs) ∷ more

-- The lists that an element's children go through: all of them at first, and then from each child on.
unfoldable pub stages : List Child → List (List Child)
stages [] = []
stages (c ∷ cs) = (c ∷ cs) ∷ again c.times c.names cs (stages cs)

-- Several lists as one.
unfoldable pub joined : List (List (List Child)) → List (List Child)
joined [] = []
joined (x ∷ xs) = x ++ joined xs

-- All lists. Those of Ask 4's table come first, then those of the wider call's further elements and its larger choice of modules.
unfoldable pub lefts : List (List Child)
lefts =
    [] ∷ (one "policy_object" ∷ []) ∷
    joined (each (λ e. stages e.children) (elements ++ (further_elements ++ (element "policy_object_modules" [] (any_of wider_modules ∷ []) ∷ []))))

-- The list with this number; no child if there is none.
unfoldable pub left_of : ℕ → List Child
left_of left = get_or lefts left []

-- ---- Lists of attributes that may still be given: those of each element, and what remains of them when some are given.

-- All of these lists.
unfoldable pub lists : List (List Attribute)
lists =
    []
    ∷ (given "key" ∷ given "value" ∷ [])
    ∷ (given "name" ∷ [])
    ∷ (id "user_id" ∷ [])
    ∷ (id "role_id" ∷ optional "role_description" ∷ [])
    ∷ (id "permission_id" ∷ [])
    ∷ (id "operation_id" ∷ [])
    ∷ (id "object_id" ∷ [])
    ∷ (id "role_id" ∷ id "user_id" ∷ [])
    ∷ (id "permission_id" ∷ id "role_id" ∷ [])
    ∷ (cardinality ∷ optional "name" ∷ optional "description" ∷ [])
    ∷ (id "role_id" ∷ [])
    ∷ (id "task_id" ∷ id "permission_id" ∷ [])
    ∷ (id "task_id" ∷ id "role_id" ∷ [])
    ∷ (id "template_id" ∷ [])
    ∷ (id "task_id" ∷ [])
    ∷ (optional "name" ∷ optional "description" ∷ [])
    ∷ (id "task_id" ∷ cardinality ∷ [])
    ∷ (id "task_id" ∷ id "bound_task_id" ∷ [])
    ∷ (id "prereq_task_id" ∷ id "task_id" ∷ [])
    ∷ (given "value" ∷ [])
    ∷ (given "key" ∷ [])
    ∷ (optional "role_description" ∷ [])
    ∷ (cardinality ∷ optional "description" ∷ [])
    ∷ (cardinality ∷ optional "name" ∷ [])
    ∷ (optional "description" ∷ [])
    ∷ (optional "name" ∷ [])
    ∷ (cardinality ∷ [])
    ∷ (id "bound_task_id" ∷ [])
    ∷ (id "prereq_task_id" ∷ [])
    ∷ (id "lower_role" ∷ id "upper_role" ∷ [])
    ∷ (id "upper_role" ∷ [])
    ∷ (id "lower_role" ∷ [])
    ∷ []

-- The list with this number; no attribute if there is none.
unfoldable pub list_of : ℕ → List Attribute
list_of list = get_or lists list []

-- The class with this number.
abbrev pub class_of : ℕ → Class
class_of zero = named
class_of (suc zero) = number
class_of (suc (suc zero)) = any
class_of (suc (suc (suc n))) = spare

-- ---- The rows that the tables in the code give.

-- The first state of an element in the table of a call. Ask 4's has fewer modules, and no rows for the further elements.
abbrev pub first_in : Bool → ℕ → ℕ
first_in true id = get_or FIRST_STATE id 0
first_in false id = cond (eqb id 5) 7 (cond (leb 65 id) 0 (get_or FIRST_STATE id 0))

-- The attribute list of an element in the table of a call.
abbrev pub given_in : Bool → ℕ → ℕ
given_in true id = get_or FIRST_LIST id 0
given_in false id = cond (leb 65 id) 0 (get_or FIRST_LIST id 0)
