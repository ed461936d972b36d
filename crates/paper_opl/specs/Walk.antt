-- The same translation as one pass from left to right, in the way a program does it: start tags one after another, and the record of each. It is proved that
-- the result is always that of `translate_in` (WalkedAsDefined).
use Rattle.std.specs.Prelude.{ℕ, zero, suc, ◌-◌, ◌*◌, ◌≡◌, Bool, cond, ◌&&◌, ◌||◌, List, [], ◌∷◌, ◌++◌, eqb, leb, length, drop}
use Prim.Native.String.{String}
use Rattle.paper_lower.specs.Lists.{Maybe, some, keep, each}
use Rattle.paper_lower.specs.Lists.Maybe.{none, just}
use Rattle.paper_lower.specs.Records.{Bytes, Record}
use Rattle.paper_opl.specs.Reading.{Text, text, Read, after, same, starts, expect, skip, space, misc, name, value, equals}
use Rattle.paper_opl.specs.Reading.Read.{got, bad}
use Rattle.paper_opl.specs.Tree.{Given, Tag, if-found, prolog, document_in}
use Rattle.paper_opl.specs.Naming.{Line, Found, value_of, Names, space_of, objects_in, Row, rows_first, last_rows, record_by, task_record, all_of, NAMES, Answer, task_lines, refused, writes, judged, translate_in}

-- ---- Tags.

-- Reads an attribute without judging it.
unfoldable pub plain : Text → Read Given
plain s = after (name s) (λ w r. after (equals r) (λ _ u. after (value u) (λ v z. got (record { name = w; value = v }) z)))

-- Reads the attributes of a start tag without judging them, up to "/" or ">".
unfoldable pub givens : ℕ → Text → Read (List Given)
givens zero s = bad s
givens (suc n) s =
    cond (starts (text ">") (skip s) || starts (text "/") (skip s)) (got [] (skip s))
    (after (space s) (λ _ r. after (plain r) (λ g u. after (givens n u) (λ gs z. got (g ∷ gs) z))))

-- Reads the ">" or "/>" of a start tag.
abbrev pub closed : Text → Read (Unit {0})
closed s = cond (starts (text ">") s) (got tt (drop 1 s)) (expect (text ">") (drop 1 s))

-- Reads a start tag.
unfoldable pub start_tag : Text → Read (List Tag)
start_tag s =
    after (expect (text "<") s) (λ _ r. after (name r) (λ w u. after (givens (length u) u) (λ gs z. after (closed z) (λ _ y.
    got (record { name = w; given = gs } ∷ []) y))))

-- Reads an end tag, which yields nothing.
unfoldable pub end_tag : Text → Read (List Tag)
end_tag s = after (name (drop 2 s)) (λ v r. after (expect (text ">") (skip r)) (λ _ u. got [] u))

-- Reads the next start tag or end tag, after white space and comments.
unfoldable pub tag : Text → Read (List Tag)
tag s = after (misc (length s) s) (λ _ r. cond (starts (text "</") r) (end_tag r) (start_tag r))

-- The tags read, followed by those of the rest of the text; none if the text cannot be read.
abbrev pub onward : Read (List Tag) → (Text → List Tag) → List Tag
onward (got ts r) f = ts ++ f r
onward (bad r) f = []

-- The start tags of a text, of which at most n tags are read.
unfoldable pub tags_from : ℕ → Text → List Tag
tags_from zero s = []
tags_from (suc n) s = onward (tag s) (λ r. tags_from n r)

-- All start tags of a document.
unfoldable pub tags : Text → List Tag
tags s = onward (after (prolog s) (λ _ r. got [] r)) (λ r. tags_from (length r) r)

-- ---- The records that tags yield.

-- Whether a tag has this name.
abbrev pub called : String → Tag → Bool
called w t = same t.name (text w)

-- The names that tags e declare in their attribute w.
abbrev pub declared_in : String → String → List Tag → List Text
declared_in e w ts = each (λ t. value_of (text w) t.given) (keep (called e) ts)

-- All names that the tags and the task lines declare, as `names_of` does for elements.
unfoldable pub names_in : List Tag → List Line → Names
names_in ts ls = record {
  users = space_of 1024 (declared_in "user" "user_id" ts);
  roles = space_of 64 (declared_in "role" "role_id" ts);
  permissions = space_of 256 (declared_in "permission" "permission_id" ts);
  operations = space_of 65536 (declared_in "operation" "operation_id" ts);
  objects = space_of 65536 (objects_in ts);
  tasks = space_of 64 (each (λ l. l.task) ls);
  templates = space_of 16 (each (λ l. l.template) ls);
}

-- What the tags before a tag determine about it. `sets` is the kind of a set of roles, 9 or 10, by the last static or dynamic separation. `partitionings` and
-- `walls` count those that have begun. `blocks` is the number of the next block: 16 times its wall + its index there.
pub record Context : Type 0 where
  pub sets : ℕ
  pub partitionings : ℕ
  pub walls : ℕ
  pub blocks : ℕ

-- The context before the first tag.
abbrev pub start : Context
start = record { sets = 9; partitionings = 0; walls = 0; blocks = 0 }

-- The context after a tag.
unfoldable pub turn : Context → Tag → Context
turn c t = record {
  sets = cond (called "static_separation_of_duty" t) 9 (cond (called "dynamic_separation_of_duty" t) 10 c.sets);
  partitionings = cond (called "hdsodtp_partitioning" t) (suc c.partitionings) c.partitionings;
  walls = cond (called "module_chinese_wall_policy" t) (suc c.walls) c.walls;
  blocks = cond (called "module_chinese_wall_policy" t) (16 * c.walls) (cond (called "cw_partition" t) (suc c.blocks) c.blocks);
}

-- Whether the counts of a context are within their limits.
abbrev pub few : Context → Bool
few c = leb c.partitionings 16 && (leb c.walls 16 && leb c.blocks (16 * c.walls))

-- Whether they are, now and after each tag.
unfoldable pub few_from : Context → List Tag → Bool
few_from c [] = few c
few_from c (t ∷ ts) = few c && few_from (turn c t) ts

-- The elements that yield a record, and its kind. A set of roles is missing here, because its kind depends on the context.
unfoldable pub kinds : List (Text × ℕ)
kinds =
    (text "user", 1)
    ∷ (text "role", 2)
    ∷ (text "permission", 3)
    ∷ (text "user_assignment", 4)
    ∷ (text "permission_assignment", 5)
    ∷ (text "task_role_assignment", 7)
    ∷ (text "task_permission_assignment", 8)
    ∷ (text "critical_tasks_set", 11)
    ∷ (text "hdsodtp_partition", 12)
    ∷ (text "critical_workflow_template", 13)
    ∷ (text "task_cardinality", 14)
    ∷ (text "bind_of_duty_constraint", 15)
    ∷ (text "prereq_step", 16)
    ∷ (text "inherit_role", 17)
    ∷ (text "partition_object", 18)
    ∷ []

-- The kind of a name in such a list; 0 if it is not there.
unfoldable pub kind_in : List (Text × ℕ) → Text → ℕ
kind_in [] w = 0
kind_in (x ∷ xs) w = cond (same w x.0) x.1 (kind_in xs w)

-- The kind of the record that a tag yields; 0 for none.
abbrev pub kind_at : Context → Tag → ℕ
kind_at c t = cond (called "critical_role_set" t) c.sets (kind_in kinds t.name)

-- The elements that occur inside those which yield a record.
unfoldable pub inner_names : List Text
inner_names =
    each text ("operation" ∷ "object" ∷ "critical_roles" ∷ "critical_role" ∷ "critical_task" ∷ "partition_task" ∷ [])

-- Whether a tag is one of these.
abbrev pub inner : Tag → Bool
inner t = some (same t.name) inner_names

-- The tags at the front of a list that belong to the element before it.
unfoldable pub leading : List Tag → List Tag
leading [] = []
leading (t ∷ ts) = cond (inner t) (t ∷ leading ts) []

-- An element that yields a record, and the kind of that record.
pub record Saying : Type 0 where
  pub kind : ℕ
  pub found : Found

-- The same for a tag, given the tags of the elements inside it.
abbrev pub saying : Context → Tag → List Tag → Saying
saying c t inside = record {
  kind = kind_at c t;
  found = record {
    number = cond (called "hdsodtp_partition" t) (c.partitionings - 1) (cond (called "partition_object" t) (c.blocks - 1) 0);
    given = t.given;
    inside = inside;
  };
}

-- The same for all tags, in text order.
unfoldable pub sayings : Context → List Tag → List Saying
sayings c [] = []
sayings c (t ∷ ts) = cond (eqb (kind_at c t) 0) [] (saying c t (leading ts) ∷ []) ++ sayings (turn c t) ts

-- ---- Records.

-- The row of a kind.
unfoldable pub row_of : List Row → ℕ → Maybe Row
row_of [] k = none
row_of (r ∷ rs) k = cond (eqb r.kind k) (just r) (row_of rs k)

-- The record of such an element, if each of its fields has a value.
unfoldable pub record_said : Names → Saying → Maybe Record
record_said ns x = if-found (row_of (rows_first ++ last_rows) x.kind) none (λ r. record_by ns r x.found)

-- The records of n kinds from k on, by kind rising.
unfoldable pub rising : Names → ℕ → ℕ → List Saying → List (Maybe Record)
rising ns k zero xs = []
rising ns k (suc n) xs = each (record_said ns) (keep (λ x. eqb x.kind k) xs) ++ rising ns (suc k) n xs

-- All records of the tags and the task lines, if every name has a number and there are numbers enough for partitionings, walls and blocks.
unfoldable pub records_in : List Tag → List Line → Maybe (List Record)
records_in ts ls =
    cond (few_from start ts)
    (all_of (rising (names_in ts ls) 1 5 (sayings start ts) ++ each (task_record (names_in ts ls)) ls ++ rising (names_in ts ls) 7 12 (sayings start ts)))
    none

-- The call, by this pass.
unfoldable pub walked_in : Bool → Text → Text → Bytes → Answer
walked_in all s t out =
    judged 1 s (document_in all s) out (λ _. judged 2 t (task_lines t) out (λ ls.
    if-found (records_in (tags s) ls) (refused NAMES 0 0 out) (λ rs. writes rs out)))

-- It is the call as defined.
abbrev pub WalkedAsDefined : Type 0
WalkedAsDefined = (all : Bool) (s t : Text) (out : Bytes) → translate_in all s t out ≡ walked_in all s t out
