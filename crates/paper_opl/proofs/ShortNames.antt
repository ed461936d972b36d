-- If all records can be made, every declared name has at most 64 bytes.
use mathlib.Core.Path.{◌≡◌, refl, sym, ap, ◌∙◌}
use mathlib.Core.List.{List, [], ◌∷◌, ◌++◌}
use mathlib.Core.Bool.{Bool, true, false, not, ◌&&◌, ◌||◌, false≢true, true≢false}
use Prim.Native.String.{String}
use lib.Dec.{eqb, ltb, leb}
use lib.ListN.{length}
use borrow.Author.Tests.{not-true}
use Rattle.paper_lower.specs.Lists.{holds, there, some, every, keep, each, lists_open}
use Rattle.paper_lower.specs.Lists.Maybe.{just}
use Rattle.paper_lower.specs.Records.{Record}
use Rattle.paper_lower.proofs.ListLaws.{both}
use Rattle.paper_opl.specs.Reading.{Text, text, same, reading_open}
use Rattle.paper_opl.specs.Reading.Read.{got}
use Rattle.paper_opl.specs.Elements.{Child, elements_of, row_in, one, next, elements_open}
use Rattle.paper_opl.specs.Tree.{Given, Elements, Tag, tags_of, document_in}
use Rattle.paper_opl.specs.Tree.Elements.{nothing, node}
use Rattle.paper_opl.specs.Layout.{elements_fit, in_grammar, attributes_fit}
use Rattle.paper_opl.specs.Naming.{Line, Found, those, value_of, Space, place_of, number_in, Names, objects_in, names_of, Field, the, its, Row, rows_first, last_rows, record_by, task_record, records_by, all_of, few_of, records_of, row, all, ·, user, role, permission as permission-field, operation as operation-field, object as object-field}
use Rattle.paper_opl.specs.Walk.{called, declared_in, names_in, Context, start, turn, few_from, kinds, kind_in, kind_at, leading, saying, sayings, record_said, records_in, tags}
use Rattle.paper_opl.proofs.Inversion.{on_test, on-found, none≢just, just-value}
use Rattle.paper_opl.proofs.Conforms.{same_true, among, child-has, next-among, root}
use Rattle.paper_opl.proofs.Groups.{group_test, stands-out}
use Rattle.paper_opl.proofs.KindByKind.{each_append}
use Rattle.paper_opl.proofs.Judging.{every_append, every_of, all_there, judged}
use Rattle.paper_opl.proofs.SaidBy.{said-18}
use Rattle.paper_opl.proofs.LeftToRight.{declared-are, walk-gives}
use Rattle.paper_opl.proofs.Tags.{tags-are}
use Rattle.paper_opl.proofs.Wider.{document-wide}

abbrev pub short : Text → Bool
short w = leb (length w) 64

pub number_short : (sp : Space) (w : Text) → there (number_in sp w) ≡ true → short w ≡ true
unfolding number_in holds
number_short sp w e =
    on-found (place_of 0 w sp.declared)
    (λ k q. on_test (leb (length w) 64 && ltb k sp.limit) (λ c. (both (leb (length w) 64) (ltb k sp.limit) c).0)
    (λ c. absurd (false≢true (rw (q, c) at e))))
    (λ q. absurd (false≢true (rw q at e)))

-- A record has a value in each of its fields a, b and c.
pub fields-there : (ns : Names) (r : Row) (x : Found) → there (record_by ns r x) ≡ true →
    (there (r.a ns x) ≡ true) × (there (r.b ns x) ≡ true) × (there (r.c ns x) ≡ true)
unfolding holds
fields-there ns r x e =
    on-found (r.n ns x) (λ n qn. on-found (r.a ns x) (λ a qa. on-found (r.b ns x) (λ b qb. on-found (r.c ns x) (λ c qc. rw (qa, qb, qc) (refl, refl, refl))
    (λ q. absurd (false≢true (rw (qn, qa, qb, q) at e)))) (λ q. absurd (false≢true (rw (qn, qa, q) at e)))) (λ q. absurd (false≢true (rw (qn, q) at e))))
    (λ q. absurd (false≢true (rw q at e)))

every_more : {A : Type 0} (p q : A → Bool) (xs : List A) → ((x : A) → p x ≡ true → q x ≡ true) → every p xs ≡ true → every q xs ≡ true
unfolding every
every_more p q [] f h = refl
every_more p q (x ∷ xs) f h = let b = both (p x) (every p xs) h in rw (f x b.0) (every_more p q xs f b.1)

-- ---- Names that are declared by elements which yield a record.

own-short : (ns : Names) (r : Row) (space : Names → Space) (w : String) (xs : List Found) → r.a ≡ the space w → every (λ x. there (record_by ns r x)) xs ≡ true
    → every short (each (λ x. value_of (text w) x.given) xs) ≡ true
own-short ns r space w xs a h =
    every_of short (λ x. value_of (text w) x.given) xs
    ∙ every_more (λ x. there (record_by ns r x)) (λ x. short (value_of (text w) x.given)) xs
    (λ x e. number_short (space ns) (value_of (text w) x.given) (ap (λ (f : Field). there (f ns x)) (sym a) ∙ (fields-there ns r x e).0)) h

-- ---- Operations and objects, which are declared inside permissions.

abbrev permission : Text
permission = text "permission"

abbrev in_permission : Text → Bool
in_permission w = some (same w) (text "operation" ∷ text "object" ∷ [])

permissions-group : every (group_test (λ w. same w permission) in_permission) (elements_of true) ≡ true
unfolding lists_open reading_open elements_open
permissions-group = refl

nothing-inside : (w : Text) (es : Elements) → (row_in (elements_of true) w).children ≡ [] → elements_fit true (row_in (elements_of true) w).children es ≡ true →
    es ≡ nothing
unfolding elements_fit next
nothing-inside w nothing r h = refl
nothing-inside w (node v gs i b) r h = absurd (false≢true (rw r at h))

-- If a child must occur next, the next element is this child.
one-next : (c : String) (cs ds : List Child) (w : Text) → next (one c ∷ cs) w ≡ just ds → (w ≡ text c) × (ds ≡ cs)
unfolding next some
one-next c cs ds w e =
    on_test (same w (text c) || false)
    (λ q. on_test (same w (text c)) (λ p. (same_true w (text c) p, sym (just-value (rw q at e)))) (λ p. absurd (false≢true (rw p at q))))
    (λ q. absurd (none≢just (rw q at e)))

empty-rows : ((row_in (elements_of true) (text "operation")).children ≡ []) × ((row_in (elements_of true) (text "object")).children ≡ [])
unfolding reading_open elements_open
empty-rows = (refl, refl)

permission-row : (row_in (elements_of true) permission).children ≡ one "operation" ∷ one "object" ∷ []
unfolding reading_open elements_open
permission-row = refl

-- The content of a permission: an operation and an object.
record Pair (es : Elements) : Type 0 where
  operation : List Given
  object : List Given
  are : es ≡ node (text "operation") operation nothing (node (text "object") object nothing nothing)

one-fits : (c : String) (cs : List Child) (es : Elements) → (row_in (elements_of true) (text c)).children ≡ [] → elements_fit true (one c ∷ cs) es ≡ true →
    (gs : List Given) × (b : Elements) × (es ≡ node (text c) gs nothing b) × (elements_fit true cs b ≡ true)
unfolding elements_fit every
one-fits c cs nothing r h = absurd (false≢true h)
one-fits c cs (node w gs i b) r h =
    on-found (next (one c ∷ cs) w)
    (λ ds q.
    let n = one-next c cs ds w q in
    let p =
    both (attributes_fit (row_in (elements_of true) w).attributes gs && elements_fit true (row_in (elements_of true) w).children i) (elements_fit true ds b)
    (rw q at h) in
    let o = both (attributes_fit (row_in (elements_of true) w).attributes gs) (elements_fit true (row_in (elements_of true) w).children i) p.0 in
    let e = nothing-inside w i (rw n.0 r) o.1 in
    (gs, b, rw (n.0, e), rw n.1 at p.1))
    (λ q. absurd (false≢true (rw q at h)))

last_one : (es : Elements) → elements_fit true [] es ≡ true → es ≡ nothing
unfolding elements_fit next
last_one nothing h = refl
last_one (node w gs i b) h = absurd (false≢true h)

pair : (es : Elements) → elements_fit true (row_in (elements_of true) permission).children es ≡ true → Pair es
pair es h =
    let x = one-fits "operation" (one "object" ∷ []) es empty-rows.0 (rw permission-row at h) in
    let y = one-fits "object" [] x.1 empty-rows.1 x.3 in
    let z = last_one y.1 y.3 in
    record {
      operation = x.0;
      object = y.0;
      are = x.2 ∙ ap (λ (b : Elements). node (text "operation") x.0 nothing b) (y.2 ∙ ap (λ (b : Elements). node (text "object") y.0 nothing b) z);
    }

-- All names of two lists are short if those of each list are.
each-short : (f : Found → Text) (xs ys : List Found) → every short (each f xs) ≡ true → every short (each f ys) ≡ true → every short (each f (xs ++ ys)) ≡ true
each-short f xs ys a b = ap (every short) (each_append f xs ys) ∙ every_append short (each f xs) (each f ys) ∙ rw (a, b)

-- Among these elements there is exactly one of the name e.
pub record Alone (e : Text) (es : Elements) : Type 0 where
  pub given : List Given
  pub found : those e 0 es ≡ record { number = 0; given = given; inside = [] } ∷ []
  pub tagged : keep (λ t. same t.name e) (tags_of es) ≡ record { name = e; given = given } ∷ []

-- Elements e inside permissions, with the attribute w that names them and their name space.
module _ (ns : Names) (r : Row) (e w : String) (space : Names → Space) (inner : in_permission (text e) ≡ true)
    (told : (x : Found) → there (record_by ns r x) ≡ true → there (its e (the space w) ns x) ≡ true)
    (alone : (gs hs : List Given) → Alone (text e) (node (text "operation") gs nothing (node (text "object") hs nothing nothing)))
  where
    abbrev value_in : Found → Text
    value_in x = value_of (text w) x.given

    pair-short : (i : Elements) → Alone (text e) i → (gs : List Given) → there (record_by ns r (record { number = 0; given = gs; inside = tags_of i })) ≡ true →
        every short (each value_in (those (text e) 0 i)) ≡ true
    unfolding every each
    pair-short i a gs h =
        let t = told (record { number = 0; given = gs; inside = tags_of i }) h in
        let n = number_short (space ns) (value_of (text w) a.given) (rw a.tagged at t) in
        rw (a.found, n)

    inner-short : (left : List Child) → ((v : Text) → among left v ≡ true → in_permission v ≡ false) → (es : Elements) → elements_fit true left es ≡ true
        → every (λ x. there (record_by ns r x)) (those permission 0 es) ≡ true → every short (each value_in (those (text e) 0 es)) ≡ true
    unfolding elements_fit those every each
    inner-short left out nothing f h = refl
    inner-short left out (node v gs i b) f h =
        on-found (next left v)
        (λ cs q.
        let t = next-among left cs v q in
        let m =
        both (attributes_fit (row_in (elements_of true) v).attributes gs && elements_fit true (row_in (elements_of true) v).children i) (elements_fit true cs b)
        (rw q at f) in
        let k = both (attributes_fit (row_in (elements_of true) v).attributes gs) (elements_fit true (row_in (elements_of true) v).children i) m.0 in
        let o = out v t.0 in
        let z : same v (text e) ≡ false =
        on_test (same v (text e)) (λ s. absurd (true≢false (sym inner ∙ ap in_permission (sym (same_true v (text e) s)) ∙ o))) (λ s. s) in
        rw z (on_test (same v permission)
        (λ s.
        let d = both (there (record_by ns r (record { number = 0; given = gs; inside = tags_of i }))) _ (rw s at h) in
        let p = pair i (rw (same_true v permission s) at k.1) in
        let c = every_append (λ x. there (record_by ns r x)) (those permission 0 i) (those permission 0 b) in
        each-short value_in (those (text e) 0 i) (those (text e) 0 b) (pair-short i (rw p.are (alone p.operation p.object)) gs d.0)
        (inner-short cs (λ u x. out u (t.1 u x)) b m.1 (both (every (λ x. there (record_by ns r x)) (those permission 0 i)) _ (sym c ∙ d.1)).1))
        (λ s.
        let c = every_append (λ x. there (record_by ns r x)) (those permission 0 i) (those permission 0 b) in
        let d = both (every (λ x. there (record_by ns r x)) (those permission 0 i)) _ (sym c ∙ (rw s at h)) in
        each-short value_in (those (text e) 0 i) (those (text e) 0 b)
        (inner-short (row_in (elements_of true) v).children (λ u x. not-true (in_permission u) (child-has (λ u. not (in_permission u))
        (row_in (elements_of true) v).children u
        (stands-out (λ w. same w permission) in_permission v permissions-group (rw (s, o))) x)) i k.1 d.0)
        (inner-short cs (λ u x. out u (t.1 u x)) b m.1 d.1))))
        (λ q. absurd (false≢true (rw q at f)))

-- ---- All declared names.

-- All names that the tags and the task lines declare are short.
pub record ShortNames (ts : List Tag) (ls : List Line) : Type 0 where
  pub users : every short (declared_in "user" "user_id" ts) ≡ true
  pub roles : every short (declared_in "role" "role_id" ts) ≡ true
  pub permissions : every short (declared_in "permission" "permission_id" ts) ≡ true
  pub operations : every short (declared_in "operation" "operation_id" ts) ≡ true
  pub objects : every short (objects_in ts) ≡ true
  pub tasks : every short (each (λ l. l.task) ls) ≡ true
  pub templates : every short (each (λ l. l.template) ls) ≡ true

all_said : (es : Elements) (ls : List Line) (rs : List Record) → records_of es ls ≡ just rs
    → (every there (records_by (names_of es ls) rows_first es) ≡ true) × (every there (each (task_record (names_of es ls)) ls) ≡ true)
unfolding records_of holds
all_said es ls rs e =
    on_test (few_of es)
    (λ q.
    let f : all_of (records_by (names_of es ls) rows_first es ++ each (task_record (names_of es ls)) ls ++ records_by (names_of es ls) last_rows es) ≡ just rs =
    rw q at e in
    let a = sym (all_there (records_by (names_of es ls) rows_first es ++ each (task_record (names_of es ls)) ls ++ records_by (names_of es ls) last_rows es)) ∙ rw f in
    let b =
    both _ (every there (records_by (names_of es ls) last_rows es))
    (sym (every_append there (records_by (names_of es ls) rows_first es ++ each (task_record (names_of es ls)) ls) (records_by (names_of es ls) last_rows es)) ∙ a) in
    both (every there (records_by (names_of es ls) rows_first es)) (every there (each (task_record (names_of es ls)) ls))
    (sym (every_append there (records_by (names_of es ls) rows_first es) (each (task_record (names_of es ls)) ls)) ∙ b.0))
    (λ q. absurd (none≢just (rw q at e)))

-- The records of the first row, and those of the rows after it.
row-said : (ns : Names) (r : Row) (rs : List Row) (es : Elements) → every there (records_by ns (r ∷ rs) es) ≡ true
    → (every (λ x. there (record_by ns r x)) (r.elements es) ≡ true) × (every there (records_by ns rs es) ≡ true)
unfolding records_by
row-said ns r rs es h =
    let b =
    both (every there (each (record_by ns r) (r.elements es))) (every there (records_by ns rs es))
    (sym (every_append there (each (record_by ns r) (r.elements es)) (records_by ns rs es)) ∙ h) in
    (sym (every_of there (record_by ns r) (r.elements es)) ∙ b.0, b.1)

line-short : (ns : Names) (l : Line) → there (task_record ns l) ≡ true → (short l.task ≡ true) × (short l.template ≡ true)
unfolding holds
line-short ns l e =
    on-found (number_in ns.tasks l.task)
    (λ a p. on-found (number_in ns.templates l.template)
    (λ b q. (number_short ns.tasks l.task (rw p), number_short ns.templates l.template (rw q))) (λ q. absurd (false≢true (rw (p, q) at e))))
    (λ p. absurd (false≢true (rw p at e)))

operation-alone : (gs hs : List Given) → Alone (text "operation") (node (text "operation") gs nothing (node (text "object") hs nothing nothing))
unfolding reading_open lists_open those tags_of
operation-alone gs hs = record { given = gs; found = refl; tagged = refl }

object-alone : (gs hs : List Given) → Alone (text "object") (node (text "operation") gs nothing (node (text "object") hs nothing nothing))
unfolding reading_open lists_open those tags_of
object-alone gs hs = record { given = hs; found = refl; tagged = refl }

root-out : (v : Text) → among root v ≡ true → in_permission v ≡ false
unfolding lists_open reading_open
root-out v h = not-true (in_permission v) (child-has (λ u. not (in_permission u)) root v refl h)

abbrev user_row : Row
user_row = row 1 (all "user") · (user "user_id") · · ·

abbrev role_row : Row
role_row = row 2 (all "role") · (role "role_id") · · ·

abbrev permission_row : Row
permission_row =
    row 3 (all "permission") · (permission-field "permission_id") (its "operation" (operation-field "operation_id")) (its "object" (object-field "object_id")) ·

-- Objects in the blocks of walls.
block-object : (ns : Names) (x : Found) → there (record_said ns (record { kind = 18; found = x })) ≡ true → short (value_of (text "object_id") x.given) ≡ true
unfolding holds
block-object ns x h =
    on_test (ltb x.number 256)
    (λ q. on-found (number_in ns.objects (value_of (text "object_id") x.given))
    (λ k e. number_short ns.objects (value_of (text "object_id") x.given) (rw e))
    (λ e. absurd (false≢true (rw (q, e) at (rw (said-18 ns x) at h)))))
    (λ q. absurd (false≢true (rw q at (rw (said-18 ns x) at h))))

block-kind : (c : Context) (t : Tag) → called "partition_object" t ≡ true → kind_at c t ≡ 18
unfolding reading_open kinds kind_in
block-kind c t e = rw (same_true t.name (text "partition_object") e)

block-objects : (ns : Names) (ts : List Tag) (c : Context) → every (λ x. there (record_said ns x)) (sayings c ts) ≡ true
    → every short (declared_in "partition_object" "object_id" ts) ≡ true
unfolding sayings every keep each
block-objects ns [] c h = refl
block-objects ns (t ∷ ts) c h =
    on_test (called "partition_object" t)
    (λ q.
    let k = block-kind c t q in
    let b = both (there (record_said ns (record { kind = 18; found = (saying c t (leading ts)).found }))) _ (rw k at h) in
    rw (q, block-object ns (saying c t (leading ts)).found b.0) (block-objects ns ts (turn c t) b.1))
    (λ q. rw q (block-objects ns ts (turn c t)
    (on_test (eqb (kind_at c t) 0) (λ p. rw p at h) (λ p. (both (there (record_said ns (saying c t (leading ts)))) _ (rw p at h)).1))))

objects-short : (ts : List Tag) → every short (declared_in "object" "object_id" ts) ≡ true → every short (declared_in "partition_object" "object_id" ts) ≡ true
    → every short (objects_in ts) ≡ true
unfolding objects_in every keep each
objects-short [] a b = refl
objects-short (t ∷ ts) a b =
    on_test (called "object" t)
    (λ q.
    let x = both (short (value_of (text "object_id") t.given)) _ (rw q at a) in
    rw (q, x.0) (objects-short ts x.1
    (on_test (called "partition_object" t) (λ p. (both (short (value_of (text "object_id") t.given)) _ (rw p at b)).1) (λ p. rw p at b))))
    (λ q. on_test (called "partition_object" t)
    (λ p. let y = both (short (value_of (text "object_id") t.given)) _ (rw p at b) in rw (q, p, y.0) (objects-short ts (rw q at a) y.1))
    (λ p. rw (q, p) (objects-short ts (rw q at a) (rw p at b))))

-- Every tag that should yield a record has it.
all-tags : (ts : List Tag) (ls : List Line) (rs : List Record) → records_in ts ls ≡ just rs →
    every (λ x. there (record_said (names_in ts ls) x)) (sayings start ts) ≡ true
unfolding holds
all-tags ts ls rs e =
    let a : there (records_in ts ls) ≡ true = rw e in
    let b : few_from start ts && (every (λ l. there (task_record (names_in ts ls) l)) ls && every (λ x. there (record_said (names_in ts ls) x)) (sayings start ts)) ≡
    true
    = sym (judged ts ls) ∙ a in
    (both (every (λ l. there (task_record (names_in ts ls) l)) ls) (every (λ x. there (record_said (names_in ts ls) x)) (sayings start ts))
    (both (few_from start ts) _ b).1).1

tree-short : (es : Elements) (ls : List Line) (rs : List Record) → in_grammar true es ≡ true → records_of es ls ≡ just rs → records_in (tags_of es) ls ≡ just rs
    → ShortNames (tags_of es) ls
unfolding rows_first reading_open lists_open
tree-short es ls rs g e z =
    let a = all_said es ls rs e in
    let u = row-said (names_of es ls) _ _ es a.0 in
    let o = row-said (names_of es ls) _ _ es u.1 in
    let p = row-said (names_of es ls) _ _ es o.1 in
    record {
      users =
          ap (every short) (sym (declared-are "user" "user_id" es)) ∙
          own-short (names_of es ls) user_row (λ ns. ns.users) "user_id" (those (text "user") 0 es) refl u.0;
      roles =
          ap (every short) (sym (declared-are "role" "role_id" es)) ∙
          own-short (names_of es ls) role_row (λ ns. ns.roles) "role_id" (those (text "role") 0 es) refl o.0;
      permissions =
          ap (every short) (sym (declared-are "permission" "permission_id" es)) ∙
          own-short (names_of es ls) permission_row (λ ns. ns.permissions) "permission_id" (those (text "permission") 0 es) refl p.0;
      operations =
          ap (every short) (sym (declared-are "operation" "operation_id" es)) ∙
          inner-short (names_of es ls) permission_row "operation" "operation_id" (λ ns. ns.operations) refl
          (λ x h. (fields-there (names_of es ls) permission_row x h).1) operation-alone root root-out es g p.0;
      objects =
          objects-short (tags_of es)
          (ap (every short) (sym (declared-are "object" "object_id" es)) ∙
          inner-short (names_of es ls) permission_row "object" "object_id" (λ ns. ns.objects) refl (λ x h. (fields-there (names_of es ls) permission_row x h).2)
          object-alone root root-out es g p.0)
          (block-objects (names_in (tags_of es) ls) (tags_of es) start (all-tags (tags_of es) ls rs z));
      tasks =
          every_of short (λ l. l.task) ls ∙
          every_more (λ l. there (task_record (names_of es ls) l)) (λ l. short l.task) ls (λ l h. (line-short (names_of es ls) l h).0)
          (sym (every_of there (task_record (names_of es ls)) ls) ∙ a.1);
      templates =
          every_of short (λ l. l.template) ls ∙
          every_more (λ l. there (task_record (names_of es ls) l)) (λ l. short l.template) ls (λ l h. (line-short (names_of es ls) l h).1)
          (sym (every_of there (task_record (names_of es ls)) ls) ∙ a.1);
    }

pub short-names : (all : Bool) (s : Text) (es : Elements) (r : Text) (ls : List Line) (rs : List Record) → document_in all s ≡ got es r →
    records_in (tags s) ls ≡ just rs →
    ShortNames (tags s) ls
short-names all s es r ls rs d e =
    rw (tags-are all s es r d) (tree-short es ls rs (document-wide all s es r d) (walk-gives all s es r ls d ∙ e)
    (ap (λ (ts : List Tag). records_in ts ls) (sym (tags-are all s es r d)) ∙ e))
