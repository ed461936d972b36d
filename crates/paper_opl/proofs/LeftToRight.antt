-- The pass from left to right gives the names and the records that the definition gives for the elements of an accepted text (`WalkedAsDefined`).
use mathlib.Core.Path.{◌≡◌, refl, sym, ap, ◌∙◌}
use mathlib.Core.List.{List, [], ◌∷◌, ◌++◌, append-nil}
use mathlib.Core.Bool.{Bool, true, not}
use Prim.Native.Nat.{ℕ, suc}
use Prim.Native.String.{String}
use lib.Dec.{eqb}
use borrow.Author.Tests.{eqb-true}
use Rattle.paper_lower.specs.Lists.{Maybe, many, keep, each, lists_open}
use Rattle.paper_lower.specs.Lists.Maybe.{just}
use Rattle.paper_lower.specs.Records.{Record}
use Rattle.paper_lower.proofs.ListLaws.{or-none}
use Rattle.paper_opl.specs.Reading.{Text, text, same, reading_open}
use Rattle.paper_opl.specs.Reading.Read.{got}
use Rattle.paper_opl.specs.Elements.{elements_open}
use Rattle.paper_opl.specs.Tree.{Given, Elements, tags_of, document_in}
use Rattle.paper_opl.specs.Tree.Elements.{nothing, node}
use Rattle.paper_opl.specs.Naming.{Line, those, insides, in_all, in_each, value_of, declared_by, Names, space_of, objects_in, names_of, Row, rows_first, last_rows, record_by, records_by, records_of, task_lines, translate_in}
use Rattle.paper_opl.specs.Walk.{declared_in, names_in, start, turn, kinds, kind_in, inner_names, leading, Saying, sayings, row_of, record_said, rising, records_in, tags, walked_in, WalkedAsDefined}
use Rattle.paper_opl.proofs.Inversion.{on, on_test}
use Rattle.paper_opl.proofs.Conforms.{same_true, for_names, Fits, root}
use Rattle.paper_opl.proofs.Wider.{document-fits}
use Rattle.paper_opl.proofs.Groups.{inner_name, told, told_is}
use Rattle.paper_opl.proofs.KindByKind.{keep_append, each_append, of_kind, simple_test, simple, static, dynamic, in_separation_names, role-sets, partitions}
use Rattle.paper_opl.proofs.Walls.{in-all-walls, few-are}
use Rattle.paper_opl.proofs.Tags.{tags-are}

-- ---- Names.

-- The elements of a name are the tags of that name.
module _ {A : Type 0} (w : Text) (g : List Given → A) where
  pub by_name : (k : ℕ) (es : Elements) → each (λ x. g x.given) (those w k es) ≡ each (λ t. g t.given) (keep (λ t. same t.name w) (tags_of es))
  unfolding those tags_of keep each
  by_name k nothing = refl
  by_name k (node v gs i b) =
      let o : each (λ x. g x.given) (those w k i ++ those w k b) ≡ each (λ t. g t.given) (keep (λ t. same t.name w) (tags_of i ++ tags_of b))
      = each_append (λ x. g x.given) (those w k i) (those w k b) ∙ ap (λ (l : List A). l ++ each (λ x. g x.given) (those w k b)) (by_name k i)
      ∙ ap (λ (l : List A). each (λ t. g t.given) (keep (λ t. same t.name w) (tags_of i)) ++ l) (by_name k b)
      ∙ sym (ap (each (λ t. g t.given)) (keep_append (λ t. same t.name w) (tags_of i) (tags_of b))
      ∙ each_append (λ t. g t.given) (keep (λ t. same t.name w) (tags_of i)) (keep (λ t. same t.name w) (tags_of b))) in
      on_test (same v w) (λ q. rw q (ap (λ (l : List A). g gs ∷ l) o)) (λ q. rw q o)

pub declared-are : (e w : String) (es : Elements) → declared_by e w es ≡ declared_in e w (tags_of es)
declared-are e w es = by_name (text e) (value_of (text w)) 0 es

pub names-are : (es : Elements) (ls : List Line) → names_of es ls ≡ names_in (tags_of es) ls
unfolding names_of names_in
names-are es ls = λ i. record {
  users = space_of 1024 (declared-are "user" "user_id" es i);
  roles = space_of 64 (declared-are "role" "role_id" es i);
  permissions = space_of 256 (declared-are "permission" "permission_id" es i);
  operations = space_of 65536 (declared-are "operation" "operation_id" es i);
  objects = space_of 65536 (objects_in (tags_of es));
  tasks = space_of 64 (each (λ l. l.task) ls);
  templates = space_of 16 (each (λ l. l.template) ls);
}

-- ---- Kinds.

root-out : for_names (λ v. not (inner_name v)) root ≡ true
unfolding lists_open reading_open elements_open inner_names
root-out = refl

pub said-are : (es : Elements) → Fits root es → sayings start (tags_of es) ≡ told start es
unfolding sayings leading
said-are es f = ap (sayings start) (sym (append-nil (tags_of es))) ∙ told_is root root-out es f start [] refl ∙ append-nil (told start es)

module _ (es : Elements) (f : Fits root es) where
  -- A kind whose element counts wherever it occurs.
  everywhere : (e : Text) (k : ℕ) → simple_test e k ≡ true → of_kind k (told start es) ≡ those e 0 es
  everywhere e k t = simple e k t start refl es

  statics : of_kind 9 (told start es) ≡ in_all (text "critical_role_set") (insides static es)
  unfolding lists_open reading_open elements_open kinds in_separation_names turn
  statics =
      role-sets 9 static (refl, refl) refl (λ c w gs e. on_test (same w static) (λ q. rw q) (λ q. rw q (rw (rw q at e))))
      (λ w e. (or-none (same w static) (same w dynamic) e).0) root refl es f start

  dynamics : of_kind 10 (told start es) ≡ in_all (text "critical_role_set") (insides dynamic es)
  unfolding lists_open reading_open elements_open kinds in_separation_names turn
  dynamics =
      role-sets 10 dynamic (refl, refl) refl (λ c w gs e. on_test (same w static) (λ q. rw (same_true w static q)) (λ q. rw q (rw (rw q at e))))
      (λ w e. (or-none (same w static) (same w dynamic) e).1) root refl es f start

  partitioned : of_kind 12 (told start es) ≡ in_each 0 (text "hdsodtp_partition") (insides (text "hdsodtp_partitioning") es)
  unfolding lists_open reading_open elements_open
  partitioned = partitions root refl es f start refl

-- ---- Records.

-- The records of a kind, by its row.
by_row : (ns : Names) (r : Row) → row_of (rows_first ++ last_rows) r.kind ≡ just r → (xs : List Saying)
    → each (record_by ns r) (of_kind r.kind xs) ≡ each (record_said ns) (keep (λ x. eqb x.kind r.kind) xs)
unfolding of_kind keep each record_said
by_row ns r e [] = refl
by_row ns r e (x ∷ xs) =
    on_test (eqb x.kind r.kind)
    (λ q. rw q (rw (ap (λ (k : ℕ). row_of (rows_first ++ last_rows) k) (eqb-true x.kind r.kind q) ∙ e)
    (ap (λ (l : List (Maybe Record)). record_by ns r x.found ∷ l) (by_row ns r e xs))))
    (λ q. rw q (by_row ns r e xs))

-- A row of kind k, whose elements are those that the pass finds; and such rows for the kinds from k on.
record Lawful (es : Elements) (k : ℕ) (r : Row) : Type 0 where
  kind-is : r.kind ≡ k
  row_is : row_of (rows_first ++ last_rows) r.kind ≡ just r
  elements-are : of_kind r.kind (told start es) ≡ r.elements es

RowsFrom : Elements → ℕ → List Row → Type 0
RowsFrom es k [] = Unit {0}
RowsFrom es k (r ∷ rs) = Lawful es k r × RowsFrom es (suc k) rs

rows-rise : (ns : Names) (es : Elements) (rs : List Row) (k : ℕ) → RowsFrom es k rs → records_by ns rs es ≡ rising ns k (many rs) (told start es)
unfolding records_by rising RowsFrom many
rows-rise ns es [] k h = refl
rows-rise ns es (r ∷ rs) k h =
    let l = h.0 in
    ap (λ (x : List (Maybe Record)). x ++ records_by ns rs es)
    (ap (each (record_by ns r)) (sym l.elements-are) ∙ by_row ns r l.row_is (told start es) ∙
    ap (λ (n : ℕ). each (record_said ns) (keep (λ x. eqb x.kind n) (told start es))) l.kind-is)
    ∙ ap (λ (x : List (Maybe Record)). each (record_said ns) (keep (λ x. eqb x.kind k) (told start es)) ++ x) (rows-rise ns es rs (suc k) h.1)

module _ (es : Elements) (f : Fits root es) where
  first_rows : RowsFrom es 1 rows_first
  unfolding RowsFrom rows_first last_rows row_of simple_test lists_open reading_open kinds kind_in
  first_rows = (
    record { kind-is = refl; row_is = refl; elements-are = everywhere es f (text "user") 1 refl },
    (
      record { kind-is = refl; row_is = refl; elements-are = everywhere es f (text "role") 2 refl },
      (
        record { kind-is = refl; row_is = refl; elements-are = everywhere es f (text "permission") 3 refl },
        (
          record { kind-is = refl; row_is = refl; elements-are = everywhere es f (text "user_assignment") 4 refl },
          (record { kind-is = refl; row_is = refl; elements-are = everywhere es f (text "permission_assignment") 5 refl }, tt),
        ),
      ),
    ),
  )

  last-rows : RowsFrom es 7 last_rows
  unfolding RowsFrom rows_first last_rows row_of simple_test lists_open reading_open kinds kind_in
  last-rows = (
    record { kind-is = refl; row_is = refl; elements-are = everywhere es f (text "task_role_assignment") 7 refl },
    (
      record { kind-is = refl; row_is = refl; elements-are = everywhere es f (text "task_permission_assignment") 8 refl },
      (
        record { kind-is = refl; row_is = refl; elements-are = statics es f },
        (
          record { kind-is = refl; row_is = refl; elements-are = dynamics es f },
          (
            record { kind-is = refl; row_is = refl; elements-are = everywhere es f (text "critical_tasks_set") 11 refl },
            (
              record { kind-is = refl; row_is = refl; elements-are = partitioned es f },
              (
                record { kind-is = refl; row_is = refl; elements-are = everywhere es f (text "critical_workflow_template") 13 refl },
                (
                  record { kind-is = refl; row_is = refl; elements-are = everywhere es f (text "task_cardinality") 14 refl },
                  (
                    record { kind-is = refl; row_is = refl; elements-are = everywhere es f (text "bind_of_duty_constraint") 15 refl },
                    (
                      record { kind-is = refl; row_is = refl; elements-are = everywhere es f (text "prereq_step") 16 refl },
                      (
                        record { kind-is = refl; row_is = refl; elements-are = everywhere es f (text "inherit_role") 17 refl },
                        (record { kind-is = refl; row_is = refl; elements-are = in-all-walls es f }, tt),
                      ),
                    ),
                  ),
                ),
              ),
            ),
          ),
        ),
      ),
    ),
  )

  counts : (many rows_first ≡ 5) × (many last_rows ≡ 12)
  unfolding rows_first last_rows many
  counts = (refl, refl)

  -- The records of the elements are those that their tags yield from left to right.
  pub records-are : (ls : List Line) → records_of es ls ≡ records_in (tags_of es) ls
  unfolding records_of records_in
  records-are ls =
      let n = names-are es ls in
      let a : records_by (names_of es ls) rows_first es ≡ rising (names_in (tags_of es) ls) 1 5 (sayings start (tags_of es))
      = rows-rise (names_of es ls) es rows_first 1 first_rows ∙ rw (counts.0, n, said-are es f) in
      let b : records_by (names_of es ls) last_rows es ≡ rising (names_in (tags_of es) ls) 7 12 (sayings start (tags_of es))
      = rows-rise (names_of es ls) es last_rows 7 last-rows ∙ rw (counts.1, n, said-are es f) in
      rw (few-are es f, a, b, n)

-- ---- For an accepted text, the pass over its tags gives what its elements give.

pub walk-gives : (all : Bool) (s : Text) (es : Elements) (r : Text) (ls : List Line) → document_in all s ≡ got es r → records_of es ls ≡ records_in (tags s) ls
walk-gives all s es r ls e = records-are es (document-fits all s es r e) ls ∙ rw (tags-are all s es r e)

pub walked-is : WalkedAsDefined
unfolding translate_in walked_in
walked-is all s t out =
    on (document_in all s) (λ es r d. on (task_lines t) (λ ls u l. rw (d, l, walk-gives all s es r ls d)) (λ u l. rw (d, l))) (λ r d. rw d)
