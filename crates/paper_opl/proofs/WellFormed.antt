-- "Accepted text always yields a policy of well-shaped records": each field of each row fits the form of its kind, and kinds rise.
use mathlib.Core.Path.{◌≡◌, refl, sym, subst}
use mathlib.Core.List.{List, [], ◌∷◌, ◌++◌, append_assoc, append-nil}
use mathlib.Core.Bool.{false, ◌&&◌}
use Prim.Native.Nat.{ℕ, zero, suc, ◌+◌, ◌/◌, ◌^◌, ◌<◌, ◌≤◌}
use Prim.Native.String.{String}
use native.Mathlib.Omega.{arith}
use lib.Dec.{ltb, leb}
use lib.ListN.{length}
use borrow.Author.Tests.{ltb-true, le-ltb}
use Rattle.paper_lower.specs.Lists.{Maybe, many, each, Every}
use Rattle.paper_lower.specs.Lists.Maybe.{none, just}
use Rattle.paper_lower.specs.Sets.{Set}
use Rattle.paper_lower.specs.Records.{Record, bytes, encode}
use Rattle.paper_lower.specs.Forms.{Field as FormField, Form, policy_forms, form_of, misplaced, above, misshapen, out_of_range, form_checks}
use Rattle.paper_lower.specs.Forms.Field.{· as zero-only, to, any}
use Rattle.paper_lower.proofs.ListLaws.{◌⨾◌, both, every-all, every-each, every_append}
use Rattle.paper_lower.proofs.ReadBack.{read_back}
use Rattle.sets.proofs.SetLaws.{plus-lt}
use Rattle.paper_opl.specs.Reading.{Text, text}
use Rattle.paper_opl.specs.Tree.{Elements}
use Rattle.paper_opl.specs.Naming.{Line, Found, value_of, Space, number_in, place_of, Names, names_of, Field, ·, the, members, of_first, its, cardinality, set_of, set, partitioning, wall, block, Row, record_by, records_by, task_record, rows_first, last_rows, those}
use Rattle.paper_opl.specs.Promises.{WellShaped}
use Rattle.paper_opl.proofs.Inversion.{on_test, on-found, none≢just, just-value}
use Rattle.paper_opl.proofs.Cardinalities.{AllSmall, Proper, those-proper, within-proper, numbered-proper, walled-proper, value-small}

-- ---- One field.

-- The value is allowed in this field of the form, and is below the limit.
abbrev Within : FormField → ℕ → ℕ → Type 0
Within form limit v = (misplaced form v ≡ false) × (above form v ≡ false) × (v < limit)

-- Every value of the field f, for an element with small cardinalities, is allowed by the form and below the limit.
abbrev Holds : FormField → ℕ → Names → Field → Type 0
Holds form limit ns f = (x : Found) → Proper x → (v : ℕ) → f ns x ≡ just v → Within form limit v

none_within : (limit : ℕ) → 0 < limit → Within zero-only limit 0
unfolding misplaced above
none_within limit l = (refl, refl, l)

nothing-holds : (limit : ℕ) → 0 < limit → (ns : Names) → Holds zero-only limit ns ·
nothing-holds limit l ns x p v e = subst (λ (n : ℕ). Within zero-only limit n) (just-value e) (none_within limit l)

number-below : (sp : Space) (w : Text) (k : ℕ) → number_in sp w ≡ just k → k < sp.limit
unfolding number_in
number-below sp w k e =
    on-found (place_of 0 w sp.declared)
    (λ j q. on_test (leb (length w) 64 && ltb j sp.limit)
    (λ c. let l = ltb-true j sp.limit (both (leb (length w) 64) (ltb j sp.limit) c).1 in subst (λ (n : ℕ). n < sp.limit) (just-value (rw (q, c) at e)) l)
    (λ c. absurd (none≢just (rw (q, c) at e))))
    (λ q. absurd (none≢just (rw q at e)))

number-within : (j limit : ℕ) (sp : Space) (w : Text) (v : ℕ) → sp.limit ≡ suc j → suc j ≤ limit → number_in sp w ≡ just v → Within (to j) limit v
unfolding misplaced above
number-within j limit sp w v s l e = let k = number-below sp w v e in (refl, le-ltb j v (omega arith), omega arith)

number-holds : (j limit : ℕ) (ns : Names) (space : Names → Space) (w : String) → (space ns).limit ≡ suc j → suc j ≤ limit → Holds (to j) limit ns (the space w)
number-holds j limit ns space w s l x p v e = number-within j limit (space ns) (value_of (text w) x.given) v s l e

any-number-holds : (ns : Names) (space : Names → Space) (w : String) → (space ns).limit ≡ 65536 → Holds any 65536 ns (the space w)
unfolding misplaced above
any-number-holds ns space w s x p v q = let k = number-below (space ns) (value_of (text w) x.given) v q in (refl, refl, omega arith)

its-holds : (ns : Names) (space : Names → Space) (e w : String) → (space ns).limit ≡ 65536 → Holds any 65536 ns (its e (the space w))
unfolding misplaced above
its-holds ns space e w s x p v q = (refl, refl, go (members e x) q)
  where
    go : (ms : List Found) → of_first (the space w ns) ms ≡ just v → v < 65536
    go [] q = absurd (none≢just q)
    go (m ∷ ms) q = let k = number-below (space ns) (value_of (text w) m.given) v q in omega arith

cardinality-holds : (ns : Names) → Holds any 256 ns cardinality
unfolding misplaced above
cardinality-holds ns x p v e = let l = value-small x.given p in let q = just-value e in (refl, refl, omega arith)

set_below : (ks : List (Maybe ℕ)) → Every (λ k. (i : ℕ) → k ≡ just i → i < 64) ks → (m : Set) → set_of ks ≡ just m → m < 2 ^ 64
unfolding set_of
set_below [] h m e = subst (λ (n : ℕ). n < 2 ^ 64) (just-value e) (omega arith)
set_below (none ∷ ks) h m e = absurd (none≢just e)
set_below (just i ∷ ks) h m e =
    on-found (set_of ks) (λ n q. subst (λ (x : ℕ). x < 2 ^ 64) (just-value (rw q at e)) (plus-lt 64 n i (set_below ks h.1 n q) (h.0 i refl)))
    (λ q. absurd (none≢just (rw q at e)))

set_holds : (ns : Names) (space : Names → Space) (e w : String) → (space ns).limit ≡ 64 → Holds any (2 ^ 64) ns (set e (the space w))
unfolding misplaced above
set_holds ns space e w s x p v q = (
  refl,
  refl,
  set_below (each (the space w ns) (members e x))
      (every-each (λ k. (i : ℕ) → k ≡ just i → i < 64) (the space w ns) (members e x)
      (every-all (members e x) (λ m i o. let k = number-below (space ns) (value_of (text w) m.given) i o in omega arith))) v q,
)

partitioning-holds : (ns : Names) → Holds (to 15) 65536 ns partitioning
unfolding misplaced above
partitioning-holds ns x p v e =
    on_test (ltb x.number 16)
    (λ c. let l = ltb-true x.number 16 c in let q = just-value (rw c at e) in (refl, le-ltb 15 v (omega arith), omega arith))
    (λ c. absurd (none≢just (rw c at e)))

-- The wall and the block of an object.
wall-holds : (ns : Names) → Holds (to 15) 65536 ns wall
unfolding misplaced above
wall-holds ns x p v e =
    on_test (ltb x.number 256)
    (λ c. let l = ltb-true x.number 256 c in let q = just-value (rw c at e) in (refl, le-ltb 15 v (omega arith), omega arith))
    (λ c. absurd (none≢just (rw c at e)))

block-holds : (ns : Names) → Holds (to 15) 65536 ns block
unfolding misplaced above
block-holds ns x p v e = let q = just-value e in (refl, le-ltb 15 v (omega arith), omega arith)

-- ---- One record.

bytes_small : (k x : ℕ) → Every (λ b. b < 256) (bytes k x)
unfolding bytes
bytes_small zero x = tt
bytes_small (suc k) x = (omega arith, bytes_small k (x / 256))

shaped : (r : Record) (f : Form) → form_of policy_forms r.kind ≡ just f → r.kind < 256 → Within f.n 256 r.n → Within f.a 65536 r.a →
    Within f.b 65536 r.b → Within f.c 65536 r.c
    → Within f.m (2 ^ 64) r.m → WellShaped r
unfolding encode bytes form_checks misshapen out_of_range
shaped r f k s n a b c m = record {
  sixteen = refl;
  bytes-are = (
    s,
    (
      n.2,
      every_append (λ b. b < 256) (bytes 2 r.a ++ bytes 2 r.b ++ bytes 2 r.c) (bytes 8 r.m)
          (every_append (λ b. b < 256) (bytes 2 r.a ++ bytes 2 r.b) (bytes 2 r.c)
          (every_append (λ b. b < 256) (bytes 2 r.a) (bytes 2 r.b) (bytes_small 2 r.a) (bytes_small 2 r.b)) (bytes_small 2 r.c))
          (bytes_small 8 r.m),
    ),
  );
  passes = rw (read_back r a.2 b.2 c.2 m.2, k, n.0, a.0, b.0, c.0, m.0, n.1, a.1, b.1, c.1, m.1);
}

-- A row whose fields fit the form of its kind.
record Kept (ns : Names) (r : Row) : Type 0 where
  form : Form
  form-is : form_of policy_forms r.kind ≡ just form
  kind-small : r.kind < 256
  n-holds : Holds form.n 256 ns r.n
  a-holds : Holds form.a 65536 ns r.a
  b-holds : Holds form.b 65536 ns r.b
  c-holds : Holds form.c 65536 ns r.c
  m-holds : Holds form.m (2 ^ 64) ns r.m

by_row : (ns : Names) (r : Row) → Kept ns r → (x : Found) → Proper x → (t : Record) → record_by ns r x ≡ just t → (t.kind ≡ r.kind) × WellShaped t
by_row ns r h x p t e =
    on-found (r.n ns x) (λ n qn. on-found (r.a ns x) (λ a qa. on-found (r.b ns x) (λ b qb. on-found (r.c ns x) (λ c qc. on-found (r.m ns x)
    (λ m qm.
    rw (sym (just-value (rw (qn, qa, qb, qc, qm) at e))) (
      refl,
      shaped (record { kind = r.kind; n = n; a = a; b = b; c = c; m = m }) h.form h.form-is h.kind-small (h.n-holds x p n qn) (h.a-holds x p a qa)
          (h.b-holds x p b qb) (h.c-holds x p c qc) (h.m-holds x p m qm),
    ))
    (λ q. absurd (none≢just (rw (qn, qa, qb, qc, q) at e)))) (λ q. absurd (none≢just (rw (qn, qa, qb, q) at e))))
    (λ q. absurd (none≢just (rw (qn, qa, q) at e)))) (λ q. absurd (none≢just (rw (qn, q) at e)))) (λ q. absurd (none≢just (rw q at e)))

-- ---- All rows.

-- "Users 0 to 1,023. Roles 0 to 63. Permissions 0 to 255. Tasks 0 to 63. Templates 0 to 15."
record Limits (ns : Names) : Type 0 where
  users : ns.users.limit ≡ 1024
  roles : ns.roles.limit ≡ 64
  permissions : ns.permissions.limit ≡ 256
  operations : ns.operations.limit ≡ 65536
  objects : ns.objects.limit ≡ 65536
  tasks : ns.tasks.limit ≡ 64
  templates : ns.templates.limit ≡ 16

limits : (es : Elements) (ls : List Line) → Limits (names_of es ls)
unfolding names_of
limits es ls = record { users = refl; roles = refl; permissions = refl; operations = refl; objects = refl; tasks = refl; templates = refl }

kept : (ns : Names) (r : Row) (f : Form) → form_of policy_forms r.kind ≡ just f → r.kind < 256 → Holds f.n 256 ns r.n → Holds f.a 65536 ns r.a →
    Holds f.b 65536 ns r.b
    → Holds f.c 65536 ns r.c → Holds f.m (2 ^ 64) ns r.m → Kept ns r
kept ns r f k s n a b c m = record { form = f; form-is = k; kind-small = s; n-holds = n; a-holds = a; b-holds = b; c-holds = c; m-holds = m }

module _ (ns : Names) (l : Limits ns) where
  no-n : Holds zero-only 256 ns ·
  no-n = nothing-holds 256 (omega arith) ns

  no_field : Holds zero-only 65536 ns ·
  no_field = nothing-holds 65536 (omega arith) ns

  no-set : Holds zero-only (2 ^ 64) ns ·
  no-set = nothing-holds (2 ^ 64) (omega arith) ns

  user : (w : String) → Holds (to 1023) 65536 ns (the (λ ns. ns.users) w)
  user w = number-holds 1023 65536 ns (λ ns. ns.users) w l.users (omega arith)

  role : (w : String) → Holds (to 63) 65536 ns (the (λ ns. ns.roles) w)
  role w = number-holds 63 65536 ns (λ ns. ns.roles) w l.roles (omega arith)

  permission : (w : String) → Holds (to 255) 65536 ns (the (λ ns. ns.permissions) w)
  permission w = number-holds 255 65536 ns (λ ns. ns.permissions) w l.permissions (omega arith)

  task : (w : String) → Holds (to 63) 65536 ns (the (λ ns. ns.tasks) w)
  task w = number-holds 63 65536 ns (λ ns. ns.tasks) w l.tasks (omega arith)

  template : (w : String) → Holds (to 15) 65536 ns (the (λ ns. ns.templates) w)
  template w = number-holds 15 65536 ns (λ ns. ns.templates) w l.templates (omega arith)

  first-kept : Every (Kept ns) rows_first
  unfolding rows_first policy_forms form_of
  first-kept =
      kept ns _ _ refl (omega arith) no-n (user "user_id") no_field no_field no-set
      ⨾ kept ns _ _ refl (omega arith) no-n (role "role_id") no_field no_field no-set
      ⨾ kept ns _ _ refl (omega arith) no-n (permission "permission_id") (its-holds ns (λ ns. ns.operations) "operation" "operation_id" l.operations)
      (its-holds ns (λ ns. ns.objects) "object" "object_id" l.objects) no-set
      ⨾ kept ns _ _ refl (omega arith) no-n (user "user_id") (role "role_id") no_field no-set
      ⨾ kept ns _ _ refl (omega arith) no-n (role "role_id") (permission "permission_id") no_field no-set
      ⨾ tt

  last-kept : Every (Kept ns) last_rows
  unfolding last_rows policy_forms form_of
  last-kept =
      kept ns _ _ refl (omega arith) no-n (task "task_id") (role "role_id") no_field no-set
      ⨾ kept ns _ _ refl (omega arith) no-n (task "task_id") (permission "permission_id") no_field no-set
      ⨾ kept ns _ _ refl (omega arith) (cardinality-holds ns) no_field no_field no_field (set_holds ns (λ ns. ns.roles) "critical_role" "role_id" l.roles)
      ⨾ kept ns _ _ refl (omega arith) (cardinality-holds ns) no_field no_field no_field (set_holds ns (λ ns. ns.roles) "critical_role" "role_id" l.roles)
      ⨾ kept ns _ _ refl (omega arith) (cardinality-holds ns) no_field no_field no_field (set_holds ns (λ ns. ns.tasks) "critical_task" "task_id" l.tasks)
      ⨾ kept ns _ _ refl (omega arith) no-n (partitioning-holds ns) no_field no_field (set_holds ns (λ ns. ns.tasks) "partition_task" "task_id" l.tasks)
      ⨾ kept ns _ _ refl (omega arith) no-n (template "template_id") no_field no_field no-set
      ⨾ kept ns _ _ refl (omega arith) (cardinality-holds ns) (task "task_id") no_field no_field no-set
      ⨾ kept ns _ _ refl (omega arith) no-n (task "task_id") (task "bound_task_id") no_field no-set
      ⨾ kept ns _ _ refl (omega arith) no-n (task "prereq_task_id") (task "task_id") no_field no-set
      ⨾ kept ns _ _ refl (omega arith) no-n (role "upper_role") (role "lower_role") no_field no-set
      ⨾ kept ns _ _ refl (omega arith) no-n (wall-holds ns) (block-holds ns) (any-number-holds ns (λ ns. ns.objects) "object_id" l.objects) no-set
      ⨾ tt

  line-shaped : (i : Line) (t : Record) → task_record ns i ≡ just t → (t.kind ≡ 6) × WellShaped t
  unfolding policy_forms form_of
  line-shaped i t e =
      on-found (number_in ns.tasks i.task)
      (λ a qa. on-found (number_in ns.templates i.template)
      (λ b qb.
      rw (sym (just-value (rw (qa, qb) at e))) (
        refl,
        shaped (record { kind = 6; n = 0; a = a; b = b; c = 0; m = 0 }) _ refl (omega arith) (none_within 256 (omega arith))
            (number-within 63 65536 ns.tasks i.task a l.tasks (omega arith) qa)
            (number-within 15 65536 ns.templates i.template b l.templates (omega arith) qb) (none_within 65536 (omega arith))
            (none_within (2 ^ 64) (omega arith)),
      ))
      (λ q. absurd (none≢just (rw (qa, q) at e))))
      (λ q. absurd (none≢just (rw q at e)))

-- ---- Rising kinds.

count : many rows_first ≡ 5
unfolding rows_first many
count = refl

-- Every record is well shaped, and none has a lower kind than the one before it. Nothing is said about records after one that is missing.
unfoldable pub Rise : ℕ → List (Maybe Record) → Type 0
Rise k [] = Unit {0}
Rise k (none ∷ xs) = Unit {0}
Rise k (just t ∷ xs) = (k ≤ t.kind) × WellShaped t × Rise t.kind xs

rise-less : (k j : ℕ) (xs : List (Maybe Record)) → k ≤ j → Rise j xs → Rise k xs
unfolding Rise
rise-less k j [] l h = tt
rise-less k j (none ∷ xs) l h = tt
rise-less k j (just t ∷ xs) l h = let m = h.0 in (omega arith, h.1, h.2)

-- Records of one kind.
abbrev Block : ℕ → Maybe Record → Type 0
Block k m = (t : Record) → m ≡ just t → (t.kind ≡ k) × WellShaped t

rise-block : (k j : ℕ) (xs ys : List (Maybe Record)) → k ≤ j → Every (Block j) xs → Rise j ys → Rise k (xs ++ ys)
unfolding Rise
rise-block k j [] ys l h r = rise-less k j ys l r
rise-block k j (none ∷ xs) ys l h r = tt
rise-block k j (just t ∷ xs) ys l h r =
    let b = h.0 t refl in
    let q = b.0 in
    (omega arith, b.1, subst (λ (n : ℕ). Rise n (xs ++ ys)) (sym q) (rise-block j j xs ys (omega arith) h.1 r))

-- Rows of the kinds from k on. All that they find has small cardinalities.
RowsKept : Names → Elements → ℕ → List Row → Type 0
RowsKept ns es k [] = Unit {0}
RowsKept ns es k (r ∷ rs) = (r.kind ≡ k) × Every Proper (r.elements es) × RowsKept ns es (suc k) rs

found-block : (ns : Names) (r : Row) → Kept ns r → (xs : List Found) → Every Proper xs → Every (Block r.kind) (each (record_by ns r) xs)
unfolding each
found-block ns r h [] p = tt
found-block ns r h (x ∷ xs) p = (λ t e. by_row ns r h x p.0 t e, found-block ns r h xs p.1)

rows-rise : (ns : Names) (es : Elements) (rs : List Row) (k : ℕ) → Every (Kept ns) rs → RowsKept ns es k rs → (ys : List (Maybe Record)) →
    ((j : ℕ) → j ≤ k + many rs → Rise j ys) → Rise k (records_by ns rs es ++ ys)
unfolding RowsKept records_by many
rows-rise ns es [] k h q ys r = r k (omega arith)
rows-rise ns es (r ∷ rs) k h q ys s =
    let e = q.0 in
    rw (append_assoc (each (record_by ns r) (r.elements es)) (records_by ns rs es) ys)
    (rise-block k k (each (record_by ns r) (r.elements es)) (records_by ns rs es ++ ys) (omega arith)
    (subst (λ (n : ℕ). Every (Block n) (each (record_by ns r) (r.elements es))) e (found-block ns r h.0 (r.elements es) q.1))
    (rise-less k (suc k) (records_by ns rs es ++ ys) (omega arith) (rows-rise ns es rs (suc k) h.1 q.2 ys (λ j l. s j (omega arith)))))

lines-block : (ns : Names) → Limits ns → (ls : List Line) → Every (Block 6) (each (task_record ns) ls)
unfolding each
lines-block ns l [] = tt
lines-block ns l (i ∷ ls) = (λ t e. line-shaped ns l i t e, lines-block ns l ls)

module _ (es : Elements) (small : AllSmall es) where
  all_found : (w : String) → Every Proper (those (text w) 0 es)
  all_found w = those-proper (text w) 0 es small

  first-proper : (ns : Names) → RowsKept ns es 1 rows_first
  unfolding RowsKept rows_first
  first-proper ns = (
    refl,
    all_found "user",
    (
      refl,
      all_found "role",
      (
        refl,
        all_found "permission",
        (
          refl,
          all_found "user_assignment",
          (refl, all_found "permission_assignment", tt),
        ),
      ),
    ),
  )

  last-proper : (ns : Names) → RowsKept ns es 7 last_rows
  unfolding RowsKept last_rows
  last-proper ns = (
    refl,
    all_found "task_role_assignment",
    (
      refl,
      all_found "task_permission_assignment",
      (
        refl,
        within-proper (text "static_separation_of_duty") (text "critical_role_set") es small,
        (
          refl,
          within-proper (text "dynamic_separation_of_duty") (text "critical_role_set") es small,
          (
            refl,
            all_found "critical_tasks_set",
            (
              refl,
              numbered-proper (text "hdsodtp_partitioning") (text "hdsodtp_partition") es small,
              (
                refl,
                all_found "critical_workflow_template",
                (
                  refl,
                  all_found "task_cardinality",
                  (
                    refl,
                    all_found "bind_of_duty_constraint",
                    (
                      refl,
                      all_found "prereq_step",
                      (
                        refl,
                        all_found "inherit_role",
                        (refl, walled-proper (text "module_chinese_wall_policy") (text "cw_partition") (text "partition_object") es small, tt),
                      ),
                    ),
                  ),
                ),
              ),
            ),
          ),
        ),
      ),
    ),
  )

  pub all-rise : (ls : List Line) →
      Rise 1 (records_by (names_of es ls) rows_first es ++ each (task_record (names_of es ls)) ls ++ records_by (names_of es ls) last_rows es)
  unfolding Rise
  all-rise ls =
      let ns = names_of es ls in
      let l = limits es ls in
      rw (append_assoc (records_by (names_of es ls) rows_first es) (each (task_record (names_of es ls)) ls) (records_by (names_of es ls) last_rows es))
      (rows-rise (names_of es ls) es rows_first 1 (first-kept (names_of es ls) l) (first-proper (names_of es ls))
      (each (task_record (names_of es ls)) ls ++ records_by (names_of es ls) last_rows es) (λ j i.
      let five : many rows_first ≡ 5 = count in
      rise-block j 6 (each (task_record (names_of es ls)) ls) (records_by (names_of es ls) last_rows es) (omega arith) (lines-block (names_of es ls) l ls)
      (rise-less 6 7 (records_by (names_of es ls) last_rows es) (omega arith) (subst (λ (x : List (Maybe Record)). Rise 7 x)
      (append-nil (records_by (names_of es ls) last_rows es))
      (rows-rise (names_of es ls) es last_rows 7 (last-kept (names_of es ls) l) (last-proper (names_of es ls)) [] (λ j i. tt))))))
