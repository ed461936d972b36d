-- How the store of each setter changes the tables: one row is replaced, and everything
-- else stays the same. One law serves all tables of rows, by the first word of the table.
use Prim.Native.Nat.{ℕ, ◌+◌, ◌*◌, ◌/◌, ◌≤◌, ◌<◌}
use mathlib.Core.Bool.{Bool, true, false, cond, true≢false}
use mathlib.Core.List.{List}
use mathlib.Core.Path.{◌≡◌, refl, sym, ap, ◌∙◌, fun_ext}
use native.Mathlib.Omega.{arith}
use borrow.Author.Tests.{eqb-true, eqb-false}
use lib.Dec.{eqb}
use lib.ListN.{length, get_or, set, length-set}
use lib.Seq.{get_or-set_same, get_or-set_other}
use Rattle.paper_lower.specs.Sets.{empty, has, plus}
use Rattle.paper_lower.specs.Lists.{Maybe, upd}
use Rattle.paper_lower.specs.Lists.Maybe.{none, just}
use Rattle.paper_lower.specs.Tables.{Permission, Policy, with_seniority, with_permissions}
use Rattle.paper_lower.proofs.ListLaws.{upd_same, upd_other}
use Rattle.sets.proofs.SetLaws.{has_new, has_other}
use Rattle.replies.proofs.CellLaws.{column-at}
use Rattle.policy.specs.Layout.{policy_words, flag_of, Table, behind, table_in, roles_word, user_table, assigned_table, permission_table, holder_table, carrier_table, template_table, open_to_table, most_table, banned_table, bucket_table, junior_table, below_table, seniors_word, seniors_in, below_in, permission_of, bucket_of, first_in, second_in, first_anew, second_anew, eights_anew, among, listed, in_bucket, unless_stray}
use Rattle.policy.specs.Reading.{people_in, seniority_in, permissions_in, tasks_in, policy_of, Ready, Tidied, roles_anew, user_anew, assigned_anew, juniors_anew, below_anew, permission_anew, holders_anew, carriers_anew, template_anew, open_to_anew, banned_anew, most_anew}
use Rattle.policy.proofs.WordLaws.{permission-word, template-word, most-word}
use Rattle.policy.proofs.BucketLaws.{emptied-out, listed-emptied, listed-set, first-own, first-others, second-own, second-others, eights-own, eights-others, stray-gone, bucket-small}
use Rattle.policy.proofs.TableLaws.{Outside, narrow, table_same, table-off, people-off, below-off, seniority-off, declared-off, permissions-off, tasks-off, rules-off, walls-off}

-- The word b + i is row i of the table if the table starts at b, and otherwise is none of its words.
abbrev Beside : {A : Type 0} → Table A → ℕ → ℕ → Type 0
Beside t b i = (t.first ≡ b → i < t.height) × ((t.first ≡ b → ⊥) → Outside t.first (behind t) (b + i))

-- The word b + i is row i of one of these tables, and is not in the table of permissions.
record RowOf (b i : ℕ) : Type 0 where
  first : user_table.first ≤ b
  last : b + i < behind banned_table
  users : Beside user_table b i
  assigned : Beside assigned_table b i
  declared : Outside permission_table.first (behind permission_table) (b + i)
  holders : Beside holder_table b i
  carriers : Beside carrier_table b i
  template : Beside template_table b i
  open_to : Beside open_to_table b i
  banned : Beside banned_table b i
  most : Beside most_table b i

-- The rows f of table t, with row i replaced if the table starts at b.
abbrev row_if : {A : Type 0} → Table A → ℕ → (ℕ → A) → ℕ → ℕ → ℕ → A
row_if t b f i v = cond (eqb t.first b) (upd f i (t.read v)) f

-- The tables with row i replaced in the table that starts at b.
abbrev row_anew : ℕ → ℕ → ℕ → Policy → Policy
row_anew b i v t =
    record {
      people =
          record {
            users = row_if user_table b t.people.users i v;
            roles = t.people.roles;
            assigned = row_if assigned_table b t.people.assigned i v;
          };
      seniority = t.seniority;
      permissions =
          record {
            declared = t.permissions.declared;
            holders = row_if holder_table b t.permissions.holders i v;
            carriers = row_if carrier_table b t.permissions.carriers i v;
          };
      tasks =
          record {
            template = row_if template_table b t.tasks.template i v;
            open_to = row_if open_to_table b t.tasks.open_to i v;
            banned = row_if banned_table b t.tasks.banned i v;
            most = row_if most_table b t.tasks.most i v;
          };
      rules = t.rules;
      walls = t.walls;
    }

module _ (l : List ℕ) (room : length l ≡ policy_words) where
  table-after : {A : Type 0} (t : Table A) (b i v : ℕ) → Beside t b i → behind t ≤ policy_words → table_in t (set l (b + i) v) ≡ row_if t b (table_in t l) i v
  table-after t b i v h fits = at (eqb t.first b) refl
    where
      at : (here : Bool) → eqb t.first b ≡ here → table_in t (set l (b + i) v) ≡ cond here (upd (table_in t l) i (t.read v)) (table_in t l)
      at true e =
          let q = eqb-true t.first b e in
          rw (← q) (table_same t l i v (h.0 q) (omega arith))
      at false e = table-off t l (b + i) v (h.1 (eqb-false t.first b e))

  row-set : (b i v : ℕ) → RowOf b i → policy_of (set l (b + i) v) ≡ row_anew b i v (policy_of l)
  unfolding policy_of people_in permissions_in tasks_in
  row-set b i v h = λ x.
      record {
        people =
            record {
              users = table-after user_table b i v h.users (omega arith) x;
              roles = get_or-set_other l (b + i) roles_word v 0 (omega arith) x;
              assigned = table-after assigned_table b i v h.assigned (omega arith) x;
            };
        seniority = seniority-off l (b + i) v (omega (arith, h.first, h.last)) x;
        permissions =
            record {
              declared = declared-off l (b + i) v (h.declared, omega (arith, h.last)) x;
              holders = table-after holder_table b i v h.holders (omega arith) x;
              carriers = table-after carrier_table b i v h.carriers (omega arith) x;
            };
        tasks =
            record {
              template = table-after template_table b i v h.template (omega arith) x;
              open_to = table-after open_to_table b i v h.open_to (omega arith) x;
              banned = table-after banned_table b i v h.banned (omega arith) x;
              most = table-after most_table b i v h.most (omega arith) x;
            };
        rules = rules-off l (b + i) v (omega (arith, h.first, h.last)) x;
        walls = walls-off l (b + i) v (omega (arith, h.last)) x;
      }

  pub roles-set : (v : ℕ) → policy_of (set l roles_word v) ≡ roles_anew (policy_of l) v
  unfolding policy_of people_in
  roles-set v = λ x.
      record {
        people =
            record {
              users = table-off user_table l roles_word v (omega arith) x;
              roles = get_or-set_same l roles_word v 0 (omega arith) x;
              assigned = table-off assigned_table l roles_word v (omega arith) x;
            };
        seniority = seniority-off l roles_word v (omega arith) x;
        permissions = permissions-off l roles_word v (omega arith) x;
        tasks = tasks-off l roles_word v (omega arith) x;
        rules = rules-off l roles_word v (omega arith) x;
        walls = walls-off l roles_word v (omega arith) x;
      }

  module _ (i : ℕ) where
    pub assigned-set : (v : ℕ) → i < 1024 → policy_of (set l (assigned_table.first + i) v) ≡ assigned_anew (policy_of l) i v
    assigned-set v h = row-set assigned_table.first i v (omega arith)

    pub holders-set : (v : ℕ) → i < 256 → policy_of (set l (holder_table.first + i) v) ≡ holders_anew (policy_of l) i v
    holders-set v h = row-set holder_table.first i v (omega arith)

    pub carriers-set : (v : ℕ) → i < 256 → policy_of (set l (carrier_table.first + i) v) ≡ carriers_anew (policy_of l) i v
    carriers-set v h = row-set carrier_table.first i v (omega arith)

    pub open-to-set : (v : ℕ) → i < 64 → policy_of (set l (open_to_table.first + i) v) ≡ open_to_anew (policy_of l) i v
    open-to-set v h = row-set open_to_table.first i v (omega arith)

    pub banned-set : i < 16 → policy_of (set l (banned_table.first + i) 1) ≡ banned_anew (policy_of l) i
    banned-set h = row-set banned_table.first i 1 (omega arith)

    pub template-set : (j : ℕ) → i < 64 → j < 16 → policy_of (set l (template_table.first + i) (16 + j)) ≡ template_anew (policy_of l) i j
    template-set j h p = row-set template_table.first i (16 + j) (omega arith) ∙ rw (template-word j p)

    pub most-set : (n : ℕ) → i < 64 → 0 < n → n < 256 → policy_of (set l (most_table.first + i) n) ≡ most_anew (policy_of l) i n
    most-set n h p q = row-set most_table.first i n (omega arith) ∙ rw (most-word n p q)

pub user-set : (l : List ℕ) → length l ≡ policy_words → (i v m : ℕ) → i < 1024 →
    policy_of (set (set l (user_table.first + i) v) (assigned_table.first + i) m) ≡ user_anew (policy_of l) i (flag_of v) m
user-set l room i v m h =
    let next : length (set l (user_table.first + i) v) ≡ policy_words = rw length-set room in
    assigned-set (set l (user_table.first + i) v) next i m h ∙ ap (λ t. assigned_anew t i m) (row-set l room user_table.first i v (omega arith))

-- ---- Senior roles: a store in one of their tables, or to the set of roles that have a role below them.
in-seniority : (l : List ℕ) (j v : ℕ) → Outside (seniors_word + 1) junior_table.first j × ((seniors_word ≤ j) × (j < behind below_table)) →
    policy_of (set l j v) ≡ with_seniority (policy_of l) (seniority_in (set l j v))
unfolding policy_of
in-seniority l j v h = λ x.
    record {
      people = people-off l j v (omega arith, narrow h.0 (omega arith)) x;
      seniority = seniority_in (set l j v);
      permissions = permissions-off l j v (narrow h.0 (omega arith), narrow h.0 (omega arith)) x;
      tasks = tasks-off l j v (narrow h.0 (omega arith)) x;
      rules = rules-off l j v (omega arith, narrow h.0 (omega arith)) x;
      walls = walls-off l j v (omega arith) x;
    }

module _ (l : List ℕ) (room : length l ≡ policy_words) (i m : ℕ) (h : i < 64) where
  pub juniors-set : policy_of (set l (junior_table.first + i) m) ≡ juniors_anew (policy_of l) i m
  unfolding policy_of seniority_in
  juniors-set =
      in-seniority l (junior_table.first + i) m (omega arith)
      ∙ ap (with_seniority (policy_of l)) (λ x.
      record {
        juniors = table_same junior_table l i m h (omega arith) x;
        below = below-off l (junior_table.first + i) m (omega arith) x;
      })

  -- The row, and the role marked as having a role below it.
  below-now : (v : ℕ) → v ≡ plus (seniors_in l) i → below_in (set (set l (below_table.first + i) m) seniors_word v) ≡ upd (below_in l) i m
  unfolding below_in seniors_in
  below-now v more =
      let l₁ = set l (below_table.first + i) m in
      let room₁ : length l₁ ≡ policy_words = rw length-set room in
      let word : get_or (set l₁ seniors_word v) seniors_word 0 ≡ plus (get_or l seniors_word 0) i =
      get_or-set_same l₁ seniors_word v 0 (omega arith) ∙ more in
      let rows : table_in below_table (set l₁ seniors_word v) ≡ upd (table_in below_table l) i m =
      table-off below_table l₁ seniors_word v (omega arith) ∙ table_same below_table l i m h (omega arith) in
      (λ x r. cond (has (word x) r) (rows x r) empty)
      ∙ fun_ext (λ r. at r (eqb r i) refl)
    where
      at : (r : ℕ) (here : Bool) → eqb r i ≡ here →
          cond (has (plus (get_or l seniors_word 0) i) r) (upd (table_in below_table l) i m r) empty ≡
          upd (λ r. cond (has (get_or l seniors_word 0) r) (table_in below_table l r) empty) i m r
      at r true e =
          let q = eqb-true r i e in
          rw (
            upd_same (table_in below_table l) i r m q,
            upd_same (λ r. cond (has (get_or l seniors_word 0) r) (table_in below_table l r) empty) i r m q,
            q,
            has_new (get_or l seniors_word 0) i,
          )
      at r false e =
          let q = eqb-false r i e in
          rw (
            upd_other (table_in below_table l) i r m q,
            upd_other (λ r. cond (has (get_or l seniors_word 0) r) (table_in below_table l r) empty) i r m q,
            has_other (get_or l seniors_word 0) i r q,
          )

  pub below_set : (v : ℕ) → v ≡ plus (seniors_in l) i → policy_of (set (set l (below_table.first + i) m) seniors_word v) ≡ below_anew (policy_of l) i m
  unfolding policy_of seniority_in
  below_set v more =
      let l₁ = set l (below_table.first + i) m in
      let l₂ = set l₁ seniors_word v in
      in-seniority l₁ seniors_word v (omega arith)
      ∙ ap (λ t. with_seniority t (seniority_in l₂)) (in-seniority l (below_table.first + i) m (omega arith))
      ∙ ap (with_seniority (policy_of l)) (λ x.
      record {
        juniors = (table-off junior_table l₁ seniors_word v (omega arith) ∙ table-off junior_table l (below_table.first + i) m (omega arith)) x;
        below = below-now v more x;
      })

-- ---- Permissions: a store to their rows or buckets.
abbrev declared_anew : Policy → (ℕ → Maybe Permission) → Policy
declared_anew t f = with_permissions t (record { declared = f; holders = t.permissions.holders; carriers = t.permissions.carriers })

in-declared : (l : List ℕ) (j v : ℕ) → (permission_table.first ≤ j) × (Outside (behind permission_table) bucket_table.first j × (j < behind bucket_table)) →
    policy_of (set l j v) ≡ declared_anew (policy_of l) (permissions_in (set l j v)).declared
unfolding policy_of permissions_in
in-declared l j v h = λ x.
    record {
      people = people-off l j v (omega arith) x;
      seniority = seniority-off l j v (omega arith) x;
      permissions =
          record {
            declared = (permissions_in (set l j v)).declared;
            holders = table-off holder_table l j v (narrow h.1.0 (omega arith)) x;
            carriers = table-off carrier_table l j v (narrow h.1.0 (omega arith)) x;
          };
      tasks = tasks-off l j v (narrow h.1.0 (omega arith)) x;
      rules = rules-off l j v (omega arith, narrow h.1.0 (omega arith)) x;
      walls = walls-off l j v (omega arith) x;
    }

-- ---- `empty_strays`: the rows of group t that bucket h does not list are emptied if they have a pair of that bucket.
module _ (l : List ℕ) (t h : ℕ) where
  pub tidied-none : Tidied l t h (8 * t) l
  tidied-none = record { tables = refl; buckets = refl; strays = λ k a z out. let no : ⊥ = omega arith in absurd no }

  module _ (p : List ℕ) (b : ℕ) (found : Bool) where
    module _ (v : ℕ) (high : b < 256) (is : permission_of v ≡ unless_stray h found (permission_of (get_or p (permission_table.first + b) 0)))
        (room : length p ≡ policy_words) where
      emptied : table_in permission_table (set p (permission_table.first + b) v) ≡
          upd (table_in permission_table p) b (unless_stray h found (table_in permission_table p b))
      emptied =
          table_same permission_table p b v high (omega arith)
          ∙ ap (upd (table_in permission_table p) b) (is ∙ ap (unless_stray h found) (sym (column-at permission_of none permission_table.first 256 p b high)))

      kept : found ≡ among (table_in bucket_table p h) b → policy_of (set p (permission_table.first + b) v) ≡ policy_of p
      unfolding policy_of permissions_in
      kept listed_here =
          in-declared p (permission_table.first + b) v (omega arith)
          ∙ ap (declared_anew (policy_of p))
          ((λ x. listed (emptied x) (table-off bucket_table p (permission_table.first + b) v (omega arith) x)) ∙
          listed-emptied h (table_in permission_table p) (table_in bucket_table p) b found listed_here)

      stray : (k : ℕ) → k < b + 1 → (k ≡ b → found ≡ false) → (k < b → in_bucket h (table_in permission_table p k) ≡ false) →
          in_bucket h (table_in permission_table (set p (permission_table.first + b) v) k) ≡ false
      stray k z out below = ap (λ f. in_bucket h (f k)) emptied ∙ at (eqb k b) refl
        where
          at : (here : Bool) → eqb k b ≡ here → in_bucket h (upd (table_in permission_table p) b (unless_stray h found (table_in permission_table p b)) k) ≡ false
          at true e =
              let one = eqb-true k b e in
              ap (in_bucket h) (upd_same (table_in permission_table p) b k (unless_stray h found (table_in permission_table p b)) one)
              ∙ ap (in_bucket h) (sym (stray-gone h (table_in permission_table p b) (out one)))
              ∙ emptied-out h (table_in permission_table p b)
          at false e =
              let other = eqb-false k b e in
              ap (in_bucket h) (upd_other (table_in permission_table p) b k (unless_stray h found (table_in permission_table p b)) other) ∙ below (omega arith)

    pub tidied-more : (v : ℕ) → length p ≡ policy_words → Tidied l t h b p → found ≡ among (table_in bucket_table l h) b → t < 32 → 8 * t ≤ b → b < 8 * t + 8 →
        permission_of v ≡ unless_stray h found (permission_of (get_or p (permission_table.first + b) 0)) →
        Tidied l t h (b + 1) (set p (permission_table.first + b) v)
    tidied-more v room r here small low high is =
        record {
          tables = kept v (omega arith) is room (here ∙ ap (λ f. among (f h) b) (sym r.buckets)) ∙ r.tables;
          buckets = table-off bucket_table p (permission_table.first + b) v (omega arith) ∙ r.buckets;
          strays = λ k a z out.
              stray v (omega arith) is room k z (λ one. here ∙ ap (among (table_in bucket_table l h)) (sym one) ∙ out) (λ less. r.strays k a less out);
        }

-- ---- `listing_with`: the word of a bucket that lists permission a.
module _ (l : List ℕ) (a h w : ℕ) (is : w ≡ table_in bucket_table l h) (room : a < 256) (r : ℕ) where
  pub ready-first : {first second : ℕ} → first ≡ first_in w → second ≡ second_in w → first ≡ second → r ≡ first_anew w a → Ready l a h l r
  ready-first p q e n =
      record {
        tables = refl;
        buckets = refl;
        own = ap (λ v. among v a) n ∙ first-own w a room;
        others = λ b other in-it. ap (λ v. among v b) n ∙ first-others w a room b other (sym p ∙ e ∙ q) ∙ ap (λ v. among v b) is;
      }

  pub ready-second : {second : ℕ} → second ≡ second_in w → in_bucket h (permission_of (get_or l (permission_table.first + second) 0)) ≡ false → r ≡ second_anew w a →
      Ready l a h l r
  ready-second {second} q out n =
      let small : second < 256 = omega arith in
      let gone : in_bucket h (table_in permission_table l second) ≡ false =
      ap (in_bucket h) (column-at permission_of none permission_table.first 256 l second small) ∙ out in
      record {
        tables = refl;
        buckets = refl;
        own = ap (λ v. among v a) n ∙ second-own w a room;
        others = λ b other in-it.
            ap (λ v. among v b) n
            ∙ second-others w a room b other (λ e. true≢false (sym in-it ∙ ap (λ k. in_bucket h (table_in permission_table l k)) (e ∙ sym q) ∙ gone))
            ∙ ap (λ v. among v b) is;
      }

  pub ready-eight : {after : List ℕ} → Tidied l (a / 8) h (8 * (a / 8) + 8) after → r ≡ eights_anew w a → Ready l a h after r
  ready-eight {after} d n =
      record {
        tables = d.tables;
        buckets = d.buckets;
        own = ap (λ v. among v a) n ∙ eights-own w a room;
        others = λ b other in-it.
            ap (λ v. among v b) n
            ∙ eights-others w a room b other (λ e. listed-still b e in-it (among w b) refl)
            ∙ ap (λ v. among v b) is;
      }
    where
      listed-still : (b : ℕ) → b / 8 ≡ a / 8 → in_bucket h (table_in permission_table after b) ≡ true → (t : Bool) → among w b ≡ t → among w b ≡ true
      listed-still b e in-it true f = f
      listed-still b e in-it false f = absurd (true≢false (sym in-it ∙ d.strays b (omega arith) (omega arith) (ap (λ v. among v b) (sym is) ∙ f)))

-- `set_permission`: the row, and the word of the bucket of its pair.
module _ (l after : List ℕ) (room : length after ≡ policy_words) (i operation object v : ℕ) (h : i < 256) (small : operation < 65536) (too : object < 65536)
    (ready : Ready l i (bucket_of operation object) after v) where
  declared-set : (permissions_in
      (set (set after (permission_table.first + i) (4294967296 + operation + 65536 * object)) (bucket_table.first + bucket_of operation object) v)).declared ≡
      upd (permissions_in after).declared i (just (record { operation = operation; object = object }))
  unfolding permissions_in
  declared-set =
      let bucket = bucket_of operation object in
      let w = 4294967296 + operation + 65536 * object in
      let low = bucket-small operation object in
      let room₁ : length (set after (permission_table.first + i) w) ≡ policy_words = rw length-set room in
      let rows : table_in permission_table (set (set after (permission_table.first + i) w) (bucket_table.first + bucket) v) ≡
      upd (table_in permission_table after) i (just (record { operation = operation; object = object })) =
      table-off permission_table (set after (permission_table.first + i) w) (bucket_table.first + bucket) v (omega arith)
      ∙ table_same permission_table after i w h (omega arith)
      ∙ ap (upd (table_in permission_table after) i) (permission-word operation object small too) in
      let buckets : table_in bucket_table (set (set after (permission_table.first + i) w) (bucket_table.first + bucket) v) ≡
      upd (table_in bucket_table after) bucket v =
      table_same bucket_table (set after (permission_table.first + i) w) bucket v (omega arith) (omega arith)
      ∙ (λ x. upd (table-off bucket_table after (permission_table.first + i) w (omega arith) x) bucket v) in
      (λ x. listed (rows x) (buckets x))
      ∙ listed-set (table_in permission_table after) (table_in bucket_table after) (record { operation = operation; object = object }) i v ready.own
      (λ b other in-it. ready.others b other in-it ∙ ap (λ f. among (f bucket) b) (sym ready.buckets))

  pub permission-set : policy_of
      (set (set after (permission_table.first + i) (4294967296 + operation + 65536 * object)) (bucket_table.first + bucket_of operation object) v) ≡
      permission_anew (policy_of l) i operation object
  unfolding policy_of
  permission-set =
      let w = 4294967296 + operation + 65536 * object in
      let low = bucket-small operation object in
      let l₁ = set after (permission_table.first + i) w in
      let l₂ = set l₁ (bucket_table.first + bucket_of operation object) v in
      in-declared l₁ (bucket_table.first + bucket_of operation object) v (omega arith)
      ∙ ap (λ t. declared_anew t (permissions_in l₂).declared) (in-declared after (permission_table.first + i) w (omega arith))
      ∙ ap (declared_anew (policy_of after)) declared-set
      ∙ ap (λ t. permission_anew t i operation object) ready.tables
