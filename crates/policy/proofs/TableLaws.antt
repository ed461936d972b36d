-- A store to one word: it replaces a row of the table that has the word, and leaves each other table, group of tables and kind of rules unchanged.
use Prim.Native.Nat.{ℕ, ◌+◌, ◌≤◌, ◌<◌, ◌/◌, ◌%◌, min}
use mathlib.Core.Bool.{Bool, true, false, cond}
use mathlib.Core.List.{List}
use mathlib.Core.Path.{◌≡◌, refl}
use native.Mathlib.Omega.{arith}
use borrow.Author.Tests.{leb-true, leb-false}
use lib.Dec.{leb}
use lib.ListN.{length, set}
use lib.Seq.{get_or-set_other}
use Rattle.paper_lower.specs.Sets.{empty, has}
use Rattle.paper_lower.specs.Lists.{upd}
use Rattle.paper_lower.specs.Tables.{with_rules, with_walls}
use Rattle.replies.specs.Cells.{rows}
use Rattle.replies.proofs.CellLaws.{column-same, column-below, column-above}
use Rattle.policy.specs.Layout.{same, Table, behind, table_in, roles_word, limits_kept, blocks_kept, pairs_kept, user_table, assigned_table, permission_table, holder_table, carrier_table, template_table, open_to_table, most_table, banned_table, bucket_table, junior_table, below_table, seniors_word, seniors_in, below_in, listed, limit_table, member_table, limit_count, limit_at, limits_in, partitioning_table, block_table, block_count, block_at, blocks_in, pair_table, pair_count, pair_at, pairs_in, walls_kept, walled_table, wall_bucket_table, listed_row, wall_count, walled_at, walls_in, policy_words}
use Rattle.policy.specs.Reading.{people_in, seniority_in, permissions_in, tasks_in, rules_in, policy_of}

-- j is none of the words from first to last - 1.
abbrev pub Outside : ℕ → ℕ → ℕ → Type 0
Outside first last j = first ≤ j → last ≤ j

pub narrow : {first last b e j : ℕ} → Outside first last j → (first ≤ b) × (e ≤ last) → Outside b e j
narrow far h k = omega (arith, far (omega arith))

pub table_same : {A : Type 0} (t : Table A) (l : List ℕ) (k v : ℕ) → k < t.height → t.first + t.height ≤ length l →
    table_in t (set l (t.first + k) v) ≡ upd (table_in t l) k (t.read v)
table_same t = column-same t.read t.past t.first t.height

pub table-off : {A : Type 0} (t : Table A) (l : List ℕ) (j v : ℕ) → Outside t.first (t.first + t.height) j → table_in t (set l j v) ≡ table_in t l
table-off t l j v far = at (leb t.first j) refl
  where
    at : (here : Bool) → leb t.first j ≡ here → table_in t (set l j v) ≡ table_in t l
    at true e = column-above t.read t.past t.first t.height l j v (far (leb-true t.first j e))
    at false e = column-below t.read t.past t.first t.height l j v (leb-false t.first j e)

-- ---- The kinds of rules.
pub limits-off : (which : ℕ) (l : List ℕ) (j v : ℕ) →
    Outside (limits_kept which) (limits_kept which + 1) j × Outside (limit_table which).first (behind (member_table which)) j →
    limits_in which (set l j v) ≡ limits_in which l
unfolding limit_at limit_count
limits-off which l j v h = λ x.
    rows
    (λ k.
    record {
      n = table-off (limit_table which) l j v (narrow h.1 (omega arith)) x k;
      members = table-off (member_table which) l j v (narrow h.1 (omega arith)) x k;
    })
    (min (get_or-set_other l j (limits_kept which) v 0 (λ e. omega (arith, h.0 (omega arith))) x) 32)

pub blocks-off : (l : List ℕ) (j v : ℕ) → Outside blocks_kept (blocks_kept + 1) j × Outside partitioning_table.first (behind block_table) j →
    blocks_in (set l j v) ≡ blocks_in l
unfolding block_at block_count
blocks-off l j v h = λ x.
    rows
    (λ k.
    record {
      partitioning = table-off partitioning_table l j v (narrow h.1 (omega arith)) x k;
      tasks = table-off block_table l j v (narrow h.1 (omega arith)) x k;
    })
    (min (get_or-set_other l j blocks_kept v 0 (λ e. omega (arith, h.0 (omega arith))) x) 64)

pub pairs-off : (which : ℕ) (l : List ℕ) (j v : ℕ) →
    Outside (pairs_kept which) (pairs_kept which + 1) j × Outside (pair_table which same).first (behind (pair_table which same)) j →
    pairs_in which (set l j v) ≡ pairs_in which l
unfolding pair_at pair_count
pairs-off which l j v h = λ x.
    rows
    (λ k.
    record {
      a = table-off (pair_table which (λ w. w % 64)) l j v (narrow h.1 (omega arith)) x k;
      b = table-off (pair_table which (λ w. w / 64 % 64)) l j v (narrow h.1 (omega arith)) x k;
    })
    (min (get_or-set_other l j (pairs_kept which) v 0 (λ e. omega (arith, h.0 (omega arith))) x) 64)

pub walls-off : (l : List ℕ) (j v : ℕ) → Outside walls_kept policy_words j → walls_in (set l j v) ≡ walls_in l
unfolding walled_at wall_count
walls-off l j v h = λ x.
    rows
    (λ k. listed_row (table-off wall_bucket_table l j v (narrow h (omega arith)) x) k (table-off walled_table l j v (narrow h (omega arith)) x k))
    (min (get_or-set_other l j walls_kept v 0 (λ e. omega (arith, h (omega arith))) x) 256)

-- Word j may be in the rules but in no other table.
abbrev pub InRules : ℕ → Type 0
InRules j = (roles_word < j) × (Outside seniors_word (behind banned_table) j × Outside bucket_table.first policy_words j)

-- ---- The groups of tables.
module _ (l : List ℕ) (j v : ℕ) where
  pub people-off : (roles_word < j) × Outside user_table.first (behind assigned_table) j → people_in (set l j v) ≡ people_in l
  unfolding people_in
  people-off h = λ x.
      record {
        users = table-off user_table l j v (narrow h.1 (omega arith)) x;
        roles = get_or-set_other l j roles_word v 0 (omega arith) x;
        assigned = table-off assigned_table l j v (narrow h.1 (omega arith)) x;
      }

  pub below-off : Outside seniors_word (seniors_word + 1) j × Outside below_table.first (behind below_table) j → below_in (set l j v) ≡ below_in l
  unfolding below_in seniors_in
  below-off h =
      λ x r. cond (has (get_or-set_other l j seniors_word v 0 (λ e. omega (arith, h.0 (omega arith))) x) r) (table-off below_table l j v h.1 x r) empty

  pub seniority-off : Outside seniors_word (seniors_word + 1) j × Outside junior_table.first (behind below_table) j → seniority_in (set l j v) ≡ seniority_in l
  unfolding seniority_in
  seniority-off h = λ x.
      record {
        juniors = table-off junior_table l j v (narrow h.1 (omega arith)) x;
        below = below-off (h.0, narrow h.1 (omega arith)) x;
      }

  pub declared-off : Outside permission_table.first (behind permission_table) j × Outside bucket_table.first (behind bucket_table) j →
      (permissions_in (set l j v)).declared ≡ (permissions_in l).declared
  unfolding permissions_in
  declared-off h = λ x. listed (table-off permission_table l j v h.0 x) (table-off bucket_table l j v h.1 x)

  pub permissions-off : Outside permission_table.first (behind carrier_table) j × Outside bucket_table.first (behind bucket_table) j →
      permissions_in (set l j v) ≡ permissions_in l
  unfolding permissions_in
  permissions-off h = λ x.
      record {
        declared = declared-off (narrow h.0 (omega arith), h.1) x;
        holders = table-off holder_table l j v (narrow h.0 (omega arith)) x;
        carriers = table-off carrier_table l j v (narrow h.0 (omega arith)) x;
      }

  pub tasks-off : Outside template_table.first (behind banned_table) j → tasks_in (set l j v) ≡ tasks_in l
  unfolding tasks_in
  tasks-off h = λ x.
      record {
        template = table-off template_table l j v (narrow h (omega arith)) x;
        open_to = table-off open_to_table l j v (narrow h (omega arith)) x;
        banned = table-off banned_table l j v (narrow h (omega arith)) x;
        most = table-off most_table l j v (narrow h (omega arith)) x;
      }

  pub rules-off : Outside (limits_kept 0) (pairs_kept 2) j × Outside (limit_table 0).first (behind (pair_table 1 same)) j → rules_in (set l j v) ≡ rules_in l
  unfolding rules_in
  rules-off h = λ x.
      record {
        statics = limits-off 0 l j v (narrow h.0 (omega arith), narrow h.1 (omega arith)) x;
        dynamics = limits-off 1 l j v (narrow h.0 (omega arith), narrow h.1 (omega arith)) x;
        task_sets = limits-off 2 l j v (narrow h.0 (omega arith), narrow h.1 (omega arith)) x;
        blocks = blocks-off l j v (narrow h.0 (omega arith), narrow h.1 (omega arith)) x;
        bindings = pairs-off 0 l j v (narrow h.0 (omega arith), narrow h.1 (omega arith)) x;
        befores = pairs-off 1 l j v (narrow h.0 (omega arith), narrow h.1 (omega arith)) x;
      }

  pub in-rules : InRules j → policy_of (set l j v) ≡ with_rules (policy_of l) (rules_in (set l j v))
  unfolding policy_of
  in-rules h = λ x.
      record {
        people = people-off (h.0, narrow h.1.0 (omega arith)) x;
        seniority = seniority-off (narrow h.1.0 (omega arith), narrow h.1.1 (omega arith)) x;
        permissions = permissions-off (narrow h.1.0 (omega arith), narrow h.1.1 (omega arith)) x;
        tasks = tasks-off (narrow h.1.0 (omega arith)) x;
        rules = rules_in (set l j v);
        walls = walls-off l j v (narrow h.1.1 (omega arith)) x;
      }

  pub in-walls : walls_kept ≤ j → policy_of (set l j v) ≡ with_walls (policy_of l) (walls_in (set l j v))
  unfolding policy_of
  in-walls h = λ x.
      record {
        people = people-off (omega arith) x;
        seniority = seniority-off (omega arith) x;
        permissions = permissions-off (omega arith) x;
        tasks = tasks-off (omega arith) x;
        rules = rules-off (omega arith) x;
        walls = walls_in (set l j v);
      }
