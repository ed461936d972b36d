-- How the policy buffer reads as policy tables, and the tables that each setter leaves.
use Rattle.std.specs.Prelude.{ℕ, ◌*◌, ◌≤◌, ◌<◌, Bool, true, false, cond, List, ◌≡◌, eqb, get_or, length}
use Rattle.paper_lower.specs.Sets.{Set}
use Rattle.paper_lower.specs.Lists.{Maybe, upd, add}
use Rattle.paper_lower.specs.Lists.Maybe.{none, just}
use Rattle.paper_lower.specs.Tables.{People, Seniority, Permissions, Tasks, Limit, Pair, Rules, Policy, no_policy, with_people, with_seniority, with_permissions, with_tasks, with_rules, with_walls, with_assigned, with_holders, with_blocks}
use Rattle.policy.specs.Layout.{policy_words, roles_word, table_in, user_table, assigned_table, permission_table, holder_table, carrier_table, template_table, open_to_table, most_table, banned_table, bucket_table, junior_table, below_in, among, listed, in_bucket, limits_in, blocks_in, pairs_in, walls_in}

-- ---- The groups of tables.
unfoldable pub people_in : List ℕ → People
people_in l = record { users = table_in user_table l; roles = get_or l roles_word 0; assigned = table_in assigned_table l }

unfoldable pub seniority_in : List ℕ → Seniority
seniority_in l = record { juniors = table_in junior_table l; below = below_in l }

unfoldable pub permissions_in : List ℕ → Permissions
permissions_in l = record { declared = listed (table_in permission_table l) (table_in bucket_table l); holders = table_in holder_table l; carriers = table_in carrier_table l }

unfoldable pub tasks_in : List ℕ → Tasks
tasks_in l = record { template = table_in template_table l; open_to = table_in open_to_table l; banned = table_in banned_table l; most = table_in most_table l }

unfoldable pub rules_in : List ℕ → Rules
rules_in l = record { statics = limits_in 0 l; dynamics = limits_in 1 l; task_sets = limits_in 2 l; blocks = blocks_in l; bindings = pairs_in 0 l; befores = pairs_in 1 l }

-- All policy tables.
unfoldable pub policy_of : List ℕ → Policy
policy_of l = record { people = people_in l; seniority = seniority_in l; permissions = permissions_in l; tasks = tasks_in l; rules = rules_in l; walls = walls_in l }

-- A number taken from a value, or 0 if the value is absent.
unfoldable pub value_of : {A : Type 0} → (A → ℕ) → Maybe A → ℕ
value_of f none = 0
value_of f (just x) = f x

-- The buffer after it was cleared: it reads as the empty policy, and every word is 0.
pub record Cleared (l : List ℕ) : Type 0 where
  pub tables : policy_of l ≡ no_policy
  pub words : length l ≡ policy_words
  pub zeros : (i : ℕ) → get_or l i 0 ≡ 0

-- The buffer `after`, in which bucket h can be given the word w that lists permission a. It still reads as l did. Of the other rows whose pair has bucket h,
-- w lists exactly those that the bucket listed before: a row that did not count must not count then.
pub record Ready (l : List ℕ) (a h : ℕ) (after : List ℕ) (w : ℕ) : Type 0 where
  pub tables : policy_of after ≡ policy_of l
  pub buckets : table_in bucket_table after ≡ table_in bucket_table l
  pub own : among w a ≡ true
  pub others : (b : ℕ) → (b ≡ a → ⊥) → in_bucket h (table_in permission_table after b) ≡ true → among w b ≡ among (table_in bucket_table l h) b

-- The buffer after those rows from 8 t to e - 1 were emptied whose pair has bucket h and which the bucket does not list. It still reads as l did.
pub record Tidied (l : List ℕ) (t h e : ℕ) (after : List ℕ) : Type 0 where
  pub tables : policy_of after ≡ policy_of l
  pub buckets : table_in bucket_table after ≡ table_in bucket_table l
  pub strays : (b : ℕ) → 8 * t ≤ b → b < e → among (table_in bucket_table l h) b ≡ false → in_bucket h (table_in permission_table after b) ≡ false

-- ---- The rules of a kind by its number: static sets 0, dynamic sets 1, task sets 2; bindings 0, prerequisites 1.
abbrev pub limit_rows_of : Rules → ℕ → List Limit
limit_rows_of k which = cond (eqb which 0) k.statics (cond (eqb which 1) k.dynamics k.task_sets)

-- The rules with other sets of this kind.
abbrev pub with_limits : Rules → ℕ → List Limit → Rules
with_limits k which x =
    record {
      statics = cond (eqb 0 which) x k.statics;
      dynamics = cond (eqb 1 which) x k.dynamics;
      task_sets = cond (eqb 2 which) x k.task_sets;
      blocks = k.blocks;
      bindings = k.bindings;
      befores = k.befores;
    }

-- The pairs of a kind.
abbrev pub pairs_of : Rules → ℕ → List Pair
pairs_of k which = cond (eqb which 0) k.bindings k.befores

-- The rules with other pairs of this kind.
abbrev pub with_pairs : Rules → ℕ → List Pair → Rules
with_pairs k which x =
    record {
      statics = k.statics;
      dynamics = k.dynamics;
      task_sets = k.task_sets;
      blocks = k.blocks;
      bindings = cond (eqb 0 which) x k.bindings;
      befores = cond (eqb 1 which) x k.befores;
    }

-- ---- The tables after a setter replaced one row.
abbrev pub roles_anew : Policy → Set → Policy
roles_anew t m = with_people t (record { users = t.people.users; roles = m; assigned = t.people.assigned })

-- User a declared or not, with the roles m.
abbrev pub user_anew : Policy → ℕ → Bool → Set → Policy
user_anew t a declared m = with_people t (record { users = upd t.people.users a declared; roles = t.people.roles; assigned = upd t.people.assigned a m })

abbrev pub assigned_anew : Policy → ℕ → Set → Policy
assigned_anew t a m = with_people t (with_assigned t.people (upd t.people.assigned a m))

abbrev pub juniors_anew : Policy → ℕ → Set → Policy
juniors_anew t r m = with_seniority t (record { juniors = upd t.seniority.juniors r m; below = t.seniority.below })

abbrev pub below_anew : Policy → ℕ → Set → Policy
below_anew t r m = with_seniority t (record { juniors = t.seniority.juniors; below = upd t.seniority.below r m })

abbrev pub permission_anew : Policy → ℕ → ℕ → ℕ → Policy
permission_anew t a operation object =
    with_permissions t
    (record { declared = upd t.permissions.declared a (just (record { operation = operation; object = object })); holders = t.permissions.holders; carriers = t.permissions.carriers })

abbrev pub holders_anew : Policy → ℕ → Set → Policy
holders_anew t b m = with_permissions t (with_holders t.permissions (upd t.permissions.holders b m))

abbrev pub carriers_anew : Policy → ℕ → Set → Policy
carriers_anew t b m = with_permissions t (record { declared = t.permissions.declared; holders = t.permissions.holders; carriers = upd t.permissions.carriers b m })

abbrev pub template_anew : Policy → ℕ → ℕ → Policy
template_anew t a j = with_tasks t (record { template = upd t.tasks.template a (just j); open_to = t.tasks.open_to; banned = t.tasks.banned; most = t.tasks.most })

abbrev pub open_to_anew : Policy → ℕ → Set → Policy
open_to_anew t a m = with_tasks t (record { template = t.tasks.template; open_to = upd t.tasks.open_to a m; banned = t.tasks.banned; most = t.tasks.most })

abbrev pub banned_anew : Policy → ℕ → Policy
banned_anew t j = with_tasks t (record { template = t.tasks.template; open_to = t.tasks.open_to; banned = upd t.tasks.banned j true; most = t.tasks.most })

abbrev pub most_anew : Policy → ℕ → ℕ → Policy
most_anew t a n = with_tasks t (record { template = t.tasks.template; open_to = t.tasks.open_to; banned = t.tasks.banned; most = upd t.tasks.most a (just n) })

-- ---- The tables after a rule was added as the last of its kind.
abbrev pub limit_added : Policy → ℕ → ℕ → Set → Policy
limit_added t which n m = with_rules t (with_limits t.rules which (add (limit_rows_of t.rules which) (record { n = n; members = m })))

abbrev pub block_added : Policy → ℕ → Set → Policy
block_added t partitioning m = with_rules t (with_blocks t.rules (add t.rules.blocks (record { partitioning = partitioning; tasks = m })))

abbrev pub pair_added : Policy → ℕ → ℕ → ℕ → Policy
pair_added t which a b = with_rules t (with_pairs t.rules which (add (pairs_of t.rules which) (record { a = a; b = b })))

abbrev pub wall_added : Policy → ℕ → ℕ → ℕ → Policy
wall_added t wall block object = with_walls t (add t.walls (record { wall = wall; block = block; object = object }))
