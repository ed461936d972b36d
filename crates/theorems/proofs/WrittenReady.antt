-- What holds of the policy tables after every accepted load and any requests (`Ready`), and makes what is written for them load again.
use Prim.Native.Nat.{ℕ, ◌<◌, ◌≤◌}
use mathlib.Core.Path.{◌≡◌}
use mathlib.Core.Bool.{true, false, ◌||◌}
use mathlib.Core.List.{List, []}
use lib.Dec.{eqb, leb}
use Rattle.paper_lower.specs.Sets.{Set, empty, has, union, meets, within}
use Rattle.paper_lower.specs.Lists.{Maybe, there, some, many}
use Rattle.paper_lower.specs.Lists.Maybe.{just}
use Rattle.paper_lower.specs.Tables.{Limit, Block, Pair, People, Seniority, Permission, Permissions, Tasks, Rules, Walled, Policy}
use Rattle.paper_lower.specs.Policy.{declared_tasks, has_task, one_template, together, same_limit, is_same_block, same_pair, ill_made, partitioned, raisings, block_of, another, same_walled}
use Rattle.theorems.proofs.Ranks.{Ranked}
use Rattle.theorems.proofs.WrittenRuns.{Prefixed}

-- ---- Users, senior roles, permissions and tasks: they name only what is declared.
pub record PeopleReady (x : People) : Type 0 where
  pub users : (u : ℕ) → x.users u ≡ true → u < 1024
  pub roles : (r : ℕ) → has x.roles r ≡ true → r < 64
  pub bare : (u : ℕ) → x.users u ≡ false → x.assigned u ≡ empty
  pub assigned : (u r : ℕ) → has (x.assigned u) r ≡ true → has x.roles r ≡ true

-- Senior roles are declared roles, and there are at most 64 pairs.
pub record RanksReady (roles : Set) (s : Seniority) : Type 0 where
  pub ranked : Ranked s
  pub known : (a b : ℕ) → has (s.juniors a) b ≡ true → (has roles a ≡ true) × (has roles b ≡ true)
  pub room : raisings s ≤ 64

-- Permissions are within their limits, no two have the same pair, and those of roles and tasks are declared.
pub record PermissionsReady (roles : Set) (template : ℕ → Maybe ℕ) (k : Permissions) : Type 0 where
  pub declared : (i : ℕ) (x : Permission) → k.declared i ≡ just x → (i < 256) × (x.operation < 65536) × (x.object < 65536)
  pub pairs : (i j : ℕ) (x y : Permission) → k.declared i ≡ just x → k.declared j ≡ just y → x.operation ≡ y.operation → x.object ≡ y.object → i ≡ j
  pub holders : (i r : ℕ) → has (k.holders i) r ≡ true → (has roles r ≡ true) × (there (k.declared i) ≡ true)
  pub carriers : (i t : ℕ) → has (k.carriers i) t ≡ true → (there (template t) ≡ true) × (there (k.declared i) ≡ true)

-- Tasks are within their limits; their roles, bans and count limits are about what is declared.
pub record TasksReady (roles : Set) (k : Tasks) : Type 0 where
  pub template : (t j : ℕ) → k.template t ≡ just j → (t < 64) × (j < 16)
  pub open_to : (t r : ℕ) → has (k.open_to t) r ≡ true → (there (k.template t) ≡ true) × (has roles r ≡ true)
  pub banned : (j : ℕ) → k.banned j ≡ true → (j < 16) × (has_task k j ≡ true)
  pub most : (t n : ℕ) → k.most t ≡ just n → (there (k.template t) ≡ true) × (eqb n 0 ≡ false)

-- ---- Rules: each passes the checks of its record, after the rules before it. STATIC is left out here, because it depends on the users.
abbrev pub SetOk : Set → List Limit → Limit → Type 0
SetOk roles acc l =
    (within l.members roles ≡ true) × (some (same_limit l.n l.members) acc ≡ false) × (ill_made l.n l.members ≡ false) ×
    (leb 32 (many acc) ≡ false) × (l.n < 256)

abbrev pub TaskSetOk : Tasks → List Limit → Limit → Type 0
TaskSetOk k acc l =
    (within l.members (declared_tasks k) ≡ true)
    × (some (same_limit l.n l.members) acc ≡ false)
    × (ill_made l.n l.members ≡ false)
    × (one_template k l.members ≡ true)
    × (leb 32 (many acc) ≡ false)
    × (l.n < 256)

abbrev pub BlockOk : Tasks → List Block → Block → Type 0
BlockOk k acc x =
    (x.partitioning < 16)
    × (within x.tasks (declared_tasks k) ≡ true)
    × (some (is_same_block x.partitioning x.tasks) acc ≡ false)
    × (eqb x.tasks empty ≡ false)
    × (one_template k (union x.tasks (partitioned x.partitioning acc)) ≡ true)
    × (meets x.tasks (partitioned x.partitioning acc) ≡ false)
    × (leb 64 (many acc) ≡ false)

abbrev pub PairOk : Tasks → Pair → Type 0
PairOk k x = (there (k.template x.a) ≡ true) × (there (k.template x.b) ≡ true) × (eqb x.a x.b ≡ false) × (together k x.a x.b ≡ true)

abbrev pub BindingOk : Tasks → List Pair → Pair → Type 0
BindingOk k acc x =
    PairOk k x × ((some (same_pair x.a x.b) acc || some (same_pair x.b x.a) acc) ≡ false) × (leb 64 (many acc) ≡ false)

abbrev pub BeforeOk : Tasks → List Pair → Pair → Type 0
BeforeOk k acc x = PairOk k x × (some (same_pair x.a x.b) acc ≡ false) × (leb 64 (many acc) ≡ false)

pub record RulesReady (roles : Set) (k : Tasks) (ru : Rules) : Type 0 where
  pub statics : Prefixed (SetOk roles) [] ru.statics
  pub dynamics : Prefixed (SetOk roles) [] ru.dynamics
  pub task_sets : Prefixed (TaskSetOk k) [] ru.task_sets
  pub blocks : Prefixed (BlockOk k) [] ru.blocks
  pub bindings : Prefixed (BindingOk k) [] ru.bindings
  pub befores : Prefixed (BeforeOk k) [] ru.befores

abbrev pub WallOk : List Walled → Walled → Type 0
WallOk acc x =
    (x.wall < 16)
    × (x.block < 16)
    × (x.object < 65536)
    × (some (same_walled x.wall x.block x.object) acc ≡ false)
    × (another x.block (block_of acc x.object x.wall) ≡ false)
    × (leb 256 (many acc) ≡ false)

-- All tables of a policy.
pub record Ready (p : Policy) : Type 0 where
  pub people : PeopleReady p.people
  pub ranks : RanksReady p.people.roles p.seniority
  pub permissions : PermissionsReady p.people.roles p.tasks.template p.permissions
  pub tasks : TasksReady p.people.roles p.tasks
  pub rules : RulesReady p.people.roles p.tasks p.rules
  pub walls : Prefixed WallOk [] p.walls
