-- The tables of the upper part: the open instances and their entries. Also the functions by which the rules select entries.
use Rattle.std.specs.Prelude.{ℕ, ◌≡◌, Bool, true, false, not, cond, ◌&&◌, List, [], ◌∷◌, eqb}
use Rattle.paper_lower.specs.Sets.{Set, empty, plus}
use Rattle.paper_lower.specs.Lists.{Maybe, keep}
use Rattle.paper_lower.specs.Lists.Maybe.{none}
use Rattle.paper_lower.specs.Tables.{Lower}

-- The state of an entry: held by a subject, or done. "A granted claim enters (instance, user, task, held), the user being the subject's; the claiming subject
-- is kept with it while it is held."
pub data Standing : Type 0 where
  held : ℕ → Standing
  done : Standing

-- Whether the entry is held.
unfoldable pub is_held : Standing → Bool
is_held (held s) = true
is_held done = false

-- Whether the entry is done.
unfoldable pub is_done : Standing → Bool
is_done (held s) = false
is_done done = true

-- Whether the entry is held by subject a.
unfoldable pub is_held_by : ℕ → Standing → Bool
is_held_by a (held s) = eqb s a
is_held_by a done = false

-- An entry: the instance, the user, the task, and whether it is held or done.
pub record Entry : Type 0 where
  pub instance : ℕ
  pub user : ℕ
  pub task : ℕ
  pub standing : Standing

-- The entry with these fields.
abbrev pub entry : ℕ → ℕ → ℕ → Standing → Entry
entry i u t x = record { instance = i; user = u; task = t; standing = x }

-- The template of each open instance, and the entries in use. The entries of one instance have the newest first; the order of entries of different instances
-- has no meaning, and no rule depends on it.
pub record Orders : Type 0 where
  pub opened : ℕ → Maybe ℕ
  pub entries : List Entry

-- All tables of the engine.
pub record Engine : Type 0 where
  pub lower : Lower
  pub orders : Orders

-- No instance is open, and there are no entries.
unfoldable pub no_orders : Orders
no_orders = record { opened = λ _. none; entries = [] }

-- ---- Each of these replaces one table and keeps the others.
abbrev pub with_lower : Engine → Lower → Engine
with_lower t x = record { lower = x; orders = t.orders }

abbrev pub with_orders : Engine → Orders → Engine
with_orders t x = record { lower = t.lower; orders = x }

abbrev pub with_entries : Engine → List Entry → Engine
with_entries t es = with_orders t (record { opened = t.orders.opened; entries = es })

-- ---- Which entries are meant.

-- Whether the entry is of instance i.
unfoldable pub are_in_order : ℕ → Entry → Bool
are_in_order i e = eqb e.instance i

-- The entries of instance i.
abbrev pub of_order : ℕ → List Entry → List Entry
of_order i es = keep (are_in_order i) es

-- Whether the entry is of instance i and task t.
unfoldable pub of_task : ℕ → ℕ → Entry → Bool
of_task i t e = are_in_order i e && eqb e.task t

-- Whether the entry is of instance i and user u.
unfoldable pub of_user : ℕ → ℕ → Entry → Bool
of_user i u e = are_in_order i e && eqb e.user u

-- Whether the entry is of instance i and task t and is held by subject a.
unfoldable pub held_of : ℕ → ℕ → ℕ → Entry → Bool
held_of i t a e = of_task i t e && is_held_by a e.standing

-- ---- The statement that two engines have the same tables. "the ledger slot that a new entry takes" is not part of them: the order is compared within each
-- instance and not between instances.
pub record SameTables (t t' : Engine) : Type 0 where
  pub lower : t.lower ≡ t'.lower
  pub opened : t.orders.opened ≡ t'.orders.opened
  pub entries : (i : ℕ) → of_order i t.orders.entries ≡ of_order i t'.orders.entries

-- ---- The tasks of entries.

-- The tasks of the entries for which p holds.
unfoldable pub tasks_where : (Entry → Bool) → List Entry → Set
tasks_where p [] = empty
tasks_where p (e ∷ es) = cond (p e) (plus (tasks_where p es) e.task) (tasks_where p es)

-- The tasks of user u in instance i, which the rules call D: "let D be the tasks with an entry of u in the instance, held or done"
unfoldable pub tasks_by : ℕ → ℕ → List Entry → Set
tasks_by i u es = tasks_where (of_user i u) es

-- The tasks with a done entry in instance i.
unfoldable pub tasks_done : ℕ → List Entry → Set
tasks_done i es = tasks_where (λ e. are_in_order i e && is_done e.standing) es

-- The tasks with an entry of a user other than u in instance i.
unfoldable pub tasks_others : ℕ → ℕ → List Entry → Set
tasks_others i u es = tasks_where (λ e. are_in_order i e && not (eqb e.user u)) es

-- Unfolds all definitions of this file at once, for proofs that compute a case.
unfoldable pub orders_open : Unit {0}
unfolding is_held is_done is_held_by no_orders are_in_order of_task of_user held_of tasks_where tasks_by tasks_done tasks_others
orders_open = tt
