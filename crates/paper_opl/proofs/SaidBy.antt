-- The record that a tag of each kind yields, in terms of the lookups that it needs.
use mathlib.Core.Path.{◌≡◌, refl}
use mathlib.Core.Bool.{cond}
use Prim.Native.Nat.{ℕ, ◌/◌, ◌%◌}
use Prim.Native.String.{String}
use lib.Dec.{ltb}
use Rattle.paper_lower.specs.Lists.{Maybe, each}
use Rattle.paper_lower.specs.Lists.Maybe.{none, just}
use Rattle.paper_lower.specs.Records.{Record}
use Rattle.paper_opl.specs.Reading.{text}
use Rattle.paper_opl.specs.Tree.{if-found, decimal}
use Rattle.paper_opl.specs.Naming.{Found, value_of, Space, number_in, Names, members, of_first, the, set_of, rows_first, last_rows}
use Rattle.paper_opl.specs.Walk.{row_of, record_said}

-- The number of the name in an attribute of an element.
abbrev pub named : Space → String → Found → Maybe ℕ
named sp w x = number_in sp (value_of (text w) x.given)

abbrev pub cardinality_of : Found → ℕ
cardinality_of x = decimal 0 (value_of (text "cardinality") x.given)

-- The record with these fields.
abbrev pub fields : ℕ → ℕ → ℕ → ℕ → ℕ → ℕ → Maybe Record
fields kind n a b c m = just (record { kind = kind; n = n; a = a; b = b; c = c; m = m })

-- The set of the numbers of the names in all elements e inside.
abbrev pub set_in : (Names → Space) → String → String → Names → Found → Maybe ℕ
set_in space e w ns x = set_of (each (the space w ns) (members e x))

module _ (ns : Names) (x : Found) where
  pub said-1 : record_said ns (record { kind = 1; found = x }) ≡ if-found (named ns.users "user_id" x) none (λ a. fields 1 0 a 0 0 0)
  unfolding record_said row_of rows_first last_rows
  said-1 = refl

  pub said-2 : record_said ns (record { kind = 2; found = x }) ≡ if-found (named ns.roles "role_id" x) none (λ a. fields 2 0 a 0 0 0)
  unfolding record_said row_of rows_first last_rows
  said-2 = refl

  pub said-13 : record_said ns (record { kind = 13; found = x }) ≡ if-found (named ns.templates "template_id" x) none (λ a. fields 13 0 a 0 0 0)
  unfolding record_said row_of rows_first last_rows
  said-13 = refl

  pub said-4 : record_said ns (record { kind = 4; found = x }) ≡
      if-found (named ns.users "user_id" x) none (λ a. if-found (named ns.roles "role_id" x) none (λ b. fields 4 0 a b 0 0))
  unfolding record_said row_of rows_first last_rows
  said-4 = refl

  pub said-5 : record_said ns (record { kind = 5; found = x }) ≡
      if-found (named ns.roles "role_id" x) none (λ a. if-found (named ns.permissions "permission_id" x) none (λ b. fields 5 0 a b 0 0))
  unfolding record_said row_of rows_first last_rows
  said-5 = refl

  pub said-7 : record_said ns (record { kind = 7; found = x }) ≡
      if-found (named ns.tasks "task_id" x) none (λ a. if-found (named ns.roles "role_id" x) none (λ b. fields 7 0 a b 0 0))
  unfolding record_said row_of rows_first last_rows
  said-7 = refl

  pub said-8 : record_said ns (record { kind = 8; found = x }) ≡
      if-found (named ns.tasks "task_id" x) none (λ a. if-found (named ns.permissions "permission_id" x) none (λ b. fields 8 0 a b 0 0))
  unfolding record_said row_of rows_first last_rows
  said-8 = refl

  pub said-15 : record_said ns (record { kind = 15; found = x }) ≡
      if-found (named ns.tasks "task_id" x) none (λ a. if-found (named ns.tasks "bound_task_id" x) none (λ b. fields 15 0 a b 0 0))
  unfolding record_said row_of rows_first last_rows
  said-15 = refl

  pub said-16 : record_said ns (record { kind = 16; found = x }) ≡
      if-found (named ns.tasks "prereq_task_id" x) none (λ a. if-found (named ns.tasks "task_id" x) none (λ b. fields 16 0 a b 0 0))
  unfolding record_said row_of rows_first last_rows
  said-16 = refl

  pub said-17 : record_said ns (record { kind = 17; found = x }) ≡
      if-found (named ns.roles "upper_role" x) none (λ a. if-found (named ns.roles "lower_role" x) none (λ b. fields 17 0 a b 0 0))
  unfolding record_said row_of rows_first last_rows
  said-17 = refl

  pub said-18 : record_said ns (record { kind = 18; found = x })
      ≡ if-found (cond (ltb x.number 256) (just (x.number / 16)) none) none
      (λ a. if-found (named ns.objects "object_id" x) none (λ c. fields 18 0 a (x.number % 16) c 0))
  unfolding record_said row_of rows_first last_rows
  said-18 = refl

  pub said-3 : record_said ns (record { kind = 3; found = x })
      ≡ if-found (named ns.permissions "permission_id" x) none (λ a. if-found
      (of_first (the (λ ns. ns.operations) "operation_id" ns) (members "operation" x)) none (λ b.
      if-found (of_first (the (λ ns. ns.objects) "object_id" ns) (members "object" x)) none (λ c. fields 3 0 a b c 0)))
  unfolding record_said row_of rows_first last_rows
  said-3 = refl

  pub said-9 : record_said ns (record { kind = 9; found = x }) ≡
      if-found (set_in (λ ns. ns.roles) "critical_role" "role_id" ns x) none (λ m. fields 9 (cardinality_of x) 0 0 0 m)
  unfolding record_said row_of rows_first last_rows
  said-9 = refl

  pub said-10 : record_said ns (record { kind = 10; found = x }) ≡
      if-found (set_in (λ ns. ns.roles) "critical_role" "role_id" ns x) none (λ m. fields 10 (cardinality_of x) 0 0 0 m)
  unfolding record_said row_of rows_first last_rows
  said-10 = refl

  pub said-11 : record_said ns (record { kind = 11; found = x }) ≡
      if-found (set_in (λ ns. ns.tasks) "critical_task" "task_id" ns x) none (λ m. fields 11 (cardinality_of x) 0 0 0 m)
  unfolding record_said row_of rows_first last_rows
  said-11 = refl

  pub said-12 : record_said ns (record { kind = 12; found = x })
      ≡ if-found (cond (ltb x.number 16) (just x.number) none) none
      (λ a. if-found (set_in (λ ns. ns.tasks) "partition_task" "task_id" ns x) none (λ m. fields 12 0 a 0 0 m))
  unfolding record_said row_of rows_first last_rows
  said-12 = refl

  pub said-14 : record_said ns (record { kind = 14; found = x }) ≡ if-found (named ns.tasks "task_id" x) none (λ a. fields 14 (cardinality_of x) a 0 0 0)
  unfolding record_said row_of rows_first last_rows
  said-14 = refl
