-- The positions of the tables of each kind of rule (docs/STATE.md, "The policy buffer").
use Rattle.std.specs.Prelude.{ℕ}
use Rattle.policy.specs.declared.SetKind.{SetKind}
use Rattle.policy.specs.declared.SetKind.TheVariants.{Static, Dynamic, Task}
use Rattle.policy.specs.declared.PairKind.{PairKind}
use Rattle.policy.specs.declared.PairKind.TheVariants.{Binding, Prerequisite}

-- Static sets, dynamic sets, task sets.
abbrev pub set_index : SetKind → ℕ
set_index Static = 0
set_index Dynamic = 1
set_index Task = 2

-- Bindings, prerequisites.
abbrev pub pair_index : PairKind → ℕ
pair_index Binding = 0
pair_index Prerequisite = 1
