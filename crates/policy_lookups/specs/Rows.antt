-- The tests on a single task, user or block that the loops of this crate make.
use Rattle.std.specs.Prelude.{ℕ, Bool, not, cond, ◌&&◌, eqb}
use Rattle.paper_lower.specs.Sets.{Set, has, union}
use Rattle.paper_lower.specs.Lists.{is}
use Rattle.paper_lower.specs.Tables.{Policy, Tasks, Block}
use Rattle.paper_lower.specs.Policy.{down, breaks}

-- Whether t is in m but is not a task of template j.
abbrev pub strays : Tasks → Set → ℕ → ℕ → Bool
strays k m j t = has m t && not (is j (k.template t))

-- Whether i is a task of template j other than t that is not in d.
abbrev pub lacks : Tasks → ℕ → ℕ → Set → ℕ → Bool
lacks k j t d i = is j (k.template i) && not (eqb i t) && not (has d i)

-- Whether user u is declared and has more than n of the roles m, counting the roles below those assigned.
abbrev pub exceeds : Policy → ℕ → Set → ℕ → Bool
exceeds t n m u = t.people.users u && breaks (down t.seniority (t.people.assigned u)) (record { n = n; members = m })

-- The tasks of block x, if it is of partitioning a, together with `rest`.
abbrev pub joined : ℕ → Block → Set → Set
joined a x rest = cond (eqb x.partitioning a) (union x.tasks rest) rest
