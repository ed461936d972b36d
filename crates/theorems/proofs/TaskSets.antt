-- The rule over task sets, "no user has entries in more than n different tasks of a task
-- set": fewer tasks keep it, and one more task keeps it exactly if SEPARATION does not apply.
use Prim.Native.Nat.{ℕ}
use mathlib.Core.Path.{◌≡◌, refl}
use mathlib.Core.Bool.{Bool, true, false, ◌&&◌}
use mathlib.Core.List.{List}
use mathlib.Core.Logic.{◌↔◌}
use native.Mathlib.Omega.{arith}
use borrow.Author.Tests.{leb-false, lt-leb}
use lib.Dec.{leb}
use Rattle.paper_lower.specs.Sets.{Set, empty, has, plus, minus, overlap}
use Rattle.paper_lower.specs.Lists.{Maybe, Every}
use Rattle.paper_lower.specs.Records.{Record}
use Rattle.paper_lower.specs.Tables.{Tasks, Rules}
use Rattle.paper_lower.proofs.ListLaws.{every_map, every-all, every-both}
use Rattle.sets.proofs.SetLaws.{Part, overlap-in, overlap-out, overlap-empty, overlap-part}
use Rattle.paper_upper.specs.Rules.{crowded, separation, found}
use Rattle.theorems.specs.OverEntries.{of_kind, Allows}
use Rattle.theorems.proofs.Made.{a_limit, Made, places}

-- One task set: it allows d with task c exactly if its check does not apply.
pub one_set : (r : Record) (d : Set) (c : ℕ) → Allows r d → (crowded d c (a_limit r) ≡ false) ↔ Allows r (plus d c)
unfolding crowded
one_set r d c k = go (has r.m c) refl
  where
    go : (b : Bool) → has r.m c ≡ b → (b && leb r.n (overlap r.m (minus d c)) ≡ false) ↔ Allows r (plus d c)
    go true e =
        let o = overlap-in r.m d c e in
        (λ x. let y = leb-false r.n (overlap r.m (minus d c)) x in omega arith, λ x. lt-leb r.n (overlap r.m (minus d c)) (omega arith))
    go false e = let o = overlap-out r.m d c e in (λ x. omega arith, λ x. refl)

module _ (policy : List Record) where
  -- The rule for one user in one order: no task set has more than n tasks in d.
  abbrev pub SetsOf : Maybe ℕ → Set → Type 0
  SetsOf template d = Every (λ r. Allows r d) (of_kind 11 policy)

  pub sets-empty : (m : Maybe ℕ) → SetsOf m empty
  sets-empty m = every-all (of_kind 11 policy) (λ r. let o = overlap-empty r.m in omega arith)

  pub sets-less : (m : Maybe ℕ) (d e : Set) → Part d e → SetsOf m e → SetsOf m d
  sets-less m d e p h = every_map (of_kind 11 policy) (λ r x. let o = overlap-part r.m d e p in omega arith) h

  pub sets-claim : (k : Tasks) (ru : Rules) → Made policy k ru → (m : Maybe ℕ) (d : Set) (c : ℕ) → SetsOf m d
      → (found (separation ru d c) ≡ false) ↔ SetsOf m (plus d c)
  unfolding separation
  sets-claim k ru made m d c h =
      let x = places (crowded d c) a_limit ru.task_sets (of_kind 11 policy) made.task_sets in (
        λ e. every-both (of_kind 11 policy) (λ r y z. (one_set r d c y).0 z) h (x.0 e),
        λ w. x.1 (every-both (of_kind 11 policy) (λ r y z. (one_set r d c y).1 z) h w),
      )
