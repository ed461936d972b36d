-- A set that is built from left to right (`set_from`) is the set that the definition builds from right to left (`set_of`).
use mathlib.Core.Path.{◌≡◌, refl, sym, ap, ◌∙◌}
use mathlib.Core.List.{List, [], ◌∷◌}
use mathlib.Core.Bool.{Bool, true, false, ◌||◌}
use Prim.Native.Nat.{ℕ}
use lib.Dec.{eqb}
use Rattle.paper_lower.specs.Sets.{Set, empty, has, plus, union}
use Rattle.paper_lower.specs.Lists.{Maybe}
use Rattle.paper_lower.specs.Lists.Maybe.{none, just}
use Rattle.paper_lower.proofs.ListLaws.{or-false}
use Rattle.sets.proofs.SetLaws.{same-members, has-empty, has-union, has-plus}
use Rattle.paper_opl.specs.Tree.{if-found}
use Rattle.paper_opl.specs.Naming.{set_of}
use Rattle.paper_opl.specs.Filling.{set_from}
use Rattle.paper_opl.proofs.Inversion.{on-found}

or-order : (a b c : Bool) → (a || b) || c ≡ a || (c || b)
or-order true b c = refl
or-order false true true = refl
or-order false true false = refl
or-order false false true = refl
or-order false false false = refl

union-plus : (m u : Set) (i : ℕ) → union (plus m i) u ≡ union m (plus u i)
union-plus m u i =
    same-members (union (plus m i) u) (union m (plus u i)) (λ x.
    rw (has-union (plus m i) u x, has-union m (plus u i) x, has-plus m i x, has-plus u i x) (or-order (has m x) (eqb x i) (has u x)))

union-none : (m : Set) → union m empty ≡ m
union-none m = same-members (union m empty) m (λ x. has-union m empty x ∙ rw (has-empty x) (or-false (has m x)))

none-union : (m : Set) → union empty m ≡ m
none-union m = same-members (union empty m) m (λ x. has-union empty m x ∙ rw (has-empty x))

from_is : (ks : List (Maybe ℕ)) (m : Set) → set_from m ks ≡ if-found (set_of ks) none (λ u. just (union m u))
unfolding set_from set_of
from_is [] m = ap just (sym (union-none m))
from_is (none ∷ ks) m = refl
from_is (just i ∷ ks) m =
    from_is ks (plus m i) ∙ on-found (set_of ks) (λ u q. rw q (ap just (union-plus m u i))) (λ q. rw q)

pub set-from : (ks : List (Maybe ℕ)) → set_from empty ks ≡ set_of ks
set-from ks = from_is ks empty ∙ on-found (set_of ks) (λ u q. rw q (ap just (none-union u))) (λ q. rw q)
