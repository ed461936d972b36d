-- The counts by kind that the pass keeps (`tally`) are the numbers of records that the tags yield.
use mathlib.Core.Path.{◌≡◌, sym, ◌∙◌}
use mathlib.Core.List.{List, [], ◌∷◌}
use mathlib.Core.Bool.{cond}
use Prim.Native.Nat.{ℕ, suc, ◌+◌}
use native.Mathlib.Omega.{arith}
use lib.Dec.{eqb}
use borrow.Author.Tests.{eqb-true, eqb-false}
use Rattle.paper_lower.specs.Lists.{upd, many, keep}
use Rattle.paper_lower.proofs.ListLaws.{upd_same, upd_other}
use Rattle.paper_opl.specs.Tree.{Tag}
use Rattle.paper_opl.specs.Walk.{Context, turn, kind_at, leading, Saying, saying, sayings}
use Rattle.paper_opl.specs.Filling.{tally}
use Rattle.paper_opl.proofs.Inversion.{on_test}

none_more : (n : ℕ) → n ≡ n + many {A = Saying} []
unfolding many
none_more n = omega arith

one_more : {A : Type 0} (f : ℕ → ℕ) (j k : ℕ) (x : A) (xs : List A) → upd f j (suc (f j)) k + many xs ≡ f k + many (cond (eqb j k) (x ∷ xs) xs)
unfolding many
one_more f j k x xs =
    on_test (eqb j k)
    (λ q. let e = eqb-true j k q in rw (q, upd_same f j k (suc (f j)) (sym e), e) (omega arith))
    (λ q. let e = eqb-false j k q in rw (q, upd_other f j k (suc (f j)) (λ h. e (sym h))))

pub tally-is : (ts : List Tag) (c : Context) (f : ℕ → ℕ) (k : ℕ) → tally c f ts k ≡ f k + many (keep (λ x. eqb x.kind k) (sayings c ts))
unfolding tally sayings keep
tally-is [] c f k = none_more (f k)
tally-is (t ∷ ts) c f k =
    on_test (eqb (kind_at c t) 0) (λ q. rw q (tally-is ts (turn c t) f k))
    (λ q. rw q (tally-is ts (turn c t) (upd f (kind_at c t) (suc (f (kind_at c t)))) k
    ∙ one_more f (kind_at c t) k (saying c t (leading ts)) (keep (λ x. eqb x.kind k) (sayings (turn c t) ts))))
