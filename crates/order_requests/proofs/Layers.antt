-- The reply of one more check after those of another function; and what follows if the request to open an instance is granted.
use Prim.Native.Nat.{ℕ}
use mathlib.Core.Bool.{Bool, false, cond}
use mathlib.Core.List.{List, [], ◌∷◌, ◌++◌}
use mathlib.Core.Path.{◌≡◌, sym, ◌∙◌}
use Rattle.std.specs.Prelude.{Ok}
use Rattle.paper_lower.specs.Checks.{Check, first}
use Rattle.paper_lower.specs.Lists.{there}
use Rattle.paper_lower.proofs.CheckLaws.{Numbered, passed}
use Rattle.paper_upper.specs.Requests.{open_checks}
use Rattle.replies.proofs.DoneLaws.{goes_on}
use Rattle.order_entries.specs.Reading.{orders_of}
use Rattle.order_requests.specs.Tables.{engine_tables}
use Rattle.order_requests.specs.Promises.{OpenJudged}

pub one_more : (xs : List Check) (n : ℕ) (f : Bool → Bool) → Numbered xs → 0 ≡ first xs → {w x y : Bool} → w ≡ x → f w ≡ y
    → first (xs ++ ((f x, n) ∷ [])) ≡ cond y n 0
one_more xs n f numbered judged e g = goes_on xs _ numbered judged ∙ rw (← e, g)

-- An instance that may be opened was not open before.
pub closed-before : (p o : List ℕ) (a b : ℕ) {u : Unit {0}} → OpenJudged p o a b (Ok u) → there ((orders_of o).opened a) ≡ false
unfolding open_checks
closed-before p o a b judged = (passed (open_checks (engine_tables p [] o) a b) (tt, (tt, tt)) (sym (judged []))).1.0
