-- An accepted load: no check refused any of its records, and the tables are those that the records make one after the other.
use Prim.Native.Nat.{ℕ, zero, suc, ◌/◌}
use mathlib.Core.Path.{◌≡◌, refl}
use mathlib.Core.Bool.{Bool, true, false, cond}
use mathlib.Core.List.{List, [], ◌∷◌}
use native.Mathlib.Omega.{arith}
use lib.Dec.{eqb}
use lib.ListN.{length, take, drop}
use Rattle.paper_lower.specs.Checks.{SHAPE, granted}
use Rattle.paper_lower.specs.Records.{Bytes, Record, decode}
use Rattle.paper_lower.specs.Forms.{policy_forms, form_of, out_of_range, form_checks}
use Rattle.paper_lower.specs.Kinds.{chosen, reply_to, answer}
use Rattle.paper_lower.specs.Tables.{Policy, no_policy}
use Rattle.paper_lower.specs.Policy.{policy_kinds}
use Rattle.paper_lower.specs.Load.{Loaded, accepted, refused, policy_answer, load_on, load, records_from, records_of}
use Rattle.paper_lower.proofs.CheckLaws.{Passed}
use Rattle.paper_lower.proofs.KindLaws.{reply-passed}
use Rattle.theorems.proofs.Replies.{policy-order, numbered}
use Rattle.theorems.proofs.Rows.{Rows, of-rows}

-- The tables after a record that is accepted.
abbrev pub step : Policy → Record → Policy
step p r = (chosen policy_kinds r.kind).next p r

-- The tables after accepted records.
unfoldable pub filled : Policy → List Record → Policy
filled p [] = p
filled p (r ∷ rs) = filled (step p r) rs

-- The record was accepted: its fields are within their limits, and no check of its kind applied.
pub record Fits (p : Policy) (r : Record) : Type 0 where
  pub range : out_of_range (form_of policy_forms r.kind) r ≡ false
  pub checks : Passed ((chosen policy_kinds r.kind).checks p r)

-- Every record is accepted, each on the tables that the ones before it made.
abbrev pub Accepted : Policy → List Record → Type 0
Accepted p [] = Unit {0}
Accepted p (r ∷ rs) = Fits p r × Accepted (step p r) rs

pub fits-rows : (P : ℕ → Policy → Record → Policy → Type 0) → Rows policy_forms P policy_kinds → (p : Policy) (r : Record) → Fits p r
    → P r.kind p r (step p r)
fits-rows P rows p r f = of-rows policy_forms P policy_kinds rows p r f.range f.checks

-- What every kind of record keeps, an accepted load keeps.
pub load-keeps : (I : Policy → Type 0) → Rows policy_forms (λ n p r x. I p → I x) policy_kinds → (p : Policy) (rs : List Record) → Accepted p rs → I p
    → I (filled p rs)
unfolding filled
load-keeps I rows p [] a i = i
load-keeps I rows p (r ∷ rs) a i = load-keeps I rows (step p r) rs a.1 (fits-rows (λ n p r x. I p → I x) rows p r a.0 i)

-- ---- The recursion of the load.
Whole : Policy → Loaded → List Record → Type 0
Whole p x rs = x.reply ≡ 0 → Accepted p rs × (x.tables ≡ filled p rs)

one_more : (p : Policy) (s : Bytes) (rest : Policy → Loaded) (rs : List Record) (place q : ℕ) → reply_to policy_forms policy_kinds p s ≡ q
    → Whole (step p (decode s)) (rest (step p (decode s))) rs
    → Whole p (granted q (rest (granted q (step p (decode s)) p)) (refused q place)) (decode s ∷ rs)
unfolding Whole filled form_checks
one_more p s rest rs place zero e ih h =
    let x = reply-passed policy_forms policy_kinds (numbered policy_kinds policy-order) p s e in
    let y = ih h in
    ((record { range = x.0.1.0; checks = x.1 }, y.0), y.1)
one_more p s rest rs place (suc q) e ih h = let z : ⊥ = omega arith in absurd z

load_from : (n place : ℕ) (s : Bytes) (p : Policy) → Whole p (load_on n place s p) (records_from n s)
unfolding Whole load_on records_from filled policy_answer answer
load_from zero place s p h = go (eqb (length s) 0) h
  where
    go : (b : Bool) → (cond b (accepted p) (refused SHAPE place)).reply ≡ 0 → Unit {0} × ((cond b (accepted p) (refused SHAPE place)).tables ≡ p)
    go true e = (tt, refl)
    go false e = let z : ⊥ = omega arith in absurd z
load_from (suc n) place s p h =
    one_more p (take 16 s) (load_on n (suc place) (drop 16 s)) (records_from n (drop 16 s)) place (reply_to policy_forms policy_kinds p (take 16 s)) refl
    (load_from n (suc place) (drop 16 s) (step p (decode (take 16 s)))) h

pub load-accepted : (s : Bytes) → (load s).reply ≡ 0 → Accepted no_policy (records_of s) × ((load s).tables ≡ filled no_policy (records_of s))
unfolding load records_of Whole
load-accepted s h = load_from (length s / 16) 1 s no_policy h
