-- `is_entry` meets its contract: past the end of the table there is no name, which is a name without bytes.
use Rattle.std.proofs.Common.{◌≡◌, ℕ, ◌≤◌, List, [], ◌∷◌, length, get_or, map, Bor, refl, sym}
use Rattle.std.proofs.lemmas.List.{length-map}
use borrow.Author.Tests.{ltb-false}
use lib.Dec.{eqb, eqb-suc-zero}
use lib.ListN.{get_or-eq_default}
use Rattle.paper_opl.specs.Reading.{Text, same}
use Rattle.opl_table.proofs.is_entry.Goals as goal

no_bytes : (v : Text) → eqb (length v) 0 ≡ same v []
unfolding same
no_bytes [] = refl
no_bytes (b ∷ v) = rw (eqb-suc-zero (length v))

past : (v : Text) (table : List (Bor (List ℕ))) (k : ℕ) → length table ≤ k → eqb (length v) 0 ≡ same v (get_or (map (λ (name : Bor (List ℕ)). name.now) table) k [])
past v table k h =
    let n : length (map (λ (name : Bor (List ℕ)). name.now) table) ≤ k = simp length-map h in
    rw (get_or-eq_default (map (λ (name : Bor (List ℕ)). name.now) table) [] n) (no_bytes v)

pub returns-in-None : goal.returns-in-None
returns-in-None c = past c.args.v.now c.args.table.now c.args.k (ltb-false _ _ (sym c.in-None.ensures.lookup.0))
