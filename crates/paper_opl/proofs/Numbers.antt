-- "Names up to 64 bytes get numbers in order of first declaration": a name's number is the count of different names declared before it, and different names
-- have different numbers.
use mathlib.Core.Path.{◌≡◌, refl, sym, ap, ◌∙◌}
use mathlib.Core.List.{List, [], ◌∷◌, ◌++◌}
use mathlib.Core.Bool.{Bool, true, false, cond, ◌&&◌, ◌||◌, true≢false}
use Prim.Native.Nat.{ℕ, suc, ◌+◌, ◌≤◌}
use native.Mathlib.Omega.{arith}
use lib.Dec.{ltb, leb}
use lib.ListN.{length}
use borrow.Author.Tests.{le-leb, lt-leb, le-ltb, lt-ltb}
use Rattle.paper_lower.specs.Lists.{some, many, add}
use Rattle.paper_lower.specs.Lists.Maybe.{just}
use Rattle.paper_lower.proofs.ListLaws.{or-none, or-false}
use Rattle.paper_opl.specs.Reading.{Text, same}
use Rattle.paper_opl.specs.Tree.{Elements}
use Rattle.paper_opl.specs.Naming.{Line, Space, distinct, place_of, number_in, names_of}
use Rattle.paper_opl.specs.Promises.{HoldsNames, Limits}
use Rattle.paper_opl.proofs.Inversion.{on_test, on-found, none≢just, just-value}
use Rattle.paper_opl.proofs.Conforms.{same_true}
use Rattle.paper_opl.proofs.TreeBack.{same_self}

-- ---- Different names have different numbers.

place-from : (k n : ℕ) (w : Text) (ws : List Text) → place_of k w ws ≡ just n → k ≤ n
unfolding place_of
place-from k n w [] e = absurd (none≢just e)
place-from k n w (v ∷ ws) e =
    on_test (same v w) (λ q. let x = just-value (rw q at e) in omega arith) (λ q. let x = place-from (suc k) n w ws (rw q at e) in omega arith)

place-one : (k n : ℕ) (v w : Text) (ws : List Text) → place_of k v ws ≡ just n → place_of k w ws ≡ just n → v ≡ w
unfolding place_of
place-one k n v w [] e f = absurd (none≢just e)
place-one k n v w (u ∷ ws) e f =
    on_test (same u v)
    (λ p. on_test (same u w) (λ q. sym (same_true u v p) ∙ same_true u w q)
    (λ q. let x = just-value (rw p at e) in let y = place-from (suc k) n w ws (rw q at f) in absurd (omega arith)))
    (λ p. on_test (same u w) (λ q. let x = just-value (rw q at f) in let y = place-from (suc k) n v ws (rw p at e) in absurd (omega arith))
    (λ q. place-one (suc k) n v w ws (rw p at e) (rw q at f)))

number-place : (sp : Space) (w : Text) (k : ℕ) → number_in sp w ≡ just k → place_of 0 w sp.declared ≡ just k
unfolding number_in
number-place sp w k e =
    on-found (place_of 0 w sp.declared)
    (λ j q. on_test (leb (length w) 64 && ltb j sp.limit) (λ c. q ∙ rw (q, c) at e) (λ c. absurd (none≢just (rw (q, c) at e))))
    (λ q. absurd (none≢just (rw q at e)))

pub numbers-differ : (sp : Space) (v w : Text) (k : ℕ) → number_in sp v ≡ just k → number_in sp w ≡ just k → v ≡ w
numbers-differ sp v w k e f = place-one 0 k v w sp.declared (number-place sp v k e) (number-place sp w k f)

-- ---- "a name too long, undeclared or above a limit": exactly these have no number.

and_none : (b : Bool) → b && false ≡ false
and_none true = refl
and_none false = refl

holds-names : (sp : Space) → HoldsNames sp.limit sp
unfolding number_in
holds-names sp = record {
  accepted = λ w k e l h. rw (e, le-leb (length w) 64 l, lt-ltb k sp.limit h);
  too_many = λ w k e h. rw (e, le-ltb k sp.limit h, and_none (leb (length w) 64));
  too_long = λ w l. on-found (place_of 0 w sp.declared) (λ k q. rw (q, lt-leb (length w) 64 l)) (λ q. rw q);
  undeclared = λ w e. rw e;
}

pub limits-of-names : (es : Elements) (ls : List Line) → Limits (names_of es ls)
unfolding names_of
limits-of-names es ls = record {
  users = holds-names (names_of es ls).users;
  roles = holds-names (names_of es ls).roles;
  permissions = holds-names (names_of es ls).permissions;
  operations = holds-names (names_of es ls).operations;
  objects = holds-names (names_of es ls).objects;
  tasks = holds-names (names_of es ls).tasks;
  templates = holds-names (names_of es ls).templates;
}

-- ---- The order of first declaration.

distinct_append : (seen us vs : List Text) → distinct seen (us ++ vs) ≡ distinct (distinct seen us) vs
unfolding distinct
distinct_append seen [] vs = refl
distinct_append seen (u ∷ us) vs = distinct_append (cond (some (same u) seen) seen (add seen u)) us vs

some-add : (w : Text) (seen : List Text) (u : Text) → some (same w) (add seen u) ≡ some (same w) seen || same w u
unfolding some add
some-add w [] u = or-false (same w u)
some-add w (v ∷ seen) u = on_test (same w v) (λ q. rw q) (λ q. rw q (some-add w seen u))

-- A name that was not declared is not among the different names.
not_there : (w : Text) (seen us : List Text) → some (same w) seen ≡ false → some (same w) us ≡ false → some (same w) (distinct seen us) ≡ false
unfolding distinct some
not_there w seen [] a b = a
not_there w seen (u ∷ us) a b =
    let o = or-none (same w u) (some (same w) us) b in
    on_test (some (same u) seen) (λ q. rw q (not_there w seen us a o.1)) (λ q. rw q (not_there w (add seen u) us (some-add w seen u ∙ rw (a, o.0)) o.1))

place-add : (w : Text) (k n : ℕ) (seen : List Text) (u : Text) → place_of k w seen ≡ just n → place_of k w (add seen u) ≡ just n
unfolding place_of add
place-add w k n [] u e = absurd (none≢just e)
place-add w k n (v ∷ seen) u e = on_test (same v w) (λ q. rw q (rw q at e)) (λ q. rw q (place-add w (suc k) n seen u (rw q at e)))

-- Later names do not change the numbers of earlier ones.
place-stays : (w : Text) (k n : ℕ) (seen us : List Text) → place_of k w seen ≡ just n → place_of k w (distinct seen us) ≡ just n
unfolding distinct
place-stays w k n seen [] e = e
place-stays w k n seen (u ∷ us) e =
    on_test (some (same u) seen) (λ q. rw q (place-stays w k n seen us e)) (λ q. rw q (place-stays w k n (add seen u) us (place-add w k n seen u e)))

-- A new name gets the number of names that are there.
place-new : (w : Text) (k : ℕ) (seen : List Text) → some (same w) seen ≡ false → place_of k w (add seen w) ≡ just (k + many seen)
unfolding place_of add some many
place-new w k [] a = let z : k + 0 ≡ k = omega arith in rw (same_self w, z)
place-new w k (v ∷ seen) a =
    let o = or-none (same w v) (some (same w) seen) a in
    let z : k + suc (many seen) ≡ suc k + many seen = omega arith in
    on_test (same v w) (λ q. absurd (true≢false (sym (same_self w) ∙ ap (same w) (sym (same_true v w q)) ∙ o.0)))
    (λ q. rw (q, z) (place-new w (suc k) seen o.1))

-- A name that is declared first after the names `us` and before the names `vs`.
pub first-declared : (w : Text) (us vs : List Text) → some (same w) us ≡ false → place_of 0 w (distinct [] (us ++ (w ∷ vs))) ≡ just (many (distinct [] us))
unfolding distinct some
first-declared w us vs h =
    let a = not_there w [] us refl h in
    let z : 0 + many (distinct [] us) ≡ many (distinct [] us) = omega arith in
    ap (place_of 0 w) (distinct_append [] us (w ∷ vs)) ∙
    rw a (place-stays w 0 (many (distinct [] us)) (add (distinct [] us) w) vs (place-new w 0 (distinct [] us) a ∙ rw z))
