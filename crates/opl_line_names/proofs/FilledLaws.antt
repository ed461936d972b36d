-- A table for n names, filled with all declared names, has the first n different ones. So the numbers of its names are those that the rules define.
use Prim.Native.Nat.{ℕ, zero, suc, ◌+◌, ◌≤◌}
use mathlib.Core.Path.{◌≡◌, refl, sym, ap, ◌∙◌}
use mathlib.Core.Bool.{Bool, true, false, cond, ◌&&◌}
use mathlib.Core.List.{List, [], ◌∷◌}
use native.Mathlib.Omega.{arith}
use lib.Dec.{ltb, leb}
use lib.ListN.{length, take}
use borrow.Author.Tests.{ltb-true, ltb-false, lt-ltb, le-ltb}
use Rattle.paper_lower.specs.Lists.{Maybe, some, many, add, each}
use Rattle.paper_lower.specs.Lists.Maybe.{none, just}
use Rattle.paper_opl.specs.Reading.{Text, text, same}
use Rattle.paper_opl.specs.Tree.{Tag, if-found}
use Rattle.paper_opl.specs.Elements.{elements}
use Rattle.paper_opl.specs.Naming.{place_of, distinct, objects_in, number_in, space_of}
use Rattle.paper_opl.specs.Walk.{declared_in}
use Rattle.opl_names.specs.Table.{names_in, added, below}
use Rattle.opl_names.proofs.NameLaws.{place-new, place-small, added-there, added_new}
use Rattle.opl_table.specs.Numbers.{names, name_of}
use Rattle.opl_spaces.specs.Spaces.{limit_of, table_of, numbered}
use Rattle.opl_line_names.specs.Names.{declares_in, attribute_of, declared_at, kept_name, filled}

-- ---- The first n names of a list.
take_all : (n : ℕ) (ws : List Text) → many ws ≤ n → take n ws ≡ ws
unfolding many
take_all zero [] h = refl
take_all (suc n) [] h = refl
take_all zero (v ∷ ws) h = absurd (omega arith)
take_all (suc n) (v ∷ ws) h = ap (λ (x : List Text). v ∷ x) (take_all n ws (omega arith))

take-many : (n : ℕ) (ws : List Text) → n ≤ many ws → many (take n ws) ≡ n
unfolding many
take-many zero ws h = refl
take-many (suc n) [] h = absurd (omega arith)
take-many (suc n) (v ∷ ws) h = ap suc (take-many n ws (omega arith))

take-add : (n : ℕ) (ws : List Text) (v : Text) → n ≤ many ws → take n (add ws v) ≡ take n ws
unfolding many add
take-add zero ws v h = refl
take-add (suc n) [] v h = absurd (omega arith)
take-add (suc n) (u ∷ ws) v h = ap (λ (x : List Text). u ∷ x) (take-add n ws v (omega arith))

many-add : (ws : List Text) (v : Text) → many (add ws v) ≡ suc (many ws)
unfolding many add
many-add [] v = refl
many-add (u ∷ ws) v = ap suc (many-add ws v)

-- ---- The numbers of names in the first n names of a list.
place-least : (k j : ℕ) (w : Text) (ws : List Text) → place_of k w ws ≡ just j → k ≤ j
unfolding place_of
place-least k j w [] e = let z : ◌≡◌ {A = ℕ} 0 1 = cc in absurd (omega arith)
place-least k j w (u ∷ ws) e = go (same u w) e (place-least (suc k) j w ws)
  where
    go : (b : Bool) → cond b (just k) (place_of (suc k) w ws) ≡ just j → (place_of (suc k) w ws ≡ just j → suc k ≤ j) → k ≤ j
    go true e rest = let q : k ≡ j = cc in omega arith
    go false e rest = let l = rest e in omega arith

place_none : (k n : ℕ) (x : Maybe ℕ) → ((j : ℕ) → x ≡ just j → n ≤ j) → none ≡ below n x
place_none k n none h = refl
place_none k n (just j) h = rw (le-ltb j n (h j refl))

place-take : (k n : ℕ) (w : Text) (ws : List Text) → place_of k w (take n ws) ≡ below (k + n) (place_of k w ws)
unfolding place_of
place-take k zero w ws = place_none k (k + 0) (place_of k w ws) (λ j e. let l = place-least k j w ws e in omega arith)
place-take k (suc n) w [] = refl
place-take k (suc n) w (u ∷ ws) = go (same u w) (place-take (suc k) n w ws)
  where
    go : (b : Bool) → place_of (suc k) w (take n ws) ≡ below (suc k + n) (place_of (suc k) w ws) →
        cond b (just k) (place_of (suc k) w (take n ws)) ≡ below (k + suc n) (cond b (just k) (place_of (suc k) w ws))
    go true rest = sym (rw (lt-ltb k (k + suc n) (omega arith)))
    go false rest = let q : suc k + n ≡ k + suc n = omega arith in rw (← q) rest

pub place-first : (n : ℕ) (w : Text) (ws : List Text) → place_of 0 w (take n ws) ≡ below n (place_of 0 w ws)
place-first n w ws = let q : 0 + n ≡ n = omega arith in place-take 0 n w ws ∙ ap (λ (k : ℕ). below k (place_of 0 w ws)) q

-- ---- One more name.
kept_there : (n k : ℕ) (v : Text) (ws : List Text) → place_of 0 v ws ≡ just k → (x : Bool) → ltb k n ≡ x → kept_name n v (take n ws) ≡ take n ws
unfolding kept_name
kept_there n k v ws e true q =
    let p : place_of 0 v (take n ws) ≡ just k = place-first n v ws ∙ rw (e, q) in
    rw (added-there v (take n ws) p, p, q)
kept_there n k v ws e false q =
    let p : place_of 0 v (take n ws) ≡ none = place-first n v ws ∙ rw (e, q) in
    let l = place-small v 0 k ws e in
    let h = ltb-false k n q in
    let m : many (take n ws) ≡ n = take-many n ws (omega arith) in
    let o : 0 + many (take n ws) ≡ n = omega arith in
    rw (added_new v (take n ws) p, place-new v 0 (take n ws) p, o, le-ltb n n (omega arith))

kept_new : (n : ℕ) (v : Text) (ws : List Text) → place_of 0 v ws ≡ none → (x : Bool) → ltb (many ws) n ≡ x → kept_name n v (take n ws) ≡ take n (add ws v)
unfolding kept_name
kept_new n v ws e true q =
    let h = ltb-true (many ws) n q in
    let t : take n ws ≡ ws = take_all n ws (omega arith) in
    let o : 0 + many ws ≡ many ws = omega arith in
    rw (t, added_new v ws e, place-new v 0 ws e, o, q) (sym (take_all n (add ws v) (omega (arith, many-add ws v))))
kept_new n v ws e false q =
    let h = ltb-false (many ws) n q in
    let p : place_of 0 v (take n ws) ≡ none = place-first n v ws ∙ rw e in
    let o : 0 + many (take n ws) ≡ n = omega (arith, take-many n ws h) in
    rw (added_new v (take n ws) p, place-new v 0 (take n ws) p, o, le-ltb n n (omega arith)) (sym (take-add n ws v h))

kept_more : (n : ℕ) (v : Text) (ws : List Text) → kept_name n v (take n ws) ≡ take n (added v ws)
kept_more n v ws = go (place_of 0 v ws) refl
  where
    go : (x : Maybe ℕ) → place_of 0 v ws ≡ x → kept_name n v (take n ws) ≡ take n (added v ws)
    go (just k) e = kept_there n k v ws e (ltb k n) refl ∙ sym (ap (take n) (added-there v ws e))
    go none e = kept_new n v ws e (ltb (many ws) n) refl ∙ sym (ap (take n) (added_new v ws e))

pub filled_is : (n : ℕ) (ws vs : List Text) → filled n (take n ws) vs ≡ take n (distinct ws vs)
unfolding filled distinct added
filled_is n ws [] = refl
filled_is n ws (v ∷ vs) = ap (λ (x : List Text). filled n x vs) (kept_more n v ws) ∙ filled_is n (cond (some (same v) ws) ws (add ws v)) vs

-- ---- The numbers in the filled table are the numbers that the rules define for the space.
within : (n : ℕ) (x : Maybe ℕ) (b : Bool) → cond b (below n x) none ≡ if-found x none (λ k. cond (b && ltb k n) (just k) none)
within n none true = refl
within n none false = refl
within n (just k) true = refl
within n (just k) false = refl

pub numbers-are : (s w : Text) (i : ℕ) (l : List ℕ) (vs : List Text) → names_in s (table_of i l) ≡ filled (limit_of i) [] vs →
    numbered s i l w ≡ number_in (space_of (limit_of i) vs) w
unfolding number_in
numbers-are s w i l vs e =
    let f : names_in s (table_of i l) ≡ take (limit_of i) (distinct [] vs) = e ∙ start (limit_of i) ∙ filled_is (limit_of i) [] vs in
    rw (f, place-first (limit_of i) w (distinct [] vs)) (within (limit_of i) (place_of 0 w (distinct [] vs)) (leb (length w) 64))
  where
    start : (n : ℕ) → filled n [] vs ≡ filled n (take n []) vs
    start zero = refl
    start (suc n) = refl

-- ---- The names of the five spaces that tags declare.
module _ (ts : List Tag) where
  pub users-are : declared_at 0 ts ≡ declared_in "user" "user_id" ts
  unfolding declared_at declares_in name_of names elements each attribute_of text
  users-are = refl

  pub roles-are : declared_at 1 ts ≡ declared_in "role" "role_id" ts
  unfolding declared_at declares_in name_of names elements each attribute_of text
  roles-are = refl

  pub permissions-are : declared_at 2 ts ≡ declared_in "permission" "permission_id" ts
  unfolding declared_at declares_in name_of names elements each attribute_of text
  permissions-are = refl

  pub operations-are : declared_at 3 ts ≡ declared_in "operation" "operation_id" ts
  unfolding declared_at declares_in name_of names elements each attribute_of text
  operations-are = refl

  pub objects-are : declared_at 4 ts ≡ objects_in ts
  unfolding declared_at declares_in objects_in name_of names elements each attribute_of text
  objects-are = refl
