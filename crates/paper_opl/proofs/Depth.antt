-- The limit of depth 8 refuses no text that the table allows: with any larger limit every text is read the same.
use mathlib.Core.Path.{◌≡◌, refl}
use mathlib.Core.List.{List, [], ◌∷◌}
use mathlib.Core.Bool.{Bool, true, false}
use Prim.Native.Nat.{ℕ, zero, suc, ◌<◌, ◌≤◌, max}
use native.Mathlib.Omega.{arith}
use lib.Dec.{ltb}
use lib.ListN.{length, drop}
use borrow.Author.Tests.{ltb-true}
use Rattle.paper_lower.specs.Lists.{every, lists_open}
use Rattle.paper_opl.specs.Reading.{Text, text, starts, misc, reading_open}
use Rattle.paper_opl.specs.Elements.{Child, elements_of, row_in, elements_open}
use Rattle.paper_opl.specs.Tree.{opening, content, element, prolog, DEPTH, document_in, attributes}
use Rattle.paper_opl.specs.Promises.{document_to}
use Rattle.paper_opl.proofs.Inversion.{on, on_test}
use Rattle.paper_opl.proofs.Conforms.{among, for_names, child-has, next-among, opened-fits, root, row_has, row-name}

highest : (Text → ℕ) → List Text → ℕ
highest f [] = 0
highest f (v ∷ vs) = max (f v) (highest f vs)

highest_of : (Text → ℕ) → List Child → ℕ
highest_of f [] = 0
highest_of f (c ∷ cs) = max (highest f c.names) (highest_of f cs)

-- The greatest depth that the table allows for an element and the elements inside it, counted up to n.
pub height : Bool → ℕ → Text → ℕ
height all zero w = 0
height all (suc n) w = suc (highest_of (height all n) (row_in (elements_of all) w).children)

-- The depth that an element needs. In both tables it is greater than that of each child.
abbrev pub rank : Bool → Text → ℕ
rank all w = height all DEPTH w

pub some-height : (all : Bool) (w : Text) → 0 < rank all w
unfolding height
some-height all w = omega arith

lower : (all : Bool) → every (λ e. for_names (λ v. ltb (rank all v) (rank all e.name)) e.children) (elements_of all) ≡ true
unfolding lists_open reading_open elements_open highest highest_of height
lower false = refl
lower true = refl

pub root-rank : (all : Bool) → for_names (λ v. ltb (rank all v) 9) root ≡ true
unfolding lists_open reading_open elements_open highest highest_of height
root-rank false = refl
root-rank true = refl

module _ (all : Bool) where
  pub child-lower : (w v : Text) → among (row_in (elements_of all) w).children v ≡ true → rank all v < rank all w
  unfolding every
  child-lower w v h =
      let t = row_has (λ e. for_names (λ v. ltb (rank all v) (rank all e.name)) e.children) (elements_of all) w (λ v. refl) (lower all) in
      let k =
      ltb-true (rank all v) (rank all (row_in (elements_of all) w).name)
      (child-has (λ u. ltb (rank all u) (rank all (row_in (elements_of all) w).name)) (row_in (elements_of all) w).children v t h) in
      rw (row-name (elements_of all) w) at k

  -- Both limits are enough for the children.
  abbrev Deep : ℕ → ℕ → List Child → Type 0
  Deep n m cs = (v : Text) → among cs v ≡ true → (rank all v ≤ n) × (rank all v ≤ m)

  -- With two limits that are enough for an element, it is read the same.
  abbrev Alike : ℕ → ℕ → Type 0
  Alike n m = (w s : Text) → rank all w ≤ n → rank all w ≤ m → element (elements_of all) n w s ≡ element (elements_of all) m w s

  content-alike : (n m : ℕ) → Alike n m → (k : ℕ) (w : Text) (left : List Child) (s : Text) → Deep n m left →
      content (element (elements_of all) n) k w left s ≡ content (element (elements_of all) m) k w left s
  unfolding content
  content-alike n m alike zero w left s d = refl
  content-alike n m alike (suc k) w left s d =
      on (misc (length s) s) (λ _ r p. on_test (starts (text "</") r) (λ c. rw (p, c)) (λ c. on (opening left r)
      (λ o u q.
      let h = next-among left o.left o.name (opened-fits left r o u q) in
      let a = d o.name h.0 in
      rw (p, c, q, alike o.name u a.0 a.1) (on (element (elements_of all) m o.name u)
      (λ e z f. rw (f, content-alike n m alike k w o.left z (λ v g. d v (h.1 v g)))) (λ z f. rw f)))
      (λ u q. rw (p, c, q)))) (λ r p. rw p)

  element-alike : (n m : ℕ) → Alike n m
  unfolding element height
  element-alike zero m w s a b = absurd (omega arith)
  element-alike (suc n) zero w s a b = absurd (omega arith)
  element-alike (suc n) (suc m) w s a b =
      on (attributes (length s) (row_in (elements_of all) w).attributes s) (λ gs r p. on_test (starts (text ">") r)
      (λ c. rw (
        p,
        c,
        content-alike n m (element-alike n m) (length r) (row_in (elements_of all) w).name (row_in (elements_of all) w).children (drop 1 r)
            (λ v g. let l = child-lower w v g in (omega arith, omega arith)),
      ))
      (λ c. rw (p, c))) (λ r p. rw p)

  -- "down to depth 8": with any limit from 8 on, a document is read the same.
  pub depth-never-bites : (d : ℕ) (s : Text) → DEPTH ≤ d → document_to all d s ≡ document_in all s
  unfolding document_to document_in
  depth-never-bites d s h =
      on (prolog s) (λ _ r p. on (opening root r)
      (λ o u q.
      let a = (next-among root o.left o.name (opened-fits root r o u q)).0 in
      let l = ltb-true (rank all o.name) 9 (child-has (λ v. ltb (rank all v) 9) root o.name (root-rank all) a) in
      rw (p, q, element-alike d DEPTH o.name u (omega arith) (omega arith))) (λ u q. rw (p, q))) (λ r p. rw p)
