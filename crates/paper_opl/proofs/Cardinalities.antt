-- In an accepted text every cardinality is a number up to 255: the table gives every attribute of that name the class of numbers.
use mathlib.Core.Path.{◌≡◌, refl, sym}
use mathlib.Core.List.{List, [], ◌∷◌}
use mathlib.Core.Bool.{Bool, true, false, not, ◌&&◌, ◌||◌, false≢true}
use Prim.Native.Nat.{ℕ, suc, ◌+◌, ◌*◌, ◌-◌, ◌≤◌}
use native.Mathlib.Omega.{arith}
use lib.Dec.{leb}
use borrow.Author.Tests.{leb-true}
use Rattle.paper_lower.specs.Lists.{every, keep, Every, lists_open}
use Rattle.paper_lower.specs.Lists.Maybe.{just}
use Rattle.paper_lower.proofs.ListLaws.{both, every_append}
use Rattle.paper_opl.specs.Reading.{Text, text, same, reading_open}
use Rattle.paper_opl.specs.Reading.Read.{got}
use Rattle.paper_opl.specs.Elements.{next, Class, Attribute, Child, elements_of, row_in, elements_open}
use Rattle.paper_opl.specs.Elements.Class.{names, number, any, spare}
use Rattle.paper_opl.specs.Tree.{Given, Elements, digit, decimal, fits, find, without, document_in}
use Rattle.paper_opl.specs.Tree.Elements.{nothing, node}
use Rattle.paper_opl.specs.Layout.{attributes_fit, elements_fit}
use Rattle.paper_opl.specs.Naming.{Found, those, insides, in_all, in_each, in_walls, value_of}
use Rattle.paper_opl.proofs.Inversion.{on_test, on-found, none≢just, just-value}
use Rattle.paper_opl.proofs.Wider.{document-wide}
use Rattle.paper_opl.proofs.Conforms.{same_true, root, row_has}

abbrev card : Text
card = text "cardinality"

-- If the attribute is a cardinality, its value is at most 255.
abbrev pub Small : Given → Type 0
Small g = same g.name card ≡ true → decimal 0 g.value ≤ 255

is_number : Class → Bool
is_number names = false
is_number number = true
is_number any = false
is_number spare = false

-- An attribute with the name "cardinality" has the class of numbers.
abbrev number_test : Attribute → Bool
number_test a = not (same a.name card) || is_number a.class

fits-small : (k : Class) (v : Text) → is_number k ≡ true → fits k v ≡ true → decimal 0 v ≤ 255
unfolding is_number
fits-small names v n e = absurd (false≢true n)
fits-small number v n e = leb-true _ _ (both (not (same v []) && every digit v) (leb (decimal 0 v) 255) e).1
fits-small any v n e = absurd (false≢true n)
fits-small spare v n e = absurd (false≢true n)

pub found-passes : (q : Attribute → Bool) (left : List Attribute) (w : Text) (a : Attribute) → every q left ≡ true → find left w ≡ just a →
    (q a ≡ true) × (a.name ≡ w)
unfolding find every
found-passes q [] w a h e = absurd (none≢just e)
found-passes q (b ∷ left) w a h e =
    let s = both (q b) (every q left) h in
    on_test (same b.name w)
    (λ c. let v = just-value (rw c at e) in (rw (sym v) s.0, rw (sym v) (same_true b.name w c)))
    (λ c. found-passes q left w a s.1 (rw c at e))

pub kept-passes : {A : Type 0} (q p : A → Bool) (xs : List A) → every q xs ≡ true → every q (keep p xs) ≡ true
unfolding keep every
kept-passes q p [] h = refl
kept-passes q p (x ∷ xs) h =
    let s = both (q x) (every q xs) h in
    on_test (p x) (λ c. rw (c, s.0) (kept-passes q p xs s.1)) (λ c. rw c (kept-passes q p xs s.1))

attributes-small : (left : List Attribute) (gs : List Given) → every number_test left ≡ true → attributes_fit left gs ≡ true → Every Small gs
unfolding attributes_fit
attributes-small left [] h f = tt
attributes-small left (g ∷ gs) h f =
    on-found (find left g.name)
    (λ a o.
    let k = found-passes number_test left g.name a h o in
    let m = both (fits a.class g.value) (attributes_fit (without g.name left) gs) (rw o at f) in (
      λ n. fits-small a.class g.value (rw n at (rw k.1 at k.0)) m.0,
      attributes-small (without g.name left) gs (kept-passes number_test (λ a. not (same a.name g.name)) left h) m.1,
    ))
    (λ o. absurd (false≢true (rw o at f)))

-- ---- Elements.

-- All cardinalities in a tree are at most 255.
unfoldable pub AllSmall : Elements → Type 0
AllSmall nothing = Unit {0}
AllSmall (node w gs inside behind) = Every Small gs × AllSmall inside × AllSmall behind

table-tested : every (λ e. every number_test e.attributes) (elements_of true) ≡ true
unfolding lists_open reading_open elements_open is_number
table-tested = refl

table-small : (w : Text) → every number_test (row_in (elements_of true) w).attributes ≡ true
unfolding every
table-small w = row_has (λ e. every number_test e.attributes) (elements_of true) w (λ v. refl) table-tested

all_small : (left : List Child) (es : Elements) → elements_fit true left es ≡ true → AllSmall es
unfolding elements_fit AllSmall
all_small left nothing h = tt
all_small left (node w gs i b) h =
    on-found (next left w)
    (λ cs q.
    let m =
    both (attributes_fit (row_in (elements_of true) w).attributes gs && elements_fit true (row_in (elements_of true) w).children i) (elements_fit true cs b)
    (rw q at h) in
    let k = both (attributes_fit (row_in (elements_of true) w).attributes gs) (elements_fit true (row_in (elements_of true) w).children i) m.0 in (
      attributes-small (row_in (elements_of true) w).attributes gs (table-small w) k.0,
      all_small (row_in (elements_of true) w).children i k.1,
      all_small cs b m.1,
    ))
    (λ q. absurd (false≢true (rw q at h)))

pub document-small : (all : Bool) (s : Text) (es : Elements) (r : Text) → document_in all s ≡ got es r → AllSmall es
document-small all s es r e = all_small root es (document-wide all s es r e)

-- ---- The elements that the rows of the definition find.

-- The same for one element that was found.
abbrev pub Proper : Found → Type 0
Proper x = Every Small x.given

pub those-proper : (w : Text) (k : ℕ) (es : Elements) → AllSmall es → Every Proper (those w k es)
unfolding those AllSmall
those-proper w k nothing h = tt
those-proper w k (node v gs i b) h =
    let r = every_append Proper (those w k i) (those w k b) (those-proper w k i h.1) (those-proper w k b h.2) in
    on_test (same v w) (λ q. rw q (h.0, r)) (λ q. rw q r)

insides-small : (w : Text) (es : Elements) → AllSmall es → Every AllSmall (insides w es)
unfolding insides AllSmall
insides-small w nothing h = tt
insides-small w (node v gs i b) h =
    let r = every_append AllSmall (insides w i) (insides w b) (insides-small w i h.1) (insides-small w b h.2) in
    on_test (same v w) (λ q. rw q (h.1, r)) (λ q. rw q r)

all-proper : (w : Text) (es : List Elements) → Every AllSmall es → Every Proper (in_all w es)
unfolding in_all
all-proper w [] h = tt
all-proper w (e ∷ es) h = every_append Proper (those w 0 e) (in_all w es) (those-proper w 0 e h.0) (all-proper w es h.1)

each-proper : (k : ℕ) (w : Text) (es : List Elements) → Every AllSmall es → Every Proper (in_each k w es)
unfolding in_each
each-proper k w [] h = tt
each-proper k w (e ∷ es) h = every_append Proper (those w k e) (in_each (suc k) w es) (those-proper w k e h.0) (each-proper (suc k) w es h.1)

pub within-proper : (o w : Text) (es : Elements) → AllSmall es → Every Proper (in_all w (insides o es))
within-proper o w es h = all-proper w (insides o es) (insides-small o es h)

pub numbered-proper : (o w : Text) (es : Elements) → AllSmall es → Every Proper (in_each 0 w (insides o es))
numbered-proper o w es h = each-proper 0 w (insides o es) (insides-small o es h)

walls-proper : (k : ℕ) (o w : Text) (es : List Elements) → Every AllSmall es → Every Proper (in_walls k o w es)
unfolding in_walls
walls-proper k o w [] h = tt
walls-proper k o w (e ∷ es) h =
    every_append Proper (in_each (16 * k) w (insides o e)) (in_walls (suc k) o w es) (each-proper (16 * k) w (insides o e) (insides-small o e h.0))
    (walls-proper (suc k) o w es h.1)

pub walled-proper : (wall o w : Text) (es : Elements) → AllSmall es → Every Proper (in_walls 0 o w (insides wall es))
walled-proper wall o w es h = walls-proper 0 o w (insides wall es) (insides-small wall es h)

pub value-small : (gs : List Given) → Every Small gs → decimal 0 (value_of card gs) ≤ 255
unfolding value_of decimal
value-small [] h = omega arith
value-small (g ∷ gs) h = on_test (same g.name card) (λ q. rw q (h.0 q)) (λ q. rw q (value-small gs h.1))

-- ---- A number does not get smaller with further digits.
pub decimal-grows : (n : ℕ) (t : Text) → n ≤ decimal n t
unfolding decimal
decimal-grows n [] = omega arith
decimal-grows n (b ∷ t) = let h = decimal-grows (10 * n + (b - 48)) t in omega arith
