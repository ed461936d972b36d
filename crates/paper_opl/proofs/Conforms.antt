-- The elements of a tree fit the table (`Fits`): each one is a child in the row of the element around it. So a test that every row passes, by one computation,
-- says something about every element and its content.
use mathlib.Core.Path.{◌≡◌, refl, sym, ap}
use mathlib.Core.List.{List, [], ◌∷◌}
use mathlib.Core.Bool.{Bool, true, ◌||◌, false≢true}
use lib.Dec.{eqb}
use borrow.Author.Tests.{eqb-true}
use Rattle.paper_lower.specs.Lists.{some, every}
use Rattle.paper_lower.specs.Lists.Maybe.{just}
use Rattle.paper_lower.proofs.ListLaws.{both, or-true}
use Rattle.paper_opl.specs.Reading.{Text, text, same, starts, expect, name}
use Rattle.paper_opl.specs.Reading.Read.{got}
use Rattle.paper_opl.specs.Elements.{Times, Child, Element, elements_of, row_in, one, needed, follow, next}
use Rattle.paper_opl.specs.Elements.Times.{once, perhaps, often, least}
use Rattle.paper_opl.specs.Tree.{Elements, Opened, opening}
use Rattle.paper_opl.specs.Tree.Elements.{nothing, node}
use Rattle.paper_opl.proofs.Inversion.{on, on_test, on-found, bad≢got, got-value, none≢just, just-value}

pub same_true : (v w : Text) → same v w ≡ true → v ≡ w
unfolding same
same_true [] [] e = refl
same_true [] (c ∷ w) e = absurd (false≢true e)
same_true (b ∷ v) [] e = absurd (false≢true e)
same_true (b ∷ v) (c ∷ w) e =
    let h = both (eqb b c) (same v w) e in
    rw (eqb-true b c h.0, same_true v w h.1)

-- ---- Children.

-- The name is that of a child.
abbrev pub among : List Child → Text → Bool
among cs w = some (λ c. some (same w) c.names) cs

-- The name of every child has the property q.
abbrev pub for_names : (Text → Bool) → List Child → Bool
for_names q cs = every (λ c. every q c.names) cs

pub name-has : (q : Text → Bool) (vs : List Text) (w : Text) → every q vs ≡ true → some (same w) vs ≡ true → q w ≡ true
unfolding every some
name-has q [] w h e = absurd (false≢true e)
name-has q (v ∷ vs) w h e =
    let b = both (q v) (every q vs) h in
    on_test (same w v) (λ s. rw (same_true w v s) b.0) (λ s. name-has q vs w b.1 (rw s at e))

pub child-has : (q : Text → Bool) (cs : List Child) (w : Text) → for_names q cs ≡ true → among cs w ≡ true → q w ≡ true
unfolding every some
child-has q [] w h e = absurd (false≢true e)
child-has q (c ∷ cs) w h e =
    let b = both (every q c.names) (for_names q cs) h in
    on_test (some (same w) c.names) (λ s. name-has q c.names w b.0 s) (λ s. child-has q cs w b.1 (rw s at e))

-- The children that may follow are among the children before.
follow-among : (t : Times) (vs : List Text) (cs : List Child) (v : Text) → among (follow t vs cs) v ≡ true → some (same v) vs || among cs v ≡ true
unfolding some
follow-among once vs cs v e = rw e (or-true (some (same v) vs))
follow-among perhaps vs cs v e = rw e (or-true (some (same v) vs))
follow-among often vs cs v e = e
follow-among least vs cs v e = e

pub next-among : (cs ds : List Child) (w : Text) → next cs w ≡ just ds → (among cs w ≡ true) × ((v : Text) → among ds v ≡ true → among cs v ≡ true)
unfolding next some
next-among [] ds w e = absurd (none≢just e)
next-among (c ∷ cs) ds w e =
    on_test (some (same w) c.names)
    (λ s. (rw s, λ v h. follow-among c.times c.names cs v (rw (just-value (rw s at e)) h)))
    (λ s. on_test (needed c.times) (λ n. absurd (none≢just (rw (s, n) at e)))
    (λ n. let r = next-among cs ds w (rw (s, n) at e) in (rw s r.0, λ v h. rw (r.1 v h) (or-true (some (same v) c.names)))))

-- ---- Elements.

-- Every element is a child in the row of the element around it, in the wider table.
unfoldable pub Fits : List Child → Elements → Type 0
Fits cs nothing = Unit {0}
Fits cs (node w gs inside behind) = (among cs w ≡ true) × Fits (row_in (elements_of true) w).children inside × Fits cs behind

pub fits_more : (ds cs : List Child) (es : Elements) → ((v : Text) → among ds v ≡ true → among cs v ≡ true) → Fits ds es → Fits cs es
unfolding Fits
fits_more ds cs nothing f h = tt
fits_more ds cs (node w gs inside behind) f h = (f w h.0, h.1, fits_more ds cs behind f h.2)

pub opened-fits : (left : List Child) (s : Text) (c : Opened) (u : Text) → opening left s ≡ got c u → next left c.name ≡ just c.left
unfolding opening
opened-fits left s c u e =
    on_test (starts (text "<!") s || starts (text "<?") s) (λ q. absurd (bad≢got (rw q at e)))
    (λ q. on (expect (text "<") s) (λ _ r p. on (name r) (λ w z o. on-found (next left w)
    (λ cs f. let k = got-value (rw (q, p, o, f) at e) in rw (sym (ap (λ x. x.name) k), sym (ap (λ x. x.left) k)) f)
    (λ f. absurd (bad≢got (rw (q, p, o, f) at e)))) (λ z o. absurd (bad≢got (rw (q, p, o) at e)))) (λ r p. absurd (bad≢got (rw (q, p) at e))))

-- The document has the policy object as its only child.
abbrev pub root : List Child
root = one "policy_object" ∷ []

-- ---- One test for all rows.

-- A test that every row passes, and that a row without attributes and children passes too, holds for the row of any name.
pub row_has : (q : Element → Bool) (es : List Element) (w : Text) → ((v : Text) → q (record { name = v; attributes = []; children = [] }) ≡ true) →
    every q es ≡ true → q (row_in es w) ≡ true
unfolding row_in every
row_has q [] w d h = d w
row_has q (e ∷ es) w d h =
    let b = both (q e) (every q es) h in
    on_test (same e.name w) (λ s. rw s b.0) (λ s. rw s (row_has q es w d b.1))

pub row-name : (es : List Element) (w : Text) → (row_in es w).name ≡ w
unfolding row_in
row-name [] w = refl
row-name (e ∷ es) w = on_test (same e.name w) (λ s. rw s (same_true e.name w s)) (λ s. rw s (row-name es w))
