-- The tree that is read from an accepted text is in the grammar: no attribute or element is missing, misplaced or too many.
use mathlib.Core.Path.{◌≡◌, sym}
use mathlib.Core.List.{List, [], ◌∷◌}
use mathlib.Core.Bool.{Bool, true, ◌&&◌, ◌||◌, false≢true}
use Prim.Native.Nat.{ℕ, zero, suc}
use lib.ListN.{length, drop}
use Rattle.paper_lower.specs.Lists.{some, every}
use Rattle.paper_lower.specs.Lists.Maybe.{just}
use Rattle.paper_lower.proofs.ListLaws.{both}
use Rattle.paper_opl.specs.Reading.{Text, Read, text, same, starts, expect, skip, space, name, value, equals, misc}
use Rattle.paper_opl.specs.Reading.Read.{got}
use Rattle.paper_opl.specs.Elements.{Attribute, Child, elements_of, row_in, next, may_end}
use Rattle.paper_opl.specs.Tree.{Given, Elements, fits, required, find, without, attribute, attributes, opening, ending, Inside, content, element, prolog, DEPTH, document_in}
use Rattle.paper_opl.specs.Tree.Elements.{nothing, node}
use Rattle.paper_opl.specs.Layout.{attributes_fit, elements_fit, in_grammar}
use Rattle.paper_opl.proofs.Inversion.{on, on_test, on-found, bad≢got, got-value, none≢just, just-value}
use Rattle.paper_opl.proofs.Conforms.{next-among, Fits, fits_more, opened-fits, root}

-- An attribute that was read is one that may be given, and its value fits.
pub record Allowed (left : List Attribute) (g : Given) : Type 0 where
  pub attribute : Attribute
  pub found : find left g.name ≡ just attribute
  pub fit : fits attribute.class g.value ≡ true

attribute-allowed : (left : List Attribute) (s : Text) (g : Given) (r : Text) → attribute left s ≡ got g r → Allowed left g
unfolding attribute
attribute-allowed left s g r e =
    on (name s) (λ w x p. on (equals x) (λ _ u q. on (value u) (λ v z t. on-found (find left w) (λ a o. on_test (fits a.class v)
    (λ c. rw (sym (got-value (rw (p, q, t, o, c) at e))) (record { attribute = a; found = o; fit = c }))
    (λ c. absurd (bad≢got (rw (p, q, t, o, c) at e))))
    (λ o. absurd (bad≢got (rw (p, q, t, o) at e)))) (λ z t. absurd (bad≢got (rw (p, q, t) at e)))) (λ u q. absurd (bad≢got (rw (p, q) at e))))
    (λ x p. absurd (bad≢got (rw p at e)))

attributes-fit : (n : ℕ) (left : List Attribute) (s : Text) (gs : List Given) (r : Text) → attributes n left s ≡ got gs r → attributes_fit left gs ≡ true
unfolding attributes attributes_fit
attributes-fit zero left s gs r e = absurd (bad≢got e)
attributes-fit (suc n) left s gs r e =
    on_test (starts (text ">") (skip s) || starts (text "/") (skip s))
    (λ c. on_test (some (λ a. required a.class) left) (λ d. absurd (bad≢got (rw (c, d) at e))) (λ d. rw (sym (got-value (rw (c, d) at e)), d)))
    (λ c. on (space s) (λ _ u p. on (attribute left u) (λ g z q. on (attributes n (without g.name left) z)
    (λ hs y o.
    let a = attribute-allowed left u g z q in
    rw (sym (got-value (rw (c, p, q, o) at e)), a.found, a.fit) (attributes-fit n (without g.name left) z hs y o))
    (λ y o. absurd (bad≢got (rw (c, p, q, o) at e)))) (λ z q. absurd (bad≢got (rw (c, p, q) at e)))) (λ u p. absurd (bad≢got (rw (c, p) at e))))

root_ends : (w : Text) (cs : List Child) → next root w ≡ just cs → may_end cs ≡ true
unfolding next some every
root_ends w cs e = on_test (some (same w) (text "policy_object" ∷ [])) (λ q. rw (sym (just-value (rw q at e)))) (λ q. absurd (none≢just (rw q at e)))

module _ (all : Bool) where
  -- A reader of elements whose results fit the table.
  abbrev Keeps : (Text → Text → Read Inside) → Type 0
  Keeps inner =
      (w s : Text) (e : Inside) (r : Text) → inner w s ≡ got e r →
      (attributes_fit (row_in (elements_of all) w).attributes e.given ≡ true) × (elements_fit all (row_in (elements_of all) w).children e.elements ≡ true)

  content-fit : (inner : Text → Text → Read Inside) → Keeps inner → (n : ℕ) (w : Text) (left : List Child) (s : Text) (es : Elements) (r : Text)
      → content inner n w left s ≡ got es r → elements_fit all left es ≡ true
  unfolding content ending elements_fit
  content-fit inner keeps zero w left s es r e = absurd (bad≢got e)
  content-fit inner keeps (suc n) w left s es r e =
      on (misc (length s) s) (λ _ u m. on_test (starts (text "</") u)
      (λ c. on (name (drop 2 u)) (λ v z o. on_test (same v w && may_end left) (λ f. on (expect (text ">") (skip z))
      (λ _ y p. rw (sym (got-value (rw (m, c, o, f, p) at e))) (both (same v w) (may_end left) f).1)
      (λ y p. absurd (bad≢got (rw (m, c, o, f, p) at e)))) (λ f. absurd (bad≢got (rw (m, c, o, f) at e)))) (λ z o. absurd (bad≢got (rw (m, c, o) at e))))
      (λ c. on (opening left u) (λ k z o. on (inner k.name z) (λ i y p. on (content inner n w k.left y)
      (λ fs x q.
      let h = keeps k.name z i y p in
      rw (sym (got-value (rw (m, c, o, p, q) at e)), opened-fits left u k z o, h.0, h.1) (content-fit inner keeps n w k.left y fs x q))
      (λ x q. absurd (bad≢got (rw (m, c, o, p, q) at e)))) (λ y p. absurd (bad≢got (rw (m, c, o, p) at e)))) (λ z o. absurd (bad≢got (rw (m, c, o) at e)))))
      (λ u m. absurd (bad≢got (rw m at e)))

  element-fit : (d : ℕ) → Keeps (element (elements_of all) d)
  unfolding element elements_fit
  element-fit zero w s e r h = absurd (bad≢got h)
  element-fit (suc d) w s e r h =
      on (attributes (length s) (row_in (elements_of all) w).attributes s) (λ gs z a.
      let g = attributes-fit (length s) (row_in (elements_of all) w).attributes s gs z a in
      on_test (starts (text ">") z)
      (λ c. on (content (element (elements_of all) d) (length z) (row_in (elements_of all) w).name (row_in (elements_of all) w).children (drop 1 z))
      (λ es u q. rw (sym (got-value (rw (a, c, q) at h))) (
        g,
        content-fit (element (elements_of all) d) (element-fit d) (length z) (row_in (elements_of all) w).name (row_in (elements_of all) w).children (drop 1 z) es
            u q,
      ))
      (λ u q. absurd (bad≢got (rw (a, c, q) at h))))
      (λ c. on (expect (text ">") (drop 1 z)) (λ _ u q. on_test (may_end (row_in (elements_of all) w).children)
      (λ f. rw (sym (got-value (rw (a, c, q, f) at h))) (g, f))
      (λ f. absurd (bad≢got (rw (a, c, q, f) at h)))) (λ u q. absurd (bad≢got (rw (a, c, q) at h)))))
      (λ z a. absurd (bad≢got (rw a at h)))

  pub document-in-grammar : (s : Text) (es : Elements) (r : Text) → document_in all s ≡ got es r → in_grammar all es ≡ true
  unfolding document_in elements_fit
  document-in-grammar s es r e =
      on (prolog s) (λ _ u p. on (opening root u) (λ c z o. on (element (elements_of all) DEPTH c.name z) (λ i y h. on (misc (length y) y) (λ _ x m. on_test
      (same x [])
      (λ f.
      let k = element-fit DEPTH c.name z i y h in
      let n = opened-fits root u c z o in
      rw (sym (got-value (rw (p, o, h, m, f) at e)), n, k.0, k.1) (root_ends c.name c.left n))
      (λ f. absurd (bad≢got (rw (p, o, h, m, f) at e)))) (λ x m. absurd (bad≢got (rw (p, o, h, m) at e)))) (λ y h. absurd (bad≢got (rw (p, o, h) at e))))
      (λ z o. absurd (bad≢got (rw (p, o) at e)))) (λ u p. absurd (bad≢got (rw p at e)))

-- ---- A tree of the grammar fits the table.

pub fits_in : (left : List Child) (es : Elements) → elements_fit true left es ≡ true → Fits left es
unfolding elements_fit Fits
fits_in left nothing h = tt
fits_in left (node w gs i b) h =
    on-found (next left w)
    (λ cs q.
    let t = next-among left cs w q in
    let m =
    both (attributes_fit (row_in (elements_of true) w).attributes gs && elements_fit true (row_in (elements_of true) w).children i) (elements_fit true cs b)
    (rw q at h) in (
      t.0,
      fits_in (row_in (elements_of true) w).children i
          (both (attributes_fit (row_in (elements_of true) w).attributes gs) (elements_fit true (row_in (elements_of true) w).children i) m.0).1,
      fits_more cs left b t.1 (fits_in cs b m.1),
    ))
    (λ q. absurd (false≢true (rw q at h)))
