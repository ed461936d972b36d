-- Ask 4's table and the wider one: a tree of Ask 4's grammar is a tree of the wider grammar. So what holds for every tree of the wider grammar holds for
-- every accepted text.
use Prim.Native.String.{String}
use mathlib.Core.Path.{◌≡◌, refl, sym, ◌∙◌}
use mathlib.Core.List.{List, [], ◌∷◌, ◌++◌}
use mathlib.Core.Bool.{Bool, true, false, cond, ◌&&◌, false≢true}
use Rattle.paper_lower.specs.Lists.{some, every, each, lists_open}
use Rattle.paper_lower.specs.Lists.Maybe.{none, just}
use Rattle.paper_lower.proofs.ListLaws.{both}
use Rattle.paper_opl.specs.Reading.{Text, text, same, reading_open}
use Rattle.paper_opl.specs.Reading.Read.{got}
use Rattle.paper_opl.specs.Elements.{Times, Child, Element, element, any_of, modules, wider_modules, object_elements, module_elements, further_elements, elements, elements_of, row_in, needed, follow, next, may_end, elements_open}
use Rattle.paper_opl.specs.Elements.Times.{once, perhaps, often, least}
use Rattle.paper_opl.specs.Tree.{Elements, document_in}
use Rattle.paper_opl.specs.Tree.Elements.{nothing, node}
use Rattle.paper_opl.specs.Layout.{attributes_fit, elements_fit, in_grammar}
use Rattle.paper_opl.proofs.Inversion.{on_test, on-found, none≢just, just-value}
use Rattle.paper_opl.proofs.Conforms.{among, for_names, name-has, child-has, next-among, Fits, root, row_has}
use Rattle.paper_opl.proofs.InGrammar.{document-in-grammar, fits_in}

-- ---- The children that may still follow are the same in both, or are modules, of which the wider grammar has more.

pub data Alike (cs ds : List Child) : Type 0 where
  alike : cs ≡ ds → Alike cs ds
  modular : (t : Times) → cs ≡ record { times = t; names = each text modules } ∷ [] → ds ≡ record { times = t; names = each text wider_modules } ∷ [] → Alike cs ds

modules-stand : every (λ v. some (same v) (each text wider_modules)) (each text modules) ≡ true
unfolding lists_open reading_open
modules-stand = refl

-- What may follow a module.
module-next : (t : Times) (w : Text) (cs : List Child) → next (record { times = t; names = each text modules } ∷ []) w ≡ just cs →
    (ds : List Child) × (next (record { times = t; names = each text wider_modules } ∷ []) w ≡ just ds) × Alike cs ds
unfolding next
module-next t w cs e =
    on_test (some (same w) (each text modules))
    (λ q.
    let k : some (same w) (each text wider_modules) ≡ true = name-has (λ v. some (same v) (each text wider_modules)) (each text modules) w modules-stand q in
    (follow t (each text wider_modules) [], rw k, behind t cs (just-value (rw q at e))))
    (λ q. absurd (nothing-else t (rw q at e)))
  where
    behind : (t : Times) (cs : List Child) → follow t (each text modules) [] ≡ cs → Alike cs (follow t (each text wider_modules) [])
    behind once cs p = alike (sym p)
    behind perhaps cs p = alike (sym p)
    behind often cs p = modular often (sym p) refl
    behind least cs p = modular often (sym p) refl

    nothing-else : (t : Times) → cond (needed t) none none ≡ just cs → ⊥
    nothing-else once p = none≢just p
    nothing-else perhaps p = none≢just p
    nothing-else often p = none≢just p
    nothing-else least p = none≢just p

next-alike : (cs ds : List Child) → Alike cs ds → (w : Text) (cs' : List Child) → next cs w ≡ just cs' →
    (ds' : List Child) × (next ds w ≡ just ds') × Alike cs' ds'
next-alike cs ds (alike e) w cs' n = (cs', rw (sym e) n, alike refl)
next-alike cs ds (modular t p q) w cs' n = rw q (module-next t w cs' (rw p at n))

ends-alike : (cs ds : List Child) → Alike cs ds → may_end cs ≡ may_end ds
unfolding every
ends-alike cs ds (alike e) = rw e
ends-alike cs ds (modular t p q) = rw (p, q)

-- ---- The rows of the two tables.

-- The first rows of the second table agree with those of the first: the same names and attributes, and children as above.
unfoldable Rows : List Element → List Element → Type 0
Rows [] ys = Unit {0}
Rows (x ∷ xs) [] = ⊥
Rows (x ∷ xs) (y ∷ ys) = (x.name ≡ y.name) × (x.attributes ≡ y.attributes) × Alike x.children y.children × Rows xs ys

rows_behind : (es xs ys : List Element) → Rows xs ys → Rows (es ++ xs) (es ++ ys)
unfolding Rows
rows_behind [] xs ys h = h
rows_behind (e ∷ es) xs ys h = (refl, refl, alike refl, rows_behind es xs ys h)

module_row : List String → Element
module_row ms = element "policy_object_modules" [] (any_of ms ∷ [])

module-rows : Rows (module_row modules ∷ (module_elements ++ [])) (module_row wider_modules ∷ (module_elements ++ further_elements))
unfolding Rows module_row
module-rows = (refl, refl, modular least refl refl, rows_behind module_elements [] further_elements tt)

rows : Rows (elements_of false) (elements_of true)
unfolding elements elements_of module_row
rows =
    rows_behind object_elements (module_row modules ∷ (module_elements ++ [])) (module_row wider_modules ∷ (module_elements ++ further_elements)) module-rows

-- The table has a row for the name.
abbrev rowed : List Element → Text → Bool
rowed es w = some (λ e. same e.name w) es

row-alike : (xs ys : List Element) → Rows xs ys → (w : Text) → rowed xs w ≡ true →
    ((row_in xs w).attributes ≡ (row_in ys w).attributes) × Alike (row_in xs w).children (row_in ys w).children
unfolding Rows row_in some
row-alike [] ys h w e = absurd (false≢true e)
row-alike (x ∷ xs) [] h w e = absurd h
row-alike (x ∷ xs) (y ∷ ys) h w e =
    rw (sym h.0) (on_test (same x.name w) (λ q. rw q (h.1, h.2)) (λ q. rw q (row-alike xs ys h.3 w (rw q at e))))

-- Ask 4's table has a row for the name.
abbrev known : Text → Bool
known w = rowed (elements_of false) w

children-known : every (λ e. for_names known e.children) (elements_of false) ≡ true
unfolding lists_open reading_open elements_open
children-known = refl

root-known : for_names known root ≡ true
unfolding lists_open reading_open elements_open
root-known = refl

-- ---- Trees.

wider-fits : (cs ds : List Child) → Alike cs ds → ((v : Text) → among cs v ≡ true → known v ≡ true) → (es : Elements) → elements_fit false cs es ≡ true →
    elements_fit true ds es ≡ true
unfolding elements_fit every
wider-fits cs ds a k nothing h = sym (ends-alike cs ds a) ∙ h
wider-fits cs ds a k (node w gs i b) h =
    on-found (next cs w)
    (λ cs' q.
    let n = next-alike cs ds a w cs' q in
    let t = next-among cs cs' w q in
    let r = row-alike (elements_of false) (elements_of true) rows w (k w t.0) in
    let m =
    both (attributes_fit (row_in (elements_of false) w).attributes gs && elements_fit false (row_in (elements_of false) w).children i) (elements_fit false cs' b)
    (rw q at h) in
    let o = both (attributes_fit (row_in (elements_of false) w).attributes gs) (elements_fit false (row_in (elements_of false) w).children i) m.0 in
    let f : attributes_fit (row_in (elements_of true) w).attributes gs ≡ true = rw (sym r.0) o.0 in
    let g =
    wider-fits (row_in (elements_of false) w).children (row_in (elements_of true) w).children r.1
    (λ v z. child-has known (row_in (elements_of false) w).children v
    (row_has (λ e. for_names known e.children) (elements_of false) w (λ v. refl) children-known) z) i o.1 in
    rw (n.1, f, g) (wider-fits cs' n.0 n.2 (λ v z. k v (t.1 v z)) b m.1))
    (λ q. absurd (false≢true (rw q at h)))

-- A tree of either grammar is a tree of the wider one.
pub wider-grammar : (all : Bool) (es : Elements) → in_grammar all es ≡ true → in_grammar true es ≡ true
wider-grammar true es h = h
wider-grammar false es h = wider-fits root root (alike refl) (λ v z. child-has known root v root-known z) es h

pub document-wide : (all : Bool) (s : Text) (es : Elements) (r : Text) → document_in all s ≡ got es r → in_grammar true es ≡ true
document-wide all s es r e = wider-grammar all es (document-in-grammar all s es r e)

pub document-fits : (all : Bool) (s : Text) (es : Elements) (r : Text) → document_in all s ≡ got es r → Fits root es
document-fits all s es r e = fits_in root es (document-wide all s es r e)
