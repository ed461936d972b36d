-- Elements that were read are the text of some layout: the text has nothing that the layout of a tree does not have.
use mathlib.Core.Path.{◌≡◌, refl, sym, ap, ◌∙◌}
use mathlib.Core.List.{List, [], ◌∷◌, ◌++◌}
use mathlib.Core.Bool.{true, false, ◌&&◌, ◌||◌}
use Prim.Native.Nat.{ℕ, zero, suc}
use lib.ListN.{length, drop}
use Rattle.paper_lower.specs.Lists.{some, every, each}
use Rattle.paper_lower.proofs.ListLaws.{both}
use Rattle.paper_opl.specs.Reading.{Text, Read, text, same, run, starts, expect, white, skip, space, name, in_name, value, equals, misc}
use Rattle.paper_opl.specs.Reading.Read.{got}
use Rattle.paper_opl.specs.Elements.{Attribute, Child, Element, row_in, may_end}
use Rattle.paper_opl.specs.Tree.{Given, Elements, fits, required, find, without, attribute, attributes, opening, ending, Inside, content, element}
use Rattle.paper_opl.specs.Tree.Elements.{nothing, node}
use Rattle.paper_opl.specs.Layout.{blank, Gap, gap, gap_fits, Value, value_text, value_fits, Attributed, attributes_text, attributes_laid, given_by, Layout, layout_text, layout_fits, tree_of}
use Rattle.paper_opl.specs.Layout.Layout.{last, short, long}
use Rattle.paper_opl.proofs.Inversion.{on, on_test, on-found, bad≢got, got-rest, got-value}
use Rattle.paper_opl.proofs.Conforms.{same_true, row-name}
use Rattle.paper_opl.proofs.Tags.{Begun, begun}
use Rattle.paper_opl.proofs.BytesLaid.{word-laid, expect-laid, starts-laid, skip-laid, space-laid, equals-laid, gap-laid}

-- ---- Attributes.

attribute-laid : (left : List Attribute) (s : Text) (g : Given) (r : Text) → attribute left s ≡ got g r →
    (v : Value) × (v.value ≡ g.value) × (value_fits v ≡ true) × (s ≡ g.name ++ value_text v r)
unfolding attribute
attribute-laid left s g r e =
    on (name s) (λ w x p. on (equals x) (λ _ u q. on (value u) (λ v z t. on-found (find left w) (λ a o. on_test (fits a.class v)
    (λ c.
    let k = rw (p, q, t, o, c) at e in
    let n = word-laid in_name s w x p in
    let l = equals-laid x u v z q t in
    rw (sym (got-value k), sym (got-rest k)) (l.value, l.value-is, l.fits, n.text-is ∙ ap (λ (y : Text). w ++ y) l.text-is))
    (λ c. absurd (bad≢got (rw (p, q, t, o, c) at e))))
    (λ o. absurd (bad≢got (rw (p, q, t, o) at e)))) (λ z t. absurd (bad≢got (rw (p, q, t) at e)))) (λ u q. absurd (bad≢got (rw (p, q) at e))))
    (λ x p. absurd (bad≢got (rw p at e)))

-- The text s is the attributes gs in some layout, with white space after them, and then r.
pub record Attributes (s : Text) (gs : List Given) (r : Text) : Type 0 where
  pub layout : List Attributed
  pub last : Text
  pub given-are : given_by layout ≡ gs
  pub laid : attributes_laid layout ≡ true
  pub blank-is : blank last ≡ true
  pub text-is : s ≡ attributes_text layout (last ++ r)
  pub ends : starts (text ">") r || starts (text "/") r ≡ true

attributes-are-laid : (n : ℕ) (left : List Attribute) (s : Text) (gs : List Given) (r : Text) → attributes n left s ≡ got gs r → Attributes s gs r
unfolding attributes attributes_text every each
attributes-are-laid zero left s gs r e = absurd (bad≢got e)
attributes-are-laid (suc n) left s gs r e =
    on_test (starts (text ">") (skip s) || starts (text "/") (skip s))
    (λ c. on_test (some (λ a. required a.class) left) (λ d. absurd (bad≢got (rw (c, d) at e)))
    (λ d.
    let k = rw (c, d) at e in
    let w = skip-laid s in
    rw (sym (got-value k), sym (got-rest k))
    (record { layout = []; last = run white s; given-are = refl; laid = refl; blank-is = w.0; text-is = w.1; ends = c })))
    (λ c. on (space s) (λ _ u p. on (attribute left u) (λ g z q. on (attributes n (without g.name left) z)
    (λ hs y o.
    let k = rw (c, p, q, o) at e in
    let a = space-laid s u p in
    let b = attribute-laid left u g z q in
    let x = attributes-are-laid n (without g.name left) z hs y o in
    rw (sym (got-value k), sym (got-rest k))
    (record {
      layout = record { before = a.0; name = g.name; value = b.0 } ∷ x.layout;
      last = x.last;
      given-are = given-one g b.0 b.1 (given_by x.layout) hs x.given-are;
      laid = rw (a.1, b.2) x.laid;
      blank-is = x.blank-is;
      text-is = a.2 ∙ ap (λ (t : Text). a.0 ++ t) (b.3 ∙ ap (λ (t : Text). g.name ++ value_text b.0 t) x.text-is);
      ends = x.ends;
    }))
    (λ y o. absurd (bad≢got (rw (c, p, q, o) at e)))) (λ z q. absurd (bad≢got (rw (c, p, q) at e)))) (λ u p. absurd (bad≢got (rw (c, p) at e))))
  where
    given-one : (g : Given) (v : Value) → v.value ≡ g.value → (xs hs : List Given) → xs ≡ hs →
        ◌≡◌ {A = List Given} (record { name = g.name; value = v.value } ∷ xs) (g ∷ hs)
    given-one g v e xs hs h = λ i. record { name = g.name; value = e i } ∷ h i

-- ---- Elements.

-- An element from the end of its name on, written as one tag or as two.
pub data ElementLaid (v u : Text) (i : Inside) (z : Text) : Type 0 where
  one_tag : (xs : List Attributed) (s : Text) → given_by xs ≡ i.given → attributes_laid xs ≡ true → blank s ≡ true → i.elements ≡ nothing
      → u ≡ attributes_text xs (s ++ (text "/>" ++ z)) → ElementLaid v u i z
  two-tags : (xs : List Attributed) (s : Text) (y : Layout) (e : Text) → given_by xs ≡ i.given → attributes_laid xs ≡ true → blank s ≡ true
      → layout_fits y ≡ true → tree_of y ≡ i.elements → blank e ≡ true
      → u ≡ attributes_text xs (s ++ (text ">" ++ layout_text y (text "</" ++ (v ++ (e ++ (text ">" ++ z)))))) → ElementLaid v u i z

-- The content of an element, with its end tag.
pub record Content (w s : Text) (es : Elements) (r : Text) : Type 0 where
  pub layout : Layout
  pub last : Text
  pub tree_is : tree_of layout ≡ es
  pub fits : layout_fits layout ≡ true
  pub blank-is : blank last ≡ true
  pub text-is : s ≡ layout_text layout (text "</" ++ (w ++ (last ++ (text ">" ++ r))))

pub node-same : {v : Text} {gs hs : List Given} {a b c d : Elements} → gs ≡ hs → a ≡ b → c ≡ d → node v gs a c ≡ node v hs b d
node-same {v} p q r = λ i. node v (p i) (q i) (r i)

-- One more element.
with-element : (w s u v z x : Text) (g : Gap) (i : Inside) (fs : Elements) (r : Text) → gap_fits g ≡ true → s ≡ gap g u → u ≡ text "<" ++ (v ++ x) →
    ElementLaid v x i z → Content w z fs r
    → Content w s (node v i.given i.elements fs) r
unfolding layout_text layout_fits tree_of
with-element w s u v z x g i fs r f p q (one_tag xs b gs l k n t) c = record {
  layout = short g v xs b c.layout;
  last = c.last;
  tree_is = node-same gs (sym n) c.tree_is;
  fits = rw (f, l, k) c.fits;
  blank-is = c.blank-is;
  text-is = p ∙ ap (gap g) (q ∙ ap (λ (y : Text). text "<" ++ (v ++ y)) (t ∙ ap (λ (y : Text). attributes_text xs (b ++ (text "/>" ++ y))) c.text-is));
}
with-element w s u v z x g i fs r f p q (two-tags xs b y e gs l k h n m t) c = record {
  layout = long g v xs b y e c.layout;
  last = c.last;
  tree_is = node-same gs n c.tree_is;
  fits = rw (f, l, k, h, m) c.fits;
  blank-is = c.blank-is;
  text-is =
      p ∙
      ap (gap g) (q ∙
      ap (λ (y : Text). text "<" ++ (v ++ y))
      (t ∙ ap (λ (o : Text). attributes_text xs (b ++ (text ">" ++ layout_text y (text "</" ++ (v ++ (e ++ (text ">" ++ o))))))) c.text-is));
}

-- The end tag alone.
the_end : (w s u v z y : Text) (g : Gap) → gap_fits g ≡ true → s ≡ gap g u → starts (text "</") u ≡ true → name (drop 2 u) ≡ got v z → v ≡ w →
    expect (text ">") (skip z) ≡ got tt y → Content w s nothing y
unfolding layout_text layout_fits tree_of text
the_end w s u v z y g f p c n k x =
    let a = starts-laid (text "</") u c in
    let b = word-laid in_name (drop 2 u) v z n in
    let d = skip-laid z in
    let e = expect-laid (text ">") (skip z) y x in
    record {
      layout = last g;
      last = run white z;
      tree_is = refl;
      fits = f;
      blank-is = d.0;
      text-is =
          p ∙
          ap (gap g) (a ∙
          ap (λ (t : Text). text "</" ++ t)
          (b.text-is ∙ ap (λ (t : Text). t ++ z) k ∙ ap (λ (t : Text). w ++ t) (d.1 ∙ ap (λ (t : Text). run white z ++ t) e)));
    }

-- A reader of elements for which every text that is read has a layout.
abbrev LaidBy : (Text → Text → Read Inside) → Type 0
LaidBy inner = (v u : Text) (i : Inside) (z : Text) → inner v u ≡ got i z → ElementLaid v u i z

pub started : (u : Text) (left : List Child) (v z : Text) → Begun u v z → u ≡ text "<" ++ (v ++ z)
started u left v z b = expect-laid (text "<") u b.behind b.sign ∙ ap (λ (t : Text). text "<" ++ t) (word-laid in_name b.behind v z b.named).text-is

content-laid : (inner : Text → Text → Read Inside) → LaidBy inner → (n : ℕ) (w : Text) (left : List Child) (s : Text) (es : Elements) (r : Text) →
    content inner n w left s ≡ got es r → Content w s es r
unfolding content ending
content-laid inner laid zero w left s es r e = absurd (bad≢got e)
content-laid inner laid (suc n) w left s es r e =
    on (misc (length s) s) (λ _ u m.
    let g = gap-laid (length s) s u m in
    on_test (starts (text "</") u)
    (λ c. on (name (drop 2 u)) (λ v z o. on_test (same v w && may_end left) (λ f. on (expect (text ">") (skip z))
    (λ _ y p.
    let k = rw (m, c, o, f, p) at e in
    rw (sym (got-value k), sym (got-rest k)) (the_end w s u v z y g.0 g.1 g.2 c o (same_true v w (both (same v w) (may_end left) f).0) p))
    (λ y p. absurd (bad≢got (rw (m, c, o, f, p) at e)))) (λ f. absurd (bad≢got (rw (m, c, o, f) at e)))) (λ z o. absurd (bad≢got (rw (m, c, o) at e))))
    (λ c. on (opening left u) (λ k z o. on (inner k.name z) (λ i y p. on (content inner n w k.left y)
    (λ fs x q.
    let j = rw (m, c, o, p, q) at e in
    rw (sym (got-value j), sym (got-rest j))
    (with-element w s u k.name y z g.0 i fs x g.1 g.2 (started u left k.name z (begun left u k z o)) (laid k.name z i y p)
    (content-laid inner laid n w k.left y fs x q)))
    (λ x q. absurd (bad≢got (rw (m, c, o, p, q) at e)))) (λ y p. absurd (bad≢got (rw (m, c, o, p) at e)))) (λ z o. absurd (bad≢got (rw (m, c, o) at e)))))
    (λ u m. absurd (bad≢got (rw m at e)))

-- The end of a start tag.
closes : (z : Text) → starts (text ">") z ≡ true → z ≡ text ">" ++ drop 1 z
unfolding text
closes z c = starts-laid (text ">") z c

slash : (z u : Text) → starts (text ">") z || starts (text "/") z ≡ true → starts (text ">") z ≡ false → expect (text ">") (drop 1 z) ≡ got tt u →
    z ≡ text "/>" ++ u
unfolding text
slash z u h c e = starts-laid (text "/") z (rw c at h) ∙ ap (λ (t : Text). 47 ∷ t) (expect-laid (text ">") (drop 1 z) u e)

pub element-laid : (table : List Element) (d : ℕ) → LaidBy (element table d)
unfolding element
element-laid table zero v u i z e = absurd (bad≢got e)
element-laid table (suc d) v u i z e =
    on (attributes (length u) (row_in table v).attributes u) (λ gs r a.
    let x = attributes-are-laid (length u) (row_in table v).attributes u gs r a in
    on_test (starts (text ">") r)
    (λ c. on (content (element table d) (length r) (row_in table v).name (row_in table v).children (drop 1 r))
    (λ es y q.
    let k = rw (a, c, q) at e in
    let n = content-laid (element table d) (element-laid table d) (length r) (row_in table v).name (row_in table v).children (drop 1 r) es y q in
    rw (sym (got-value k), sym (got-rest k))
    (two-tags x.layout x.last n.layout n.last x.given-are x.laid x.blank-is n.fits n.tree_is n.blank-is
    (x.text-is ∙ ap (λ (t : Text). attributes_text x.layout (x.last ++ t)) (closes r c ∙ ap (λ (t : Text). text ">" ++ t)
    (n.text-is ∙ ap (λ (o : Text). layout_text n.layout (text "</" ++ (o ++ (n.last ++ (text ">" ++ y))))) (row-name table v))))))
    (λ y q. absurd (bad≢got (rw (a, c, q) at e))))
    (λ c. on (expect (text ">") (drop 1 r)) (λ _ y q. on_test (may_end (row_in table v).children)
    (λ f.
    let k = rw (a, c, q, f) at e in
    rw (sym (got-value k), sym (got-rest k))
    (one_tag x.layout x.last x.given-are x.laid x.blank-is refl
    (x.text-is ∙ ap (λ (t : Text). attributes_text x.layout (x.last ++ t)) (slash r y x.ends c q))))
    (λ f. absurd (bad≢got (rw (a, c, q, f) at e)))) (λ y q. absurd (bad≢got (rw (a, c, q) at e)))))
    (λ r a. absurd (bad≢got (rw a at e)))
