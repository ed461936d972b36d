-- A tree of the grammar is read back from its text, whatever the layout: attributes, elements and contents.
use mathlib.Core.Path.{◌≡◌, refl, sym, ap, ◌∙◌}
use mathlib.Core.List.{List, [], ◌∷◌, ◌++◌}
use mathlib.Core.Bool.{Bool, true, false, not, ◌&&◌, ◌||◌, false≢true, true≢false}
use Prim.Native.Nat.{ℕ, zero, suc, ◌<◌, ◌≤◌}
use native.Mathlib.Omega.{arith}
use lib.Dec.{eqb}
use lib.ListN.{length}
use borrow.Author.Tests.{eqb-true, eq-eqb, not-true}
use Rattle.paper_lower.specs.Lists.{some, every, each, lists_open}
use Rattle.paper_lower.specs.Lists.Maybe.{just}
use Rattle.paper_lower.proofs.ListLaws.{both}
use Rattle.paper_opl.specs.Reading.{Text, text, same, starts, expect, white, in_name, name, reading_open}
use Rattle.paper_opl.specs.Reading.Read.{got}
use Rattle.paper_opl.specs.Elements.{Attribute, Child, elements_of, row_in, next, may_end, elements_open}
use Rattle.paper_opl.specs.Tree.{Elements, fits, required, find, without, attribute, attributes, opening, ending, Inside, content, element}
use Rattle.paper_opl.specs.Tree.Elements.{nothing, node}
use Rattle.paper_opl.specs.Layout.{attributes_fit, elements_fit, blank, some_blank, Gap, gap, gap_fits, Value, quoted, quote_fits, value_text, value_fits, Attributed, attributes_text, attributes_laid, given_by, Layout, layout_text, layout_fits, tree_of}
use Rattle.paper_opl.specs.Layout.Layout.{last, short, long}
use Rattle.paper_opl.proofs.Inversion.{on_test, on-found}
use Rattle.paper_opl.proofs.Counts.{below_of, space-strict, attribute-below, attributes-enough, misc-below, opening-below, element-below}
use Rattle.paper_opl.proofs.Tags.{starts_more}
use Rattle.paper_opl.proofs.Depth.{rank, some-height, child-lower}
use Rattle.paper_opl.proofs.Conforms.{among, for_names, child-has, next-among, row_has, row-name}
use Rattle.paper_opl.proofs.Cardinalities.{found-passes, kept-passes}
use Rattle.paper_opl.proofs.BytesBack.{stops, behind-all, word_back, space-back, value-back, quote-clear, equals-back, gap_back}

-- ---- Names.

-- A text that can be read as a name.
abbrev pub a_name : Text → Bool
a_name w = every in_name w && not (same w [])

white-no-name : (b : ℕ) → white b ≡ true → in_name b ≡ false
white-no-name b h =
    on_test (eqb b 32) (λ e. rw (eqb-true b 32 e))
    (λ e. on_test (eqb b 9) (λ f. rw (eqb-true b 9 f)) (λ f. on_test (eqb b 10) (λ g. rw (eqb-true b 10 g)) (λ g. rw (eqb-true b 13 (rw (e, f, g) at h)))))

-- White space ends a name.
pub blank-stops : (s rest : Text) → blank s ≡ true → stops in_name rest ≡ true → stops in_name (s ++ rest) ≡ true
unfolding every
blank-stops [] rest h k = k
blank-stops (b ∷ s) rest h k = rw (white-no-name b (both (white b) (every white s) h).0)

-- A name does not begin with a byte that may not occur in names.
pub not_first : (c : ℕ) (w rest : Text) → in_name c ≡ false → a_name w ≡ true → starts (c ∷ []) (w ++ rest) ≡ false
unfolding every starts same
not_first c [] rest n h = absurd (false≢true h)
not_first c (b ∷ w) rest n h =
    let p = both (every in_name (b ∷ w)) (not (same (b ∷ w) [])) h in
    let q = both (in_name b) (every in_name w) p.0 in
    on_test (eqb c b) (λ e. absurd (true≢false (sym q.0 ∙ ap in_name (sym (eqb-true c b e)) ∙ n))) (λ e. rw e)

name-clear : (w rest : Text) → a_name w ≡ true → stops white (w ++ rest) ≡ true
unfolding every same
name-clear [] rest h = absurd (false≢true h)
name-clear (b ∷ w) rest h =
    let p = both (every in_name (b ∷ w)) (not (same (b ∷ w) [])) h in
    let q = both (in_name b) (every in_name w) p.0 in
    on_test (white b) (λ e. absurd (true≢false (sym q.0 ∙ white-no-name b e))) (λ e. rw e)

pub name_back : (w rest : Text) → a_name w ≡ true → stops in_name rest ≡ true → name (w ++ rest) ≡ got w rest
name_back w rest h k = let p = both (every in_name w) (not (same w [])) h in word_back in_name w rest p.0 (not-true (same w []) p.1) k

-- ---- Attributes.

value-stops : (v : Value) (rest : Text) → value_fits v ≡ true → stops in_name (value_text v rest) ≡ true
unfolding text
value-stops v rest h =
    let p = both (blank v.left && blank v.right) (quote_fits v.quote v.value) h in
    blank-stops v.left _ (both (blank v.left) (blank v.right) p.0).0 refl

attribute-back : (left : List Attribute) (w : Text) (v : Value) (rest : Text) (a : Attribute) → a_name w ≡ true → find left w ≡ just a →
    fits a.class v.value ≡ true → value_fits v ≡ true
    → attribute left (w ++ value_text v rest) ≡ got (record { name = w; value = v.value }) rest
unfolding attribute
attribute-back left w v rest a n f c h =
    let p = both (blank v.left && blank v.right) (quote_fits v.quote v.value) h in
    let q = both (blank v.left) (blank v.right) p.0 in
    let o = both (eqb v.quote 34 || eqb v.quote 39) _ p.1 in
    rw (
      name_back w (value_text v rest) n (value-stops v rest h),
      f,
      equals-back v.left v.right (quoted v.quote v.value rest) q.0 q.1 (quote-clear v.quote (v.value ++ (v.quote ∷ rest)) o.0),
      value-back v.quote v.value rest p.1,
      c,
    )

-- The text begins with the end of a start tag.
abbrev pub tag_ends : Text → Bool
tag_ends rest = starts (text ">") rest || starts (text "/") rest

ends-clear : (rest : Text) → tag_ends rest ≡ true → stops white rest ≡ true
unfolding starts text
ends-clear [] h = refl
ends-clear (b ∷ rest) h =
    on_test (eqb 62 b) (λ e. rw (sym (eqb-true 62 b e))) (λ e. on_test (eqb 47 b) (λ f. rw (sym (eqb-true 47 b f))) (λ f. absurd (false≢true (rw (e, f) at h))))

pub attributes-back : (n : ℕ) (xs : List Attributed) (left : List Attribute) (s rest : Text) → every (λ a. a_name a.name) left ≡ true →
    attributes_fit left (given_by xs) ≡ true → attributes_laid xs ≡ true
    → blank s ≡ true → tag_ends rest ≡ true → length (attributes_text xs (s ++ rest)) ≤ n →
    attributes n left (attributes_text xs (s ++ rest)) ≡ got (given_by xs) rest
unfolding attributes attributes_fit attributes_text every each text
attributes-back n [] left s rest m f h b t l =
    attributes-enough n (suc n) left (s ++ rest) l (omega arith)
    ∙ rw (behind-all white s rest b (ends-clear rest t), t, not-true (some (λ a. required a.class) left) f)
attributes-back n (x ∷ xs) left s rest m f h b t l =
    on-found (find left x.name)
    (λ a o.
    let p = both (some_blank x.before && value_fits x.value) (attributes_laid xs) h in
    let q = both (some_blank x.before) (value_fits x.value) p.0 in
    let k = both (fits a.class x.value.value) (attributes_fit (without x.name left) (given_by xs)) (rw o at f) in
    let z = found-passes (λ a. a_name a.name) left x.name a m o in
    let w : a_name x.name ≡ true = rw z.1 at z.0 in
    let c = name-clear x.name behind w in
    let sp = space-back x.before (x.name ++ behind) q.0 c in
    let at = attribute-back left x.name x.value (attributes_text xs (s ++ rest)) a w o k.0 q.1 in
    let i = below_of sp (space-strict (x.before ++ (x.name ++ behind))) in
    let j = below_of at (attribute-below left (x.name ++ behind)) in
    attributes-enough n (suc n) left (x.before ++ (x.name ++ behind)) l (omega arith)
    ∙ rw (
      behind-all white x.before (x.name ++ behind) (both (blank x.before) (not (same x.before [])) q.0).0 c,
      not_first 62 x.name behind refl w,
      not_first 47 x.name behind refl w,
      sp,
      at,
      attributes-back n xs (without x.name left) s rest (kept-passes (λ a. a_name a.name) (λ a. not (same a.name x.name)) left m) k.1 p.1 b t
          (omega arith),
    ))
    (λ o. absurd (false≢true (rw o at f)))
  where
    behind : Text
    behind = value_text x.value (attributes_text xs (s ++ rest))

-- ---- The names in the table can be read as names.

attribute-names : (all : Bool) → every (λ e. every (λ a. a_name a.name) e.attributes) (elements_of all) ≡ true
unfolding lists_open reading_open elements_open
attribute-names false = refl
attribute-names true = refl

child-names : (all : Bool) → every (λ e. for_names a_name e.children) (elements_of all) ≡ true
unfolding lists_open reading_open elements_open
child-names false = refl
child-names true = refl

pub same_self : (w : Text) → same w w ≡ true
unfolding same
same_self [] = refl
same_self (b ∷ w) = rw (eq-eqb b b refl, same_self w)

-- The names of all these children can be read as names.
abbrev pub Named : List Child → Type 0
Named cs = (v : Text) → among cs v ≡ true → a_name v ≡ true

-- ---- Elements.

some-blank-stops : (s rest : Text) → some_blank s ≡ true → stops in_name (s ++ rest) ≡ true
unfolding every same
some-blank-stops [] rest h = absurd (false≢true h)
some-blank-stops (b ∷ s) rest h = rw (white-no-name b (both (white b) (every white s) (both (every white (b ∷ s)) _ h).0).0)

pub attributes-stop : (xs : List Attributed) (s rest : Text) → attributes_laid xs ≡ true → blank s ≡ true → stops in_name rest ≡ true →
    stops in_name (attributes_text xs (s ++ rest)) ≡ true
unfolding every attributes_text
attributes-stop [] s rest h b k = blank-stops s rest b k
attributes-stop (x ∷ xs) s rest h b k =
    some-blank-stops x.before _
    (both (some_blank x.before) (value_fits x.value) (both (some_blank x.before && value_fits x.value) (attributes_laid xs) h).0).0

pub opening-back : (left cs : List Child) (w rest : Text) → a_name w ≡ true → stops in_name rest ≡ true → next left w ≡ just cs →
    opening left (text "<" ++ (w ++ rest)) ≡ got (record { name = w; left = cs }) rest
unfolding opening starts expect text
opening-back left cs w rest n k h = rw (not_first 33 w rest refl n, not_first 63 w rest refl n, name_back w rest n k, h)

pub slash-stops : (rest : Text) → stops in_name (text "/>" ++ rest) ≡ true
unfolding text
slash-stops rest = refl

pub angle-stops : (rest : Text) → stops in_name (text ">" ++ rest) ≡ true
unfolding text
angle-stops rest = refl

-- ---- With the table of a call.

module _ (all : Bool) where
  attributes-named : (w : Text) → every (λ a. a_name a.name) (row_in (elements_of all) w).attributes ≡ true
  unfolding every
  attributes-named w = row_has (λ e. every (λ a. a_name a.name) e.attributes) (elements_of all) w (λ v. refl) (attribute-names all)

  pub children-named : (w : Text) → Named (row_in (elements_of all) w).children
  unfolding every
  children-named w v h =
      child-has a_name (row_in (elements_of all) w).children v (row_has (λ e. for_names a_name e.children) (elements_of all) w (λ v. refl) (child-names all)) h

  module _ (d : ℕ) (v : Text) (xs : List Attributed) (s : Text) (fit : attributes_fit (row_in (elements_of all) v).attributes (given_by xs) ≡ true)
      (laid : attributes_laid xs ≡ true) (b : blank s ≡ true) where
    pub element-short : (rest : Text) → may_end (row_in (elements_of all) v).children ≡ true →
        element (elements_of all) (suc d) v (attributes_text xs (s ++ (text "/>" ++ rest))) ≡ got (record { given = given_by xs; elements = nothing }) rest
    unfolding element starts expect text
    element-short rest m =
        rw (
          attributes-back (length (attributes_text xs (s ++ (text "/>" ++ rest)))) xs (row_in (elements_of all) v).attributes s (text "/>" ++ rest)
              (attributes-named v) fit
              laid b refl (omega arith),
          m,
        )

    pub element-long : (inner rest : Text) (es : Elements) →
        content (element (elements_of all) d) (suc (length inner)) v (row_in (elements_of all) v).children inner ≡ got es rest
        → element (elements_of all) (suc d) v (attributes_text xs (s ++ (text ">" ++ inner))) ≡ got (record { given = given_by xs; elements = es }) rest
    unfolding element starts text
    element-long inner rest es h =
        rw (
          attributes-back (length (attributes_text xs (s ++ (text ">" ++ inner)))) xs (row_in (elements_of all) v).attributes s (text ">" ++ inner)
              (attributes-named v) fit
              laid b refl (omega arith),
          row-name (elements_of all) v,
          h,
        )

  -- An element and those after it.
  step_back : (d n : ℕ) (g : Gap) (left cs : List Child) (w v u z r : Text) (e : Inside) (es : Elements) → gap_fits g ≡ true → a_name v ≡ true →
      stops in_name u ≡ true → next left v ≡ just cs
      → element (elements_of all) d v u ≡ got e z → ((m : ℕ) → length z < m → content (element (elements_of all) d) m w cs z ≡ got es r) →
      length (gap g (text "<" ++ (v ++ u))) < n
      → content (element (elements_of all) d) n w left (gap g (text "<" ++ (v ++ u))) ≡ got (node v e.given e.elements es) r
  unfolding content starts text
  step_back d zero g left cs w v u z r e es f a k h i c l = absurd (omega arith)
  step_back d (suc n) g left cs w v u z r e es f a k h i c l =
      let m =
      gap_back (length (gap g (text "<" ++ (v ++ u)))) g (text "<" ++ (v ++ u)) f refl (starts_more 33 (45 ∷ 45 ∷ []) (v ++ u) (not_first 33 v u refl a))
      (omega arith) in
      let o = opening-back left cs v u a k h in
      let x = below_of m (misc-below (length (gap g (text "<" ++ (v ++ u)))) (gap g (text "<" ++ (v ++ u)))) in
      let y = below_of o (opening-below left (text "<" ++ (v ++ u))) in
      let q = below_of i (element-below (elements_of all) d v u) in
      rw (m, not_first 47 v u refl a, o, i, c n (omega arith))

  -- The end tag.
  end_back : (d n : ℕ) (g : Gap) (left : List Child) (w e rest : Text) → gap_fits g ≡ true → a_name w ≡ true → blank e ≡ true → may_end left ≡ true →
      length (gap g (text "</" ++ (w ++ (e ++ (text ">" ++ rest))))) < n
      → content (element (elements_of all) d) n w left (gap g (text "</" ++ (w ++ (e ++ (text ">" ++ rest))))) ≡ got nothing rest
  unfolding content ending starts expect text
  end_back d zero g left w e rest f a b m l = absurd (omega arith)
  end_back d (suc n) g left w e rest f a b m l =
      rw (
        gap_back (length (gap g (text "</" ++ (w ++ (e ++ (text ">" ++ rest)))))) g (text "</" ++ (w ++ (e ++ (text ">" ++ rest)))) f refl refl (omega arith),
        name_back w (e ++ (text ">" ++ rest)) a (blank-stops e (text ">" ++ rest) b refl),
        same_self w,
        m,
        behind-all white e (text ">" ++ rest) b refl,
      )

  -- The limit of depth is enough for the children.
  abbrev pub Deep : ℕ → List Child → Type 0
  Deep d cs = (v : Text) → among cs v ≡ true → rank all v ≤ d

  pub content-back : (d : ℕ) (x : Layout) (left : List Child) (w e rest : Text) → Named left → Deep d left → elements_fit all left (tree_of x) ≡ true →
      layout_fits x ≡ true → a_name w ≡ true → blank e ≡ true
      → (n : ℕ) → length (layout_text x (text "</" ++ (w ++ (e ++ (text ">" ++ rest))))) < n
      → content (element (elements_of all) d) n w left (layout_text x (text "</" ++ (w ++ (e ++ (text ">" ++ rest))))) ≡ got (tree_of x) rest
  unfolding elements_fit layout_fits layout_text tree_of
  content-back d (last g) left w e rest k p f h a b n l = end_back d n g left w e rest h a b f l
  content-back zero (short g v xs s y) left w e rest k p f h a b n l =
      on-found (next left v) (λ cs q. let i = p v (next-among left cs v q).0 in let j = some-height all v in absurd (omega arith))
      (λ q. absurd (false≢true (rw q at f)))
  content-back (suc d) (short g v xs s y) left w e rest k p f h a b n l =
      on-found (next left v)
      (λ cs q.
      let t = next-among left cs v q in
      let m =
      both (attributes_fit (row_in (elements_of all) v).attributes (given_by xs) && may_end (row_in (elements_of all) v).children) (elements_fit all cs (tree_of y))
      (rw q at f) in
      let i = both (attributes_fit (row_in (elements_of all) v).attributes (given_by xs)) (may_end (row_in (elements_of all) v).children) m.0 in
      let o = both (gap_fits g && attributes_laid xs && blank s) (layout_fits y) h in
      let j = both (gap_fits g && attributes_laid xs) (blank s) o.0 in
      let r = both (gap_fits g) (attributes_laid xs) j.0 in
      step_back (suc d) n g left cs w v _ _ rest _ (tree_of y) r.0 (k v t.0)
      (attributes-stop xs s _ r.1 j.1 (slash-stops (layout_text y (text "</" ++ (w ++ (e ++ (text ">" ++ rest))))))) q
      (element-short d v xs s i.0 r.1 j.1 (layout_text y (text "</" ++ (w ++ (e ++ (text ">" ++ rest))))) i.1)
      (content-back (suc d) y cs w e rest (λ u z. k u (t.1 u z)) (λ u z. p u (t.1 u z)) m.1 o.1 a b) l)
      (λ q. absurd (false≢true (rw q at f)))
  content-back zero (long g v xs s i c y) left w e rest k p f h a b n l =
      on-found (next left v) (λ cs q. let i = p v (next-among left cs v q).0 in let j = some-height all v in absurd (omega arith))
      (λ q. absurd (false≢true (rw q at f)))
  content-back (suc d) (long g v xs s i c y) left w e rest k p f h a b n l =
      on-found (next left v)
      (λ cs q.
      let t = next-among left cs v q in
      let m =
      both (attributes_fit (row_in (elements_of all) v).attributes (given_by xs) && elements_fit all (row_in (elements_of all) v).children (tree_of i))
      (elements_fit all cs (tree_of y))
      (rw q at f) in
      let z =
      both (attributes_fit (row_in (elements_of all) v).attributes (given_by xs)) (elements_fit all (row_in (elements_of all) v).children (tree_of i)) m.0 in
      let o = both (gap_fits g && attributes_laid xs && blank s && layout_fits i && blank c) (layout_fits y) h in
      let o2 = both (gap_fits g && attributes_laid xs && blank s && layout_fits i) (blank c) o.0 in
      let o3 = both (gap_fits g && attributes_laid xs && blank s) (layout_fits i) o2.0 in
      let j = both (gap_fits g && attributes_laid xs) (blank s) o3.0 in
      let r = both (gap_fits g) (attributes_laid xs) j.0 in
      let deep : rank all v ≤ suc d = p v t.0 in
      step_back (suc d) n g left cs w v _ _ rest _ (tree_of y) r.0 (k v t.0) (attributes-stop xs s _ r.1 j.1
      (angle-stops (layout_text i (text "</" ++ (v ++ (c ++ (text ">" ++ layout_text y (text "</" ++ (w ++ (e ++ (text ">" ++ rest))))))))))) q
      (element-long d v xs s z.0 r.1 j.1 _ (layout_text y (text "</" ++ (w ++ (e ++ (text ">" ++ rest))))) (tree_of i)
      (content-back d i (row_in (elements_of all) v).children v c (layout_text y (text "</" ++ (w ++ (e ++ (text ">" ++ rest))))) (children-named v)
      (λ u x. let y = child-lower all v u x in omega arith) z.1 o3.1 (k v t.0) o2.1 _ (omega arith)))
      (content-back (suc d) y cs w e rest (λ u z. k u (t.1 u z)) (λ u z. p u (t.1 u z)) m.1 o.1 a b) l)
      (λ q. absurd (false≢true (rw q at f)))
