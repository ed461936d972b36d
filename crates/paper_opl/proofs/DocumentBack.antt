-- A text that is written from a tree of the grammar is read back as that tree: the prolog and the whole document.
use mathlib.Core.Path.{◌≡◌, refl, sym, ap, ◌∙◌}
use mathlib.Core.List.{List, [], ◌∷◌, ◌++◌}
use mathlib.Core.Bool.{Bool, true, false, not, cond, ◌&&◌, ◌||◌, false≢true, true≢false}
use Prim.Native.Nat.{ℕ, suc, ◌<◌, ◌≤◌}
use native.Mathlib.Omega.{arith}
use lib.Dec.{eqb, ltb}
use lib.ListN.{length, drop, length-append}
use borrow.Author.Tests.{eqb-true, eq-eqb, ltb-true, not-true}
use Rattle.paper_lower.specs.Lists.{Maybe, some, every, lists_open}
use Rattle.paper_lower.specs.Lists.Maybe.{none, just}
use Rattle.paper_lower.proofs.ListLaws.{both, and-false}
use Rattle.paper_opl.specs.Reading.{Text, after, text, same, starts, expect, white, skip, in_name, misc, reading_open}
use Rattle.paper_opl.specs.Reading.Read.{got}
use Rattle.paper_opl.specs.Elements.{Child, elements_of, next, may_end, row_in}
use Rattle.paper_opl.specs.Tree.{Elements, Inside, element, DEPTH, pseudo, optional, is_version, is_encoding, is_standalone, declaration, doctype, byte_order_mark, declared, prolog, document_in}
use Rattle.paper_opl.specs.Tree.Elements.{nothing, node}
use Rattle.paper_opl.specs.Layout.{attributes_fit, elements_fit, in_grammar, attributes_text, attributes_laid, given_by, Layout, layout_text, layout_fits, tree_of, Document, document_text, document_fits, blank, some_blank, calm, Gap, gap, gap_fits, Value, quoted, quote_fits, value_text, value_fits, optional_text, optional_fits, Declaration, declaration_rest, declaration_text, declaration_fits, Doctype, doctype_text, doctype_fits, mark_text}
use Rattle.paper_opl.specs.Layout.Layout.{last, short, long}
use Rattle.paper_opl.specs.Layout.Gap.{space as only-space, comment as with-comment}
use Rattle.paper_opl.proofs.Inversion.{on_test, on-found, none≢just, just-value}
use Rattle.paper_opl.proofs.Conforms.{same_true, among, for_names, child-has, next-among, root}
use Rattle.paper_opl.proofs.Depth.{rank, child-lower, root-rank}
use Rattle.paper_opl.proofs.Tags.{starts_more}
use Rattle.paper_opl.proofs.BytesBack.{stops, behind-all, space-back, value-back, quote-clear, equals-back, gap_back}
use Rattle.paper_opl.proofs.Marks.{mark-back}
use Rattle.paper_opl.proofs.TreeBack.{a_name, not_first, opening-back, attributes-stop, slash-stops, angle-stops, element-short, element-long, content-back, children-named}

-- ---- The XML declaration.

expect-back : (w rest : Text) → expect w (w ++ rest) ≡ got tt rest
unfolding expect
expect-back [] rest = refl
expect-back (b ∷ w) rest = rw (eq-eqb b b refl, expect-back w rest)

not-empty : (s : Text) → same s [] ≡ false → 0 < length s
unfolding same
not-empty [] e = absurd (true≢false e)
not-empty (b ∷ s) e = omega arith

-- Skipping white space of at least one byte changes the text.
skipped : (s rest : Text) → some_blank s ≡ true → stops white rest ≡ true → same (s ++ rest) (skip (s ++ rest)) ≡ false
skipped s rest h k =
    let p = both (blank s) (not (same s [])) h in
    let b = behind-all white s rest p.0 k in
    on_test (same (s ++ rest) (skip (s ++ rest)))
    (λ e.
    let l = ap (λ (x : Text). length x) (same_true (s ++ rest) (skip (s ++ rest)) e ∙ b) in
    let m = length-append s rest in
    let n = not-empty s (not-true (same s []) p.1) in
    absurd (omega arith))
    (λ e. e)

pseudo-back : (w : Text) (may : Text → Bool) (v : Value) (rest : Text) → value_fits v ≡ true → may v.value ≡ true →
    pseudo w may (w ++ value_text v rest) ≡ got tt rest
pseudo-back w may v rest h e =
    let p = both (blank v.left && blank v.right) (quote_fits v.quote v.value) h in
    let q = both (blank v.left) (blank v.right) p.0 in
    let o = both (eqb v.quote 34 || eqb v.quote 39) _ p.1 in
    rw (
      expect-back w (value_text v rest),
      equals-back v.left v.right (quoted v.quote v.value rest) q.0 q.1 (quote-clear v.quote (v.value ++ (v.quote ∷ rest)) o.0),
      value-back v.quote v.value rest p.1,
      e,
    )

-- An optional part of the declaration is read back if the text after it does not begin, after white space, with its first letter.
optional-back : (c : ℕ) (w : Text) (may : Text → Bool) (m : Maybe (Text × Value)) (rest : Text) → not (white c) ≡ true → optional_fits may m ≡ true →
    starts (c ∷ []) (skip rest) ≡ false
    → optional (c ∷ []) (c ∷ w) may (optional_text (c ∷ w) m rest) ≡ got tt rest
unfolding optional optional_text starts
optional-back c w may none rest k h n = rw n
optional-back c w may (just e) rest k h n =
    let p = both (some_blank e.0) _ h in
    let q = both (value_fits e.1) (may e.1.value) p.1 in
    rw (
      skipped e.0 (c ∷ (w ++ value_text e.1 rest)) p.0 k,
      behind-all white e.0 (c ∷ (w ++ value_text e.1 rest)) (both (blank e.0) (not (same e.0 [])) p.0).0 k,
      eq-eqb c c refl,
      pseudo-back (c ∷ w) may e.1 rest q.0 q.1,
    )

encoding-back : (m : Maybe (Text × Value)) (rest : Text) → optional_fits is_encoding m ≡ true → starts (text "e") (skip rest) ≡ false
    → optional (text "e") (text "encoding") is_encoding (optional_text (text "encoding") m rest) ≡ got tt rest
unfolding text
encoding-back m rest h n = optional-back 101 (110 ∷ 99 ∷ 111 ∷ 100 ∷ 105 ∷ 110 ∷ 103 ∷ []) is_encoding m rest refl h n

-- What comes after the encoding does not begin with "e".
no-encoding : (m : Maybe (Text × Value)) (s rest : Text) → optional_fits is_standalone m ≡ true → blank s ≡ true
    → starts (text "e") (skip (optional_text (text "standalone") m (s ++ (text "?>" ++ rest)))) ≡ false
unfolding optional_text starts text
no-encoding none s rest h b = rw (behind-all white s (text "?>" ++ rest) b refl)
no-encoding (just e) s rest h b =
    rw (behind-all white e.0 (text "standalone" ++ value_text e.1 (s ++ (text "?>" ++ rest)))
    (both (blank e.0) (not (same e.0 [])) (both (some_blank e.0) _ h).0).0 refl)

standalone-back : (m : Maybe (Text × Value)) (s rest : Text) → optional_fits is_standalone m ≡ true → blank s ≡ true
    → optional (text "s") (text "standalone") is_standalone (optional_text (text "standalone") m (s ++ (text "?>" ++ rest))) ≡ got tt (s ++ (text "?>" ++ rest))
unfolding starts text
standalone-back m s rest h b =
    optional-back 115 (116 ∷ 97 ∷ 110 ∷ 100 ∷ 97 ∷ 108 ∷ 111 ∷ 110 ∷ 101 ∷ []) is_standalone m (s ++ (text "?>" ++ rest)) refl h
    (rw (behind-all white s (text "?>" ++ rest) b refl))

version-clear : (rest : Text) → stops white (text "version" ++ rest) ≡ true
unfolding text
version-clear rest = refl

object-clear : (rest : Text) → stops white (text "policy_object" ++ rest) ≡ true
unfolding text
object-clear rest = refl

system-clear : (rest : Text) → stops white (text "SYSTEM" ++ rest) ≡ true
unfolding text
system-clear rest = refl

angle-clear : (rest : Text) → stops white (text ">" ++ rest) ≡ true
unfolding text
angle-clear rest = refl

question-clear : (rest : Text) → stops white (text "?>" ++ rest) ≡ true
unfolding text
question-clear rest = refl

declaration-back : (d : Declaration) (rest : Text) → declaration_fits (just d) ≡ true → declaration (declaration_rest d rest) ≡ got tt rest
unfolding declaration
declaration-back d rest h =
    let a = both (some_blank d.before) _ h in
    let b = both (value_fits d.version) _ a.1 in
    let c = both (is_version d.version.value) _ b.1 in
    let e = both (optional_fits is_encoding d.encoding) _ c.1 in
    let f = both (optional_fits is_standalone d.standalone) (blank d.last) e.1 in
    let last = d.last ++ (text "?>" ++ rest) in
    let alone = optional_text (text "standalone") d.standalone last in
    rw (
      space-back d.before (text "version" ++ value_text d.version (optional_text (text "encoding") d.encoding alone)) a.0 (version-clear _),
      pseudo-back (text "version") is_version d.version (optional_text (text "encoding") d.encoding alone) b.0 c.0,
      encoding-back d.encoding alone e.0 (no-encoding d.standalone d.last rest f.0 f.1),
      standalone-back d.standalone d.last rest f.0 f.1,
      behind-all white d.last (text "?>" ++ rest) f.1 (question-clear rest),
      expect-back (text "?>") rest,
    )

-- ---- The DOCTYPE.

doctype-back : (d : Doctype) (rest : Text) → doctype_fits (just d) ≡ true
    → doctype
    (d.first ++ (text "policy_object" ++ (d.second ++ (text "SYSTEM" ++ (d.third ++ quoted d.quote d.value (d.last ++ (text ">" ++ rest))))))) ≡
    got tt rest
unfolding doctype
doctype-back d rest h =
    let a = both (gap_fits d.gap) _ h in
    let b = both (some_blank d.first) _ a.1 in
    let c = both (some_blank d.second) _ b.1 in
    let e = both (some_blank d.third) _ c.1 in
    let f = both (quote_fits d.quote d.value) (blank d.last) e.1 in
    let q = both (eqb d.quote 34 || eqb d.quote 39) _ f.0 in
    rw (
      space-back d.first
          (text "policy_object" ++ (d.second ++ (text "SYSTEM" ++ (d.third ++ quoted d.quote d.value (d.last ++ (text ">" ++ rest)))))) b.0
          (object-clear _),
      expect-back (text "policy_object") (d.second ++ (text "SYSTEM" ++ (d.third ++ quoted d.quote d.value (d.last ++ (text ">" ++ rest))))),
      space-back d.second (text "SYSTEM" ++ (d.third ++ quoted d.quote d.value (d.last ++ (text ">" ++ rest)))) c.0 (system-clear _),
      expect-back (text "SYSTEM") (d.third ++ quoted d.quote d.value (d.last ++ (text ">" ++ rest))),
      space-back d.third (quoted d.quote d.value (d.last ++ (text ">" ++ rest))) e.0
          (quote-clear d.quote (d.value ++ (d.quote ∷ (d.last ++ (text ">" ++ rest)))) q.0),
      value-back d.quote d.value (d.last ++ (text ">" ++ rest)) f.0,
      behind-all white d.last (text ">" ++ rest) f.1 (angle-clear rest),
      expect-back (text ">") rest,
    )

-- ---- The prolog.

white-no-angle : (b : ℕ) → white b ≡ true → eqb 60 b ≡ false
white-no-angle b h = on_test (eqb 60 b) (λ e. absurd (false≢true (rw (sym (eqb-true 60 b e)) at h))) (λ e. e)

white-no-mark : (b : ℕ) → white b ≡ true → eqb 239 b ≡ false
white-no-mark b h = on_test (eqb 239 b) (λ e. absurd (false≢true (rw (sym (eqb-true 239 b e)) at h))) (λ e. e)

-- White space and comments do not begin with a byte order mark.
gap-unmarked : (g : Gap) (rest : Text) → gap_fits g ≡ true → starts byte_order_mark (gap g (text "<" ++ rest)) ≡ false
unfolding gap gap_fits starts text every
gap-unmarked (only-space []) rest h = refl
gap-unmarked (only-space (b ∷ s)) rest h = rw (white-no-mark b (both (white b) (every white s) h).0)
gap-unmarked (with-comment [] body g) rest h = refl
gap-unmarked (with-comment (b ∷ s) body g) rest h =
    rw (white-no-mark b (both (white b) (every white s) (both (blank (b ∷ s)) (calm body) (both (blank (b ∷ s) && calm body) (gap_fits g) h).0).0).0)

-- White space, a comment or a tag does not begin with "<?xml".
no-declaration : (g : Gap) (rest : Text) → gap_fits g ≡ true → starts (63 ∷ []) rest ≡ false → starts (text "<?xml") (gap g (text "<" ++ rest)) ≡ false
unfolding gap gap_fits starts text every
no-declaration (only-space []) rest h n = starts_more 63 (120 ∷ 109 ∷ 108 ∷ []) rest n
no-declaration (only-space (b ∷ s)) rest h n = rw (white-no-angle b (both (white b) (every white s) h).0)
no-declaration (with-comment [] body g) rest h n = refl
no-declaration (with-comment (b ∷ s) body g) rest h n =
    rw (white-no-angle b (both (white b) (every white s) (both (blank (b ∷ s)) (calm body) (both (blank (b ∷ s) && calm body) (gap_fits g) h).0).0).0)

-- A start tag, after white space and comments.
module _ (g : Gap) (rest : Text) (fit : gap_fits g ≡ true) (no-mark : starts (33 ∷ []) rest ≡ false) (no-question : starts (63 ∷ []) rest ≡ false) where
  root-gap : (n : ℕ) → length (gap g (text "<" ++ rest)) ≤ n → misc n (gap g (text "<" ++ rest)) ≡ got tt (text "<" ++ rest)
  unfolding starts text
  root-gap n l = gap_back n g (text "<" ++ rest) fit refl (starts_more 33 (45 ∷ 45 ∷ []) rest no-mark) l

  doctype-read : (m : Maybe Doctype) → doctype_fits m ≡ true
      → after (misc (length (doctype_text m (gap g (text "<" ++ rest)))) (doctype_text m (gap g (text "<" ++ rest))))
      (λ _ u. cond (starts (text "<!DOCTYPE") u) (after (doctype (drop 9 u)) (λ _ z. misc (length z) z)) (got tt u)) ≡ got tt (text "<" ++ rest)
  unfolding doctype_text starts text
  doctype-read none h = rw (root-gap (length (gap g (text "<" ++ rest))) (omega arith), starts_more 33 (68 ∷ 79 ∷ 67 ∷ 84 ∷ 89 ∷ 80 ∷ 69 ∷ []) rest no-mark)
  doctype-read (just d) h =
      rw (
        gap_back (length (doctype_text (just d) (gap g (text "<" ++ rest)))) d.gap
            (text "<!DOCTYPE" ++
            (d.first ++
            (text "policy_object" ++
            (d.second ++ (text "SYSTEM" ++ (d.third ++ quoted d.quote d.value (d.last ++ (text ">" ++ gap g (text "<" ++ rest)))))))))
            (both (gap_fits d.gap) _ h).0 refl refl (omega arith),
        doctype-back d (gap g (text "<" ++ rest)) h,
        root-gap (length (gap g (text "<" ++ rest))) (omega arith),
      )

  undeclared : (m : Maybe Doctype) → doctype_fits m ≡ true → starts (text "<?xml") (doctype_text m (gap g (text "<" ++ rest))) ≡ false
  unfolding doctype_text starts text
  undeclared none h = no-declaration g rest fit no-question
  undeclared (just d) h = no-declaration d.gap _ (both (gap_fits d.gap) _ h).0 refl

  unmarked : (x : Maybe Declaration) (m : Maybe Doctype) → doctype_fits m ≡ true →
      starts byte_order_mark (declaration_text x (doctype_text m (gap g (text "<" ++ rest)))) ≡ false
  unfolding declaration_text doctype_text starts text
  unmarked none none h = gap-unmarked g rest fit
  unmarked none (just d) h = gap-unmarked d.gap _ (both (gap_fits d.gap) _ h).0
  unmarked (just d) m h = refl

  declared-back : (x : Maybe Declaration) (m : Maybe Doctype) → declaration_fits x ≡ true → doctype_fits m ≡ true
      → declared (declaration_text x (doctype_text m (gap g (text "<" ++ rest)))) ≡ got tt (doctype_text m (gap g (text "<" ++ rest)))
  unfolding declared declaration_text starts text
  declared-back none m a h = rw (undeclared m h)
  declared-back (just d) m a h =
      rw (
        skipped d.before (text "version" ++
            value_text d.version (optional_text (text "encoding") d.encoding
            (optional_text (text "standalone") d.standalone (d.last ++ (text "?>" ++ doctype_text m (gap g (text "<" ++ rest)))))))
            (both (some_blank d.before) _ a).0 refl,
        declaration-back d (doctype_text m (gap g (text "<" ++ rest))) a,
      )

  prolog-back : (b : Bool) (x : Maybe Declaration) (m : Maybe Doctype) → declaration_fits x ≡ true → doctype_fits m ≡ true
      → prolog (mark_text b (declaration_text x (doctype_text m (gap g (text "<" ++ rest))))) ≡ got tt (text "<" ++ rest)
  unfolding prolog
  prolog-back b x m a h =
      rw (
        mark-back b (declaration_text x (doctype_text m (gap g (text "<" ++ rest)))) (ap (λ (k : Bool). not b && k) (unmarked x m h) ∙ and-false (not b)),
        declared-back x m a h,
      ) (doctype-read m h)

-- ---- The document.

-- Nothing may follow the policy object.
root-next : (v : Text) (cs : List Child) → next root v ≡ just cs → cs ≡ []
unfolding next some text
root-next v cs e = on_test (some (same v) (text "policy_object" ∷ [])) (λ q. sym (just-value (rw q at e))) (λ q. absurd (none≢just (rw q at e)))

named : for_names a_name root ≡ true
unfolding lists_open reading_open
named = refl

root-named : (v : Text) → among root v ≡ true → a_name v ≡ true
root-named v h = child-has a_name root v named h

module _ (all : Bool) where
  root-deep : (v : Text) → among root v ≡ true → rank all v ≤ 8
  root-deep v h = let l = ltb-true (rank all v) 9 (child-has (λ u. ltb (rank all u) 9) root v (root-rank all) h) in omega arith

  -- The element, and the white space and comments after it.
  module _ (x : Document) (fit : document_fits x ≡ true) where
    whole : (g : Gap) (v u : Text) (cs : List Child) (e : Inside) (h : Gap) → layout_text x.root [] ≡ gap g (text "<" ++ (v ++ u)) → gap_fits g ≡ true →
        gap_fits h ≡ true → a_name v ≡ true → stops in_name u ≡ true
        → next root v ≡ just cs → element (elements_of all) DEPTH v u ≡ got e (gap h []) →
        document_in all (document_text x) ≡ got (node v e.given e.elements nothing) []
    unfolding document_in document_text starts text same
    whole g v u cs e h p f i a k n r =
        let m = both (declaration_fits x.declaration) _ fit in
        let o = both (doctype_fits x.doctype) (layout_fits x.root) m.1 in
        rw (
          p,
          prolog-back g (v ++ u) f (not_first 33 v u refl a) (not_first 63 v u refl a) x.mark x.declaration x.doctype m.0 o.0,
          opening-back root cs v u a k n,
          r,
          gap_back (length (gap h [])) h [] i refl refl (omega arith),
        )

  last-only : (y : Layout) → elements_fit all [] (tree_of y) ≡ true → layout_fits y ≡ true → (h : Gap) × (y ≡ last h) × (gap_fits h ≡ true)
  unfolding elements_fit tree_of layout_fits next
  last-only (last h) e f = (h, refl, f)
  last-only (short g v xs s y) e f = absurd (false≢true e)
  last-only (long g v xs s i c y) e f = absurd (false≢true e)

  -- A text that is written from a tree of the grammar is read back as that tree, with any white space and comments where these are allowed.
  pub read_back : (x : Document) → document_fits x ≡ true → in_grammar all (tree_of x.root) ≡ true → document_in all (document_text x) ≡ got (tree_of x.root) []
  unfolding elements_fit tree_of layout_fits layout_text every
  read_back x fit h = go x.root refl h (both (doctype_fits x.doctype) (layout_fits x.root) (both (declaration_fits x.declaration) _ fit).1).1
    where
      go : (y : Layout) → y ≡ x.root → in_grammar all (tree_of y) ≡ true → layout_fits y ≡ true → document_in all (document_text x) ≡ got (tree_of x.root) []
      go (last g) q e l = absurd (false≢true e)
      go (short g v xs s y) q e l =
          on-found (next root v)
          (λ cs n.
          let m =
          both (attributes_fit (row_in (elements_of all) v).attributes (given_by xs) && may_end (row_in (elements_of all) v).children)
          (elements_fit all cs (tree_of y)) (rw n at e) in
          let i = both (attributes_fit (row_in (elements_of all) v).attributes (given_by xs)) (may_end (row_in (elements_of all) v).children) m.0 in
          let o = both (gap_fits g && attributes_laid xs && blank s) (layout_fits y) l in
          let j = both (gap_fits g && attributes_laid xs) (blank s) o.0 in
          let r = both (gap_fits g) (attributes_laid xs) j.0 in
          let k = last-only y (rw (root-next v cs n) at m.1) o.1 in
          let a = (next-among root cs v n).0 in
          whole x fit g v (attributes_text xs (s ++ (text "/>" ++ gap k.0 []))) cs (record { given = given_by xs; elements = nothing }) k.0
          (ap (λ (z : Layout). layout_text z []) (sym q) ∙
          ap (λ (z : Layout). gap g (text "<" ++ (v ++ attributes_text xs (s ++ (text "/>" ++ layout_text z []))))) k.1) r.0 k.2 (root-named v a)
          (attributes-stop xs s _ r.1 j.1 (slash-stops (gap k.0 []))) n
          (element-short all 7 v xs s i.0 r.1 j.1 (gap k.0 []) i.1)
          ∙ ap (λ (z : Elements). got z []) (sym (ap tree_of (sym q) ∙ ap (λ (z : Layout). node v (given_by xs) nothing (tree_of z)) k.1)))
          (λ n. absurd (false≢true (rw n at e)))
      go (long g v xs s b c y) q e l =
          on-found (next root v)
          (λ cs n.
          let m =
          both (attributes_fit (row_in (elements_of all) v).attributes (given_by xs) && elements_fit all (row_in (elements_of all) v).children (tree_of b))
          (elements_fit all cs (tree_of y))
          (rw n at e) in
          let i =
          both (attributes_fit (row_in (elements_of all) v).attributes (given_by xs)) (elements_fit all (row_in (elements_of all) v).children (tree_of b))
          m.0 in
          let o = both (gap_fits g && attributes_laid xs && blank s && layout_fits b && blank c) (layout_fits y) l in
          let o2 = both (gap_fits g && attributes_laid xs && blank s && layout_fits b) (blank c) o.0 in
          let o3 = both (gap_fits g && attributes_laid xs && blank s) (layout_fits b) o2.0 in
          let j = both (gap_fits g && attributes_laid xs) (blank s) o3.0 in
          let r = both (gap_fits g) (attributes_laid xs) j.0 in
          let k = last-only y (rw (root-next v cs n) at m.1) o.1 in
          let a = (next-among root cs v n).0 in
          let d : rank all v ≤ 8 = root-deep v a in
          whole x fit g v (attributes_text xs (s ++ (text ">" ++ layout_text b (text "</" ++ (v ++ (c ++ (text ">" ++ gap k.0 []))))))) cs
          (record { given = given_by xs; elements = tree_of b }) k.0
          (ap (λ (z : Layout). layout_text z []) (sym q)
          ∙ ap (λ (z : Layout). gap g
          (text "<" ++ (v ++ attributes_text xs (s ++ (text ">" ++ layout_text b (text "</" ++ (v ++ (c ++ (text ">" ++ layout_text z []))))))))) k.1) r.0
          k.2 (root-named v a) (attributes-stop xs s _ r.1 j.1 (angle-stops (layout_text b (text "</" ++ (v ++ (c ++ (text ">" ++ gap k.0 [])))))))
          n
          (element-long all 7 v xs s i.0 r.1 j.1 (layout_text b (text "</" ++ (v ++ (c ++ (text ">" ++ gap k.0 []))))) (gap k.0 []) (tree_of b)
          (content-back all 7 b (row_in (elements_of all) v).children v c (gap k.0 []) (children-named all v)
          (λ u z. let w = child-lower all v u z in omega arith) i.1 o3.1
          (root-named v a) o2.1
          (suc (length (layout_text b (text "</" ++ (v ++ (c ++ (text ">" ++ gap k.0 []))))))) (omega arith)))
          ∙ ap (λ (z : Elements). got z []) (sym (ap tree_of (sym q) ∙ ap (λ (z : Layout). node v (given_by xs) (tree_of b) (tree_of z)) k.1)))
          (λ n. absurd (false≢true (rw n at e)))
