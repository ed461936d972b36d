-- An accepted text is written from the tree that is read. With DocumentBack.antt it follows that the accepted texts are exactly those written from a tree of
-- the grammar.
use mathlib.Core.Path.{◌≡◌, refl, sym, ap, ◌∙◌}
use mathlib.Core.Logic.{◌↔◌}
use mathlib.Core.List.{[], ◌++◌}
use mathlib.Core.Bool.{Bool, true, false, not, cond, ◌&&◌, true≢false}
use lib.ListN.{length, drop}
use borrow.Author.Tests.{not-true}
use Rattle.paper_lower.specs.Lists.{Maybe}
use Rattle.paper_lower.specs.Lists.Maybe.{none, just}
use Rattle.paper_lower.proofs.ListLaws.{both}
use Rattle.paper_opl.specs.Reading.{Text, after, text, same, run, starts, expect, white, skip, space, value, equals, misc}
use Rattle.paper_opl.specs.Reading.Read.{got}
use Rattle.paper_opl.specs.Elements.{elements_of}
use Rattle.paper_opl.specs.Tree.{Elements, Inside, opening, element, DEPTH, pseudo, optional, is_version, is_encoding, is_standalone, declaration, doctype, behind_mark, declared, prolog, document_in}
use Rattle.paper_opl.specs.Tree.Elements.{nothing, node}
use Rattle.paper_opl.specs.Layout.{some_blank, Gap, gap, gap_fits, Value, quoted, value_text, value_fits, attributes_text, Layout, layout_text, layout_fits, tree_of, optional_text, optional_fits, Declaration, declaration_rest, declaration_text, declaration_fits, Doctype, doctype_text, doctype_fits, mark_text, document_text, in_grammar, WrittenFrom}
use Rattle.paper_opl.specs.Layout.Layout.{last, short, long}
use Rattle.paper_opl.proofs.Inversion.{on, on_test, bad≢got, got-rest, got-value}
use Rattle.paper_opl.proofs.Conforms.{root}
use Rattle.paper_opl.proofs.Tags.{begun, same_end}
use Rattle.paper_opl.proofs.InGrammar.{document-in-grammar}
use Rattle.paper_opl.proofs.Wider.{wider-grammar}
use Rattle.paper_opl.proofs.TreeBack.{same_self}
use Rattle.paper_opl.proofs.DocumentBack.{read_back}
use Rattle.paper_opl.proofs.BytesLaid.{expect-laid, starts-laid, skip-laid, space-laid, value-laid, equals-laid, gap-laid}
use Rattle.paper_opl.proofs.Marks.{mark-laid}
use Rattle.paper_opl.proofs.TreeLaid.{ElementLaid, element-laid, node-same, started}
use Rattle.paper_opl.proofs.TreeLaid.ElementLaid.{one_tag, two-tags}

-- ---- The XML declaration.

pseudo-laid : (w : Text) (may : Text → Bool) (s r : Text) → pseudo w may s ≡ got tt r →
    (v : Value) × (value_fits v ≡ true) × (may v.value ≡ true) × (s ≡ w ++ value_text v r)
pseudo-laid w may s r e =
    on (expect w s) (λ _ u p. on (equals u) (λ _ z q. on (value z) (λ v y t. on_test (may v)
    (λ c.
    let k = rw (p, q, t, c) at e in
    let l = equals-laid u z v y q t in
    rw (sym (got-rest k)) (l.value, l.fits, ap may l.value-is ∙ c, expect-laid w s u p ∙ ap (λ (o : Text). w ++ o) l.text-is))
    (λ c. absurd (bad≢got (rw (p, q, t, c) at e)))) (λ y t. absurd (bad≢got (rw (p, q, t) at e)))) (λ z q. absurd (bad≢got (rw (p, q) at e))))
    (λ u p. absurd (bad≢got (rw p at e)))

some-skipped : (u : Text) → same u (skip u) ≡ false → some_blank (run white u) ≡ true
some-skipped u h =
    let w = skip-laid u in
    on_test (same (run white u) [])
    (λ q. absurd (true≢false (sym (same_self u) ∙ ap (same u) (w.1 ∙ ap (λ (o : Text). o ++ skip u) (same_end (run white u) q)) ∙ h)))
    (λ q. rw (w.0, q))

optional-laid : (letter w : Text) (may : Text → Bool) (s r : Text) → optional letter w may s ≡ got tt r →
    (m : Maybe (Text × Value)) × (optional_fits may m ≡ true) × (s ≡ optional_text w m r)
unfolding optional optional_text
optional-laid letter w may s r e =
    on_test (starts letter (skip s) && not (same s (skip s)))
    (λ c.
    let g = pseudo-laid w may (skip s) r (rw c at e) in
    let k = skip-laid s in
    let b = some-skipped s (not-true (same s (skip s)) (both (starts letter (skip s)) (not (same s (skip s))) c).1) in
    (just (run white s, g.0), rw (b, g.1, g.2), k.1 ∙ ap (λ (o : Text). run white s ++ o) g.3))
    (λ c. (none, refl, got-rest (rw c at e)))

-- The text s is a well-formed declaration after "<?xml", and then r.
pub record Declared (s r : Text) : Type 0 where
  pub declaration : Declaration
  pub fits : declaration_fits (just declaration) ≡ true
  pub text-is : s ≡ declaration_rest declaration r

declaration-laid : (s r : Text) → declaration s ≡ got tt r → Declared s r
unfolding declaration
declaration-laid s r e =
    on (space s) (λ _ u p. on (pseudo (text "version") is_version u) (λ _ z q. on (optional (text "e") (text "encoding") is_encoding z) (λ _ y t. on
    (optional (text "s") (text "standalone") is_standalone y)
    (λ _ x i.
    let a = space-laid s u p in
    let b = pseudo-laid (text "version") is_version u z q in
    let c = optional-laid (text "e") (text "encoding") is_encoding z y t in
    let d = optional-laid (text "s") (text "standalone") is_standalone y x i in
    let f = expect-laid (text "?>") (skip x) r (rw (p, q, t, i) at e) in
    let w = skip-laid x in
    record {
      declaration = record { before = a.0; version = b.0; encoding = c.0; standalone = d.0; last = run white x };
      fits = rw (a.1, b.1, b.2, c.1, d.1, w.0);
      text-is =
          a.2 ∙ ap (λ (o : Text). a.0 ++ o) (b.3 ∙ ap (λ (o : Text). text "version" ++ value_text b.0 o)
          (c.2 ∙
          ap (optional_text (text "encoding") c.0) (d.2 ∙ ap (optional_text (text "standalone") d.0) (w.1 ∙ ap (λ (o : Text). run white x ++ o) f))));
    })
    (λ x i. absurd (bad≢got (rw (p, q, t, i) at e)))) (λ y t. absurd (bad≢got (rw (p, q, t) at e)))) (λ z q. absurd (bad≢got (rw (p, q) at e))))
    (λ u p. absurd (bad≢got (rw p at e)))

-- ---- The DOCTYPE.

-- The text s is a well-formed DOCTYPE after "<!DOCTYPE", and then r; g is the white space and the comments before it.
pub record Typed (g : Gap) (s r : Text) : Type 0 where
  pub doctype : Doctype
  pub gap_is : doctype.gap ≡ g
  pub fits : doctype_fits (just doctype) ≡ true
  pub text-is : s ≡ doctype.first ++ (text "policy_object" ++ (doctype.second ++ (text "SYSTEM" ++ (doctype.third ++ quoted doctype.quote doctype.value (doctype.last ++ (text ">" ++ r))))))

doctype-laid : (g : Gap) (s r : Text) → gap_fits g ≡ true → doctype s ≡ got tt r → Typed g s r
unfolding doctype
doctype-laid g s r f e =
    on (space s) (λ _ a pa. on (expect (text "policy_object") a) (λ _ b pb. on (space b) (λ _ c pc. on (expect (text "SYSTEM") c) (λ _ d pd. on (space d) (λ _ h
    ph. on (value h)
    (λ v i pi.
    let x = space-laid s a pa in
    let y = space-laid b c pc in
    let z = space-laid d h ph in
    let w = value-laid h v i pi in
    let k = skip-laid i in
    let l = expect-laid (text ">") (skip i) r (rw (pa, pb, pc, pd, ph, pi) at e) in
    record {
      doctype = record { gap = g; first = x.0; second = y.0; third = z.0; quote = w.0; value = v; last = run white i };
      gap_is = refl;
      fits = rw (f, x.1, y.1, z.1, w.1, k.0);
      text-is =
          x.2 ∙ ap (λ (o : Text). x.0 ++ o) (expect-laid (text "policy_object") a b pb ∙ ap (λ (o : Text). text "policy_object" ++ o) (y.2 ∙
          ap (λ (o : Text). y.0 ++ o)
          (expect-laid (text "SYSTEM") c d pd ∙
          ap (λ (o : Text). text "SYSTEM" ++ o)
          (z.2 ∙ ap (λ (o : Text). z.0 ++ o) (w.2 ∙ ap (λ (o : Text). quoted w.0 v o) (k.1 ∙ ap (λ (o : Text). run white i ++ o) l))))));
    })
    (λ i pi. absurd (bad≢got (rw (pa, pb, pc, pd, ph, pi) at e)))) (λ h ph. absurd (bad≢got (rw (pa, pb, pc, pd, ph) at e))))
    (λ d pd. absurd (bad≢got (rw (pa, pb, pc, pd) at e)))) (λ c pc. absurd (bad≢got (rw (pa, pb, pc) at e))))
    (λ b pb. absurd (bad≢got (rw (pa, pb) at e)))) (λ a pa. absurd (bad≢got (rw pa at e)))

-- ---- The prolog.

-- The text s is a well-formed prolog, and then u.
pub record Preceded (s u : Text) : Type 0 where
  pub mark : Bool
  pub declaration : Maybe Declaration
  pub doctype : Maybe Doctype
  pub gap-before : Gap
  pub declared : declaration_fits declaration ≡ true
  pub typed : doctype_fits doctype ≡ true
  pub gap-fits : gap_fits gap-before ≡ true
  pub text-is : s ≡ mark_text mark (declaration_text declaration (doctype_text doctype (gap gap-before u)))

nine : (v : Text) → starts (text "<!DOCTYPE") v ≡ true → v ≡ text "<!DOCTYPE" ++ drop 9 v
unfolding text
nine v c = starts-laid (text "<!DOCTYPE") v c

five : (v : Text) → starts (text "<?xml") v ≡ true → v ≡ text "<?xml" ++ drop 5 v
unfolding text
five v c = starts-laid (text "<?xml") v c

-- The text after the declaration.
typed-laid : (r u : Text)
    → after (misc (length r) r) (λ _ v. cond (starts (text "<!DOCTYPE") v) (after (doctype (drop 9 v)) (λ _ z. misc (length z) z)) (got tt v)) ≡ got tt u
    → (m : Maybe Doctype) × (g : Gap) × (doctype_fits m ≡ true) × (gap_fits g ≡ true) × (r ≡ doctype_text m (gap g u))
unfolding doctype_text
typed-laid r u e =
    on (misc (length r) r) (λ _ v p.
    let g = gap-laid (length r) r v p in
    on_test (starts (text "<!DOCTYPE") v)
    (λ c. on (doctype (drop 9 v))
    (λ _ z q.
    let d = doctype-laid g.0 (drop 9 v) z g.1 q in
    let h = gap-laid (length z) z u (rw (p, c, q) at e) in (
      just d.doctype,
      h.0,
      d.fits,
      h.1,
      g.2 ∙ ap (λ (o : Gap). gap o v) (sym d.gap_is) ∙ ap (gap d.doctype.gap) (nine v c ∙ ap (λ (o : Text). text "<!DOCTYPE" ++ o) (d.text-is
          ∙ ap (λ (o : Text). d.doctype.first ++
          (text "policy_object" ++
          (d.doctype.second ++ (text "SYSTEM" ++ (d.doctype.third ++ quoted d.doctype.quote d.doctype.value (d.doctype.last ++ (text ">" ++ o)))))))
          h.2)),
    ))
    (λ z q. absurd (bad≢got (rw (p, c, q) at e))))
    (λ c. (none, g.0, refl, g.1, g.2 ∙ ap (gap g.0) (got-rest (rw (p, c) at e)))))
    (λ v p. absurd (bad≢got (rw p at e)))

declared-laid : (s r : Text) → declared s ≡ got tt r → (d : Maybe Declaration) × (declaration_fits d ≡ true) × (s ≡ declaration_text d r)
unfolding declared declaration_text
declared-laid s r e =
    on_test (starts (text "<?xml") s && not (same (drop 5 s) (skip (drop 5 s))))
    (λ c.
    let d = declaration-laid (drop 5 s) r (rw c at e) in
    (just d.declaration, d.fits, five s (both (starts (text "<?xml") s) _ c).0 ∙ ap (λ (o : Text). text "<?xml" ++ o) d.text-is))
    (λ c. (none, refl, got-rest (rw c at e)))

prolog-laid : (s u : Text) → prolog s ≡ got tt u → Preceded s u
unfolding prolog
prolog-laid s u e =
    on (declared (behind_mark s))
    (λ _ r p.
    let m = mark-laid s in
    let d = declared-laid (behind_mark s) r p in
    let t = typed-laid r u (rw p at e) in
    record {
      mark = m.0;
      declaration = d.0;
      doctype = t.0;
      gap-before = t.1;
      declared = d.1;
      typed = t.2;
      gap-fits = t.3;
      text-is = m.1 ∙ ap (mark_text m.0) (d.2 ∙ ap (declaration_text d.0) t.4);
    })
    (λ r p. absurd (bad≢got (rw p at e)))

-- ---- The document.

root-laid : (v u z : Text) (i : Inside) (g h : Gap) → gap_fits g ≡ true → gap_fits h ≡ true → z ≡ gap h [] → ElementLaid v u i z
    → (y : Layout) × (layout_fits y ≡ true) × (tree_of y ≡ node v i.given i.elements nothing) × (gap g (text "<" ++ (v ++ u)) ≡ layout_text y [])
unfolding layout_text layout_fits tree_of
root-laid v u z i g h f k e (one_tag xs b gs l n m t) = (
  short g v xs b (last h),
  rw (f, l, n, k),
  node-same gs (sym m) refl,
  ap (λ (o : Text). gap g (text "<" ++ (v ++ o))) (t ∙ ap (λ (o : Text). attributes_text xs (b ++ (text "/>" ++ o))) e),
)
root-laid v u z i g h f k e (two-tags xs b y c gs l n p q m t) = (
  long g v xs b y c (last h),
  rw (f, l, n, p, m, k),
  node-same gs q refl,
  ap (λ (o : Text). gap g (text "<" ++ (v ++ o)))
      (t ∙ ap (λ (o : Text). attributes_text xs (b ++ (text ">" ++ layout_text y (text "</" ++ (v ++ (c ++ (text ">" ++ o))))))) e),
)

-- An accepted text is written from its tree.
pub written_from : (all : Bool) (s : Text) (es : Elements) (r : Text) → document_in all s ≡ got es r → WrittenFrom all es s
unfolding document_in document_text
written_from all s es r e =
    on (prolog s) (λ _ u p. on (opening root u) (λ c z o. on (element (elements_of all) DEPTH c.name z) (λ i y h. on (misc (length y) y) (λ _ x m. on_test
    (same x [])
    (λ f.
    let w = prolog-laid s u p in
    let g = gap-laid (length y) y x m in
    let q =
    root-laid c.name z y i w.gap-before g.0 w.gap-fits g.1 (g.2 ∙ ap (gap g.0) (same_end x f))
    (element-laid (elements_of all) DEPTH c.name z i y h) in
    record {
      layout = record { mark = w.mark; declaration = w.declaration; doctype = w.doctype; root = q.0 };
      fits = rw (w.declared, w.typed) q.1;
      tree_is = q.2 ∙ got-value (rw (p, o, h, m, f) at e);
      in-grammar = document-in-grammar all s es r e;
      text-is =
          w.text-is ∙
          ap (λ (n : Text). mark_text w.mark (declaration_text w.declaration (doctype_text w.doctype n)))
          (ap (gap w.gap-before) (started u root c.name z (begun root u c z o)) ∙ q.3);
    })
    (λ f. absurd (bad≢got (rw (p, o, h, m, f) at e)))) (λ x m. absurd (bad≢got (rw (p, o, h, m) at e)))) (λ y h. absurd (bad≢got (rw (p, o, h) at e))))
    (λ z o. absurd (bad≢got (rw (p, o) at e)))) (λ u p. absurd (bad≢got (rw p at e)))

-- The accepted texts are exactly those that are written from a tree of the grammar, and they are read as that tree.
pub exactly : (all : Bool) (s : Text) (es : Elements) → document_in all s ≡ got es [] ↔ WrittenFrom all es s
exactly all s es = (
  written_from all s es [],
  λ w. ap (document_in all) w.text-is ∙ read_back all w.layout w.fits (ap (in_grammar all) w.tree_is ∙ w.in-grammar) ∙
      ap (λ (x : Elements). got x []) w.tree_is,
)

-- A text that is written from a tree of Ask 4's grammar is written from that tree in the wider grammar too, so both calls read it the same.
pub read_alike : (s : Text) (es : Elements) → document_in false s ≡ got es [] → document_in true s ≡ got es []
read_alike s es e =
    let w = written_from false s es [] e in
    (exactly true s es).1 (record {
      layout = w.layout;
      fits = w.fits;
      tree_is = w.tree_is;
      in-grammar = wider-grammar false es w.in-grammar;
      text-is = w.text-is;
    })
