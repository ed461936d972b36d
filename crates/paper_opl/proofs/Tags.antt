-- The pass from tag to tag yields the elements of an accepted text, each once, in the order of the text.
use mathlib.Core.Path.{◌≡◌, refl, sym, ap, ◌∙◌}
use mathlib.Core.List.{List, [], ◌∷◌, ◌++◌, append_assoc}
use mathlib.Core.Bool.{Bool, true, false, ◌&&◌, ◌||◌, false≢true, true≢false}
use Prim.Native.Nat.{ℕ, zero, suc, ◌≤◌}
use native.Mathlib.Omega.{arith}
use lib.Dec.{eqb}
use lib.ListN.{length, drop}
use borrow.Author.Tests.{eqb-true}
use Rattle.paper_lower.specs.Lists.{some}
use Rattle.paper_lower.proofs.ListLaws.{or-none}
use Rattle.paper_opl.specs.Reading.{Text, Read, text, same, behind, word, starts, expect, white, skip, space, in_name, name, value, equals, misc}
use Rattle.paper_opl.specs.Reading.Read.{got, bad}
use Rattle.paper_opl.specs.Elements.{Attribute, Child, Element, elements_of, row_in, one, next, may_end}
use Rattle.paper_opl.specs.Tree.{Given, Elements, Tag, tags_of, fits, required, find, without, attribute, attributes, Opened, opening, ending, Inside, content, element, prolog, DEPTH, document_in}
use Rattle.paper_opl.specs.Tree.Elements.{nothing}
use Rattle.paper_opl.specs.Walk.{plain, givens, closed, start_tag, end_tag, tag, tags_from, tags}
use Rattle.paper_opl.proofs.Inversion.{on, on_test, on-found, bad≢got, got-rest, got-value}
use Rattle.paper_opl.proofs.Counts.{below, below-le, below-cond, below_of, behind-le, drop_le, word-strict, expect-below, space-strict, misc-below, value-below, equals-below}

-- ---- A tag has at least one byte, so every count from the length of the text on is enough.

pub plain-below : (s : Text) → below (length s) (plain s)
unfolding plain
plain-below s =
    on (name s) (λ w r p. on (equals r) (λ _ u q. on (value u) (λ v z t.
    let i = below_of p (word-strict in_name s) in
    let j = below_of q (equals-below r) in
    let k = below_of t (value-below u) in
    rw (p, q, t) (omega arith)) (λ z t. rw (p, q, t) tt)) (λ u q. rw (p, q) tt)) (λ r p. rw p tt)

pub givens-below : (n : ℕ) (s : Text) → below (suc (length s)) (givens n s)
unfolding givens
givens-below zero s = tt
givens-below (suc n) s =
    on_test (starts (text ">") (skip s) || starts (text "/") (skip s)) (λ c. let h = behind-le white s in rw c (omega arith))
    (λ c. on (space s) (λ _ r p. on (plain r) (λ g u q. on (givens n u) (λ gs z t.
    let i = below_of p (space-strict s) in
    let j = below_of q (plain-below r) in
    let k = below_of t (givens-below n u) in
    rw (c, p, q, t) (omega arith)) (λ z t. rw (c, p, q, t) tt)) (λ u q. rw (c, p, q) tt)) (λ r p. rw (c, p) tt))

closed-below : (s : Text) → below (suc (length s)) (closed s)
closed-below s =
    let d = drop_le 1 s in
    below-cond (starts (text ">") s) (got tt (drop 1 s)) (expect (text ">") (drop 1 s)) (suc (length s)) (omega arith)
    (below-le (expect (text ">") (drop 1 s)) (suc (length (drop 1 s))) (suc (length s)) (omega arith) (expect-below (text ">") (drop 1 s)))

end_tag-below : (s : Text) → below (length s) (end_tag s)
unfolding end_tag
end_tag-below s =
    on (name (drop 2 s)) (λ v r p. on (expect (text ">") (skip r)) (λ _ u q.
    let d = drop_le 2 s in
    let b = behind-le white r in
    let i = below_of p (word-strict in_name (drop 2 s)) in
    let j = below_of q (expect-below (text ">") (skip r)) in
    rw (p, q) (omega arith)) (λ u q. rw (p, q) tt)) (λ r p. rw p tt)

start_tag-below : (s : Text) → below (length s) (start_tag s)
unfolding start_tag
start_tag-below s =
    on (expect (text "<") s) (λ _ r p. on (name r) (λ w u q. on (givens (length u) u) (λ gs z t. on (closed z) (λ _ y o.
    let i = below_of p (expect-below (text "<") s) in
    let j = below_of q (word-strict in_name r) in
    let k = below_of t (givens-below (length u) u) in
    let l = below_of o (closed-below z) in
    rw (p, q, t, o) (omega arith)) (λ y o. rw (p, q, t, o) tt)) (λ z t. rw (p, q, t) tt)) (λ u q. rw (p, q) tt)) (λ r p. rw p tt)

pub tag_below : (s : Text) → below (length s) (tag s)
unfolding tag
tag_below s =
    on (misc (length s) s) (λ _ r p.
    let h = below_of p (misc-below (length s) s) in
    on_test (starts (text "</") r)
    (λ c. rw (p, c) (below-le (end_tag r) (length r) (length s) (omega arith) (end_tag-below r)))
    (λ c. rw (p, c) (below-le (start_tag r) (length r) (length s) (omega arith) (start_tag-below r)))) (λ r p. rw p tt)

none-at-end : tag [] ≡ bad []
unfolding tag misc starts text start_tag expect
none-at-end = refl

pub tags-enough : (n m : ℕ) (s : Text) → length s ≤ n → length s ≤ m → tags_from n s ≡ tags_from m s
unfolding tags_from
tags-enough zero zero s h l = refl
tags-enough zero (suc m) [] h l = rw none-at-end
tags-enough zero (suc m) (b ∷ s) h l = absurd (omega arith)
tags-enough (suc n) zero [] h l = rw none-at-end
tags-enough (suc n) zero (b ∷ s) h l = absurd (omega arith)
tags-enough (suc n) (suc m) s h l =
    on (tag s) (λ ts r e. let b = below_of e (tag_below s) in rw (e, tags-enough n m r (omega arith) (omega arith))) (λ r e. rw e)

-- The tags of a text after its prolog.
abbrev pub walk : Text → List Tag
walk s = tags_from (length s) s

-- ---- One step of the pass.

pub step : (s r : Text) (ts : List Tag) → tag s ≡ got ts r → walk s ≡ ts ++ walk r
unfolding tags_from
step s r ts e = go s refl
  where
    go : (z : Text) → z ≡ s → walk s ≡ ts ++ walk r
    go [] q = let b = below_of e (tag_below s) in let l = ap (λ (x : Text). length x) q in absurd (omega arith)
    go (x ∷ z) q =
        let b = below_of e (tag_below s) in
        let l = ap (λ (y : Text). length y) q in
        rw (sym l, e, tags-enough (length z) (length r) r (omega arith) (omega arith))

pub stop : (s r : Text) → tag s ≡ bad r → walk s ≡ []
unfolding tags_from
stop [] r e = refl
stop (b ∷ s) r e = rw e

-- ---- Attributes that are read with the table are read the same without it.

pub plain_of : (left : List Attribute) (s : Text) (g : Given) (r : Text) → attribute left s ≡ got g r → plain s ≡ got g r
unfolding attribute plain
plain_of left s g r e =
    on (name s) (λ w x p. on (equals x) (λ _ u q. on (value u) (λ v z t. on-found (find left w) (λ a o. on_test (fits a.class v)
    (λ c. rw (p, q, t) (rw (p, q, t, o, c) at e)) (λ c. absurd (bad≢got (rw (p, q, t, o, c) at e))))
    (λ o. absurd (bad≢got (rw (p, q, t, o) at e)))) (λ z t. absurd (bad≢got (rw (p, q, t) at e)))) (λ u q. absurd (bad≢got (rw (p, q) at e))))
    (λ x p. absurd (bad≢got (rw p at e)))

pub givens-of : (n : ℕ) (left : List Attribute) (s : Text) (gs : List Given) (r : Text) → attributes n left s ≡ got gs r → givens n s ≡ got gs r
unfolding attributes givens
givens-of zero left s gs r e = absurd (bad≢got e)
givens-of (suc n) left s gs r e =
    on_test (starts (text ">") (skip s) || starts (text "/") (skip s))
    (λ c. on_test (some (λ a. required a.class) left) (λ d. absurd (bad≢got (rw (c, d) at e))) (λ d. rw c (rw (c, d) at e)))
    (λ c. on (space s) (λ _ u p. on (attribute left u) (λ g z q. on (attributes n (without g.name left) z)
    (λ hs y o. rw (c, p, plain_of left u g z q, givens-of n (without g.name left) z hs y o) (rw (c, p, q, o) at e))
    (λ y o. absurd (bad≢got (rw (c, p, q, o) at e)))) (λ z q. absurd (bad≢got (rw (c, p, q) at e)))) (λ u p. absurd (bad≢got (rw (c, p) at e))))

-- ---- The tags of an element, and of its content.

-- What the pass yields for an element, from the end of its name on: the attributes, the end of the tag, and the elements inside.
pub record Met (s : Text) (e : Inside) (r : Text) : Type 0 where
  pub ends : Text
  pub inside : Text
  pub given_is : givens (length s) s ≡ got e.given ends
  pub closed_is : closed ends ≡ got tt inside
  pub walked : walk inside ≡ tags_of e.elements ++ walk r

-- The "<" and the name of an element.
pub record Begun (s : Text) (w u : Text) : Type 0 where
  pub behind : Text
  pub sign : expect (text "<") s ≡ got tt behind
  pub named : name behind ≡ got w u
  pub no-comment : starts (text "<!") s ≡ false

pub begun : (left : List Child) (s : Text) (c : Opened) (u : Text) → opening left s ≡ got c u → Begun s c.name u
unfolding opening
begun left s c u e =
    on_test (starts (text "<!") s || starts (text "<?") s) (λ q. absurd (bad≢got (rw q at e)))
    (λ q. on (expect (text "<") s) (λ _ r p. on (name r) (λ w z o. on-found (next left w)
    (λ cs f.
    let k = rw (q, p, o, f) at e in
    record {
      behind = r;
      sign = p;
      named = rw (sym (ap (λ x. x.name) (got-value k)), sym (got-rest k)) o;
      no-comment = (or-none (starts (text "<!") s) (starts (text "<?") s) q).0;
    })
    (λ f. absurd (bad≢got (rw (q, p, o, f) at e)))) (λ z o. absurd (bad≢got (rw (q, p, o) at e)))) (λ r p. absurd (bad≢got (rw (q, p) at e))))

-- A start tag, and the content of the element.
entered : (s r : Text) (w : Text) (u : Text) (e : Inside) (z : Text) → misc (length s) s ≡ got tt r → starts (text "</") r ≡ false → Begun r w u → Met u e z
    → walk s ≡ record { name = w; given = e.given } ∷ tags_of e.elements ++ walk z
unfolding tag start_tag
entered s r w u e z m n b t =
    step s t.inside (record { name = w; given = e.given } ∷ []) (rw (m, n, b.sign, b.named, t.given_is, t.closed_is)) ∙ rw t.walked

-- An end tag.
ended : (s u v z y : Text) → misc (length s) s ≡ got tt u → starts (text "</") u ≡ true → name (drop 2 u) ≡ got v z → expect (text ">") (skip z) ≡ got tt y →
    walk s ≡ walk y
unfolding tag end_tag
ended s u v z y m c o p = step s y [] (rw (m, c, o, p))

-- A reader of elements for which this holds: the pass yields what it reads.
abbrev Kept : (Text → Text → Read Inside) → Type 0
Kept inner = (w s : Text) (e : Inside) (r : Text) → inner w s ≡ got e r → Met s e r

content-walk : (inner : Text → Text → Read Inside) → Kept inner → (n : ℕ) (w : Text) (left : List Child) (s : Text) (es : Elements) (r : Text)
    → content inner n w left s ≡ got es r → walk s ≡ tags_of es ++ walk r
unfolding content ending tags_of
content-walk inner keeps zero w left s es r e = absurd (bad≢got e)
content-walk inner keeps (suc n) w left s es r e =
    on (misc (length s) s) (λ _ u m. on_test (starts (text "</") u)
    (λ c. on (name (drop 2 u)) (λ v z o. on_test (same v w && may_end left) (λ f. on (expect (text ">") (skip z))
    (λ _ y p.
    let k = rw (m, c, o, f, p) at e in
    rw (sym (got-value k), sym (got-rest k)) (ended s u v z y m c o p))
    (λ y p. absurd (bad≢got (rw (m, c, o, f, p) at e)))) (λ f. absurd (bad≢got (rw (m, c, o, f) at e)))) (λ z o. absurd (bad≢got (rw (m, c, o) at e))))
    (λ c. on (opening left u) (λ k z o. on (inner k.name z) (λ i y p. on (content inner n w k.left y)
    (λ fs x q.
    let j = rw (m, c, o, p, q) at e in
    rw (
      sym (got-value j),
      sym (got-rest j),
      entered s u k.name z i y m c (begun left u k z o) (keeps k.name z i y p),
      content-walk inner keeps n w k.left y fs x q,
    )
    (sym (ap (λ (l : List Tag). record { name = k.name; given = i.given } ∷ l) (append_assoc (tags_of i.elements) (tags_of fs) (walk x)))))
    (λ x q. absurd (bad≢got (rw (m, c, o, p, q) at e)))) (λ y p. absurd (bad≢got (rw (m, c, o, p) at e)))) (λ z o. absurd (bad≢got (rw (m, c, o) at e)))))
    (λ u m. absurd (bad≢got (rw m at e)))

empty : (s : Text) (left : List Attribute) (gs : List Given) (z u : Text) → attributes (length s) left s ≡ got gs z → starts (text ">") z ≡ false →
    expect (text ">") (drop 1 z) ≡ got tt u
    → Met s (record { given = gs; elements = nothing }) u
unfolding tags_of
empty s left gs z u a c q = record {
  ends = z;
  inside = u;
  given_is = givens-of (length s) left s gs z a;
  closed_is = rw (c, q);
  walked = refl;
}

element-walk : (table : List Element) (d : ℕ) → Kept (element table d)
unfolding element
element-walk table zero w s e r h = absurd (bad≢got h)
element-walk table (suc d) w s e r h =
    on (attributes (length s) (row_in table w).attributes s) (λ gs z a. on_test (starts (text ">") z)
    (λ c. on (content (element table d) (length z) (row_in table w).name (row_in table w).children (drop 1 z))
    (λ es u q.
    let k = rw (a, c, q) at h in
    rw (sym (got-value k), sym (got-rest k))
    (record {
      ends = z;
      inside = drop 1 z;
      given_is = givens-of (length s) (row_in table w).attributes s gs z a;
      closed_is = rw c;
      walked = content-walk (element table d) (element-walk table d) (length z) (row_in table w).name (row_in table w).children (drop 1 z) es u q;
    }))
    (λ u q. absurd (bad≢got (rw (a, c, q) at h))))
    (λ c. on (expect (text ">") (drop 1 z)) (λ _ u q. on_test (may_end (row_in table w).children)
    (λ f.
    let k = rw (a, c, q, f) at h in
    rw (sym (got-value k), sym (got-rest k)) (empty s (row_in table w).attributes gs z u a c q))
    (λ f. absurd (bad≢got (rw (a, c, q, f) at h)))) (λ u q. absurd (bad≢got (rw (a, c, q) at h)))))
    (λ z a. absurd (bad≢got (rw a at h)))

-- ---- The document.

pub starts_more : (c : ℕ) (w s : Text) → starts (c ∷ []) s ≡ false → starts (c ∷ w) s ≡ false
unfolding starts
starts_more c w [] e = refl
starts_more c w (b ∷ s) e = on_test (eqb c b) (λ q. absurd (true≢false (rw q at e))) (λ q. rw q)

-- At the start of an element there is no white space or comment to skip.
pub misc-here : (n : ℕ) (s r : Text) → expect (text "<") s ≡ got tt r → starts (text "<!") s ≡ false → misc n s ≡ got tt s
unfolding misc expect starts behind text
misc-here zero s r e f = refl
misc-here (suc n) [] r e f = refl
misc-here (suc n) (b ∷ s) r e f = on_test (eqb 60 b) (λ q. go b (eqb-true 60 b q) f) (λ q. absurd (bad≢got (rw q at e)))
  where
    go : (b : ℕ) → 60 ≡ b → starts (text "<!") (b ∷ s) ≡ false → misc (suc n) (b ∷ s) ≡ got tt (b ∷ s)
    go b q f = rw (sym q) (rw (starts_more 33 (45 ∷ 45 ∷ []) s (rw (sym q) at f)))

-- The start of an element is no end tag.
no-end-tag : (s r w u : Text) → expect (text "<") s ≡ got tt r → name r ≡ got w u → starts (text "</") s ≡ false
unfolding expect starts text word
no-end-tag [] r w u e n = refl
no-end-tag (b ∷ []) r w u e n = on_test (eqb 60 b) (λ q. rw q) (λ q. rw q)
no-end-tag (b ∷ c ∷ s) r w u e n =
    on_test (eqb 60 b) (λ q. on_test (eqb 47 c) (λ o. absurd (bad≢got (rw (sym (eqb-true 47 c o)) at (rw (sym (got-rest (rw q at e))) at n)))) (λ o. rw (q, o)))
    (λ q. rw q)

nothing_left : (s : Text) → misc (length s) s ≡ got tt [] → walk s ≡ []
unfolding tag starts text start_tag expect
nothing_left s e = stop s [] (rw e)

pub same_end : (y : Text) → same y [] ≡ true → y ≡ []
unfolding same
same_end [] e = refl
same_end (b ∷ y) e = absurd (false≢true e)

-- The start tags of an accepted text are its elements, in the order of the text.
pub tags-are : (all : Bool) (s : Text) (es : Elements) (r : Text) → document_in all s ≡ got es r → tags s ≡ tags_of es
unfolding document_in tags tags_of
tags-are all s es r e =
    on (prolog s) (λ _ u p. on (opening (one "policy_object" ∷ []) u) (λ c z o. on (element (elements_of all) DEPTH c.name z) (λ i y h. on (misc (length y) y)
    (λ _ x
    m. on_test (same x [])
    (λ f.
    let k = rw (p, o, h, m, f) at e in
    let b = begun (one "policy_object" ∷ []) u c z o in
    rw (
      p,
      sym (got-value k),
      entered u u c.name z i y (misc-here (length u) u b.behind b.sign b.no-comment) (no-end-tag u b.behind c.name z b.sign b.named) b
          (element-walk (elements_of all) DEPTH c.name z i y h),
      nothing_left y (m ∙ ap (got tt) (same_end x f)),
    )
    )
    (λ f. absurd (bad≢got (rw (p, o, h, m, f) at e)))) (λ x m. absurd (bad≢got (rw (p, o, h, m) at e)))) (λ y h. absurd (bad≢got (rw (p, o, h) at e))))
    (λ z o. absurd (bad≢got (rw (p, o) at e)))) (λ u p. absurd (bad≢got (rw p at e)))
