-- Going from "<" to "<" through an accepted text yields its elements, each once, in the order of the text: there is no "<" between the name of a tag and the
-- next tag.
use mathlib.Core.Path.{◌≡◌, refl, sym, ap, ◌∙◌}
use mathlib.Core.List.{List, [], ◌∷◌, ◌++◌, append_assoc}
use mathlib.Core.Bool.{Bool, true, false, ◌&&◌, ◌||◌, false≢true}
use Prim.Native.Nat.{ℕ, zero, suc, ◌≤◌}
use native.Mathlib.Omega.{arith}
use lib.Dec.{eqb}
use lib.ListN.{length, drop}
use borrow.Author.Tests.{eqb-true}
use Rattle.paper_opl.specs.Reading.{Text, Read, text, same, behind, word, starts, expect, white, skip, space, in_name, name, in_value, up_to, value, equals, misc}
use Rattle.paper_opl.specs.Reading.Read.{got, bad}
use Rattle.paper_opl.specs.Elements.{Attribute, Child, Element, elements_of, row_in, one, may_end}
use Rattle.paper_opl.specs.Tree.{Given, Elements, Tag as Tagged, tags_of, attributes, opening, ending, Inside, content, element, prolog, DEPTH, document_in}
use Rattle.paper_opl.specs.Tree.Elements.{nothing}
use Rattle.paper_opl.specs.Walk.{plain, givens, closed, tags}
use Rattle.paper_opl.proofs.Inversion.{on, on_test, bad≢got, got-rest, got-value}
use Rattle.paper_opl.proofs.Counts.{below, below_of, behind-le, word-strict, one_below, misc-below, misc-enough}
use Rattle.paper_opl.proofs.Tags.{Begun, begun, same_end, tags-are, givens-of, misc-here}
use Rattle.opl_text.proofs.Laws.{misc-skip}
use Rattle.opl_tags.specs.Tags.{collected, shut, next_tag, next_tags}
use Rattle.opl_tags.proofs.AttributeLaws.{collected-is}

-- ---- The next tag. A tag has at least one byte, so every count from the length of the text on is enough.

pub next-below : (s : Text) → below (length s) (next_tag s)
unfolding next_tag text
next-below s =
    on (misc (length (behind shut s)) (behind shut s)) (λ _ r p. on (expect (60 ∷ []) r) (λ _ u q.
    let h = behind-le shut s in
    let i = below_of p (misc-below (length (behind shut s)) (behind shut s)) in
    let j = below_of q (one_below 60 r) in
    on_test (starts (47 ∷ []) u) (λ c. rw (p, q, c) (omega arith)) (λ c. on (name u) (λ w z t.
    let k = below_of t (word-strict in_name u) in
    rw (p, q, c, t) (omega arith)) (λ z t. rw (p, q, c, t) tt))) (λ u q. rw (p, q) tt)) (λ r p. rw p tt)

none-at-end : next_tag [] ≡ bad []
unfolding next_tag misc behind starts text expect
none-at-end = refl

next-enough : (n m : ℕ) (s : Text) → length s ≤ n → length s ≤ m → next_tags n s ≡ next_tags m s
unfolding next_tags
next-enough zero zero s h l = refl
next-enough zero (suc m) [] h l = rw none-at-end
next-enough zero (suc m) (b ∷ s) h l = absurd (omega arith)
next-enough (suc n) zero [] h l = rw none-at-end
next-enough (suc n) zero (b ∷ s) h l = absurd (omega arith)
next-enough (suc n) (suc m) s h l =
    on (next_tag s) (λ ts r e. let b = below_of e (next-below s) in rw (e, next-enough n m r (omega arith) (omega arith))) (λ r e. rw e)

-- The tags of a text.
abbrev pub walk : Text → List Tagged
walk s = next_tags (length s) s

pub step : (s r : Text) (ts : List Tagged) → next_tag s ≡ got ts r → walk s ≡ ts ++ walk r
unfolding next_tags
step s r ts e = go s refl
  where
    go : (z : Text) → z ≡ s → walk s ≡ ts ++ walk r
    go [] q = let b = below_of e (next-below s) in let l = ap (λ (x : Text). length x) q in absurd (omega arith)
    go (x ∷ z) q =
        let b = below_of e (next-below s) in
        let l = ap (λ (y : Text). length y) q in
        rw (sym l, e, next-enough (length z) (length r) r (omega arith) (omega arith))

pub stop : (s r : Text) → next_tag s ≡ bad r → walk s ≡ []
unfolding next_tags
stop [] r e = refl
stop (b ∷ s) r e = rw e

-- ---- The text before the next "<" does not matter.

-- Two texts that are equal from the next "<" on.
abbrev Same : Text → Text → Type 0
Same s r = behind shut s ≡ behind shut r

walk_same : (s r : Text) → Same s r → walk s ≡ walk r
unfolding next_tag
walk_same s r e = on (next_tag s) (λ ts z p. step s z ts p ∙ sym (step r z ts (sym same_tag ∙ p))) (λ z p. stop s z p ∙ sym (stop r z (sym same_tag ∙ p)))
  where
    same_tag : next_tag s ≡ next_tag r
    same_tag = rw e

over : (p : ℕ → Bool) → ((b : ℕ) → p b ≡ true → shut b ≡ true) → (s : Text) → Same (behind p s) s
unfolding behind
over p h [] = refl
over p h (b ∷ s) = on_test (p b) (λ q. rw (q, h b q) (over p h s)) (λ q. rw q)

white-shut : (b : ℕ) → white b ≡ true → shut b ≡ true
white-shut b h = on_test (eqb b 60) (λ q. absurd (false≢true (rw (eqb-true b 60 q) at h))) (λ q. rw q)

name-shut : (b : ℕ) → in_name b ≡ true → shut b ≡ true
name-shut b h = on_test (eqb b 60) (λ q. absurd (false≢true (rw (eqb-true b 60 q) at h))) (λ q. rw q)

value-shut : (q b : ℕ) → in_value q b ≡ true → shut b ≡ true
value-shut q b h = on_test (eqb b 60) (λ e. on_test (eqb b q) (λ f. absurd (false≢true (rw f at h))) (λ f. absurd (false≢true (rw (f, e) at h)))) (λ e. rw e)

over-white : (s : Text) → Same (skip s) s
over-white s = over white white-shut s

over_word : (p : ℕ → Bool) → ((b : ℕ) → p b ≡ true → shut b ≡ true) → (s w r : Text) → word p s ≡ got w r → Same s r
unfolding word behind
over_word p h [] w r e = absurd (bad≢got e)
over_word p h (b ∷ s) w r e =
    on_test (p b) (λ q. let k : behind p s ≡ r = got-rest (rw q at e) in rw (h b q) (sym (over p h s) ∙ ap (behind shut) k)) (λ q. absurd (bad≢got (rw q at e)))

over-one : (c : ℕ) → shut c ≡ true → (s r : Text) → expect (c ∷ []) s ≡ got tt r → Same s r
unfolding expect behind
over-one c h [] r e = absurd (bad≢got e)
over-one c h (b ∷ s) r e =
    on_test (eqb c b) (λ q. let k : s ≡ r = got-rest (rw q at e) in rw (sym (eqb-true c b q), h) (ap (behind shut) k)) (λ q. absurd (bad≢got (rw q at e)))

over-starts : (c : ℕ) → shut c ≡ true → (s : Text) → starts (c ∷ []) s ≡ true → Same s (drop 1 s)
unfolding starts behind
over-starts c h [] e = absurd (false≢true e)
over-starts c h (b ∷ s) e = on_test (eqb c b) (λ q. rw (sym (eqb-true c b q), h)) (λ q. absurd (false≢true (rw q at e)))

over-equals : (s r : Text) → equals s ≡ got tt r → Same s r
unfolding equals text
over-equals s r e =
    on (expect (61 ∷ []) (skip s)) (λ _ u p.
    let k : skip u ≡ r = got-rest (rw p at e) in
    sym (over-white s) ∙ over-one 61 refl (skip s) u p ∙ sym (over-white u) ∙ ap (behind shut) k) (λ u p. absurd (bad≢got (rw p at e)))

quote-shut : (b : ℕ) → eqb b 34 || eqb b 39 ≡ true → shut b ≡ true
quote-shut b h = on_test (eqb b 60) (λ q. absurd (false≢true (rw (eqb-true b 60 q) at h))) (λ q. rw q)

over-value : (s v r : Text) → value s ≡ got v r → Same s r
unfolding value up_to behind
over-value [] v r e = absurd (bad≢got e)
over-value (b ∷ s) v r e =
    on_test (eqb b 34 || eqb b 39)
    (λ c. on (expect (b ∷ []) (behind (in_value b) s)) (λ _ u p.
    let k : u ≡ r = got-rest (rw (c, p) at e) in
    rw (quote-shut b c) (sym (over (in_value b) (value-shut b) s) ∙ over-one b (quote-shut b c) (behind (in_value b) s) u p ∙ ap (behind shut) k))
    (λ u p. absurd (bad≢got (rw (c, p) at e)))) (λ c. absurd (bad≢got (rw c at e)))

over_plain : (s : Text) (g : Given) (r : Text) → plain s ≡ got g r → Same s r
unfolding plain
over_plain s g r e =
    on (name s) (λ w x p. on (equals x) (λ _ u q. on (value u) (λ v z t.
    let k : z ≡ r = got-rest (rw (p, q, t) at e) in
    over_word in_name name-shut s w x p ∙ over-equals x u q ∙ over-value u v z t ∙ ap (behind shut) k)
    (λ z t. absurd (bad≢got (rw (p, q, t) at e)))) (λ u q. absurd (bad≢got (rw (p, q) at e)))) (λ x p. absurd (bad≢got (rw p at e)))

over-space : (s r : Text) → space s ≡ got tt r → Same s r
over-space s r e =
    on (word white s) (λ w u p. let k : u ≡ r = got-rest (rw p at e) in over_word white white-shut s w u p ∙ ap (behind shut) k)
    (λ u p. absurd (bad≢got (rw p at e)))

-- The attributes of a start tag, and its end.
over-givens : (n : ℕ) (s : Text) (gs : List Given) (r : Text) → givens n s ≡ got gs r → Same s r × (starts (text ">") r || starts (text "/") r ≡ true)
unfolding givens
over-givens zero s gs r e = absurd (bad≢got e)
over-givens (suc n) s gs r e =
    on_test (starts (text ">") (skip s) || starts (text "/") (skip s))
    (λ c. let k : skip s ≡ r = got-rest (rw c at e) in (sym (over-white s) ∙ ap (behind shut) k, rw (sym k) c))
    (λ c. on (space s) (λ _ u p. on (plain u) (λ g z q. on (givens n z) (λ hs y t.
    let k : y ≡ r = got-rest (rw (c, p, q, t) at e) in
    let i = over-givens n z hs y t in
    (over-space s u p ∙ over_plain u g z q ∙ i.0 ∙ ap (behind shut) k, rw (sym k) i.1))
    (λ y t. absurd (bad≢got (rw (c, p, q, t) at e)))) (λ z q. absurd (bad≢got (rw (c, p, q) at e)))) (λ u p. absurd (bad≢got (rw (c, p) at e))))

over_closed : (s r : Text) → starts (text ">") s || starts (text "/") s ≡ true → closed s ≡ got tt r → Same s r
unfolding text
over_closed s r h e =
    on_test (starts (62 ∷ []) s) (λ c. let k : drop 1 s ≡ r = got-rest (rw c at e) in over-starts 62 refl s c ∙ ap (behind shut) k)
    (λ c. over-starts 47 refl s (rw c at h) ∙ over-one 62 refl (drop 1 s) r (rw c at e))

-- ---- White space and comments before a tag, or before the end.

-- The text begins with "<" or is empty.
opens : Text → Bool
opens [] = true
opens (b ∷ s) = eqb b 60

at_open : (s : Text) → opens s ≡ true → behind shut s ≡ s
unfolding opens behind
at_open [] h = refl
at_open (b ∷ s) h = rw h

starts-open : (w s : Text) → starts (60 ∷ w) s ≡ true → opens s ≡ true
unfolding starts opens
starts-open w [] e = refl
starts-open w (b ∷ s) e = on_test (eqb 60 b) (λ q. rw (sym (eqb-true 60 b q))) (λ q. absurd (false≢true (rw q at e)))

expect-open : (s r : Text) → expect (60 ∷ []) s ≡ got tt r → opens s ≡ true
unfolding expect opens
expect-open [] r e = refl
expect-open (b ∷ s) r e = on_test (eqb 60 b) (λ q. rw (sym (eqb-true 60 b q))) (λ q. absurd (bad≢got (rw q at e)))

skip-open : (n : ℕ) (s r : Text) → misc (suc n) s ≡ got tt r → opens r ≡ true → opens (skip s) ≡ true
unfolding misc text
skip-open n s r e h =
    on_test (starts (60 ∷ 33 ∷ 45 ∷ 45 ∷ []) (skip s)) (λ c. starts-open (33 ∷ 45 ∷ 45 ∷ []) (skip s) c)
    (λ c. let k : skip s ≡ r = got-rest (rw c at e) in rw k h)

misc-open : (s r : Text) → misc (length s) s ≡ got tt r → opens r ≡ true → misc (length (behind shut s)) (behind shut s) ≡ got tt r
unfolding behind
misc-open s r e h = go s refl
  where
    go : (z : Text) → z ≡ s → misc (length (behind shut s)) (behind shut s) ≡ got tt r
    go [] q = rw (sym q) (rw (sym q) at e)
    go (b ∷ z) q =
        let l : length s ≡ suc (length z) = ap (λ (x : Text). length x) (sym q) in
        let o : behind shut s ≡ skip s = sym (over-white s) ∙ at_open (skip s) (skip-open (length z) s r (rw l at e) h) in
        let d = behind-le white s in
        rw o (misc-enough (length (skip s)) (length s) (skip s) (omega arith) (omega arith) ∙ sym (misc-skip (length s) s (omega arith)) ∙ e)

-- ---- The tags of an element, and of its content.

-- What the pass yields for an element, from the end of its name on.
record Met (s : Text) (e : Inside) (r : Text) : Type 0 where
  given_is : collected (length s) s ≡ e.given
  walked : walk s ≡ tags_of e.elements ++ walk r

no_slash : (s w r : Text) → name s ≡ got w r → starts (47 ∷ []) s ≡ false
unfolding word starts
no_slash [] w r e = refl
no_slash (b ∷ s) w r e = on_test (eqb 47 b) (λ q. absurd (bad≢got (rw (sym (eqb-true 47 b q)) at e))) (λ q. rw q)

entered : (s u w z : Text) (e : Inside) (r : Text) → misc (length s) s ≡ got tt u → Begun u w z → Met z e r
    → walk s ≡ record { name = w; given = e.given } ∷ tags_of e.elements ++ walk r
unfolding next_tag text
entered s u w z e r m b t =
    step s z (record { name = w; given = collected (length z) z } ∷ [])
    (rw (misc-open s u m (expect-open u b.behind b.sign), b.sign, no_slash b.behind w z b.named, b.named))
    ∙ rw (t.given_is, t.walked)

ended : (s u v z y : Text) → misc (length s) s ≡ got tt u → starts (text "</") u ≡ true → name (drop 2 u) ≡ got v z → expect (text ">") (skip z) ≡ got tt y →
    walk s ≡ walk y
unfolding starts expect next_tag text behind
ended s u v z y m c o p = go u refl m c o
  where
    go : (x : Text) → x ≡ u → misc (length s) s ≡ got tt x → starts (60 ∷ 47 ∷ []) x ≡ true → name (drop 2 x) ≡ got v z → walk s ≡ walk y
    go [] q m c o = absurd (false≢true c)
    go (a ∷ []) q m c o = on_test (eqb 60 a) (λ f. absurd (false≢true (rw f at c))) (λ f. absurd (false≢true (rw f at c)))
    go (a ∷ b ∷ x) q m c o =
        on_test (eqb 60 a) (λ f. on_test (eqb 47 b)
        (λ g.
        let k : Same (b ∷ x) y = rw (sym (eqb-true 47 b g)) (over_word in_name name-shut x v z o ∙ sym (over-white z) ∙ over-one 62 refl (skip z) y p) in
        step s (b ∷ x) [] (rw (misc-open s (a ∷ b ∷ x) m (starts-open (47 ∷ []) (a ∷ b ∷ x) c), f, g)) ∙ walk_same (b ∷ x) y k)
        (λ g. absurd (false≢true (rw (f, g) at c)))) (λ f. absurd (false≢true (rw f at c)))

-- A reader of elements for which this holds: the pass yields the attributes and the elements that it reads.
abbrev Kept : (Text → Text → Read Inside) → Type 0
Kept inner = (w s : Text) (e : Inside) (r : Text) → inner w s ≡ got e r → Met s e r

content-walk : (inner : Text → Text → Read Inside) → Kept inner → (n : ℕ) (w : Text) (left : List Child) (s : Text) (es : Elements) (r : Text)
    → content inner n w left s ≡ got es r → walk s ≡ tags_of es ++ walk r
unfolding content ending tags_of
content-walk inner keeps zero w left s es r e = absurd (bad≢got e)
content-walk inner keeps (suc n) w left s es r e =
    on (misc (length s) s) (λ _ u m. on_test (starts (text "</") u)
    (λ c. on (name (drop 2 u)) (λ v z o. on_test (same v w && may_end left) (λ f. on (expect (text ">") (skip z))
    (λ _ y p.
    let k = rw (m, c, o, f, p) at e in
    rw (sym (got-value k), sym (got-rest k)) (ended s u v z y m c o p))
    (λ y p. absurd (bad≢got (rw (m, c, o, f, p) at e)))) (λ f. absurd (bad≢got (rw (m, c, o, f) at e)))) (λ z o. absurd (bad≢got (rw (m, c, o) at e))))
    (λ c. on (opening left u) (λ k z o. on (inner k.name z) (λ i y p. on (content inner n w k.left y)
    (λ fs x q.
    let j = rw (m, c, o, p, q) at e in
    rw (
      sym (got-value j),
      sym (got-rest j),
      entered s u k.name z i y m (begun left u k z o) (keeps k.name z i y p),
      content-walk inner keeps n w k.left y fs x q,
    )
    (sym (ap (λ (l : List Tagged). record { name = k.name; given = i.given } ∷ l) (append_assoc (tags_of i.elements) (tags_of fs) (walk x)))))
    (λ x q. absurd (bad≢got (rw (m, c, o, p, q) at e)))) (λ y p. absurd (bad≢got (rw (m, c, o, p) at e)))) (λ z o. absurd (bad≢got (rw (m, c, o) at e)))))
    (λ u m. absurd (bad≢got (rw m at e)))

-- After the name: the attributes, the end of the start tag, and the content of the element.
met : (s : Text) (left : List Attribute) (gs : List Given) (z y : Text) (es : Elements) (r : Text) → attributes (length s) left s ≡ got gs z →
    closed z ≡ got tt y → walk y ≡ tags_of es ++ walk r
    → Met s (record { given = gs; elements = es }) r
met s left gs z y es r a c w =
    let g = givens-of (length s) left s gs z a in
    let o = over-givens (length s) s gs z g in
    record { given_is = collected-is (length s) s gs z g; walked = walk_same s y (o.0 ∙ over_closed z y o.1 c) ∙ w }

element-walk : (table : List Element) (d : ℕ) → Kept (element table d)
unfolding element tags_of
element-walk table zero w s e r h = absurd (bad≢got h)
element-walk table (suc d) w s e r h =
    on (attributes (length s) (row_in table w).attributes s) (λ gs z a. on_test (starts (text ">") z)
    (λ c. on (content (element table d) (length z) (row_in table w).name (row_in table w).children (drop 1 z))
    (λ es u q.
    let k = rw (a, c, q) at h in
    rw (sym (got-value k), sym (got-rest k))
    (met s (row_in table w).attributes gs z (drop 1 z) es u a (rw c)
    (content-walk (element table d) (element-walk table d) (length z) (row_in table w).name (row_in table w).children (drop 1 z) es u q)))
    (λ u q. absurd (bad≢got (rw (a, c, q) at h))))
    (λ c. on (expect (text ">") (drop 1 z)) (λ _ u q. on_test (may_end (row_in table w).children)
    (λ f.
    let k = rw (a, c, q, f) at h in
    rw (sym (got-value k), sym (got-rest k)) (met s (row_in table w).attributes gs z u nothing u a (rw (c, q)) refl))
    (λ f. absurd (bad≢got (rw (a, c, q, f) at h)))) (λ u q. absurd (bad≢got (rw (a, c, q) at h)))))
    (λ z a. absurd (bad≢got (rw a at h)))

-- ---- The document.

nothing_left : (s : Text) → misc (length s) s ≡ got tt [] → walk s ≡ []
unfolding next_tag text expect opens
nothing_left s e = stop s [] (rw (misc-open s [] e refl))

-- From the end of the prolog on.
pub tags-met : (all : Bool) (s : Text) (es : Elements) (r u : Text) → document_in all s ≡ got es r → prolog s ≡ got tt u → tags s ≡ walk u
unfolding document_in tags_of
tags-met all s es r u e p =
    tags-are all s es r e ∙
    on (opening (one "policy_object" ∷ []) u) (λ c z o. on (element (elements_of all) DEPTH c.name z) (λ i y h. on (misc (length y) y) (λ _ x m. on_test
    (same x [])
    (λ f.
    let k = rw (p, o, h, m, f) at e in
    let b = begun (one "policy_object" ∷ []) u c z o in
    rw (
      sym (got-value k),
      entered u u c.name z i y (misc-here (length u) u b.behind b.sign b.no-comment) b (element-walk (elements_of all) DEPTH c.name z i y h),
      nothing_left y (m ∙ ap (got tt) (same_end x f)),
    )
    )
    (λ f. absurd (bad≢got (rw (p, o, h, m, f) at e)))) (λ x m. absurd (bad≢got (rw (p, o, h, m) at e)))) (λ y h. absurd (bad≢got (rw (p, o, h) at e))))
    (λ z o. absurd (bad≢got (rw (p, o) at e)))
