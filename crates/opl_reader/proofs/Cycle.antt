-- The steps of `content` and `element`, which call each other: what each branch of the code returns is what the definitions read. Nothing here depends on
-- what is in the table of elements.
use mathlib.Core.Path.{◌≡◌, refl, sym, ap, ◌∙◌, subst}
use mathlib.Core.List.{List, [], ◌∷◌}
use mathlib.Core.Bool.{Bool, true, false, cond, false≢true, ◌&&◌}
use Prim.Native.Nat.{ℕ, zero, suc, ◌+◌, ◌-◌, ◌/◌, ◌%◌, ◌<◌, ◌≤◌}
use native.Mathlib.Omega.{arith}
use lib.ListN.{length, drop, length-drop, drop_of_length-le}
use lib.Seq.{drop-drop}
use Rattle.std.specs.Prelude.{Ok, Err}
use Rattle.paper_opl.specs.Reading.{Text, Read, after, text, starts, expect, misc}
use Rattle.paper_opl.specs.Reading.Read.{got, bad}
use Rattle.paper_opl.specs.Elements.{elements_of, Child, Element, row_in, may_end}
use Rattle.paper_opl.specs.Tree.{Opened, Inside, Given, Elements, attributes, opening, ending, content, element, body}
use Rattle.paper_opl.specs.Tree.Elements.{nothing, node}
use Rattle.paper_opl.proofs.Inversion.{bad≢got, got-rest, got-value}
use Rattle.paper_opl.proofs.Conforms.{row-name}
use Rattle.paper_opl.proofs.Counts.{below, attributes-below, misc-below, opening-below, element-below, content-enough, ready, attributes-ready}
use Rattle.opl_text.specs.declared.BadByte.{BadByte}
use Rattle.opl_text.specs.Steps.{Reads, step_of}
use Rattle.opl_text.proofs.Laws.{bad-same, starts-next}
use Rattle.opl_table.specs.Numbers.{name_of, left_of}
use Rattle.opl_reader.specs.declared.Start.{Start}
use Rattle.opl_reader.specs.Grammar.{forget, Opens, tagged, start_in, element_in, content_in, wider_by, deep_by}
use Rattle.opl_reader.proofs.Chain.{on-got, on-bad, forget-on, one_bad, one_got, one_room}

-- ---- Readings without their values (`forget`).

below-got : {A : Type 0} (x : Read A) (v : A) (r : Text) (n : ℕ) → below n x → x ≡ got v r → length r < n
below-got x v r n b e = subst (λ y. below n y) e b

below-forget : {A : Type 0} (x : Read A) (r : Text) (n : ℕ) → below n x → forget x ≡ got tt r → length r < n
below-forget (got v u) r n b e = subst (λ (y : Text). length y < n) (got-rest e) b
below-forget (bad u) r n b e = absurd (bad≢got e)

both : (x y : Bool) → x && y ≡ true → (x ≡ true) × (y ≡ true)
both true y e = (refl, e)
both false y e = absurd (false≢true e)

-- ---- A start tag and the rest of its element.

-- The attributes do not change where the rest of the element ends or is refused.
pub body-forgets : (inner : Text → Text → Read Inside) (row : Element) (gs : List Given) (s : Text) →
    forget (body inner row gs s) ≡ forget (body inner row [] s)
body-forgets inner row gs s = go (starts (text ">") s)
  where
    slash : (x : Read (Unit {0})) (b : Bool) →
        forget {A = Inside} (after x (λ _ u. cond b (got (record { given = gs; elements = nothing }) u) (bad s))) ≡
        forget {A = Inside} (after x (λ _ u. cond b (got (record { given = []; elements = nothing }) u) (bad s)))
    slash (got v u) true = refl
    slash (got v u) false = refl
    slash (bad u) b = refl

    go : (b : Bool) →
        forget {A = Inside} (cond b
        (after (content inner (length s) row.name row.children (drop 1 s)) (λ es u. got (record { given = gs; elements = es }) u))
        (after (expect (text ">") (drop 1 s)) (λ _ u. cond (may_end row.children) (got (record { given = gs; elements = nothing }) u) (bad s))))
        ≡ forget {A = Inside} (cond b
        (after (content inner (length s) row.name row.children (drop 1 s)) (λ es u. got (record { given = []; elements = es }) u))
        (after (expect (text ">") (drop 1 s)) (λ _ u. cond (may_end row.children) (got (record { given = []; elements = nothing }) u) (bad s))))
    go true =
        forget-on (content inner (length s) row.name row.children (drop 1 s)) (λ es. record { given = gs; elements = es })
        ∙ sym (forget-on (content inner (length s) row.name row.children (drop 1 s)) (λ es. record { given = []; elements = es }))
    go false = slash (expect (text ">") (drop 1 s)) (may_end row.children)

-- ---- The number that the code passes for depth and call, one element further in.

pub inner_reads : (n id : ℕ) (s : Text) → 0 < deep_by n → element_in (wider_by (n - 2)) (deep_by (n - 2)) id s ≡ element_in (wider_by n) (deep_by n - 1) id s
inner_reads n id s h =
    let a : (n - 2) % 2 ≡ n % 2 = omega arith in
    let b : (n - 2) / 2 ≡ n / 2 - 1 = omega arith in
    rw (a, b)

-- For the table of either call; d is the depth that is still allowed.
module _ (all : Bool) where
  tag-stops : (d : ℕ) (c : Opened) (u y : Text) → tagged all d c u ≡ bad y → (f : Inside → Text → Read Elements) →
      forget (after (element (elements_of all) d c.name u) f) ≡ bad y
  unfolding tagged element
  tag-stops zero c u y e f = ap bad (bad-same e)
  tag-stops (suc d) c u y e f = go (attributes (length u) (row_in (elements_of all) c.name).attributes u) e
    where
      go : (x : Read (List Given)) → after x (λ _ r. got c r) ≡ bad y →
          forget (after (after x (λ gs r. body (element (elements_of all) d) (row_in (elements_of all) c.name) gs r)) f) ≡ bad y
      go (got gs r) e = absurd (bad≢got (sym e))
      go (bad r) e = ap bad (bad-same e)

  start-bad : (d : ℕ) (left : List Child) (t y : Text) → start_in all d left t ≡ bad y → (f : Opened → Inside → Text → Read Elements)
      → forget (after (opening left t) (λ c u. after (element (elements_of all) d c.name u) (λ e z. f c e z))) ≡ bad y
  unfolding start_in
  start-bad d left t y e f = go (opening left t) e
    where
      go : (x : Read Opened) → after x (λ c r. tagged all d c r) ≡ bad y →
          forget (after x (λ c u. after (element (elements_of all) d c.name u) (λ e z. f c e z))) ≡ bad y
      go (got c u) e = tag-stops d c u y e (λ e z. f c e z)
      go (bad u) e = ap bad (bad-same e)

  -- A start tag that was read: the text after its name, the depth that was allowed, and what reading its element gives.
  record Begun (d : ℕ) (left : List Child) (t : Text) (c : Opened) (z : Text) : Type 0 where
    behind : Text
    opened-is : opening left t ≡ got c behind
    deep : 0 < d
    body_is : forget (element (elements_of all) d c.name behind) ≡ forget (body (element (elements_of all) (d - 1)) (row_in (elements_of all) c.name) [] z)
    ready-is : 0 < length z
    shorter-is : length z < suc (length behind)

  tag-begun : (d : ℕ) (left : List Child) (t : Text) (c : Opened) (u z : Text) (gs : List Given) → opening left t ≡ got c u
      → attributes (length u) (row_in (elements_of all) c.name).attributes u ≡ got gs z → Begun (suc d) left t c z
  unfolding element
  tag-begun d left t c u z gs e q =
      let n : suc d - 1 ≡ d = omega arith in
      record {
        behind = u;
        opened-is = e;
        deep = omega arith;
        body_is = rw (q, n) (body-forgets (element (elements_of all) d) (row_in (elements_of all) c.name) gs z);
        ready-is = subst (λ (x : Read (List Given)). ready x) q (attributes-ready (length u) (row_in (elements_of all) c.name).attributes u);
        shorter-is =
            below-got (attributes (length u) (row_in (elements_of all) c.name).attributes u) gs z (suc (length u))
            (attributes-below (length u) (row_in (elements_of all) c.name).attributes u) q;
      }

  nothing-deep : (b : Opened) (u z : Text) (c : Opened) → tagged all 0 b u ≡ got c z → ⊥
  unfolding tagged
  nothing-deep b u z c e = bad≢got e

  attributed : (d : ℕ) (b : Opened) (u z : Text) (c : Opened) (left : List Child) (t : Text) → opening left t ≡ got b u → tagged all (suc d) b u ≡ got c z →
      Begun (suc d) left t c z
  unfolding tagged
  attributed d b u z c left t o e = go (attributes (length u) (row_in (elements_of all) b.name).attributes u) refl e
    where
      go : (x : Read (List Given)) → attributes (length u) (row_in (elements_of all) b.name).attributes u ≡ x → after x (λ _ r. got b r) ≡ got c z →
          Begun (suc d) left t c z
      go (got gs r) q e =
          let p : b ≡ c = got-value e in
          let w : r ≡ z = got-rest e in
          subst (λ (v : Opened). Begun (suc d) left t v z) p (subst (λ (v : Text). Begun (suc d) left t b v) w (tag-begun d left t b u r gs o q))
      go (bad r) q e = absurd (bad≢got e)

  begun : (d : ℕ) (left : List Child) (t : Text) (c : Opened) (z : Text) → start_in all d left t ≡ got c z → Begun d left t c z
  unfolding start_in
  begun d left t c z e = go (opening left t) refl e
    where
      at_once : (d : ℕ) (b : Opened) (u : Text) → opening left t ≡ got b u → tagged all d b u ≡ got c z → Begun d left t c z
      at_once zero b u o e = absurd (nothing-deep b u z c e)
      at_once (suc d) b u o e = attributed d b u z c left t o e

      go : (x : Read Opened) → opening left t ≡ x → after x (λ c r. tagged all d c r) ≡ got c z → Begun d left t c z
      go (got b u) o e = at_once d b u o e
      go (bad u) o e = absurd (bad≢got e)

  pub start_ready : (d : ℕ) (left : List Child) (t : Text) (c : Opened) (z : Text) → start_in all d left t ≡ got c z → 0 < length z
  start_ready d left t c z e = (begun d left t c z e).ready-is

-- ---- Content. n is the code's number for depth and call.

-- An element at index k, in content that is read from i on: some depth is left, and k is past i and before the end of the text.
pub record Falls (s : Text) (n i k : ℕ) : Type 0 where
  pub deep : 2 ≤ n
  pub room : k + 1 ≤ length s
  pub past : i < k

-- Content that is read on from k, after such an element.
pub record Onward (s : Text) (n id l i more k : ℕ) : Type 0 where
  pub inside : k ≤ length s
  pub past : i < k
  pub rest : content_in (wider_by n) (deep_by n) id l (drop i s) ≡ content_in (wider_by n) (deep_by n) id more (drop k s)

-- What a turn reads after white space and comments.
turn : Bool → ℕ → ℕ → ℕ → ℕ → Text → Read Elements
turn all d id l n r =
    cond (starts (text "</") r) (ending (name_of id) (left_of l) r)
    (after (opening (left_of l) r) (λ c u. after (element (elements_of all) d c.name u) (λ e z.
    after (content (element (elements_of all) d) n (name_of id) c.left z) (λ es y. got (node c.name e.given e.elements es) y))))

pub end_room : (s : Text) (j : ℕ) → starts (60 ∷ []) (drop j s) && starts (47 ∷ []) (drop (j + 1) s) ≡ true → j + 2 ≤ length s
end_room s j e =
    let h = one_room 47 (j + 1) s (both (starts (60 ∷ []) (drop j s)) (starts (47 ∷ []) (drop (j + 1) s)) e).1 in
    omega arith

module _ (s : Text) (n id l i : ℕ) where
  turns : content_in (wider_by n) (deep_by n) id l (drop i s) ≡
      forget (after (misc (length (drop i s)) (drop i s)) (λ _ r. turn (wider_by n) (deep_by n) id l (length (drop i s)) r))
  unfolding content_in content turn
  turns = refl

  pub at_end : length s ≤ i → content_in (wider_by n) (deep_by n) id l (drop i s) ≡ bad (drop i s)
  unfolding content_in content misc opening expect starts text
  at_end h = let e : drop i s ≡ [] = drop_of_length-le s h in rw e

  pub misc_refused : (e : BadByte) → Reads s (step_of s) (misc (length (drop i s)) (drop i s)) (Err e) →
      content_in (wider_by n) (deep_by n) id l (drop i s) ≡ bad (drop e.at s)
  misc_refused e q = turns ∙ rw (sym q.read_is)

  module _ (j : ℕ) (q : Reads s (step_of s) (misc (length (drop i s)) (drop i s)) (Ok j)) where
    here : content_in (wider_by n) (deep_by n) id l (drop i s) ≡ forget (turn (wider_by n) (deep_by n) id l (length (drop i s)) (drop j s))
    here = turns ∙ rw (sym q.read_is)

    tag : starts (text "</") (drop j s) ≡ starts (60 ∷ []) (drop j s) && starts (47 ∷ []) (drop (j + 1) s)
    unfolding text
    tag = starts-next 60 (47 ∷ []) s j

    pub at_end_tag : starts (60 ∷ []) (drop j s) && starts (47 ∷ []) (drop (j + 1) s) ≡ true →
        content_in (wider_by n) (deep_by n) id l (drop i s) ≡ forget (ending (name_of id) (left_of l) (drop j s))
    unfolding turn
    at_end_tag e = here ∙ rw (tag, e)

    module _ (e : starts (60 ∷ []) (drop j s) && starts (47 ∷ []) (drop (j + 1) s) ≡ false) where
      opened : content_in (wider_by n) (deep_by n) id l (drop i s) ≡
          forget (after (opening (left_of l) (drop j s)) (λ c u. after (element (elements_of (wider_by n)) (deep_by n) c.name u) (λ e z.
          after (content (element (elements_of (wider_by n)) (deep_by n)) (length (drop i s)) (name_of id) c.left z)
          (λ es y. got (node c.name e.given e.elements es) y))))
      unfolding turn
      opened = here ∙ rw (tag, e)

      pub stopped : (b : BadByte) → Opens s (start_in (wider_by n) (deep_by n) (left_of l) (drop j s)) (Err b) →
          content_in (wider_by n) (deep_by n) id l (drop i s) ≡ bad (drop b.at s)
      stopped b a =
          opened ∙ start-bad (wider_by n) (deep_by n) (left_of l) (drop j s) (drop b.at s) (sym a.read_is) (λ c e z.
          after (content (element (elements_of (wider_by n)) (deep_by n)) (length (drop i s)) (name_of id) c.left z)
          (λ es y. got (node c.name e.given e.elements es) y))

      module _ (start : Start) (a : Opens s (start_in (wider_by n) (deep_by n) (left_of l) (drop j s)) (Ok start)) where
        tag_read : Begun (wider_by n) (deep_by n) (left_of l) (drop j s) (record { name = name_of start.id; left = left_of start.left }) (drop start.end s)
        tag_read =
            begun (wider_by n) (deep_by n) (left_of l) (drop j s) (record { name = name_of start.id; left = left_of start.left }) (drop start.end s)
            (sym a.read_is)

        -- The text behind the name of the tag is shorter than that at i.
        behind-shorter : suc (length tag_read.behind) ≤ length (drop i s)
        behind-shorter =
            let f =
            below-got (misc (length (drop i s)) (drop i s)) tt (drop j s) (suc (length (drop i s))) (misc-below (length (drop i s)) (drop i s))
            (sym q.read_is) in
            let g =
            below-got (opening (left_of l) (drop j s)) (record { name = name_of start.id; left = left_of start.left }) tag_read.behind (length (drop j s))
            (opening-below (left_of l) (drop j s)) tag_read.opened-is in
            omega arith

        -- The element in the content is read with less depth and less text left.
        pub falls : Falls s n i start.end
        falls =
            let d = tag_read.deep in
            let h = tag_read.ready-is in
            let k = tag_read.shorter-is in
            let r = behind-shorter in
            let u = length-drop start.end s in
            let v = length-drop i s in
            record { deep = omega arith; room = omega arith; past = omega arith }

        inner : content_in (wider_by n) (deep_by n) id l (drop i s) ≡
            forget (after (element (elements_of (wider_by n)) (deep_by n) (name_of start.id) tag_read.behind) (λ e z.
            after (content (element (elements_of (wider_by n)) (deep_by n)) (length (drop i s)) (name_of id) (left_of start.left) z)
            (λ es y. got (node (name_of start.id) e.given e.elements es) y)))
        inner = opened ∙ rw tag_read.opened-is

        judged : forget (element (elements_of (wider_by n)) (deep_by n) (name_of start.id) tag_read.behind) ≡
            element_in (wider_by (n - 2)) (deep_by (n - 2)) start.id (drop start.end s)
        unfolding element_in
        judged = tag_read.body_is ∙ sym (inner_reads n start.id (drop start.end s) tag_read.deep)

        pub refused : (b : BadByte) → Reads s (step_of s) (element_in (wider_by (n - 2)) (deep_by (n - 2)) start.id (drop start.end s)) (Err b) →
            content_in (wider_by n) (deep_by n) id l (drop i s) ≡ bad (drop b.at s)
        refused b r =
            inner ∙
            on-bad (element (elements_of (wider_by n)) (deep_by n) (name_of start.id) tag_read.behind) (drop b.at s) (judged ∙ sym r.read_is) (λ e z.
            after (content (element (elements_of (wider_by n)) (deep_by n)) (length (drop i s)) (name_of id) (left_of start.left) z)
            (λ es y. got (node (name_of start.id) e.given e.elements es) y))

        module _ (k : ℕ) (r : Reads s (step_of s) (element_in (wider_by (n - 2)) (deep_by (n - 2)) start.id (drop start.end s)) (Ok k)) where
          read : forget (element (elements_of (wider_by n)) (deep_by n) (name_of start.id) tag_read.behind) ≡ got tt (drop k s)
          read = judged ∙ sym r.read_is

          -- The text after the element is shorter.
          shorter : length (drop k s) < length (drop i s)
          shorter =
              let f = behind-shorter in
              let h =
              below-forget (element (elements_of (wider_by n)) (deep_by n) (name_of start.id) tag_read.behind) (drop k s) (suc (length tag_read.behind))
              (element-below (elements_of (wider_by n)) (deep_by n) (name_of start.id) tag_read.behind) read in
              omega arith

          goes_on : content_in (wider_by n) (deep_by n) id l (drop i s) ≡ content_in (wider_by n) (deep_by n) id start.left (drop k s)
          unfolding content_in
          goes_on =
              inner ∙ on-got (element (elements_of (wider_by n)) (deep_by n) (name_of start.id) tag_read.behind) (drop k s) read (λ e z.
              after (content (element (elements_of (wider_by n)) (deep_by n)) (length (drop i s)) (name_of id) (left_of start.left) z)
              (λ es y. got (node (name_of start.id) e.given e.elements es) y))
              (forget (content (element (elements_of (wider_by n)) (deep_by n)) (suc (length (drop k s))) (name_of id) (left_of start.left) (drop k s)))
              (λ e _. forget-on (content (element (elements_of (wider_by n)) (deep_by n)) (length (drop i s)) (name_of id) (left_of start.left) (drop k s))
              (λ es. node (name_of start.id) e.given e.elements es)
              ∙ ap (λ x. forget x) (content-enough (element (elements_of (wider_by n)) (deep_by n)) (element-below (elements_of (wider_by n)) (deep_by n))
              (length (drop i s)) (suc (length (drop k s))) (name_of id) (left_of start.left) (drop k s) shorter (omega arith)))

          pub onward : Onward s n id l i start.left k
          onward =
              let f = shorter in
              let u = length-drop k s in
              let v = length-drop i s in
              let inside : k ≤ length s = r.inside in
              record { inside = inside; past = omega arith; rest = goes_on }

-- ---- An element, from the end of its start tag on.

module _ (all : Bool) (s : Text) (at d id left : ℕ) (c : left_of left ≡ (row_in (elements_of all) (name_of id)).children) where
  pub with_content : at + 1 ≤ length s → starts (62 ∷ []) (drop at s) ≡ true → element_in all d id (drop at s) ≡ content_in all d id left (drop (at + 1) s)
  unfolding content_in element_in text
  with_content room e =
      let l = length-drop at s in
      let m = length-drop (at + 1) s in
      let n : length (drop at s) ≡ suc (length (drop (at + 1) s)) = omega arith in
      rw e
      (forget-on (content (element (elements_of all) d) (length (drop at s)) (row_in (elements_of all) (name_of id)).name
      (row_in (elements_of all) (name_of id)).children (drop 1 (drop at s)))
      (λ es. record { given = []; elements = es })
      ∙ rw (n, row-name (elements_of all) (name_of id), sym c, drop-drop 1 at s))

  module _ (e : starts (62 ∷ []) (drop at s) ≡ false) where
    pub slash_cut : starts (62 ∷ []) (drop (at + 1) s) ≡ false → element_in all d id (drop at s) ≡ bad (drop (at + 1) s)
    unfolding text element_in
    slash_cut h = rw (e, drop-drop 1 at s, one_bad 62 (at + 1) s h)

    module _ (h : starts (62 ∷ []) (drop (at + 1) s) ≡ true) where
      pub slash_early : may_end (left_of left) ≡ false → element_in all d id (drop at s) ≡ bad (drop at s)
      unfolding text element_in
      slash_early k = rw (e, drop-drop 1 at s, one_got 62 (at + 1) s h, sym c, k)

      pub slash_done : may_end (left_of left) ≡ true → element_in all d id (drop at s) ≡ got tt (drop (at + 2) s)
      unfolding text element_in
      slash_done k =
          let j : at + 1 + 1 ≡ at + 2 = omega arith in
          rw (e, drop-drop 1 at s, one_got 62 (at + 1) s h, sym c, k, j)

-- What `content` and `element` need.
pub ruleset content_steps = (at_end, misc_refused, at_end_tag, end_room, stopped, falls, refused, onward)

pub ruleset element_steps = (with_content, slash_cut, slash_early, slash_done, one_room)
