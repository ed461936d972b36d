-- The prolog, the policy object and the end of the text.
use mathlib.Core.Path.{◌≡◌, refl, sym, ap, ◌∙◌}
use mathlib.Core.List.{List, [], ◌∷◌}
use mathlib.Core.Bool.{Bool, true, false, cond}
use Prim.Native.Nat.{ℕ, ◌+◌, ◌-◌, ◌<◌, ◌≤◌}
use native.Mathlib.Omega.{arith}
use lib.Dec.{eqb}
use lib.ListN.{length, drop, length-drop, drop_of_length-le}
use lib.Seq.{drop-drop}
use borrow.Author.Tests.{eqb-true, eqb-false, eq-eqb, ne_eqb}
use Rattle.std.specs.Prelude.{Ok, Err}
use Rattle.paper_opl.specs.Reading.{Text, Read, after, text, same, starts, expect, white, behind, skip, space, misc, value}
use Rattle.paper_opl.specs.Reading.Read.{got, bad}
use Rattle.paper_opl.specs.Elements.{elements_of, row_in, one}
use Rattle.paper_opl.specs.Tree.{Given, Opened, Elements, Inside, attributes, opening, body, element, doctype, byte_order_mark, prolog, document_in}
use Rattle.paper_opl.specs.Tree.Elements.{nothing, node}
use Rattle.paper_opl.proofs.Counts.{starts-le}
use Rattle.paper_opl.proofs.TreeBack.{same_self}
use Rattle.opl_text.specs.declared.BadByte.{BadByte}
use Rattle.opl_text.specs.Steps.{From, Reads, step_of}
use Rattle.opl_text.proofs.Same.{other_length}
use Rattle.opl_table.specs.Numbers.{name_of, left_of}
use Rattle.opl_table.proofs.Rows.{document-left}
use Rattle.opl_reader.specs.declared.Start.{Start}
use Rattle.opl_reader.specs.Grammar.{forget, Opens, tagged, start_in, element_in, spaced_read, root_in, wider_by, deep_by, Deepest}
use Rattle.opl_reader.proofs.Cycle.{body-forgets, start_ready}
use Rattle.opl_reader.proofs.Chain.{after-after, after-each}

-- There is no white space if skipping it does not move the index.
pub same_place : (s : Text) (u j : ℕ) → u ≤ length s → From s (behind white (drop u s)) j → same (drop u s) (behind white (drop u s)) ≡ eqb j u
same_place s u j h f = rw (sym f.rest) (go (eqb j u) refl)
  where
    go : (b : Bool) → eqb j u ≡ b → same (drop u s) (drop j s) ≡ b
    go true e = rw (eqb-true j u e) (same_self (drop u s))
    go false e =
        let n = eqb-false j u e in
        let inside = f.inside in
        let a = length-drop u s in
        let b = length-drop j s in
        sym (other_length (drop u s) (drop j s) (λ (z : length (drop u s) ≡ length (drop j s)). n (omega arith)))

pub not_skipped : (s : Text) (u j : ℕ) → u ≤ length s → From s (behind white (drop u s)) j → j ≡ u → same (drop u s) (behind white (drop u s)) ≡ true
not_skipped s u j h f e = same_place s u j h f ∙ eq-eqb j u e

pub skipped : (s : Text) (u j : ℕ) → u ≤ length s → From s (behind white (drop u s)) j → (j ≡ u → ⊥) → same (drop u s) (behind white (drop u s)) ≡ false
skipped s u j h f n = same_place s u j h f ∙ ne_eqb j u n

-- The text goes on behind a literal that it has.
pub starts_room : (w s : Text) (at : ℕ) → at ≤ length s → starts w (drop at s) ≡ true → at + length w ≤ length s
starts_room w s at h e = let n = starts-le w (drop at s) e in let l = length-drop at s in omega arith

pub mark_room : (s : Text) → starts byte_order_mark s ≡ true → 3 ≤ length s
mark_room s e = starts-le byte_order_mark s e

pub drop_five : (at : ℕ) (s : Text) → drop 5 (drop at s) ≡ drop (at + 5) s
drop_five at s = drop-drop 5 at s

pub drop_nine : (at : ℕ) (s : Text) → drop 9 (drop at s) ≡ drop (at + 9) s
drop_nine at s = drop-drop 9 at s

-- ---- The DOCTYPE.

literal : Text → Read (Unit {0})
literal y = after (space y) (λ _ x. after (value x) (λ _ v. expect (text ">") (skip v)))

system : Text → Read (Unit {0})
system u = after (spaced_read (text "SYSTEM") u) (λ _ y. literal y)

pub doctype_is : (t : Text) → doctype t ≡ after (spaced_read (text "policy_object") t) (λ _ u. after (spaced_read (text "SYSTEM") u) (λ _ y.
    after (space y) (λ _ x. after (value x) (λ _ v. expect (text ">") (skip v)))))
unfolding doctype spaced_read system literal
doctype_is t =
    after-each (space t)
    (λ _ r. after (expect (text "policy_object") r) (λ _ u. after (space u) (λ _ z. after (expect (text "SYSTEM") z) (λ _ y. literal y))))
    (λ _ r. after (expect (text "policy_object") r) (λ _ u. system u))
    (λ _ r. after-each (expect (text "policy_object") r) (λ _ u. after (space u) (λ _ z. after (expect (text "SYSTEM") z) (λ _ y. literal y))) (λ _ u. system u)
    (λ _ u. sym (after-after (space u) (λ _ z. expect (text "SYSTEM") z) (λ _ y. literal y))))
    ∙ sym (after-after (space t) (λ _ r. expect (text "policy_object") r) (λ _ u. system u))

-- ---- The end of the text.

pub some_left : (s : Text) (j : ℕ) → j < length s → same (drop j s) [] ≡ false
some_left s j h = let l = length-drop j s in sym (other_length (drop j s) [] (λ (z : length (drop j s) ≡ 0). omega arith))

pub none_left : (s : Text) (j : ℕ) → length s ≤ j → same (drop j s) [] ≡ true
unfolding same
none_left s j h = let e : drop j s ≡ [] = drop_of_length-le s h in rw e

-- ---- The policy object, with nothing after it but white space and comments.

last : Text → Read (Unit {0})
last u = cond (same u []) (got tt u) (bad u)

rest : Text → Read (Unit {0})
rest r = after (misc (length r) r) (λ _ u. last u)

module _ (all : Bool) where
  -- The whole document, without its value.
  whole : Opened → Text → Read (Unit {0})
  whole c u = after (forget (body (element (elements_of all) 7) (row_in (elements_of all) c.name) [] u)) (λ _ r. rest r)

  forgets : (w : Text) (e : Inside) (u : Text) (x : Read (Unit {0})) →
      forget (after x (λ _ y. cond (same y []) (got (node w e.given e.elements nothing) y) (bad y))) ≡ after x (λ _ y. last y)
  unfolding last
  forgets w e u (got v y) = go (same y [])
    where
      go : (b : Bool) → forget (cond b (got (node w e.given e.elements nothing) y) (bad y)) ≡ cond b (got tt y) (bad y)
      go true = refl
      go false = refl
  forgets w e u (bad y) = refl

  module _ (c : Opened) where
    ends : Inside → Text → Read Elements
    ends e z = after (misc (length z) z) (λ _ y. cond (same y []) (got (node c.name e.given e.elements nothing) y) (bad y))

    inner : (x : Read Inside) → forget (after x ends) ≡ after (forget x) (λ _ r. rest r)
    unfolding ends rest
    inner (got e z) = forgets c.name e z (misc (length z) z)
    inner (bad z) = refl

    attributed : (x : Read (List Given)) →
        forget (after (after x (λ gs r. body (element (elements_of all) 7) (row_in (elements_of all) c.name) gs r)) ends) ≡
        after (after x (λ _ r. got c r)) (λ c u. whole c u)
    unfolding whole
    attributed (got gs r) =
        inner (body (element (elements_of all) 7) (row_in (elements_of all) c.name) gs r) ∙
        ap (λ x. after x (λ _ r. rest r)) (body-forgets (element (elements_of all) 7) (row_in (elements_of all) c.name) gs r)
    attributed (bad r) = refl

    tagged_is : (u : Text) → forget (after (element (elements_of all) 8 c.name u) ends) ≡ after (tagged all 8 c u) (λ c u. whole c u)
    unfolding element tagged
    tagged_is u = attributed (attributes (length u) (row_in (elements_of all) c.name).attributes u)

  document-is : (s : Text) → forget (document_in all s) ≡ after (prolog s) (λ _ r. after (start_in all 8 (left_of 1) r) (λ c u. whole c u))
  unfolding document_in start_in ends
  document-is s = rw document-left (go (prolog s))
    where
      outer : (x : Read Opened) →
          forget (after x (λ c u. after (element (elements_of all) 8 c.name u) (λ e z. ends c e z))) ≡
          after (after x (λ c r. tagged all 8 c r)) (λ c u. whole c u)
      outer (got c u) = tagged_is c u
      outer (bad u) = refl

      go : (x : Read (Unit {0})) →
          forget (after x (λ _ r. after (opening (one "policy_object" ∷ []) r) (λ c u. after (element (elements_of all) 8 c.name u) (λ e z. ends c e z))))
          ≡ after x (λ _ r. after (after (opening (one "policy_object" ∷ []) r) (λ c r. tagged all 8 c r)) (λ c u. whole c u))
      go (got v r) = outer (opening (one "policy_object" ∷ []) r)
      go (bad r) = refl

  module _ (s : Text) (i d : ℕ) (h : Deepest all d) (p : Reads s (step_of s) (prolog s) (Ok i)) where
    to_opening : forget (document_in all s) ≡ after (start_in (wider_by d) (deep_by d) (left_of 1) (drop i s)) (λ c u. whole c u)
    to_opening = document-is s ∙ rw (sym p.read_is, h.wider, h.deep)

    pub document_stops : (e : BadByte) → Opens s (start_in (wider_by d) (deep_by d) (left_of 1) (drop i s)) (Err e) → forget (document_in all s) ≡ bad (drop e.at s)
    document_stops e o = to_opening ∙ rw (sym o.read_is)

    pub document_starts : (start : Start) → Opens s (start_in (wider_by d) (deep_by d) (left_of 1) (drop i s)) (Ok start) →
        forget (document_in all s) ≡ root_in (wider_by (d - 2)) (deep_by (d - 2)) start.id (drop start.end s)
    unfolding whole root_in element_in rest last
    document_starts start o = to_opening ∙ rw (sym o.read_is, h.wider-in, h.deep_in)

  pub document_prolog : (s : Text) (e : BadByte) → Reads s (step_of s) (prolog s) (Err e) → forget (document_in all s) ≡ bad (drop e.at s)
  document_prolog s e p = document-is s ∙ rw (sym p.read_is)

pub document_room : (all : Bool) (s t : Text) (d left : ℕ) (start : Start) → Opens s (start_in all d (left_of left) t) (Ok start) → start.end + 1 ≤ length s
document_room all s t d left start o =
    let k = start.end in
    let h = start_ready all d (left_of left) t (record { name = name_of start.id; left = left_of start.left }) (drop k s) (sym o.read_is) in
    let l = length-drop k s in
    omega arith

-- What `declared`, `typed` and `document` need.
pub ruleset declared_steps = (not_skipped, skipped, starts_room, drop_five)

pub ruleset typed_steps = (starts_room, drop_nine)

pub ruleset document_steps = (document_prolog, document_stops, document_starts, document_room)
