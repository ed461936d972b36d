-- Laws about the list of tags: each entry gives the next tag, the list is still right after one more entry, and after its last entry the text is read.
use Prim.Native.Nat.{ℕ, zero, suc, ◌+◌, ◌*◌, ◌-◌, ◌≤◌, ◌<◌}
use mathlib.Core.Path.{◌≡◌, refl, sym, ap, ◌∙◌}
use mathlib.Core.List.{List, [], ◌∷◌}
use native.Mathlib.Omega.{arith}
use Rattle.std.specs.Prelude.{Option, Some, None}
use lib.Dec.{leb}
use lib.ListN.{length, get_or, set, take, drop, length-drop, length-set}
use lib.Seq.{get_or-set_same, get_or-set_other}
use borrow.Author.Tests.{leb-true, leb-false}
use Rattle.paper_opl.specs.Reading.{Text, Read}
use Rattle.paper_opl.specs.Reading.Read.{got, bad}
use Rattle.paper_opl.specs.Tree.{Tag as Tagged}
use Rattle.paper_opl.proofs.Inversion.{on_test, bad≢got}
use Rattle.paper_opl.proofs.Counts.{below_of}
use Rattle.opl_spaces.specs.Spaces.{list_place, list_room, scratch_words, table_of, list_of}
use Rattle.opl_spaces.proofs.SpaceLaws.{table_kept, list_set, list_at, list_length}
use Rattle.opl_tags.specs.Tags.{placeless, given_at, next_tag, walk_at, Opens, ReadsTag}
use Rattle.opl_tags.specs.declared.Tag.{Tag}
use Rattle.opl_tags.specs.declared.Tag.TheVariants.{Start, End}
use Rattle.opl_tags.proofs.AttributeLaws.{placed}
use Rattle.opl_tags.proofs.Walked.{step, stop, next-below}
use Rattle.opl_turns.specs.Meaning.{element_of}
use Rattle.opl_turns.specs.Listing.{count_in, entry_in, end_of, id_of, longest, entered, Opened, Chain, last_of, Leads, Listing, Passed, Reads, Meets}
use Rattle.opl_turns.specs.declared.Met.{Met}
use Rattle.opl_turns.specs.declared.Met.TheVariants.{Begun, Ended}

-- ---- The next tag of the text.
module _ (s : Text) (at : ℕ) (r : Option Tag) (reads : ReadsTag s (next_tag (drop at s)) r) where
  pub read-over : r ≡ None → walk_at s at ≡ []
  read-over e = go (next_tag (drop at s)) refl (rw e at reads.read_is)
    where
      go : (x : Read (List Tagged)) → next_tag (drop at s) ≡ x → bad [] ≡ placeless x → walk_at s at ≡ []
      go (got ts u) p q = absurd (bad≢got q)
      go (bad u) p q = stop (drop at s) u p

  onward : (n : ℕ) (ts : List Tagged) → n ≤ length s → next_tag (drop at s) ≡ got ts (drop n s) → at < n
  onward n ts h e = omega (arith, below_of e (next-below (drop at s)), length-drop at s, length-drop n s)

  pub read-ended : (n : ℕ) → r ≡ Some (End n) → Passed s at n
  read-ended n e =
      let q = placed (next_tag (drop at s)) [] (drop n s) (rw e at reads.read_is) in
      let u : n ≤ length s = rw e at reads.stands in
      record { past = onward n [] u q; inside = u; walk = step (drop at s) (drop n s) [] q }

  module _ (name end : ℕ) (e : r ≡ Some (Start name end)) where
    pub read-stands : Opens s name end
    read-stands = rw e at reads.stands

    abbrev here : Tagged
    here = record { name = take (end - name) (drop name s); given = given_at s end }

    pub read-begun : (id : ℕ) → id ≡ element_of (take (end - name) (drop name s)) → Opened s at end id
    read-begun id is =
        let q = placed (next_tag (drop at s)) (here ∷ []) (drop end s) (rw e at reads.read_is) in
        record {
          name = here.name;
          walk = step (drop at s) (drop end s) (here ∷ []) q;
          element = sym is;
          past = onward end (here ∷ []) read-stands.inside q;
          inside = read-stands.inside;
        }

-- ---- The next tag, from the list.
module _ (s : Text) (l : List ℕ) (k at : ℕ) where
  -- After the last entry, the list says nothing about any index.
  past-led : count_in l ≤ list_room → count_in l ≤ k → Leads s l k at
  unfolding Chain
  past-led h e = let z : count_in l - k ≡ 0 = omega arith in record { room = h; chain = rw z tt }

module _ (s : Text) (l : List ℕ) (at k : ℕ) (leads : Leads s l k at) where
  pub met-read : count_in l ≤ k → (r : Option Met) → Reads s at k r → Meets s l at k r
  met-read h (Some (Begun id end next)) m = (m.0, past-led s l next end leads.room (omega (arith, m.1)))
  met-read h (Some (Ended n)) m = (m, past-led s l k n leads.room h)
  met-read h None m = m

  pub met-entry : k < count_in l → Meets s l at k (Some (Begun (id_of (entry_in l k)) (end_of (entry_in l k)) (k + 1)))
  unfolding Chain
  met-entry h =
      let z : count_in l - k ≡ suc (count_in l - suc k) = omega arith in
      let c : Chain s l (suc (count_in l - suc k)) k at = rw z at leads.chain in
      let y : k + 1 ≡ suc k = omega arith in
      (c.0, rw y (record { room = leads.room; chain = c.1 }))

-- Count and entries of the list, as words of the scratch buffer.
pub count_at : (w : List ℕ) → count_in (list_of w) ≡ get_or w list_place 0
count_at w = list_at w 0

pub entry_at : (w : List ℕ) (k : ℕ) → entry_in (list_of w) k ≡ get_or w (list_place + 1 + k) 0
entry_at w k = let z : list_place + (1 + k) ≡ list_place + 1 + k = omega arith in list_at w (1 + k) ∙ ap (λ (i : ℕ). get_or w i 0) z

-- ---- One more entry.
module _ (s : Text) (l l' : List ℕ) where
  chain_same : (m k at : ℕ) → ((j : ℕ) → j < k + m → entry_in l' j ≡ entry_in l j) → Chain s l m k at → Chain s l' m k at
  unfolding Chain
  chain_same zero k at h c = tt
  chain_same (suc m) k at h c =
      let e : entry_in l' k ≡ entry_in l k = h k (omega arith) in
      rw e (c.0, chain_same m (suc k) (end_of (entry_in l k)) (λ j b. h j (omega arith)) c.1)

  last-same : (m k at : ℕ) → ((j : ℕ) → j < k + m → entry_in l' j ≡ entry_in l j) → last_of l' m k at ≡ last_of l m k at
  unfolding last_of
  last-same zero k at h = refl
  last-same (suc m) k at h =
      ap (λ (x : ℕ). last_of l' m (suc k) (end_of x)) (h k (omega arith)) ∙ last-same m (suc k) (end_of (entry_in l k)) (λ j b. h j (omega arith))

module _ (s : Text) (l : List ℕ) where
  chain_more : (m k at x : ℕ) → entry_in l (k + m) ≡ x → Chain s l m k at → Opened s (last_of l m k at) (end_of x) (id_of x) → Chain s l (suc m) k at
  unfolding Chain last_of
  chain_more zero k at x e c o =
      let z : k + 0 ≡ k = omega arith in
      let y : entry_in l k ≡ x = ap (entry_in l) (sym z) ∙ e in
      rw y (o, tt)
  chain_more (suc m) k at x e c o =
      let z : suc k + m ≡ k + suc m = omega arith in
      (c.0, chain_more m (suc k) (end_of (entry_in l k)) x (ap (entry_in l) z ∙ e) c.1 o)

  last_more : (m k at : ℕ) → last_of l (suc m) k at ≡ end_of (entry_in l (k + m))
  unfolding last_of
  last_more zero k at = let z : k ≡ k + 0 = omega arith in ap (λ (j : ℕ). end_of (entry_in l j)) z
  last_more (suc m) k at = let z : suc k + m ≡ k + suc m = omega arith in last_more m (suc k) (end_of (entry_in l k)) ∙ ap (λ (j : ℕ). end_of (entry_in l j)) z

module _ (l : List ℕ) (n x : ℕ) (room : n + 1 < length l) where
  abbrev more : List ℕ
  more = set (set l (1 + n) x) 0 (n + 1)

  more-count : count_in more ≡ n + 1
  more-count = get_or-set_same (set l (1 + n) x) 0 (n + 1) 0 (omega (arith, length-set l (1 + n) x))

  more-entry : entry_in more n ≡ x
  more-entry = get_or-set_other (set l (1 + n) x) 0 (1 + n) (n + 1) 0 (λ e. omega (arith, e)) ∙ get_or-set_same l (1 + n) x 0 (omega arith)

  more-older : (j : ℕ) → j < n → entry_in more j ≡ entry_in l j
  more-older j h = get_or-set_other (set l (1 + n) x) 0 (1 + j) (n + 1) 0 (λ e. omega (arith, e)) ∙ get_or-set_other l (1 + n) (1 + j) x 0 (λ e. omega (arith, e))

module _ (s : Text) (from : ℕ) (l : List ℕ) (size : length l ≡ 262145) (at end id : ℕ) (o : Opened s at end id) (low : id < 128) (listing : Listing s from l at) where
  abbrev n : ℕ
  n = count_in l

  abbrev x : ℕ
  x = end * 128 + id

  module _ (short : length s < longest) (free : n < list_room) where
    opened : Opened s (last_of l n 0 from) (end_of x) (id_of x)
    opened =
        let j = listing.joined short free in
        let p : end_of x ≡ end = omega arith in
        let q : id_of x ≡ id = omega arith in
        rw (p, q) (record { name = o.name; walk = j.walk ∙ o.walk; element = o.element; past = omega (arith, j.order, o.past); inside = o.inside })

    abbrev l' : List ℕ
    l' = more l n x (omega (arith, size, free))

    older : (j : ℕ) → j < 0 + n → entry_in l' j ≡ entry_in l j
    older j h = more-older l n x (omega (arith, size, free)) j (omega arith)

    newest : entry_in l' (0 + n) ≡ x
    newest = let z : 0 + n ≡ n = omega arith in ap (entry_in l') z ∙ more-entry l n x (omega (arith, size, free))

    listed-on : Listing s from l' end
    listed-on =
        let c : count_in l' ≡ suc n = more-count l n x (omega (arith, size, free)) ∙ (omega arith) in
        let p : end_of x ≡ end = omega arith in
        let z : last_of l' (suc n) 0 from ≡ end = last_more s l' n 0 from ∙ ap end_of newest ∙ p in
        record {
          room = rw c (omega arith);
          chain = rw c (chain_more s l' n 0 from x newest (chain_same s l l' n 0 from older listing.chain) (rw (last-same s l l' n 0 from older) opened));
          joined = λ _ _. rw (c, z) (record { order = omega arith; walk = refl });
        }

pub entered-table : (i : ℕ) → i < 7 → (size : ℕ) (w : List ℕ) (end id : ℕ) → table_of i (entered size w end id) ≡ table_of i w
unfolding entered
entered-table i h size w end id =
    on_test (leb list_room (get_or w list_place 0)) (λ p. rw p)
    (λ p. on_test (leb longest size) (λ q. rw (p, q))
    (λ q. rw (p, q) (table_kept i h (set w (list_place + 1 + get_or w list_place 0) (end * 128 + id)) list_place (get_or w list_place 0 + 1) (omega arith)
    ∙ table_kept i h w (list_place + 1 + get_or w list_place 0) (end * 128 + id) (omega arith))))

pub entered-length : (size : ℕ) (w : List ℕ) (end id : ℕ) → length (entered size w end id) ≡ length w
unfolding entered
entered-length size w end id =
    on_test (leb list_room (get_or w list_place 0)) (λ p. rw p) (λ p. on_test (leb longest size) (λ q. rw (p, q)) (λ q. rw (p, q) (simp length-set)))

module _ (s : Text) (from : ℕ) (w : List ℕ) where
  pub listing-first : count_in (list_of w) ≡ 0 → Listing s from (list_of w) from
  unfolding Chain last_of
  listing-first e = record { room = rw e (omega arith); chain = rw e tt; joined = λ _ _. rw e (record { order = omega arith; walk = refl }) }

  pub listing-led : (at : ℕ) → Listing s from (list_of w) at → Leads s (list_of w) 0 from
  listing-led at h = let z : count_in (list_of w) - 0 ≡ count_in (list_of w) = omega arith in record { room = h.room; chain = rw z h.chain }

  pub listing-passed : (at n : ℕ) → Passed s at n → Listing s from (list_of w) at → Listing s from (list_of w) n
  listing-passed at n p h =
      record {
        room = h.room;
        chain = h.chain;
        joined = λ a b. let j = h.joined a b in record { order = omega (arith, j.order, p.past); walk = j.walk ∙ p.walk };
      }

  pub listing-entered : length w ≡ scratch_words → (at end id : ℕ) → Opened s at end id → id < 128 → Listing s from (list_of w) at →
      Listing s from (list_of (entered (length s) w end id)) end
  unfolding entered
  listing-entered room at end id o low h =
      on_test (leb list_room (get_or w list_place 0))
      (λ p. rw p (still (λ a b. absurd (omega (arith, leb-true list_room (get_or w list_place 0) p, count_at w)))))
      (λ p. on_test (leb longest (length s))
      (λ q. rw (p, q) (still (λ a b. absurd (omega (arith, leb-true longest (length s) q)))))
      (λ q. rw (p, q) (added (omega (arith, leb-false longest (length s) q)) (omega (arith, leb-false list_room (get_or w list_place 0) p, count_at w)))))
    where
      still : (length s < longest → count_in (list_of w) < list_room → ⊥) → Listing s from (list_of w) end
      still f = record { room = h.room; chain = h.chain; joined = λ a b. absurd (f a b) }

      added : length s < longest → count_in (list_of w) < list_room →
          Listing s from (list_of (set (set w (list_place + 1 + get_or w list_place 0) (end * 128 + id)) list_place (get_or w list_place 0 + 1))) end
      added a b =
          let e : list_of (set (set w (list_place + 1 + get_or w list_place 0) (end * 128 + id)) list_place (get_or w list_place 0 + 1)) ≡
          set (set (list_of w) (1 + count_in (list_of w)) (end * 128 + id)) 0 (count_in (list_of w) + 1) =
          let z : list_place + 1 + get_or w list_place 0 ≡ list_place + (1 + get_or w list_place 0) = omega arith in
          list_set (set w (list_place + 1 + get_or w list_place 0) (end * 128 + id)) 0 (get_or w list_place 0 + 1)
          ∙ ap (λ (i : ℕ). set (list_of (set w i (end * 128 + id))) 0 (get_or w list_place 0 + 1)) z
          ∙ ap (λ (v : List ℕ). set v 0 (get_or w list_place 0 + 1)) (list_set w (1 + get_or w list_place 0) (end * 128 + id))
          ∙ ap (λ (i : ℕ). set (set (list_of w) (1 + i) (end * 128 + id)) 0 (i + 1)) (sym (count_at w)) in
          rw e (listed-on s from (list_of w) (list_length w room) at end id o low h a b)
