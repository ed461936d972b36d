-- Laws about the pass that lists the tags and declares the names of all five spaces at once, and about declaring the names of both texts.
use Prim.Native.Nat.{ℕ, ◌+◌, ◌-◌, ◌≤◌, ◌<◌}
use mathlib.Core.Path.{◌≡◌, refl, sym, ap, ◌∙◌}
use mathlib.Core.Bool.{false, not, ◌||◌}
use mathlib.Core.List.{List, []}
use native.Mathlib.Omega.{arith}
use Rattle.std.specs.Prelude.{Option, Some, None, Result, Ok, Err}
use lib.Dec.{eqb, ltb}
use lib.ListN.{length, take, drop, set, length-set}
use lib.Seq.{get_or-set_same}
use borrow.Author.Tests.{ne_eqb, eq-eqb, eqb-true, eqb-false, ltb-true, ltb-false, lt-ltb, le-ltb}
use Rattle.paper_lower.specs.Lists.{every}
use Rattle.paper_lower.proofs.ListLaws.{or-true}
use Rattle.paper_opl.specs.Reading.{Text}
use Rattle.paper_opl.specs.Naming.{value_of}
use Rattle.paper_opl.specs.Walk.{tags}
use Rattle.paper_opl.proofs.Inversion.{on_test}
use Rattle.opl_names.specs.Table.{names_in, Sound, Emptied}
use Rattle.opl_table.specs.Numbers.{name_of}
use Rattle.opl_tags.specs.Tags.{given_at, Valued, next_tag, walk_at, Opens, ReadsTag}
use Rattle.opl_tags.specs.declared.Tag.{Tag}
use Rattle.opl_tags.specs.declared.Tag.TheVariants.{Start, End}
use Rattle.opl_tags.specs.declared.Part.{Part}
use Rattle.opl_spaces.specs.Spaces.{limit_of, list_place, scratch_words, table_of, list_of, Empties, DeclaresIn}
use Rattle.opl_spaces.proofs.SpaceLaws.{table_kept}
use Rattle.opl_line_names.specs.Names.{declares_in, attribute_of, declared_at, short, tag_names, line_names, filled, Onward, Walked, DeclaresAll}
use Rattle.opl_line_names.specs.declared.LongName.{LongName as TooLong}
use Rattle.opl_line_names.proofs.DeclaredLaws.{walked-halt, walked_end, walked-other, walked-long, walked_on}
use Rattle.opl_said.specs.Said.{all_names, Held}
use Rattle.opl_said.proofs.HeldLaws.{held}
use Rattle.opl_turns.specs.Meaning.{element_of}
use Rattle.opl_turns.specs.Listing.{count_in, entered, Opened, Leads, Listing}
use Rattle.opl_turns.proofs.MeaningLaws.{meant, declares-by, objects-by}
use Rattle.opl_turns.proofs.ListLaws.{read-ended, read-stands, read-begun, count_at, entered-table, entered-length, listing-first, listing-led, listing-passed, listing-entered}
use Rattle.opl_naming.specs.Naming.{space_by, Keeps, Onwards, LongFrom, Goes, AllSound, AllFilled, Fills, AllEmptied, declared_of, LongName, Names}

-- ---- The space of an element.

object-space : (e : ℕ) → eqb e 16 || eqb e 72 ≡ eqb (space_by e) 4
object-space e =
    on_test (eqb e 72) (λ p. rw p (or-true (eqb e 16)))
    (λ p. on_test (ltb e 12) (λ q. let l = ltb-true e 12 q in rw (p, q, ne_eqb e 16 (λ z. omega (arith, l, z))))
    (λ q. on_test (ltb 16 e) (λ o. let l = ltb-true 16 e o in rw (p, q, o, ne_eqb e 16 (λ z. omega (arith, l, z))))
    (λ o. let a = ltb-false e 12 q in on_test (eqb e 16) (λ r. let z = eqb-true e 16 r in rw (p, q, o, r, eq-eqb (e - 12) 4 (omega (arith, z))))
    (λ r. let z = eqb-false e 16 r in rw (p, q, o, r, ne_eqb (e - 12) 4 (λ y. z (omega (arith, a, y))))))))

other-space : (e i : ℕ) → i < 4 → eqb e (12 + i) ≡ eqb (space_by e) i
other-space e i h =
    on_test (eqb e 72) (λ p. let y = eqb-true e 72 p in rw (p, ne_eqb e (12 + i) (λ z. omega (arith, h, y, z)), ne_eqb 4 i (λ z. omega (arith, h, z))))
    (λ p. on_test (ltb e 12) (λ q. let l = ltb-true e 12 q in rw (p, q, ne_eqb e (12 + i) (λ z. omega (arith, l, z)), ne_eqb 5 i (λ z. omega (arith, h, z))))
    (λ q. on_test (ltb 16 e) (λ o. let l = ltb-true 16 e o in rw (p, q, o, ne_eqb e (12 + i) (λ z. omega (arith, h, l, z)), ne_eqb 5 i (λ z. omega (arith, h, z))))
    (λ o. let a = ltb-false e 12 q in
    on_test (eqb e (12 + i)) (λ r. let z = eqb-true e (12 + i) r in rw (p, q, o, r, eq-eqb (e - 12) i (omega (arith, z))))
    (λ r. let z = eqb-false e (12 + i) r in rw (p, q, o, r, ne_eqb (e - 12) i (λ y. z (omega (arith, a, y))))))))

-- Whether an element declares a name of space i, by the number of the element.
declared-by : (v : Text) (i : ℕ) → i < 5 → declares_in i v ≡ eqb (space_by (element_of v)) i
unfolding declares_in
declared-by v i h =
    on_test (eqb i 4)
    (λ q. let z = eqb-true i 4 q in rw z (rw (declares-by v 4 (omega arith), objects-by v) (object-space (element_of v))))
    (λ q. let z = eqb-false i 4 q in rw (q, declares-by v i h) (other-space (element_of v) i (omega (arith, h, z))))

-- ---- One tag.

-- A step in one space, stated for buffers with the same table of this space before and after.
keeps : (s : Text) (i at n : ℕ) (l l₀ l₁ l' : List ℕ) → Onward s i (tag_names s i) at n l₀ l₁ → table_of i l₀ ≡ table_of i l → table_of i l' ≡ table_of i l₁ →
    Keeps s i at n l l'
keeps s i at n l l₀ l₁ l' o d e = record { sound = rw e o.sound; fills = rw (e, ← d) o.fills; shorts = o.shorts }

module _ (s : Text) (at : ℕ) (r : Option Tag) (reads : ReadsTag s (next_tag (drop at s)) r) (l : List ℕ) (sound : AllSound s l) where
  pub goes-halt : r ≡ None → Goes s at l l (Ok None)
  goes-halt e = (λ i h. (walked-halt s i at r reads l (sound i h) e).walks.0, refl)

  pub goes_end : (n : ℕ) → r ≡ Some (End n) → Goes s at l l (Ok (Some n))
  goes_end n e =
      let p = read-ended s at r reads n e in
      record {
        past = p.past;
        inside = p.inside;
        room = refl;
        keeps = λ i h. keeps s i at n l l l l (walked_end s i at r reads l (sound i h) n e).walks refl refl;
        others = λ j a b. refl;
        lists = λ from h. listing-passed s from l at n p h;
      }

  module _ (name end : ℕ) (e : r ≡ Some (Start name end)) where
    pub goes-stands : Opens s name end
    goes-stands = read-stands s at r reads name end e

    abbrev v : Text
    v = take (end - name) (drop name s)

    pub goes-low : (id : ℕ) → id ≡ element_of v → id < 128
    goes-low id is = rw is (meant v).low

    -- Listing the tag changes no table.
    module _ (id : ℕ) (is : id ≡ element_of v) (room : length l ≡ scratch_words) (l₁ : List ℕ) (enters : l₁ ≡ entered (length s) l end id) where
      opened : Opened s at end id
      opened = read-begun s at r reads name end e id is

      same-table : (i : ℕ) → i < 7 → table_of i l₁ ≡ table_of i l
      same-table i h = ap (table_of i) enters ∙ entered-table i h (length s) l end id

      same-room : length l₁ ≡ length l
      same-room = ap length enters ∙ entered-length (length s) l end id

      lists : (from : ℕ) → Listing s from (list_of l) at → Listing s from (list_of l₁) end
      lists from h = rw enters (listing-entered s from l room at end id opened (goes-low id is) h)

      pub goes-room : length l₁ ≡ scratch_words
      goes-room = same-room ∙ room

      pub goes-sound : AllSound s l₁
      goes-sound i h = rw (same-table i (omega arith)) (sound i h)

      other : (i : ℕ) (h : i < 5) → (space_by id ≡ i → ⊥) → Onward s i (tag_names s i) at end l l
      other i h d =
          let q : declares_in i v ≡ false = declared-by v i h ∙ ne_eqb (space_by (element_of v)) i (λ z. d (ap (λ (k : ℕ). space_by k) is ∙ z)) in
          (walked-other s i at r reads l (sound i h) name end e (declares_in i v) refl (ap not q)).walks

      pub goes_other : ((i : ℕ) → i < 5 → space_by id ≡ i → ⊥) → Goes s at l l₁ (Ok (Some end))
      goes_other d =
          record {
            past = opened.past;
            inside = opened.inside;
            room = same-room;
            keeps = λ i h. keeps s i at end l l l l₁ (other i h (d i h)) refl (same-table i (omega arith));
            others = λ j a b. same-table j b;
            lists = lists;
          }

      module _ (i : ℕ) (h : i < 5) (here : space_by id ≡ i) (p : Part) (valued : Valued s (value_of (name_of (attribute_of i)) (given_at s end)) p) where
        named : not (declares_in i v) ≡ false
        named = ap not (declared-by v i h ∙ eq-eqb (space_by (element_of v)) i (sym (ap (λ (k : ℕ). space_by k) is) ∙ here))

        pub goes-long : 64 < p.to - p.from → Goes s at l l₁ (Err (record {}))
        goes-long q =
            record {
              space = i;
              of-tags = h;
              long = (walked-long s i at r reads l (sound i h) name end e (declares_in i v) refl named p valued q).walks;
            }

        pub goes_on : (l' : List ℕ) (k : Option ℕ) → p.to - p.from ≤ 64 → DeclaresIn s i (take (p.to - p.from) (drop p.from s)) l₁ l' k →
            Goes s at l l' (Ok (Some end))
        goes_on l' k q d =
            let o = (walked_on s i at r reads l₁ (goes-sound i h) name end e (declares_in i v) refl named p valued l' k q d).walks in
            record {
              past = opened.past;
              inside = opened.inside;
              room = d.apart.room ∙ same-room;
              keeps = λ j a. on_test (eqb j i)
                  (λ u. let z = eqb-true j i u in rw z (keeps s i at end l l₁ l' l' o (same-table i (omega arith)) refl))
                  (λ u. let z =
                  eqb-false j i u in keeps s j at end l l l l' (other j a (λ w. z (sym w ∙ here))) refl
                  (d.apart.others j (omega arith) z ∙ same-table j (omega arith)));
              others = λ j a b. d.apart.others j b (λ w. omega (arith, w)) ∙ same-table j b;
              lists = λ from g. rw d.apart.list (lists from g);
            }

-- ---- All tags from an index on. For each space, the names that are left make the table that all names make.
pub record SpaceLeft (s : Text) (i from at : ℕ) (l l' : List ℕ) : Type 0 where
  pub sound : Sound s (limit_of i) (table_of i l')
  pub fills : filled (limit_of i) (names_in s (table_of i l)) (tag_names s i from) ≡ filled (limit_of i) (names_in s (table_of i l')) (tag_names s i at)
  pub shorts : every short (tag_names s i from) ≡ every short (tag_names s i at)

pub record NamesLeft (s : Text) (from at : ℕ) (l l' : List ℕ) : Type 0 where
  pub inside : at ≤ length s
  pub room : length l' ≡ length l
  pub spaces : (i : ℕ) → i < 5 → SpaceLeft s i from at l l'
  pub others : (j : ℕ) → 4 < j → j < 7 → table_of j l' ≡ table_of j l
  pub lists : count_in (list_of l) ≡ 0 → Listing s from (list_of l') at

module _ (s : Text) (from : ℕ) (l : List ℕ) where
  pub names-first : from ≤ length s → AllSound s l → NamesLeft s from from l l
  names-first h sound =
      record {
        inside = h;
        room = refl;
        spaces = λ i a. record { sound = sound i a; fills = refl; shorts = refl };
        others = λ j a b. refl;
        lists = listing-first s from l;
      }

  module _ (at : ℕ) (l' : List ℕ) (left : NamesLeft s from at l l') where
    pub names-none : ((i : ℕ) → i < 5 → tag_names s i at ≡ []) → Fills s from l l' (Ok tt)
    unfolding filled every
    names-none e =
        record {
          room = left.room;
          each-space = λ i h.
              let a = left.spaces i h in
              record {
                shorts = a.shorts ∙ ap (every short) (e i h);
                sound = a.sound;
                names = sym (a.fills ∙ ap (filled (limit_of i) (names_in s (table_of i l'))) (e i h));
              };
          others = left.others;
          lists = λ z. listing-led s from l' at (left.lists z);
        }

    module _ (r : Walked) (l'' : List ℕ) (goes : Goes s at l' l'' r) where
      pub names-done : r ≡ Ok None → Fills s from l l'' (Ok tt)
      names-done e = let g : Goes s at l' l'' (Ok None) = rw e at goes in rw g.1 (names-none g.0)

      pub names-long : (e : TooLong) → r ≡ Err e → Fills s from l l'' (Err e)
      names-long e q =
          let g : LongFrom s at = rw q at goes in
          record { space = g.space; of-tags = g.of-tags; long = (left.spaces g.space g.of-tags).shorts ∙ g.long }

      module _ (n : ℕ) (e : r ≡ Ok (Some n)) where
        onwards : Onwards s at n l' l''
        onwards = rw e at goes

        pub names-past : (at < n) × (n ≤ length s)
        names-past = (onwards.past, onwards.inside)

        pub names-on : NamesLeft s from n l l''
        names-on =
            let o = onwards in
            record {
              inside = o.inside;
              room = o.room ∙ left.room;
              spaces =
                  λ i h. record {
                    sound = (o.keeps i h).sound;
                    fills = (left.spaces i h).fills ∙ (o.keeps i h).fills;
                    shorts = (left.spaces i h).shorts ∙ (o.keeps i h).shorts;
                  };
              others = λ j a b. o.others j a b ∙ left.others j a b;
              lists = λ z. o.lists from (left.lists z);
            }

-- ---- Emptying the spaces: the first i are empty.
pub record EmptyLeft (l l' : List ℕ) (i : ℕ) : Type 0 where
  pub room : length l' ≡ length l
  pub emptied : (j : ℕ) → j < i → Emptied (limit_of j) (table_of j l')

pub empty-first : (l : List ℕ) → EmptyLeft l l 0
empty-first l = record { room = refl; emptied = λ j h. absurd (omega arith) }

pub empty-on : (l l' l'' : List ℕ) (i : ℕ) → i < 7 → EmptyLeft l l' i → Empties i l' l'' → EmptyLeft l l'' (i + 1)
empty-on l l' l'' i h left e =
    record {
      room = e.apart.room ∙ left.room;
      emptied = λ j a. on_test (eqb j i)
          (λ u. let z = eqb-true j i u in rw z e.emptied)
          (λ u. let z = eqb-false j i u in rw (e.apart.others j (omega arith) z) (left.emptied j (omega (arith, z))));
    }

pub empty-end : (l l' : List ℕ) → length l ≡ scratch_words → EmptyLeft l l' 7 → AllEmptied l (set l' list_place 0)
empty-end l l' room left =
    record {
      room = length-set l' list_place 0 ∙ left.room;
      emptied = λ j a. rw (table_kept j a l' list_place 0 (omega arith)) (left.emptied j (omega arith));
      unlisted = count_at (set l' list_place 0) ∙ get_or-set_same l' list_place 0 0 (omega (arith, left.room, room));
    }

-- ---- Both texts.

of-tags : (s t : Text) (i : ℕ) → i < 5 → declared_of s t i ≡ declared_at i (tags s)
of-tags s t i h = rw (lt-ltb i 5 h)

of-lines : (s t : Text) (i : ℕ) → 5 ≤ i → declared_of s t i ≡ line_names t i 0
of-lines s t i h = rw (le-ltb i 5 h)

module _ (s t : Text) (from : ℕ) (same-tags : tags s ≡ walk_at s from) where
  pub long-tag : LongFrom s from → LongName s t
  long-tag g =
      record {
        space = g.space;
        of-seven = omega (arith, g.of-tags);
        long = ap (every short) (of-tags s t g.space g.of-tags ∙ ap (declared_at g.space) same-tags) ∙ g.long;
      }

  pub long-line : (i : ℕ) (l l' : List ℕ) (e : TooLong) → 5 ≤ i → i < 7 → DeclaresAll t i (line_names t i 0) l l' (Err e) → LongName s t
  long-line i l l' e a b d = record { space = i; of-seven = b; long = ap (every short) (of-lines s t i a) ∙ d.ends }

  module _ (l₀ l₁ l₂ : List ℕ) (room : length l₀ ≡ scratch_words) (emptied : AllEmptied l₀ l₁) where
    pub empty-sound : AllSound s l₁
    empty-sound i h = (emptied.emptied i (omega arith)).sound s

    module _ (filled-tags : AllFilled s from l₁ l₂) where
      pub tasks-sound : Sound t (limit_of 5) (table_of 5 l₂)
      tasks-sound = rw (filled-tags.others 5 (omega arith) (omega arith)) ((emptied.emptied 5 (omega arith)).sound t)

      module _ (l₃ : List ℕ) (tasks : DeclaresAll t 5 (line_names t 5 0) l₂ l₃ (Ok tt)) where
        pub templates-sound : Sound t (limit_of 6) (table_of 6 l₃)
        templates-sound =
            rw (tasks.apart.others 6 (omega arith) (λ e. omega (arith, e)) ∙ filled-tags.others 6 (omega arith) (omega arith))
            ((emptied.emptied 6 (omega arith)).sound t)

        module _ (l₄ : List ℕ) (templates : DeclaresAll t 6 (line_names t 6 0) l₃ l₄ (Ok tt)) where
          tags-stay : (i : ℕ) → i < 5 → table_of i l₄ ≡ table_of i l₂
          tags-stay i h = templates.apart.others i (omega arith) (λ e. omega (arith, e)) ∙ tasks.apart.others i (omega arith) (λ e. omega (arith, e))

          tasks-stay : table_of 5 l₄ ≡ table_of 5 l₃
          tasks-stay = templates.apart.others 5 (omega arith) (λ e. omega (arith, e))

          tags-held : (i : ℕ) → i < 5 → Sound s (limit_of i) (table_of i l₄) × (names_in s (table_of i l₄) ≡ filled (limit_of i) [] (declared_at i (tags s)))
          tags-held i h = (
            rw (tags-stay i h) (filled-tags.each-space i h).sound,
            ap (names_in s) (tags-stay i h) ∙ (filled-tags.each-space i h).names
                ∙ ap (λ (x : List Text). filled (limit_of i) x (tag_names s i from)) ((emptied.emptied i (omega arith)).empty s)
                ∙ ap (λ ts. filled (limit_of i) [] (declared_at i ts)) (sym same-tags),
          )

          tasks-held : Sound t (limit_of 5) (table_of 5 l₄) × (names_in t (table_of 5 l₄) ≡ filled (limit_of 5) [] (line_names t 5 0))
          tasks-held = (
            rw tasks-stay tasks.ends.1.0,
            ap (names_in t) tasks-stay ∙ tasks.ends.1.1
                ∙ ap (λ (x : List Text). filled (limit_of 5) x (line_names t 5 0))
                (ap (names_in t) (filled-tags.others 5 (omega arith) (omega arith)) ∙ (emptied.emptied 5 (omega arith)).empty t),
          )

          templates-held : Sound t (limit_of 6) (table_of 6 l₄) × (names_in t (table_of 6 l₄) ≡ filled (limit_of 6) [] (line_names t 6 0))
          templates-held = (
            templates.ends.1.0,
            templates.ends.1.1
                ∙ ap (λ (x : List Text). filled (limit_of 6) x (line_names t 6 0))
                (ap (names_in t) (tasks.apart.others 6 (omega arith) (λ e. omega (arith, e)) ∙ filled-tags.others 6 (omega arith) (omega arith)) ∙
                (emptied.emptied 6 (omega arith)).empty t),
          )

          lines-held : (i : ℕ) → 4 < i → i < 7 → Sound t (limit_of i) (table_of i l₄) × (names_in t (table_of i l₄) ≡ filled (limit_of i) [] (line_names t i 0))
          lines-held i a b =
              on_test (eqb i 5) (λ q. let z = eqb-true i 5 q in rw z tasks-held)
              (λ q. let z = eqb-false i 5 q in let w : i ≡ 6 = omega (arith, z) in rw w templates-held)

          pub all_held : Held s t (all_names s t) l₄
          all_held = held s t l₄ (templates.apart.room ∙ tasks.apart.room ∙ filled-tags.room ∙ emptied.room ∙ room) tags-held lines-held

          pub all_listed : Leads s (list_of l₄) 0 from
          all_listed = rw (templates.apart.list, tasks.apart.list) (filled-tags.lists emptied.unlisted)

-- The result of the last call is the result of `name_all`.
module _ (s t : Text) (from : ℕ) (same-tags : tags s ≡ walk_at s from) (l₀ l₁ l₂ l₃ l₄ : List ℕ) (room : length l₀ ≡ scratch_words) (emptied : AllEmptied l₀ l₁)
    (filled-tags : AllFilled s from l₁ l₂) (tasks : DeclaresAll t 5 (line_names t 5 0) l₂ l₃ (Ok tt)) where
  pub named-all : (r : Result (Unit {0}) TooLong) → DeclaresAll t 6 (line_names t 6 0) l₃ l₄ r → Names s t from l₄ r
  named-all (Ok u) d = (
    all_held s t from same-tags l₀ l₁ l₂ room emptied filled-tags l₃ tasks l₄ d,
    all_listed s t from same-tags l₀ l₁ l₂ room emptied filled-tags l₃ tasks l₄ d,
  )
  named-all (Err e) d = long-line s t from same-tags 6 l₃ l₄ e (omega arith) (omega arith) d
