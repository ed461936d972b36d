-- Laws about the names that tags declare, tag by tag; and the invariant of a loop that declares all names of a space (`Left`).
use Prim.Native.Nat.{ℕ, ◌-◌, ◌≤◌, ◌<◌}
use mathlib.Core.Path.{◌≡◌, refl, sym, ap, ◌∙◌}
use mathlib.Core.Bool.{Bool, true, false, not}
use mathlib.Core.List.{List, [], ◌∷◌}
use native.Mathlib.Omega.{arith}
use Rattle.std.specs.Prelude.{Option, Some, None, Ok, Err}
use lib.ListN.{length, take, drop, length-drop}
use lib.Seq.{length-take-le}
use borrow.Author.Tests.{not-true, not-false, le-leb, lt-leb}
use Rattle.paper_lower.specs.Lists.{every, keep, each}
use Rattle.paper_opl.specs.Reading.{Text, Read}
use Rattle.paper_opl.specs.Reading.Read.{got, bad}
use Rattle.paper_opl.specs.Tree.{Tag as Tagged}
use Rattle.paper_opl.specs.Naming.{value_of}
use Rattle.paper_opl.proofs.Inversion.{bad≢got}
use Rattle.paper_opl.proofs.Counts.{below_of}
use Rattle.opl_names.specs.Table.{names_in, Sound}
use Rattle.opl_table.specs.Numbers.{name_of}
use Rattle.opl_tags.specs.Tags.{placeless, given_at, Valued, next_tag, walk_at, Opens, ReadsTag}
use Rattle.opl_tags.specs.declared.Tag.{Tag}
use Rattle.opl_tags.specs.declared.Tag.TheVariants.{Start, End}
use Rattle.opl_tags.specs.declared.Part.{Part}
use Rattle.opl_tags.proofs.AttributeLaws.{placed}
use Rattle.opl_tags.proofs.Walked.{step, stop, next-below}
use Rattle.opl_spaces.specs.Spaces.{limit_of, table_of, Apart, DeclaresIn}
use Rattle.opl_line_names.specs.Names.{declares_in, attribute_of, declared_at, short, tag_names, kept_name, filled, Onward, Walked, Walks, Walking, DeclaresAll}
use Rattle.opl_line_names.specs.declared.LongName.{LongName}

pub untouched : (i : ℕ) (l : List ℕ) → Apart i l l
untouched i l = record { room = refl; others = λ j h d. refl; list = refl }

-- ---- One step: the tag that begins next at `at`.
module _ (s : Text) (i at : ℕ) (r : Option Tag) (reads : ReadsTag s (next_tag (drop at s)) r) (l : List ℕ) (sound : Sound s (limit_of i) (table_of i l)) where
  pub walked-halt : r ≡ None → Walking s i (tag_names s i) at l l (Ok None)
  unfolding declared_at keep each
  walked-halt e = record { walks = (go (next_tag (drop at s)) refl (rw e at reads.read_is), refl); apart = untouched i l }
    where
      go : (x : Read (List Tagged)) → next_tag (drop at s) ≡ x → bad [] ≡ placeless x → declared_at i (walk_at s at) ≡ []
      go (got ts u) p q = absurd (bad≢got q)
      go (bad u) p q = ap (declared_at i) (stop (drop at s) u p)

  onward : (n : ℕ) (ts : List Tagged) → n ≤ length s → next_tag (drop at s) ≡ got ts (drop n s) → at < n
  onward n ts h e = omega (arith, below_of e (next-below (drop at s)), length-drop at s, length-drop n s)

  pub walked_end : (n : ℕ) → r ≡ Some (End n) → Walking s i (tag_names s i) at l l (Ok (Some n))
  walked_end n e =
      let q = placed (next_tag (drop at s)) [] (drop n s) (rw e at reads.read_is) in
      let u : n ≤ length s = rw e at reads.stands in
      let w = step (drop at s) (drop n s) [] q in
      record {
        walks =
            record {
              past = onward n [] u q;
              inside = u;
              sound = sound;
              fills = ap (λ ts. filled (limit_of i) (names_in s (table_of i l)) (declared_at i ts)) w;
              shorts = ap (λ ts. every short (declared_at i ts)) w;
            };
        apart = untouched i l;
      }

  module _ (name end : ℕ) (e : r ≡ Some (Start name end)) where
    start-stands : Opens s name end
    start-stands = rw e at reads.stands

    abbrev pub here : Tagged
    here = record { name = take (end - name) (drop name s); given = given_at s end }

    start_is : next_tag (drop at s) ≡ got (here ∷ []) (drop end s)
    start_is = placed (next_tag (drop at s)) (here ∷ []) (drop end s) (rw e at reads.read_is)

    walk_is : walk_at s at ≡ here ∷ walk_at s end
    walk_is = step (drop at s) (drop end s) (here ∷ []) start_is

    module _ (b : Bool) (is : b ≡ declares_in i (take (end - name) (drop name s))) where
      other : b ≡ false → declared_at i (walk_at s at) ≡ declared_at i (walk_at s end)
      unfolding declared_at keep each
      other q = rw (walk_is, ← is, q)

      pub walked-other : not b ≡ true → Walking s i (tag_names s i) at l l (Ok (Some end))
      walked-other q =
          let o = start-stands in
          let w = other (not-true b q) in
          record {
            walks =
                record {
                  past = onward end (here ∷ []) o.inside start_is;
                  inside = o.inside;
                  sound = sound;
                  fills = ap (filled (limit_of i) (names_in s (table_of i l))) w;
                  shorts = ap (every short) w;
                };
            apart = untouched i l;
          }

      module _ (q : not b ≡ false) (p : Part) (valued : Valued s (value_of (name_of (attribute_of i)) (given_at s end)) p) where
        abbrev pub said : Text
        said = take (p.to - p.from) (drop p.from s)

        said-length : length said ≡ p.to - p.from
        said-length = length-take-le (p.to - p.from) (drop p.from s) (omega (arith, length-drop p.from s, valued.inside, valued.order))

        declares : declared_at i (walk_at s at) ≡ said ∷ declared_at i (walk_at s end)
        unfolding declared_at keep each
        declares = rw (walk_is, ← is, not-false b q, ← valued.value)

        pub walked-long : 64 < p.to - p.from → Walking s i (tag_names s i) at l l (Err (record {}))
        unfolding every
        walked-long h = record { walks = rw (declares, lt-leb (length said) 64 (omega (arith, said-length))); apart = untouched i l }

        pub walked_on : (l' : List ℕ) (k : Option ℕ) → p.to - p.from ≤ 64 → DeclaresIn s i said l l' k → Walking s i (tag_names s i) at l l' (Ok (Some end))
        unfolding every filled kept_name
        walked_on l' k h d =
            let o = start-stands in
            let z : names_in s (table_of i l') ≡ kept_name (limit_of i) said (names_in s (table_of i l)) = d.declares.names ∙ rw d.declares.number in
            record {
              walks = record {
                past = onward end (here ∷ []) o.inside start_is;
                inside = o.inside;
                sound = d.declares.sound;
                fills = rw (declares, z);
                shorts = rw (declares, le-leb (length said) 64 (omega (arith, said-length)));
              };
              apart = d.apart;
            }

-- ---- All tags from an index on.
together : (i : ℕ) (a b c : List ℕ) → Apart i a b → Apart i b c → Apart i a c
together i a b c x y = record { room = y.room ∙ x.room; others = λ j h d. y.others j h d ∙ x.others j h d; list = y.list ∙ x.list }

-- The names from `at` on are still to be declared: added to the table as it is now, they make the table that all names from `from` on make.
pub record Left (s : Text) (i : ℕ) (names : ℕ → List Text) (from at : ℕ) (l l' : List ℕ) : Type 0 where
  pub inside : at ≤ length s
  pub sound : Sound s (limit_of i) (table_of i l')
  pub fills : filled (limit_of i) (names_in s (table_of i l)) (names from) ≡ filled (limit_of i) (names_in s (table_of i l')) (names at)
  pub shorts : every short (names from) ≡ every short (names at)
  pub apart : Apart i l l'

pub left-first : (s : Text) (i : ℕ) (names : ℕ → List Text) (from : ℕ) (l : List ℕ) → from ≤ length s → Sound s (limit_of i) (table_of i l) →
    Left s i names from from l l
left-first s i names from l h x = record { inside = h; sound = x; fills = refl; shorts = refl; apart = untouched i l }

module _ (s : Text) (i : ℕ) (names : ℕ → List Text) (from at : ℕ) (l l' : List ℕ) (left : Left s i names from at l l') where
  pub left-last : names at ≡ [] → DeclaresAll s i (names from) l l' (Ok tt)
  unfolding filled every
  left-last e =
      record {
        ends = (left.shorts ∙ ap (every short) e, (left.sound, sym (left.fills ∙ ap (filled (limit_of i) (names_in s (table_of i l'))) e)));
        apart = left.apart;
      }

  module _ (l'' : List ℕ) (r : Walked) (walking : Walking s i names at l' l'' r) where
    pub left-done : r ≡ Ok None → DeclaresAll s i (names from) l l'' (Ok tt)
    left-done e = let w : Walks s i names at l' l'' (Ok None) = rw e at walking.walks in rw w.1 (left-last w.0)

    pub left-long : (e : LongName) → r ≡ Err e → DeclaresAll s i (names from) l l'' (Err e)
    left-long e q =
        let w : Walks s i names at l' l'' (Err e) = rw q at walking.walks in
        record { ends = left.shorts ∙ w; apart = together i l l' l'' left.apart walking.apart }

    module _ (n : ℕ) (e : r ≡ Ok (Some n)) where
      step-on : Onward s i names at n l' l''
      step-on = rw e at walking.walks

      pub left-past : at < n
      left-past = step-on.past

      pub left-on : Left s i names from n l l''
      left-on =
          let o = step-on in
          record {
            inside = o.inside;
            sound = o.sound;
            fills = left.fills ∙ o.fills;
            shorts = left.shorts ∙ o.shorts;
            apart = together i l l' l'' left.apart walking.apart;
          }
