-- Laws about one step of the pass: over a tag, to the next cursor.
use Prim.Native.Nat.{ℕ, suc, ◌*◌, ◌-◌, ◌≤◌}
use mathlib.Core.Path.{◌≡◌, refl, ap, ◌∙◌}
use mathlib.Core.Bool.{Bool, true, false, cond}
use mathlib.Core.List.{List, [], ◌∷◌}
use native.Mathlib.Omega.{arith}
use Rattle.std.specs.Prelude.{Option, Some, None}
use lib.Dec.{eqb, leb}
use borrow.Author.Tests.{eqb-false, leb-true}
use Rattle.paper_lower.specs.Lists.{upd, Every}
use Rattle.paper_lower.specs.Records.{Bytes, put_at}
use Rattle.paper_lower.proofs.ListLaws.{both}
use Rattle.paper_opl.specs.Reading.{Text}
use Rattle.paper_opl.specs.Tree.{Tag as Tagged}
use Rattle.paper_opl.specs.Naming.{Names}
use Rattle.paper_opl.specs.Walk.{called, Context, turn, few as few_of, few_from, kind_at, leading, Saying, sayings, record_said}
use Rattle.paper_opl.specs.Filling.{valued, fill, tally}
use Rattle.paper_opl.proofs.Inversion.{on_test}
use Rattle.opl_tags.specs.Tags.{given_at, walk_at}
use Rattle.opl_turns.specs.Meaning.{kind_by, sets_by, number_by}
use Rattle.opl_turns.specs.Listing.{Opened, Meets}
use Rattle.opl_turns.specs.Turning.{context_of, tags_at, behind, turned_by, SmallTag, Stood, few_at, Steps, Turns}
use Rattle.opl_turns.specs.declared.Cursor.{Cursor}
use Rattle.opl_turns.specs.declared.Met.{Met}
use Rattle.opl_turns.specs.declared.Met.TheVariants.{Begun, Ended}
use Rattle.opl_turns.specs.declared.Turned.TheVariants.{Says, Silent}
use Rattle.opl_turns.proofs.MeaningLaws.{Meant, meant, kind-is, turn_is, kind-small}

-- ---- The counts of the context.

-- If the counts are within their limits, they are small.
pub few-small : (c : Cursor) → few_of (context_of c) ≡ true → (c.parts ≤ 16) × ((c.walls ≤ 16) × (c.blocks ≤ 256))
few-small c e =
    let a = both (leb c.parts 16) _ e in
    let b = both (leb c.walls 16) (leb c.blocks (16 * c.walls)) a.1 in
    let x = leb-true c.parts 16 a.0 in
    let y = leb-true c.walls 16 b.0 in
    let z = leb-true c.blocks (16 * c.walls) b.1 in
    (x, (y, omega (arith, y, z)))

few_on : (c : Context) (t : Tagged) (ts : List Tagged) (n : Context) → turn c t ≡ n → few_of c ≡ true → few_from c (t ∷ ts) ≡ few_from n ts
unfolding few_from
few_on c t ts n e f = rw (f, e)

-- ---- The first tag of a list, with a record or without.
module _ (c : Context) (t : Tagged) (ts : List Tagged) (k : ℕ) (kind : kind_at c t ≡ k) (n : Context) (turned : turn c t ≡ n) where
  module _ (q : eqb k 0 ≡ true) where
    quiet-says : sayings c (t ∷ ts) ≡ sayings n ts
    unfolding sayings
    quiet-says = rw (kind, q, turned)

    quiet-tallies : (f : ℕ → ℕ) → tally c f (t ∷ ts) ≡ tally n f ts
    unfolding tally
    quiet-tallies f = rw (kind, q, turned)

    quiet-fills : (ns : Names) (f : ℕ → ℕ) (out : Bytes) → fill ns c f (t ∷ ts) out ≡ fill ns n f ts out
    unfolding fill
    quiet-fills ns f out = rw (kind, q, turned)

  module _ (q : eqb k 0 ≡ false) (number : ℕ) (numbered : cond (called "hdsodtp_partition" t) (c.partitionings - 1) (cond (called "partition_object" t) (c.blocks - 1) 0) ≡ number) where
    abbrev said : Saying
    said = record { kind = k; found = record { number = number; given = t.given; inside = leading ts } }

    loud-says : sayings c (t ∷ ts) ≡ said ∷ sayings n ts
    unfolding sayings
    loud-says = rw (kind, q, turned, numbered)

    loud-tallies : (f : ℕ → ℕ) → tally c f (t ∷ ts) ≡ tally n (upd f k (suc (f k))) ts
    unfolding tally
    loud-tallies f = rw (kind, q, turned)

    loud-fills : (ns : Names) (f : ℕ → ℕ) (out : Bytes) →
        fill ns c f (t ∷ ts) out ≡ fill ns n (upd f k (suc (f k))) ts (put_at out (f k) (valued (record_said ns said)))
    unfolding fill
    loud-fills ns f out = rw (kind, q, turned, numbered)

-- ---- The tag at a cursor.
module _ (s : Text) (l : List ℕ) (c : Cursor) (stood : Stood s c) (few : few_of (context_of c) ≡ true) (r : Option Met) (meets : Meets s l c.at c.entry r) where
  pub turn-over : r ≡ None → tags_at s c ≡ []
  turn-over e = rw e at meets

  pub turn-ended : (n : ℕ) → r ≡ Some (Ended n) → Turns s l c (Some (Silent (record { at = n; entry = c.entry; sets = c.sets; parts = c.parts; walls = c.walls; blocks = c.blocks })))
  turn-ended n e =
      let m : Meets s l c.at c.entry (Some (Ended n)) = rw e at meets in
      let w = m.0.walk in (
        record {
          steps = record {
            past = m.0.past;
            stood = record { inside = m.0.inside; low = stood.low; small = rw w at stood.small };
            fews = ap (few_from (context_of c)) w;
          };
          says = ap (sayings (context_of c)) w;
          tallies = λ f. ap (tally (context_of c) f) w;
          fills = λ ns f out. ap (λ (ts : List Tagged). fill ns (context_of c) f ts out) w;
        },
        m.1,
      )

  module _ (id end entry : ℕ) (e : r ≡ Some (Begun id end entry)) where
    begun-is : Meets s l c.at c.entry (Some (Begun id end entry))
    begun-is = rw e at meets

    abbrev o : Opened s c.at end id
    o = begun-is.0

    abbrev here : Tagged
    here = record { name = o.name; given = given_at s end }

    abbrev n : Cursor
    n = behind id c end entry

    means : Meant o.name id
    means = rw o.element at (meant o.name)

    turned : turn (context_of c) here ≡ context_of n
    turned = turn_is (context_of c) here ∙ ap (λ (i : ℕ). context_of (behind i c end entry)) o.element

    smalls : SmallTag here × Every SmallTag (walk_at s end)
    smalls = rw o.walk at stood.small

    low : sets_by c.sets id ≤ 10
    low = on_test (eqb id 20) (λ q. rw q (omega arith)) (λ q. on_test (eqb id 21) (λ p. rw (q, p) (omega arith)) (λ p. rw (q, p) stood.low))

    fews : few_at s c ≡ few_at s n
    fews = ap (few_from (context_of c)) o.walk ∙ few_on (context_of c) here (walk_at s end) (context_of n) turned few

    steps : Steps s c n
    steps = record { past = o.past; stood = record { inside = o.inside; low = low; small = smalls.1 }; fews = fews }

    pub turn-begun : Turns s l c (Some (turned_by id c end entry))
    turn-begun = go (eqb (kind_by c.sets id) 0) refl
      where
        k : kind_at (context_of c) here ≡ kind_by c.sets id
        k = kind-is (context_of c) here ∙ ap (kind_by c.sets) o.element

        m : cond (called "hdsodtp_partition" here) (c.parts - 1) (cond (called "partition_object" here) (c.blocks - 1) 0) ≡ number_by c.parts c.blocks id
        m = rw (means.partition, means.object)

        go : (b : Bool) → eqb (kind_by c.sets id) 0 ≡ b → Turns s l c (Some (cond b (Silent n) (Says (kind_by c.sets id) (number_by c.parts c.blocks id) end n)))
        go true q = (
          record {
            steps = steps;
            says = ap (sayings (context_of c)) o.walk ∙ quiet-says (context_of c) here (walk_at s end) _ k (context_of n) turned q;
            tallies = λ f. ap (tally (context_of c) f) o.walk ∙ quiet-tallies (context_of c) here (walk_at s end) _ k (context_of n) turned q f;
            fills =
                λ ns f out. ap (λ (ts : List Tagged). fill ns (context_of c) f ts out) o.walk ∙
                quiet-fills (context_of c) here (walk_at s end) _ k (context_of n) turned q ns f out;
          },
          begun-is.1,
        )
        go false q =
            let z = eqb-false (kind_by c.sets id) 0 q in (
              record {
                steps = steps;
                ends = refl;
                cardinal = smalls.0;
                some = omega (arith, z);
                small = rw o.element at (kind-small c.sets o.name stood.low);
                says = ap (sayings (context_of c)) o.walk ∙ loud-says (context_of c) here (walk_at s end) _ k (context_of n) turned q _ m;
                tallies = λ f. ap (tally (context_of c) f) o.walk ∙ loud-tallies (context_of c) here (walk_at s end) _ k (context_of n) turned q _ m f;
                fills =
                    λ ns f out. ap (λ (ts : List Tagged). fill ns (context_of c) f ts out) o.walk ∙
                    loud-fills (context_of c) here (walk_at s end) _ k (context_of n) turned q _ m ns f out;
              },
              begun-is.1,
            )
