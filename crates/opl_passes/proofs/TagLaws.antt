-- Laws about the records of the tags, tag by tag: looking them up and counting them, writing them, where each kind begins, and writing the kept records.
use Prim.Native.Nat.{ℕ, zero, suc, ◌+◌, ◌*◌, ◌-◌, ◌≤◌, ◌<◌}
use mathlib.Core.Path.{◌≡◌, refl, sym, ap, ◌∙◌}
use mathlib.Core.Bool.{Bool, true, false, ◌&&◌, false≢true}
use mathlib.Core.List.{List, [], ◌∷◌}
use native.Mathlib.Omega.{arith}
use Rattle.std.specs.Prelude.{Option, Some, None}
use lib.Dec.{eqb}
use lib.ListN.{length, set, length-set}
use lib.Seq.{get_or-set_same, get_or-set_other}
use borrow.Author.Tests.{eqb-true, eqb-false}
use Rattle.paper_lower.specs.Lists.{upd, holds, every, many, Every}
use Rattle.paper_lower.specs.Lists.Maybe.{none, just}
use Rattle.paper_lower.specs.Records.{Bytes, put_at}
use Rattle.paper_lower.proofs.ListLaws.{both, upd_same, upd_other}
use Rattle.paper_opl.specs.Reading.{Text}
use Rattle.paper_opl.specs.Tree.{Tag}
use Rattle.paper_opl.specs.Naming.{Names}
use Rattle.paper_opl.specs.Walk.{Context, start, turn, few, few_from, sayings, record_said}
use Rattle.paper_opl.specs.Filling.{fill, tally}
use Rattle.paper_opl.proofs.Inversion.{on_test}
use Rattle.paper_opl.proofs.Tallied.{tally-is}
use Rattle.record_output.specs.Output.{two_words, Fits, a_record_of}
use Rattle.opl_spaces.specs.Spaces.{kept_room, list_of}
use Rattle.opl_tags.specs.Tags.{walk_at}
use Rattle.opl_said.specs.Said.{Held, SaysIt, Small}
use Rattle.opl_said.specs.declared.Fields.{Fields}
use Rattle.opl_said.specs.Forms.{numbers}
use Rattle.opl_turns.specs.Listing.{Leads}
use Rattle.opl_turns.specs.Turning.{context_of, tags_at, Stood, Led, few_at, Passes, Tells, SmallTag, saying_at}
use Rattle.opl_turns.specs.declared.Cursor.{Cursor}
use Rattle.opl_passes.specs.Tags.{of, all_present, there_from, tallied, Counts, Checks, ChecksAll, TagsAre, begins, Begun, TagsFit, FitsAll, Puts, Writes, PutsKept}
use Rattle.opl_passes.specs.Kept.{low_at, high_at, kind_in, next_to, written_to, KeptLeft, Keeps, AllKept, Keeping, Fitting}
use Rattle.opl_passes.proofs.KeptLaws.{all-kept, place-fits as kept-fits}
use Rattle.opl_passes.specs.declared.Checked.{Checked}
use Rattle.opl_passes.specs.declared.Checked.TheVariants.{Next, Unnamed, Done}

-- ---- A list with a number for each kind, after one number is changed.
of-set : (l : List ℕ) (k x : ℕ) → k < length l → of (set l k x) ≡ upd (of l) k x
of-set l k x h = λ i j. each-is j i
  where
    each-is : (j : ℕ) → of (set l k x) j ≡ upd (of l) k x j
    each-is j =
        on_test (eqb j k)
        (λ q. let e = eqb-true j k q in rw (upd_same (of l) k j x e, e) (get_or-set_same l k x 0 h))
        (λ q. let e = eqb-false j k q in rw (upd_other (of l) k j x e) (get_or-set_other l k j x 0 e))

one_up : (l : List ℕ) (k : ℕ) → k < length l → upd (of l) k (suc (of l k)) ≡ of (set l k (of l k + 1))
one_up l k h = let z : suc (of l k) ≡ of l k + 1 = omega arith in rw z (sym (of-set l k (of l k + 1) h))

-- ---- The record of one tag is looked up and counted, or written.
module _ (ns : Names) (s : Text) (c : Cursor) where
  pub passed : (l : List ℕ) (n : Cursor) → ((k : ℕ) → of l k ≤ c.at) → Passes s c n → Counts ns s c n l l
  passed l n few p =
      record {
        steps = p.steps;
        there-too = ap (every _) p.says;
        tallies = p.tallies (of l);
        few = λ k. let f = few k in let b = p.steps.past in omega arith;
        room = refl;
      }

  module _ (kind number end : ℕ) (n : Cursor) (t : Tells s c kind number end n) (f : Option Fields) (says : SaysIt kind (record_said ns (saying_at s kind number end)) f) where
    pub told_none : f ≡ None → there_from ns s c ≡ false
    unfolding every holds
    told_none e = let z : none ≡ record_said ns (saying_at s kind number end) = rw e at says.says in rw (t.says, ← z)

    pub all_said : f ≡ None → there_from ns s c ≡ true → {R : Type 0} → R
    all_said e all = absurd (false≢true (sym (told_none e) ∙ all))

    module _ (a₀ a b d m : ℕ) (e : f ≡ numbers a₀ a b d m) where
      said-is : just (a_record_of kind a₀ a b d m) ≡ record_said ns (saying_at s kind number end)
      said-is = rw e at says.says

      there-is : there_from ns s c ≡ there_from ns s n
      unfolding every holds
      there-is = rw (t.says, ← said-is)

      module _ (l : List ℕ) (room : length l ≡ 19) where
        within : kind < length l
        within = omega (arith, t.small, room)

        counts-on : tallied s c l ≡ tallied s n (set l kind (of l kind + 1))
        counts-on = t.tallies (of l) ∙ ap (λ (g : ℕ → ℕ). tally (context_of n) g (tags_at s n)) (one_up l kind within)

        pub counted : ((k : ℕ) → of l k ≤ c.at) → Counts ns s c n l (set l kind (of l kind + 1))
        counted few =
            record {
              steps = t.steps;
              there-too = there-is;
              tallies = counts-on;
              few = λ k. at_most (ap (λ (g : ℕ → ℕ). g k) (of-set l kind (of l kind + 1) within)) (more k);
              room = length-set l kind (of l kind + 1);
            }
          where
            at_most : {x y z : ℕ} → x ≡ y → y ≤ z → x ≤ z
            at_most p q = omega arith

            more : (k : ℕ) → upd (of l) kind (of l kind + 1) k ≤ n.at
            more k =
                let p = t.steps.past in
                on_test (eqb k kind)
                (λ q. let g = few kind in rw (upd_same (of l) kind k (of l kind + 1) (eqb-true k kind q)) (omega arith))
                (λ q. let g = few k in rw (upd_other (of l) kind k (of l kind + 1) (eqb-false k kind q)) (omega arith))

        module _ (out : Bytes) (fit : TagsFit s c l out) where
          place-fits : 16 * (of l kind + 1) ≤ length out
          place-fits =
              let g = fit kind (omega (arith, t.some)) t.small in
              let u : tallied s c l kind ≡ upd (of l) kind (suc (of l kind)) kind + many _ =
              ap (λ (g : ℕ → ℕ). g kind) (t.tallies (of l)) ∙ tally-is (tags_at s n) (context_of n) (upd (of l) kind (suc (of l kind))) kind in
              let v = upd_same (of l) kind kind (suc (of l kind)) refl in
              omega (arith, g, u, v)

          pub tag_fits : Fits out (of l kind) kind a₀ a b d
          tag_fits =
              let z : Small a₀ a b d = rw e at says.fits in
              record {
                room = omega (arith, place-fits);
                kind_fits = omega (arith, t.small);
                n-fits = z.n-fits;
                a-fits = z.a-fits;
                b-fits = z.b-fits;
                c-fits = z.c-fits;
              }

          pub tag-more : of l kind + 1 ≤ length out
          tag-more = omega (arith, place-fits)

          pub tag-written : (out' : Bytes) → there_from ns s c ≡ true → out' ≡ put_at out (of l kind) (a_record_of kind a₀ a b d m) → length out' ≡ length out
              → Puts ns s c n l (set l kind (of l kind + 1)) out out'
          tag-written out' all q r =
              record {
                steps = t.steps;
                there-too = sym there-is ∙ all;
                tallies = counts-on;
                fills = t.fills ns (of l) out ∙ rw (← said-is, ← q) (ap (λ (g : ℕ → ℕ). fill ns (context_of n) g (tags_at s n) out') (one_up l kind within));
                room = r;
                kinds = length-set l kind (of l kind + 1);
              }

  pub passed_over : (l : List ℕ) (out : Bytes) (n : Cursor) → there_from ns s c ≡ true → Passes s c n → Puts ns s c n l l out out
  passed_over l out n all p =
      record {
        steps = p.steps;
        there-too = sym (ap (every _) p.says) ∙ all;
        tallies = p.tallies (of l);
        fills = p.fills ns (of l) out;
        room = refl;
        kinds = refl;
      }

-- ---- All tags from an index on.
-- The invariant of checking: the answer for all tags is the answer for the tags from the cursor on, with the counts so far.
pub record CheckLeft (ns : Names) (s : Text) (ts : List Tag) (l₀ : List ℕ) (c : Cursor) (l : List ℕ) : Type 0 where
  pub stood : Stood s c
  pub there-too : all_present ns start ts ≡ there_from ns s c
  pub tallies : tally start (of l₀) ts ≡ tallied s c l
  pub fews : few_from start ts ≡ few_at s c
  pub few : (k : ℕ) → of l k ≤ c.at
  pub room : length l ≡ length l₀

-- Whether the counts of the context are within their limits, tag by tag.
few-none : (c : Context) (ts : List Tag) → few c ≡ false → few_from c ts ≡ false
unfolding few_from
few-none c [] e = e
few-none c (t ∷ ts) e = rw e

few_head : (c : Context) (ts : List Tag) → few_from c ts ≡ true → few c ≡ true
unfolding few_from
few_head c [] e = e
few_head c (t ∷ ts) e = (both (few c) (few_from (turn c t) ts) e).0

and-false : (b : Bool) → false ≡ b && false
and-false true = refl
and-false false = refl

and-true : (b : Bool) → b ≡ b && true
and-true true = refl
and-true false = refl

module _ (ns : Names) (s : Text) (from : ℕ) (l₀ : List ℕ) where
  abbrev ts : List Tag
  ts = walk_at s from

  pub check-first : from ≤ length s → Every SmallTag ts → ((k : ℕ) → of l₀ k ≡ 0) →
      CheckLeft ns s ts l₀ (record { at = from; entry = 0; sets = 9; parts = 0; walls = 0; blocks = 0 }) l₀
  check-first h small zeros =
      record {
        stood = record { inside = h; low = omega arith; small = small };
        there-too = refl;
        tallies = refl;
        fews = refl;
        few = λ k. let z = zeros k in omega arith;
        room = refl;
      }

  module _ (c : Cursor) (l : List ℕ) (left : CheckLeft ns s ts l₀ c l) where
    pub check-none : tags_at s c ≡ [] → ChecksAll ns ts l₀ l (few (context_of c))
    unfolding sayings every tally few_from
    check-none e =
        record {
          verdict = rw (left.fews, left.there-too, e) (and-true (few (context_of c)));
          counts = λ _. sym (left.tallies ∙ rw e);
          room = λ _. left.room;
        }

    check-over : (l' : List ℕ) → tags_at s c ≡ [] → l' ≡ l → ChecksAll ns ts l₀ l' (few (context_of c))
    check-over l' e q = rw q (check-none e)

    check-unnamed : (l' : List ℕ) → there_from ns s c ≡ false → ChecksAll ns ts l₀ l' false
    check-unnamed l' e =
        record {
          verdict = rw (left.there-too, e) (and-false (few_from start ts));
          counts = λ u. absurd (false≢true u);
          room = λ u. absurd (false≢true u);
        }

    check-many : few (context_of c) ≡ false → ChecksAll ns ts l₀ l false
    check-many e =
        record {
          verdict = rw (left.fews, few-none (context_of c) (tags_at s c) e);
          counts = λ u. absurd (false≢true u);
          room = λ u. absurd (false≢true u);
        }

    check-on : (n : Cursor) (l' : List ℕ) → Counts ns s c n l l' → CheckLeft ns s ts l₀ n l'
    check-on n l' o =
        record {
          stood = o.steps.stood;
          there-too = left.there-too ∙ o.there-too;
          tallies = left.tallies ∙ o.tallies;
          fews = left.fews ∙ o.steps.fews;
          few = o.few;
          room = o.room ∙ left.room;
        }

-- The invariant of checking, with the records that are kept.
pub record CheckKept (ns : Names) (s t : Text) (ts : List Tag) (l₀ w₀ : List ℕ) (c : Cursor) (j : ℕ) (l w : List ℕ) : Type 0 where
  pub left : CheckLeft ns s ts l₀ c l
  pub held : Held s t ns w
  pub led : Led s (list_of w) c
  pub list : list_of w ≡ list_of w₀
  pub few : j ≤ c.at
  pub kept : j ≤ kept_room → KeptLeft ns s ts c w j

module _ (ns : Names) (s t : Text) (from : ℕ) (l₀ w₀ : List ℕ) where
  pub kept-first : from ≤ length s → Leads s (list_of w₀) 0 from → Every SmallTag (walk_at s from) → ((k : ℕ) → of l₀ k ≡ 0) → Held s t ns w₀
      → CheckKept ns s t (walk_at s from) l₀ w₀ (record { at = from; entry = 0; sets = 9; parts = 0; walls = 0; blocks = 0 }) 0 l₀ w₀
  unfolding next_to written_to
  kept-first h leads small zeros held =
      record {
        left = check-first ns s from l₀ h small zeros;
        held = held;
        led = leads;
        list = refl;
        few = omega arith;
        kept = λ _. record { kinds = λ i q. absurd (omega arith); tallies = λ f. refl; fills = λ f out. refl };
      }

  module _ (c : Cursor) (j : ℕ) (l w : List ℕ) (k : CheckKept ns s t (walk_at s from) l₀ w₀ c j l w) where
    over : tags_at s c ≡ [] → Keeping ns (walk_at s from) w j
    over e room = all-kept ns s (walk_at s from) c w j e (k.kept room)

    pub kept-many : few (context_of c) ≡ false → TagsAre ns s t (walk_at s from) l₀ l w₀ w None
    kept-many e = check-many ns s from l₀ c l k.left e

    module _ (r : Checked) (l' w' : List ℕ) (checks : Checks ns s t c j l l' w w' r) where
      pub kept-done : few (context_of c) ≡ true → r ≡ Done → TagsAre ns s t (walk_at s from) l₀ l' w₀ w' (Some j)
      kept-done q e =
          let z : Checks ns s t c j l l' w w' Done = rw e at checks in
          let a = check-over ns s from l₀ c l k.left l' z.0 z.1.0 in
          rw z.1.1 (rw q at a, ((k.held, k.list), over z.0))

      pub kept-unnamed : r ≡ Unnamed → TagsAre ns s t (walk_at s from) l₀ l' w₀ w' None
      kept-unnamed e = let z : Checks ns s t c j l l' w w' Unnamed = rw e at checks in check-unnamed ns s from l₀ c l k.left l' z

      module _ (n : Cursor) (i : ℕ) (e : r ≡ Next n i) where
        on-it : Counts ns s c n l l' × Keeps ns s t c n j i w w'
        on-it = rw e at checks

        pub kept-past : (c.at < n.at) × (n.at ≤ length s)
        kept-past = (on-it.0.steps.past, on-it.0.steps.stood.inside)

        pub kept_again : CheckKept ns s t (walk_at s from) l₀ w₀ n i l' w'
        kept_again =
            record {
              left = check-on ns s from l₀ c l k.left n l' on-it.0;
              held = on-it.1.held;
              led = on-it.1.led;
              list = on-it.1.list ∙ k.list;
              few = on-it.1.few;
              kept = on-it.1.goes_on (walk_at s from) k.kept;
            }

-- The invariant of writing: the output for all tags is the present output with the tags from the cursor on.
pub record WriteLeft (ns : Names) (s : Text) (m : List ℕ) (ts : List Tag) (l₀ : List ℕ) (out₀ : Bytes) (c : Cursor) (l : List ℕ) (out : Bytes) : Type 0 where
  pub stood : Stood s c
  pub led : Led s m c
  pub fews : few_at s c ≡ true
  pub there-all : there_from ns s c ≡ true
  pub fit : TagsFit s c l out
  pub fills : fill ns start (of l₀) ts out₀ ≡ fill ns (context_of c) (of l) (tags_at s c) out
  pub room : length out ≡ length out₀
  pub kinds : length l ≡ length l₀

module _ (ns : Names) (s : Text) (m : List ℕ) (from : ℕ) (l₀ : List ℕ) (out₀ : Bytes) where
  pub write-first : from ≤ length s → Leads s m 0 from → Every SmallTag (walk_at s from) → few_from start (walk_at s from) ≡ true → all_present ns start (walk_at s from) ≡ true →
      FitsAll (walk_at s from) l₀ out₀
      → WriteLeft ns s m (walk_at s from) l₀ out₀ (record { at = from; entry = 0; sets = 9; parts = 0; walls = 0; blocks = 0 }) l₀ out₀
  write-first h leads small fews all fit =
      record {
        stood = record { inside = h; low = omega arith; small = small };
        led = leads;
        fews = fews;
        there-all = all;
        fit = fit;
        fills = refl;
        room = refl;
        kinds = refl;
      }

  module _ (c : Cursor) (l : List ℕ) (out : Bytes) (left : WriteLeft ns s m (walk_at s from) l₀ out₀ c l out) where
    pub write-none : tags_at s c ≡ [] → out ≡ fill ns start (of l₀) (walk_at s from) out₀
    unfolding fill
    write-none e = sym (left.fills ∙ rw e)

    pub write-few : few (context_of c) ≡ true
    write-few = few_head (context_of c) (tags_at s c) left.fews

    pub write-ended : (l' : List ℕ) (out' : Bytes) → Writes ns s m c l l' out out' None → out' ≡ fill ns start (of l₀) (walk_at s from) out₀
    write-ended l' out' z = z.1 ∙ write-none z.0

    pub write-past : (n : Cursor) (l' : List ℕ) (out' : Bytes) → Puts ns s c n l l' out out' → (c.at < n.at) × (n.at ≤ length s)
    write-past n l' out' p = (p.steps.past, p.steps.stood.inside)

    pub write-on : (n : Cursor) (l' : List ℕ) (out' : Bytes) → Puts ns s c n l l' out out' → Led s m n → WriteLeft ns s m (walk_at s from) l₀ out₀ n l' out'
    write-on n l' out' p led =
        record {
          stood = p.steps.stood;
          led = led;
          fews = sym p.steps.fews ∙ left.fews;
          there-all = p.there-too;
          fit = λ k a b. let f = left.fit k a b in let u = ap (λ (g : ℕ → ℕ). g k) p.tallies in let v = p.room in omega arith;
          fills = left.fills ∙ p.fills;
          room = p.room ∙ left.room;
          kinds = p.kinds ∙ left.kinds;
        }

-- ---- Where each kind begins.
begins-more : (f : ℕ → ℕ) (k d : ℕ) → begins f k ≤ begins f (d + k)
unfolding begins
begins-more f k zero = let z : 0 + k ≡ k = omega arith in rw z (omega arith)
begins-more f k (suc d) = let z : suc d + k ≡ suc (d + k) = omega arith in let h = begins-more f k d in rw z (one (d + k) h)
  where
    one : (j : ℕ) → begins f k ≤ begins f j → begins f k ≤ begins f (suc j)
    one zero h = h
    one (suc j) h = omega arith

pub begins-upto : (f : ℕ → ℕ) (k j : ℕ) → k ≤ j → begins f k ≤ begins f j
begins-upto f k j h = let z : j - k + k ≡ j = omega arith in let m = begins-more f k (j - k) in rw z at m

pub begins-on : (f : ℕ → ℕ) (k : ℕ) → 1 ≤ k → begins f (k + 1) ≡ begins f k + f k
unfolding begins
begins-on f zero h = absurd (omega arith)
begins-on f (suc k) h = let z : suc k + 1 ≡ suc (suc k) = omega arith in rw z

-- The invariant of the loop in `begin`: the kinds below k have their first places, and `sum` is the first place of kind k.
pub record BeginLeft (l₀ : List ℕ) (cap : ℕ) (l : List ℕ) (sum k : ℕ) : Type 0 where
  pub first : 1 ≤ k
  pub sum_is : sum ≡ begins (of l₀) k
  pub fits : sum ≤ cap
  pub done : (j : ℕ) → 1 ≤ j → j < k → of l j ≡ begins (of l₀) j
  pub left : (j : ℕ) → k ≤ j → of l j ≡ of l₀ j
  pub room : length l ≡ 19

pub begin-first : (l₀ : List ℕ) (cap : ℕ) → length l₀ ≡ 19 → BeginLeft l₀ cap l₀ 0 1
unfolding begins
begin-first l₀ cap h =
    record { first = omega arith; sum_is = refl; fits = omega arith; done = λ j a b. absurd (omega arith); left = λ j a. refl; room = h }

module _ (l₀ : List ℕ) (cap : ℕ) (l : List ℕ) (sum k : ℕ) (b : BeginLeft l₀ cap l sum k) where
  pub begin-end : k ≡ 19 → Begun l₀ l cap sum
  begin-end z = record { total = rw (← z) b.sum_is; fits = b.fits; each-begins = λ j p q. b.done j p (omega arith); kinds = b.room }

  module _ (h : k < 19) where
    next-is : begins (of l₀) (k + 1) ≡ sum + of l k
    next-is = begins-on (of l₀) k b.first ∙ rw (← b.sum_is, ← b.left k (omega arith))

    pub begin-over : cap - sum < of l k → cap < begins (of l₀) 19
    begin-over q = let m = begins-upto (of l₀) (k + 1) 19 (omega arith) in omega (arith, m, next-is, b.fits)

    pub begin-on : of l k ≤ cap - sum → BeginLeft l₀ cap (set l k sum) (sum + of l k) (k + 1)
    begin-on q =
        let w : k < length l = omega (arith, b.room) in
        record {
          first = omega arith;
          sum_is = sym next-is;
          fits = omega (arith, b.fits);
          done = λ j p r. on_test (eqb j k)
              (λ e. let u = eqb-true j k e in rw u (get_or-set_same l k sum 0 w ∙ b.sum_is))
              (λ e. let u = eqb-false j k e in get_or-set_other l k j sum 0 u ∙ b.done j p (omega (arith, u)));
          left = λ j p. get_or-set_other l k j sum 0 (λ v. omega (arith, v)) ∙ b.left j (omega arith);
          room = length-set l k sum ∙ b.room;
        }

-- ---- Writing the kept records: the first j of them are written.
pub record KeptPut (w : List ℕ) (l₀ : List ℕ) (out₀ : Bytes) (n : ℕ) (l : List ℕ) (out : Bytes) (j : ℕ) : Type 0 where
  pub next-is : of l ≡ next_to w j (of l₀)
  pub written_is : out ≡ written_to w j (of l₀) out₀
  pub room : length out ≡ length out₀
  pub kinds : length l ≡ length l₀

module _ (w l₀ : List ℕ) (out₀ : Bytes) (n : ℕ) where
  pub put_first : KeptPut w l₀ out₀ n l₀ out₀ 0
  unfolding next_to written_to
  put_first = record { next-is = refl; written_is = refl; room = refl; kinds = refl }

  module _ (fit : Fitting w n (of l₀) out₀) (l : List ℕ) (out : Bytes) (j : ℕ) (k : KeptPut w l₀ out₀ n l out j) (h : j < n) where
    pub put-fits : 16 * of l (kind_in w j) + 16 ≤ length out
    put-fits = let a = kept-fits w n (of l₀) out₀ fit j h in let b = ap (λ (g : ℕ → ℕ). g (kind_in w j)) k.next-is in omega (arith, a, b, k.room)

    pub put-again : (l' : List ℕ) (out' : Bytes) → PutsKept w j l l' out out' → KeptPut w l₀ out₀ n l' out' (j + 1)
    unfolding next_to written_to
    put-again l' out' p =
        let z : j + 1 ≡ suc j = omega arith in
        rw z
        (record {
          next-is = p.next-is ∙ ap (λ (g : ℕ → ℕ). upd g (kind_in w j) (suc (g (kind_in w j)))) k.next-is;
          written_is = p.written_is ∙ ap (λ (g : ℕ → ℕ). two_words out (g (kind_in w j)) (low_at w j) (high_at w j)) k.next-is
              ∙ ap (λ (o : Bytes). two_words o (next_to w j (of l₀) (kind_in w j)) (low_at w j) (high_at w j)) k.written_is;
          room = p.room ∙ k.room;
          kinds = p.kinds ∙ k.kinds;
        })

pub puts-kept : (w : List ℕ) (j : ℕ) (l : List ℕ) (out out' : Bytes) → kind_in w j < length l →
    out' ≡ two_words out (of l (kind_in w j)) (low_at w j) (high_at w j) → length out' ≡ length out
    → PutsKept w j l (set l (kind_in w j) (of l (kind_in w j) + 1)) out out'
puts-kept w j l out out' h e r =
    record { next-is = sym (one_up l (kind_in w j) h); written_is = e; room = r; kinds = length-set l (kind_in w j) (of l (kind_in w j) + 1) }

pub all_fit : (ns : Names) (ts : List Tag) (w : List ℕ) (n : ℕ) (l : List ℕ) (out : Bytes) → AllKept ns ts w n → FitsAll ts l out → Fitting w n (of l) out
all_fit ns ts w n l out a fit =
    record { kinds = a.kinds; fits = λ k p q. let e = ap (λ (g : ℕ → ℕ). g k) (a.tallies (of l)) in let f = fit k p q in omega (arith, e, f) }
