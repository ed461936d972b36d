-- Laws about the kept records: keeping one does not change the tables of names, and writing the kept records gives the same output as writing the records of
-- the tags before the cursor.
use Prim.Native.Nat.{ℕ, zero, suc, ◌+◌, ◌*◌, ◌-◌, ◌%◌, ◌≤◌, ◌<◌}
use mathlib.Core.Path.{◌≡◌, refl, sym, ap, ◌∙◌}
use mathlib.Core.List.{List, []}
use native.Mathlib.Omega.{arith}
use Rattle.std.specs.Prelude.{Option}
use lib.Dec.{eqb, leb}
use lib.ListN.{length, set, length-set}
use lib.Seq.{get_or-set_same, get_or-set_other}
use borrow.Author.Tests.{eqb-true, eqb-false, leb-false, lt-leb}
use Rattle.paper_lower.specs.Lists.{Maybe, upd}
use Rattle.paper_lower.specs.Lists.Maybe.{just}
use Rattle.paper_lower.specs.Records.{Bytes, Record, put_at}
use Rattle.paper_lower.proofs.ListLaws.{upd_same, upd_other}
use Rattle.paper_opl.specs.Reading.{Text}
use Rattle.paper_opl.specs.Tree.{Tag}
use Rattle.paper_opl.specs.Naming.{Names}
use Rattle.paper_opl.specs.Walk.{record_said}
use Rattle.paper_opl.specs.Filling.{valued, fill, tally}
use Rattle.paper_opl.proofs.Inversion.{on_test}
use Rattle.record_output.specs.Output.{two_words, low_word, a_record_of}
use Rattle.record_output.proofs.Words.{words-put}
use Rattle.opl_spaces.specs.Spaces.{table_words, kept_room, scratch_words, list_of}
use Rattle.opl_spaces.proofs.SpaceLaws.{table_kept, list-kept}
use Rattle.opl_said.specs.Said.{Held, SaysIt, Small}
use Rattle.opl_said.specs.declared.Fields.{Fields}
use Rattle.opl_said.specs.Forms.{numbers}
use Rattle.opl_turns.specs.Turning.{context_of, tags_at, Led, Passes, Tells, saying_at}
use Rattle.opl_turns.specs.declared.Cursor.{Cursor}
use Rattle.opl_passes.specs.Kept.{low_at, high_at, kind_in, kept_with, next_to, written_to, KindsTo, KeptLeft, Keeps, AllKept, Fitting}

-- ---- The scratch buffer with one more record.
module _ (s t : Text) (ns : Names) where
  held-set : (l : List ℕ) (k v : ℕ) → table_words ≤ k → Held s t ns l → Held s t ns (set l k v)
  held-set l k v b h =
      record {
        room = length-set l k v ∙ h.room;
        tags-sound = λ i p. rw (table_kept i (omega arith) l k v b) (h.tags-sound i p);
        lines-sound = λ i p q. rw (table_kept i q l k v b) (h.lines-sound i p q);
        tag-numbers = λ i p w. rw (table_kept i (omega arith) l k v b) (h.tag-numbers i p w);
        line-numbers = λ i p q w. rw (table_kept i q l k v b) (h.line-numbers i p q w);
      }

  pub held_kept : (l : List ℕ) (j low high : ℕ) → Held s t ns l → Held s t ns (kept_with l j low high)
  unfolding kept_with
  held_kept l j low high h =
      on_test (leb kept_room j)
      (λ q. rw q h)
      (λ q. rw q (held-set (set l (table_words + 2 * j) low) (table_words + 2 * j + 1) high (omega arith) (held-set l (table_words + 2 * j) low (omega arith) h)))

list-still : (l : List ℕ) (j low high : ℕ) → list_of (kept_with l j low high) ≡ list_of l
unfolding kept_with
list-still l j low high =
    on_test (leb kept_room j) (λ q. rw q)
    (λ q. let h = leb-false kept_room j q in
    rw q
    (list-kept (set l (table_words + 2 * j) low) (table_words + 2 * j + 1) high (omega (arith, h)) ∙ list-kept l (table_words + 2 * j) low (omega (arith, h))))

module _ (l : List ℕ) (j low high : ℕ) (room : length l ≡ scratch_words) (here : j < kept_room) where
  fresh : (low_at (kept_with l j low high) j ≡ low) × (high_at (kept_with l j low high) j ≡ high)
  unfolding kept_with
  fresh =
      rw (lt-leb kept_room j here) (
        get_or-set_other (set l (table_words + 2 * j) low) (table_words + 2 * j + 1) (table_words + 2 * j) high 0 (λ e. omega arith) ∙
            get_or-set_same l (table_words + 2 * j) low 0 (omega arith),
        get_or-set_same (set l (table_words + 2 * j) low) (table_words + 2 * j + 1) high 0 (omega (arith, length-set l (table_words + 2 * j) low)),
      )

  older : (i : ℕ) → i < j → (low_at (kept_with l j low high) i ≡ low_at l i) × (high_at (kept_with l j low high) i ≡ high_at l i)
  unfolding kept_with
  older i b =
      rw (lt-leb kept_room j here) (
        get_or-set_other (set l (table_words + 2 * j) low) (table_words + 2 * j + 1) (table_words + 2 * i) high 0 (λ e. omega arith) ∙
            get_or-set_other l (table_words + 2 * j) (table_words + 2 * i) low 0 (λ e. omega arith),
        get_or-set_other (set l (table_words + 2 * j) low) (table_words + 2 * j + 1) (table_words + 2 * i + 1) high 0 (λ e. omega arith) ∙
            get_or-set_other l (table_words + 2 * j) (table_words + 2 * i + 1) low 0 (λ e. omega arith),
      )

-- What the first n records write depends on no other word.
module _ (l l' : List ℕ) where
  next_agree : (n : ℕ) → ((i : ℕ) → i < n → (low_at l' i ≡ low_at l i) × (high_at l' i ≡ high_at l i)) → (f : ℕ → ℕ) → next_to l' n f ≡ next_to l n f
  unfolding next_to
  next_agree zero h f = refl
  next_agree (suc n) h f =
      ap (λ (g : ℕ → ℕ). upd g (kind_in l' n) (suc (g (kind_in l' n)))) (next_agree n (λ i b. h i (omega arith)) f)
      ∙ ap (λ (x : ℕ). upd (next_to l n f) (x % 256) (suc (next_to l n f (x % 256)))) (h n (omega arith)).0

  written-agree : (n : ℕ) → ((i : ℕ) → i < n → (low_at l' i ≡ low_at l i) × (high_at l' i ≡ high_at l i)) → (f : ℕ → ℕ) (out : Bytes) →
      written_to l' n f out ≡ written_to l n f out
  unfolding written_to
  written-agree zero h f out = refl
  written-agree (suc n) h f out =
      ap (λ (o : Bytes). two_words o (next_to l' n f (kind_in l' n)) (low_at l' n) (high_at l' n)) (written-agree n (λ i b. h i (omega arith)) f out)
      ∙ ap (λ (g : ℕ → ℕ). two_words (written_to l n f out) (g (kind_in l' n)) (low_at l' n) (high_at l' n)) (next_agree n (λ i b. h i (omega arith)) f)
      ∙ ap (λ (x : ℕ). two_words (written_to l n f out) (next_to l n f (x % 256)) x (high_at l' n)) (h n (omega arith)).0
      ∙ ap (λ (x : ℕ). two_words (written_to l n f out) (next_to l n f (kind_in l n)) (low_at l n) x) (h n (omega arith)).1

-- One more record.
module _ (l : List ℕ) (j low high : ℕ) (room : length l ≡ scratch_words) (here : j < kept_room) (kind : ℕ) (is : low % 256 ≡ kind) where
  abbrev l' : List ℕ
  l' = kept_with l j low high

  kind-new : kind_in l' j ≡ kind
  kind-new = ap (λ (x : ℕ). x % 256) (fresh l j low high room here).0 ∙ is

  next-new : (f : ℕ → ℕ) → upd (next_to l j f) kind (suc (next_to l j f kind)) ≡ next_to l' (j + 1) f
  unfolding next_to
  next-new f =
      let z : j + 1 ≡ suc j = omega arith in
      sym (ap (λ (k : ℕ). next_to l' k f) z ∙
      ap (λ (g : ℕ → ℕ). upd g (kind_in l' j) (suc (g (kind_in l' j)))) (next_agree l l' j (older l j low high room here) f)
      ∙ ap (λ (k : ℕ). upd (next_to l j f) k (suc (next_to l j f k))) kind-new)

  written_new : (f : ℕ → ℕ) (out : Bytes) → two_words (written_to l j f out) (next_to l j f kind) low high ≡ written_to l' (j + 1) f out
  unfolding written_to
  written_new f out =
      let z : j + 1 ≡ suc j = omega arith in
      sym (ap (λ (k : ℕ). written_to l' k f out) z
      ∙ ap (λ (o : Bytes). two_words o (next_to l' j f (kind_in l' j)) (low_at l' j) (high_at l' j)) (written-agree l l' j (older l j low high room here) f out)
      ∙ ap (λ (g : ℕ → ℕ). two_words (written_to l j f out) (g (kind_in l' j)) (low_at l' j) (high_at l' j)) (next_agree l l' j (older l j low high room here) f)
      ∙ ap (λ (k : ℕ). two_words (written_to l j f out) (next_to l j f k) (low_at l' j) (high_at l' j)) kind-new
      ∙ ap (λ (x : ℕ). two_words (written_to l j f out) (next_to l j f kind) x (high_at l' j)) (fresh l j low high room here).0
      ∙ ap (λ (x : ℕ). two_words (written_to l j f out) (next_to l j f kind) low x) (fresh l j low high room here).1)

  kinds-new : 1 ≤ kind → kind < 19 → KindsTo l j → KindsTo l' (j + 1)
  kinds-new a b h i q =
      on_test (eqb i j)
      (λ e. let u = eqb-true i j e in rw (u, kind-new) (a, b))
      (λ e. let u = eqb-false i j e in let v = (older l j low high room here i (omega arith)).0 in let p = h i (omega arith) in rw v p)

-- ---- From one cursor to the next.
module _ (ns : Names) (s t : Text) (c : Cursor) (j : ℕ) (w : List ℕ) (held : Held s t ns w) (few : j ≤ c.at) where
  pub kept-passed : (n : Cursor) → Passes s c n → Led s (list_of w) n → Keeps ns s t c n j j w w
  kept-passed n p led =
      record {
        held = held;
        led = led;
        list = refl;
        few = omega (arith, few, p.steps.past);
        goes_on = λ ts before room.
            let b = before room in
            record {
              kinds = b.kinds;
              tallies = λ f. b.tallies f ∙ p.tallies (next_to w j f);
              fills = λ f out. b.fills f out ∙ p.fills ns (next_to w j f) (written_to w j f out);
            };
      }

  module _ (kind number end : ℕ) (n : Cursor) (tells : Tells s c kind number end n) (f : Option Fields) (says : SaysIt kind (record_said ns (saying_at s kind number end)) f)
      (a₀ a b d m : ℕ) (e : f ≡ numbers a₀ a b d m)
    where
      small : Small a₀ a b d
      small = rw e at says.fits

      said-is : just (a_record_of kind a₀ a b d m) ≡ record_said ns (saying_at s kind number end)
      said-is = rw e at says.says

      kind-low : low_word kind a₀ a b d % 256 ≡ kind
      kind-low = omega (arith, tells.small)

      puts : (out : Bytes) (p : ℕ) → put_at out p (valued (record_said ns (saying_at s kind number end))) ≡ two_words out p (low_word kind a₀ a b d) m
      puts out p =
          ap (λ (r : Maybe Record). put_at out p (valued r)) (sym said-is)
          ∙ sym (words-put out p kind a₀ a b d m (omega (arith, tells.small)) small.n-fits small.a-fits small.b-fits small.c-fits)

      left : (ts : List Tag) → KeptLeft ns s ts c w j → j < kept_room → KeptLeft ns s ts n (kept_with w j (low_word kind a₀ a b d) m) (j + 1)
      left ts before here =
          record {
            kinds = kinds-new w j (low_word kind a₀ a b d) m held.room here kind kind-low (omega (arith, tells.some)) tells.small before.kinds;
            tallies = λ f. before.tallies f ∙ tells.tallies (next_to w j f)
                ∙ ap (λ (g : ℕ → ℕ). tally (context_of n) g (tags_at s n)) (next-new w j (low_word kind a₀ a b d) m held.room here kind kind-low f);
            fills = λ f out. before.fills f out ∙ tells.fills ns (next_to w j f) (written_to w j f out)
                ∙ ap (λ (o : Bytes). fill ns (context_of n) (upd (next_to w j f) kind (suc (next_to w j f kind))) (tags_at s n) o)
                (puts (written_to w j f out) (next_to w j f kind) ∙ written_new w j (low_word kind a₀ a b d) m held.room here kind kind-low f out)
                ∙ ap (λ (g : ℕ → ℕ). fill ns (context_of n) g (tags_at s n) (written_to (kept_with w j (low_word kind a₀ a b d) m) (j + 1) f out))
                (next-new w j (low_word kind a₀ a b d) m held.room here kind kind-low f);
          }

      pub kept_on : (w' : List ℕ) → w' ≡ kept_with w j (low_word kind a₀ a b d) m → Led s (list_of w) n → Keeps ns s t c n j (j + 1) w w'
      kept_on w' q led =
          rw q
          (record {
            held = held_kept s t ns w j (low_word kind a₀ a b d) m held;
            led = rw (list-still w j (low_word kind a₀ a b d) m) led;
            list = list-still w j (low_word kind a₀ a b d) m;
            few = omega (arith, few, tells.steps.past);
            goes_on = λ ts before room. left ts (before (omega arith)) (omega arith);
          })

pub all-kept : (ns : Names) (s : Text) (ts : List Tag) (c : Cursor) (w : List ℕ) (j : ℕ) → tags_at s c ≡ [] → KeptLeft ns s ts c w j → AllKept ns ts w j
unfolding tally fill
all-kept ns s ts c w j e k = record { kinds = k.kinds; tallies = λ f. k.tallies f ∙ rw e; fills = λ f out. k.fills f out ∙ rw e }

-- ---- Writing the kept records.
next_up : (w : List ℕ) (f : ℕ → ℕ) (k j d : ℕ) → next_to w j f k ≤ next_to w (d + j) f k
unfolding next_to
next_up w f k j zero = let z : 0 + j ≡ j = omega arith in rw z (omega arith)
next_up w f k j (suc d) = let z : suc d + j ≡ suc (d + j) = omega arith in let h = next_up w f k j d in rw z (one (d + j) h)
  where
    one : (i : ℕ) → next_to w j f k ≤ next_to w i f k → next_to w j f k ≤ next_to w (suc i) f k
    one i h =
        on_test (eqb k (kind_in w i))
        (λ q. let e = eqb-true k (kind_in w i) q in let u = upd_same (next_to w i f) (kind_in w i) k (suc (next_to w i f (kind_in w i))) e in let v =
        ap (next_to w i f) e in rw u (omega (arith, h, v)))
        (λ q. let e = eqb-false k (kind_in w i) q in let u = upd_other (next_to w i f) (kind_in w i) k (suc (next_to w i f (kind_in w i))) e in rw u h)

pub place-fits : (w : List ℕ) (n : ℕ) (f : ℕ → ℕ) (out : Bytes) → Fitting w n f out → (j : ℕ) → j < n → 16 * next_to w j f (kind_in w j) + 16 ≤ length out
unfolding next_to
place-fits w n f out fit j h =
    let k = fit.kinds j h in
    let a = fit.fits (kind_in w j) k.0 k.1 in
    let z : n ≡ (n - suc j) + suc j = omega arith in
    let b : next_to w (suc j) f (kind_in w j) ≤ next_to w n f (kind_in w j) = rw z (next_up w f (kind_in w j) (suc j) (n - suc j)) in
    let c = upd_same (next_to w j f) (kind_in w j) (kind_in w j) (suc (next_to w j f (kind_in w j))) refl in
    omega (arith, a, b, c)
