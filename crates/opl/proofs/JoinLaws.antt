-- The contracts of the passes, combined: the answer is the defined one.
use Prim.Native.Nat.{ℕ, zero, suc, ◌*◌, ◌/◌, ◌≤◌, ◌<◌}
use mathlib.Core.Path.{◌≡◌, refl, sym, ap, ◌∙◌}
use mathlib.Core.Bool.{Bool, true, false, ◌&&◌, false≢true, true≢false}
use mathlib.Core.List.{List, ◌++◌}
use native.Mathlib.Omega.{arith}
use Rattle.std.specs.Prelude.{Ok, Err}
use lib.Dec.{eqb}
use lib.ListN.{length, set, drop, replicate, length-set}
use lib.Seq.{get_or-set_same, get_or-set_other}
use borrow.Author.Tests.{eqb-true, eqb-false, le-leb, lt-leb}
use Rattle.paper_lower.specs.Lists.{Maybe, upd, holds, there, many}
use Rattle.paper_lower.specs.Lists.Maybe.{none, just}
use Rattle.paper_lower.specs.Records.{Bytes, Record}
use Rattle.paper_lower.proofs.ListLaws.{both, upd_same, upd_other}
use Rattle.paper_opl.specs.Reading.{Text}
use Rattle.paper_opl.specs.Tree.{Tag}
use Rattle.paper_opl.specs.Naming.{written}
use Rattle.paper_opl.specs.Walk.{start, few_from, sayings, records_in, tags}
use Rattle.paper_opl.specs.Filling.{fill, fill_lines, start_of, tally}
use Rattle.paper_opl.proofs.Inversion.{on_test}
use Rattle.paper_opl.proofs.Judging.{judged}
use Rattle.paper_opl.proofs.Filled.{fill-writes}
use Rattle.opl_lines.specs.Lines.{lines_in}
use Rattle.opl_tags.specs.Tags.{walk_at}
use Rattle.opl_said.specs.Said.{all_names}
use Rattle.opl_passes.specs.Lines.{lines_at, lines_there, LinesFit}
use Rattle.opl_passes.specs.Tags.{of, all_present, ChecksAll, begins, Begun, FitsAll}
use Rattle.opl_passes.proofs.TagLaws.{begins-upto}
use Rattle.opl.specs.Steps.{records_answer, Gives}
use Rattle.opl.specs.declared.Refused.TheVariants.{Names, Room}
use Rattle.opl.proofs.CountLaws.{counted, begins-are, tally-ends, lines_end, fill-agree}

-- ---- A name has no number, or a count is above its limit: NAMES.
and_none : (a b c : Bool) → b ≡ false → a && (b && c) ≡ false
and_none true b c e = rw e
and_none false b c e = refl

and-neither : (a b c : Bool) → false ≡ a && c → a && (b && c) ≡ false
and-neither true true true e = sym e
and-neither true true false e = refl
and-neither true false c e = refl
and-neither false b c e = refl

and-all : (a b c : Bool) → true ≡ a && c → b ≡ true → a && (b && c) ≡ true
and-all true true true e q = refl
and-all true true false e q = sym e
and-all true false c e q = absurd (false≢true q)
and-all false b c e q = absurd (true≢false e)

-- An array of zeros.
pub zeros-at : (n k : ℕ) → of (replicate n 0) k ≡ 0
zeros-at zero k = refl
zeros-at (suc n) zero = refl
zeros-at (suc n) (suc k) = zeros-at n k

pub tags-there : (s t : Text) (ts : List Tag) (l₀ l₁ : List ℕ) → ChecksAll (all_names s t) ts l₀ l₁ true →
    (few_from start ts ≡ true) × (all_present (all_names s t) start ts ≡ true)
tags-there s t ts l₀ l₁ c = both (few_from start ts) (all_present (all_names s t) start ts) (sym c.verdict)

absent : (x : Maybe (List Record)) → there x ≡ false → x ≡ none
unfolding holds
absent none e = refl
absent (just rs) e = absurd (true≢false e)

present : {R : Type 0} (x : Maybe (List Record)) → there x ≡ true → ((rs : List Record) → x ≡ just rs → R) → R
unfolding holds
present none e f = absurd (false≢true e)
present (just rs) e f = f rs refl

-- The three conditions without which the reply is NAMES: counts within their limits, and a record for each line and for each tag.
abbrev few : Text → Bool
few s = few_from start (tags s)

abbrev lined : Text → Text → Bool
lined s t = lines_there (all_names s t) (lines_in t)

abbrev tagged : Text → Text → Bool
tagged s t = all_present (all_names s t) start (tags s)

module _ (s t : Text) (out : Bytes) where
  pub unnamed : records_in (tags s) (lines_in t) ≡ none → Gives (records_answer s t out) out out (Err Names)
  unfolding records_answer
  unnamed e = record { answer-is = rw e; room = refl }

  pub no_line : lines_there (all_names s t) (lines_in t) ≡ false → Gives (records_answer s t out) out out (Err Names)
  no_line e = unnamed (absent (records_in (tags s) (lines_in t)) (judged (tags s) (lines_in t) ∙ and_none (few s) (lined s t) (tagged s t) e))

  module _ (from : ℕ) (tags-are : tags s ≡ walk_at s from) (l₀ l₁ : List ℕ) where
    pub no-tag : ChecksAll (all_names s t) (walk_at s from) l₀ l₁ false → Gives (records_answer s t out) out out (Err Names)
    no-tag c =
        unnamed
        (absent (records_in (tags s) (lines_in t)) (judged (tags s) (lines_in t) ∙ and-neither (few s) (lined s t) (tagged s t) (rw (← tags-are) at c.verdict)))

    module _ (lines-there : lines_there (all_names s t) (lines_in t) ≡ true) (room₀ : length l₀ ≡ 19) (zeros : (k : ℕ) → of l₀ k ≡ 0)
        (checks : ChecksAll (all_names s t) (walk_at s from) l₀ l₁ true) (n : ℕ) (many-lines : many (lines_in t) ≡ n) where
      all_there : there (records_in (tags s) (lines_in t)) ≡ true
      all_there = judged (tags s) (lines_in t) ∙ and-all (few s) (lined s t) (tagged s t) (rw (← tags-are) at checks.verdict) lines-there

      abbrev l₂ : List ℕ
      l₂ = set l₁ 6 n

      room₁ : length l₁ ≡ 19
      room₁ = checks.room refl ∙ room₀

      pub room₂ : length l₂ ≡ 19
      room₂ = length-set l₁ 6 n ∙ room₁

      tallied : of l₁ ≡ tally start (of l₀) (tags s)
      tallied = checks.counts refl ∙ ap (tally start (of l₀)) (sym tags-are)

      with-lines : of l₂ ≡ upd (of l₁) 6 (many (lines_in t))
      with-lines = λ i k. each-is k i
        where
          each-is : (k : ℕ) → of l₂ k ≡ upd (of l₁) 6 (many (lines_in t)) k
          each-is k =
              on_test (eqb k 6)
              (λ q. let e = eqb-true k 6 q in rw (upd_same (of l₁) 6 k (many (lines_in t)) e, e) (get_or-set_same l₁ 6 n 0 (omega (arith, room₁)) ∙ sym many-lines))
              (λ q. let e = eqb-false k 6 q in rw (upd_other (of l₁) 6 k (many (lines_in t)) e) (get_or-set_other l₁ 6 k n 0 e))

      starts : ℕ → ℕ
      starts = start_of (sayings start (tags s)) (lines_in t)

      begins-at : (k : ℕ) → begins (of l₂) k ≡ starts k
      unfolding starts
      begins-at k = begins-are (tags s) (lines_in t) (of l₀) (of l₁) zeros tallied (of l₂) with-lines k

      pub no_room : length out / 16 < begins (of l₂) 19 → Gives (records_answer s t out) out out (Err Room)
      unfolding records_answer starts
      no_room h =
          present (records_in (tags s) (lines_in t)) all_there (λ rs e.
          let c = counted (tags s) (lines_in t) rs e in
          let b = begins-at 19 in
          let d : length out < length (written rs) = omega (arith, c.1, b) in
          record { answer-is = rw (e, lt-leb (length (written rs)) (length out) d); room = refl })

      module _ (l₃ : List ℕ) (total : ℕ) (begun : Begun l₂ l₃ (length out / 16) total) where
        total-is : total ≡ starts 19
        total-is = begun.total ∙ begins-at 19

        fits : 16 * starts 19 ≤ length out
        fits = omega (arith, begun.fits, total-is)

        upto : (k : ℕ) → k ≤ 19 → starts k ≤ starts 19
        upto k h = let m = begins-upto (of l₂) k 19 h in let a = begins-at k in let b = begins-at 19 in omega (arith, m, a, b)

        pub lines_fit : LinesFit t 0 (of l₃ 6) out
        unfolding lines_in starts
        lines_fit =
            let a = begun.each-begins 6 (omega arith) (omega arith) in
            let b = begins-at 6 in
            let u = upto 7 (omega arith) in
            let e = lines_end (tags s) (lines_in t) (of l₀) (of l₁) zeros tallied (of l₂) with-lines in
            let f = fits in
            let z : many (lines_in t) ≡ many (lines_at t 0) = refl in
            omega (arith, a, b, u, e, f, z)

        module _ (out₁ : Bytes) (kept : length out₁ ≡ length out) (lines-put : out₁ ≡ fill_lines (all_names s t) (of l₃ 6) (lines_in t) out) where
          pub tags-fit : FitsAll (walk_at s from) l₃ out₁
          unfolding starts
          tags-fit k a b =
              let u = tally-ends (tags s) (lines_in t) (of l₀) (of l₁) zeros tallied (of l₂) with-lines (of l₃) begun.each-begins k a b in
              let v = upto (suc k) (omega arith) in
              let f = fits in
              let z : tally start (of l₃) (walk_at s from) k ≡ tally start (of l₃) (tags s) k =
              ap (λ (ts : List Tag). tally start (of l₃) ts k) (sym tags-are) in
              omega (arith, u, v, f, z, kept)

          agrees : (k : ℕ) → 1 ≤ k → k < 19 → of l₃ k ≡ starts k
          agrees k a b = begun.each-begins k a b ∙ begins-at k

          pub all-written : (out₂ : Bytes) → length out₂ ≡ length out₁ → out₂ ≡ fill (all_names s t) start (of l₃) (walk_at s from) out₁
              → Gives (records_answer s t out) out out₂ (Ok total)
          unfolding records_answer starts
          all-written out₂ kept₂ tags-put =
              present (records_in (tags s) (lines_in t)) all_there (λ rs e.
              let c = counted (tags s) (lines_in t) rs e in
              let d : length (written rs) ≤ length out = omega (arith, c.1, fits) in
              let w : out₂ ≡ written rs ++ drop (length (written rs)) out
              = tags-put ∙ ap (λ (ts : List Tag). fill (all_names s t) start (of l₃) ts out₁) (sym tags-are)
              ∙ fill-agree (all_names s t) (tags s) start (omega arith) (of l₃) (start_of (sayings start (tags s)) (lines_in t)) agrees out₁
              ∙ ap (fill (all_names s t) start (start_of (sayings start (tags s)) (lines_in t)) (tags s))
              (lines-put ∙ ap (λ (p : ℕ). fill_lines (all_names s t) p (lines_in t) out) (agrees 6 (omega arith) (omega arith)))
              ∙ fill-writes (tags s) (lines_in t) rs out e d in
              let m : many rs ≡ total = c.0 ∙ sym total-is in
              record { answer-is = rw (e, le-leb (length (written rs)) (length out) d, m, ← w); room = kept₂ ∙ kept })
