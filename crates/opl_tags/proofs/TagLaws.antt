-- Laws about the next tag from an index on: each branch of `read_tag` returns what `next_tag` reads.
use Prim.Native.Nat.{ℕ, ◌+◌, ◌≤◌, ◌<◌}
use mathlib.Core.Path.{◌≡◌, sym, ◌∙◌}
use mathlib.Core.Bool.{Bool, true, false, not}
use mathlib.Core.List.{[], ◌∷◌}
use native.Mathlib.Omega.{arith}
use lib.ListN.{length, drop, length-drop}
use lib.Seq.{drop-drop}
use borrow.Author.Tests.{not-true, not-false}
use Rattle.paper_opl.specs.Reading.{Text, text, Read, starts, expect, behind, misc, name}
use Rattle.paper_opl.specs.Reading.Read.{got}
use Rattle.std.specs.Prelude.{Ok, Err, Some, None}
use Rattle.std.specs.Result.{result_ok}
use Rattle.opl_text.specs.declared.BadByte.{BadByte}
use Rattle.opl_text.specs.Steps.{Step, Reads, step_of, word_of}
use Rattle.opl_text.proofs.Laws.{one-not, one-yes}
use Rattle.opl_tags.specs.Tags.{shut, next_tag, ReadsTag}
use Rattle.opl_tags.specs.declared.Tag.TheVariants.{Start, End}
use Rattle.opl_tags.proofs.AttributeLaws.{name-past}

-- What was read, by whether the code goes on with it.
pub read_on : {A : Type 0} {s : Text} {whole : Step → Read A} {x : Read A} (m : Step) (i : ℕ) → Some i ≡ result_ok m → Reads s whole x m → Reads s whole x (Ok i)
read_on (Ok j) i e reads = let z : i ≡ j = cc in rw z reads
read_on (Err d) i e reads = cc

pub read_bad : {A : Type 0} {s : Text} {whole : Step → Read A} {x : Read A} (m : Step) → None ≡ result_ok m → Reads s whole x m → (d : BadByte) × Reads s whole x (Err d)
read_bad (Ok j) e reads = cc
read_bad (Err d) e reads = (d, reads)

-- The next tag, from the next "<" on.
module _ (s : Text) (at o : ℕ) (to : drop o s ≡ behind shut (drop at s)) where
  pub tag_unread : (e : BadByte) → Reads s (step_of s) (misc (length (drop o s)) (drop o s)) (Err e) → ReadsTag s (next_tag (drop at s)) None
  unfolding next_tag
  tag_unread e reads = record { read_is = rw (← to, ← reads.read_is); stands = tt }

  module _ (i : ℕ) (reads : Reads s (step_of s) (misc (length (drop o s)) (drop o s)) (Ok i)) (b : Bool) (is : b ≡ starts (60 ∷ []) (drop i s)) where
    misc-is : misc (length (behind shut (drop at s))) (behind shut (drop at s)) ≡ got tt (drop i s)
    misc-is = rw (← to) (sym reads.read_is)

    pub tag_none : not b ≡ true → ReadsTag s (next_tag (drop at s)) None
    unfolding next_tag text
    tag_none q = record { read_is = rw (misc-is, one-not 60 (drop i s) (sym is ∙ not-true b q)); stands = tt }

    module _ (q : not b ≡ false) where
      sign : (expect (60 ∷ []) (drop i s) ≡ got tt (drop 1 (drop i s))) × (0 < length (drop i s))
      sign = one-yes 60 (drop i s) (sym is ∙ not-false b q)

      pub tag_past : i + 1 ≤ length s
      tag_past = omega (arith, sign.1, length-drop i s)

      module _ (c : Bool) (is₂ : c ≡ starts (47 ∷ []) (drop (i + 1) s)) where
        pub tag_end : c ≡ true → ReadsTag s (next_tag (drop at s)) (Some (End (i + 1)))
        unfolding next_tag text
        tag_end u = record { read_is = rw (misc-is, sign.0, drop-drop 1 i s, ← is₂, u); stands = tag_past }

        module _ (u : c ≡ false) where
          pub tag_unnamed : (e : BadByte) → Reads s (word_of s (i + 1)) (name (drop (i + 1) s)) (Err e) → ReadsTag s (next_tag (drop at s)) None
          unfolding next_tag text
          tag_unnamed e reads₂ = record { read_is = rw (misc-is, sign.0, drop-drop 1 i s, ← is₂, u, ← reads₂.read_is); stands = tt }

          pub tag_start : (end : ℕ) → Reads s (word_of s (i + 1)) (name (drop (i + 1) s)) (Ok end) → ReadsTag s (next_tag (drop at s)) (Some (Start (i + 1) end))
          unfolding next_tag text
          tag_start end reads₂ =
              record {
                read_is = rw (misc-is, sign.0, drop-drop 1 i s, ← is₂, u, ← reads₂.read_is);
                stands = record { named = name-past s (i + 1) end reads₂; inside = reads₂.inside };
              }
