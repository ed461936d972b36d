-- What 02, Ask 12, says of a mended file, as statements about the definitions of mend and load, for every file.
use Rattle.std.specs.Prelude.{ℕ, zero, suc, ◌+◌, ◌≤◌, ◌<◌, ◌/◌, ◌%◌, Bool, not, cond, ◌≡◌, List, [], ◌∷◌, ◌++◌, eqb, length, take, drop}
use Rattle.paper_lower.specs.Lists.{some, Every}
use Rattle.paper_lower.specs.Checks.{GRANTED, SHAPE}
use Rattle.paper_lower.specs.Records.{Bytes}
use Rattle.paper_lower.specs.Load.{load, accepted}
use Rattle.paper_lower.specs.Mend.{Dropped, mend}

-- "What is written always loads", and gives the tables that the state holds after mending.
abbrev pub WhatIsWrittenLoads : Type 0
WhatIsWrittenLoads = (s : Bytes) → load (mend s).written ≡ accepted (mend s).tables

-- "A file that loads comes out the same with an empty report."
abbrev pub AFileThatLoadsComesOut : Type 0
AFileThatLoadsComesOut =
    (s : Bytes) → (load s).reply ≡ GRANTED → mend s ≡ record { written = s; report = []; tables = (load s).tables }

-- ---- The records written and the places reported together make up the whole file.

-- Whether the place is reported.
abbrev pub reported : ℕ → List Dropped → Bool
reported place ds = some (λ d. eqb d.place place) ds

-- The records of a file at places that are not reported; the first of its n records has the given place.
unfoldable pub unreported : ℕ → ℕ → Bytes → List Dropped → Bytes
unreported zero place s ds = []
unreported (suc n) place s ds =
    cond (reported place ds) (unreported n (suc place) (drop 16 s) ds) (take 16 s ++ unreported n (suc place) (drop 16 s) ds)

-- Each place is greater than the one before.
abbrev pub Rising : ℕ → List Dropped → Type 0
Rising place [] = Unit {0}
Rising place (d ∷ ds) = (place < d.place) × Rising d.place ds

-- How the output and the report relate to the file s.
pub record Together (s : Bytes) : Type 0 where
  -- The output has the records of all other places, in the order of the file.
  pub others : (mend s).written ≡ unreported (length s / 16) 1 s (mend s).report
  -- No place is reported twice, the lowest comes first, and none is past that of an incomplete record.
  pub rising : Rising 0 (mend s).report
  pub within : Every (λ d. d.place ≤ length s / 16 + 1) (mend s).report
  -- Every reported reply is a refusal.
  pub refusals : Every (λ d. 0 < d.reply) (mend s).report
  -- "An incomplete last record is reported as SHAPE."
  pub incomplete : reported (length s / 16 + 1) (mend s).report ≡ not (eqb (length s % 16) 0)
  pub shape : Every (λ d. d.place ≡ length s / 16 + 1 → d.reply ≡ SHAPE) (mend s).report

-- This holds for every file.
abbrev pub WrittenAndReported : Type 0
WrittenAndReported = (s : Bytes) → Together s
