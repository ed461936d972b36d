-- Examples checked by computation: 02's sentences of Ask 12, and both sides of each limit.
use Rattle.std.specs.Prelude.{ℕ, true, false, List, [], ◌∷◌, ◌++◌, ◌≡◌, refl, replicate}
use Rattle.paper_lower.specs.Checks.{first, GRANTED, ROOM, SHAPE, UNKNOWN, TAKEN}
use Rattle.paper_lower.specs.Records.{Bytes}
use Rattle.paper_lower.specs.Load.{load_open}
use Rattle.paper_lower.specs.Mend.{mend_open}
use Rattle.paper_lower.specs.Words.{user, role, user_has, words_open}
use Rattle.paper_upper.specs.Orders.{Engine}
use Rattle.paper_upper.specs.Engine.{engine_open}
use Rattle.policy_mending.specs.declared.Dropped.{Dropped}
use Rattle.call_mend.specs.Mend.{mend_checks, mend_of}

-- Several records as one byte string.
unfoldable joined : List Bytes → Bytes
joined [] = []
joined (r ∷ rs) = r ++ joined rs

-- n zero bytes.
unfoldable zeros : ℕ → Bytes
zeros n = replicate n 0

-- An entry of the report.
abbrev entry : ℕ → ℕ → Dropped
entry place reply = record { place = place; reply = reply }

-- A file that loads.
unfoldable sound : Bytes
sound = joined (user 300 ∷ role 0 ∷ user_has 300 0 ∷ [])

-- A damaged file: one record twice, one before the role that it names, and an incomplete last one.
unfoldable spoiled : Bytes
spoiled = joined (user 300 ∷ user 300 ∷ user_has 300 0 ∷ role 0 ∷ user_has 300 0 ∷ (1 ∷ []) ∷ [])

-- Opens the definitions, so that the examples below compute.
unfoldable sample_open : Unit {0}
unfolding engine_open load_open words_open mend_open joined zeros sound spoiled mend_checks mend_of
sample_open = tt

-- "keep each record that the load would accept after those kept before it, drop the rest, and write the kept ones"; "output bytes .. past the last one
-- written stay"
kept : (t : Engine) → (mend_of true t spoiled (zeros 81) (replicate 6 (entry 9 9))).output ≡ sound ++ zeros 33
unfolding sample_open
kept t = refl

many : (t : Engine) → (mend_of true t spoiled (zeros 81) (replicate 6 (entry 9 9))).kept ≡ 3
unfolding sample_open
many t = refl

-- "An incomplete last record is reported as SHAPE."; "report entries past the last one written stay"
told : (t : Engine) → (mend_of true t spoiled (zeros 81) (replicate 6 (entry 9 9))).report
    ≡ entry 2 TAKEN ∷ entry 3 UNKNOWN ∷ entry 6 SHAPE ∷ entry 9 9 ∷ entry 9 9 ∷ entry 9 9 ∷ []
unfolding sample_open
told t = refl

-- "A file that loads comes out the same with an empty report."
comes-out : (t : Engine) → (mend_of true t sound (zeros 48) (replicate 4 (entry 9 9))).output ≡ sound
unfolding sample_open
comes-out t = refl

untouched : (t : Engine) → (mend_of true t sound (zeros 48) (replicate 4 (entry 9 9))).report ≡ replicate 4 (entry 9 9)
unfolding sample_open
untouched t = refl

-- The output needs the length of the input, the incomplete record included; the report needs one entry more than there are whole records.
enough : first (mend_checks true spoiled (zeros 81) 6) ≡ GRANTED
unfolding sample_open
enough = refl

short-output : (t : Engine) → mend_of true t spoiled (zeros 80) (replicate 6 (entry 9 9)) ≡ record { reply = ROOM; kept = 0; output = zeros 80; report = replicate 6 (entry 9 9); tables = t }
unfolding sample_open
short-output t = refl

short-report : (t : Engine) → (mend_of true t spoiled (zeros 81) (replicate 5 (entry 9 9))).reply ≡ ROOM
unfolding sample_open
short-report t = refl

another-length : (t : Engine) → (mend_of false t [] [] (entry 9 9 ∷ [])).reply ≡ ROOM
unfolding sample_open
another-length t = refl

-- An empty file needs a report of one entry too.
nothing : first (mend_checks true [] [] 1) ≡ GRANTED
unfolding sample_open
nothing = refl

no-entry : first (mend_checks true [] [] 0) ≡ ROOM
unfolding sample_open
no-entry = refl
