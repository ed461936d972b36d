-- The mending of the rest of a file, and what one step up to the next refusal leaves of it.
use Rattle.std.specs.Prelude.{ℕ, suc, ◌+◌, ◌-◌, ◌*◌, ◌/◌, ◌≤◌, ◌<◌, cond, List, [], ◌∷◌, ◌++◌, ◌≡◌, ltb, length, take, drop}
use Rattle.std.proofs.Math.Seq.{paste}
use Rattle.paper_lower.specs.Lists.{each}
use Rattle.paper_lower.specs.Checks.{granted}
use Rattle.paper_lower.specs.Records.{Bytes}
use Rattle.paper_lower.specs.Tables.{Policy}
use Rattle.paper_lower.specs.Load.{policy_answer}
use Rattle.paper_lower.specs.Mend as paper
use Rattle.paper_lower.specs.Mend.{Mended, mend_from}
use Rattle.replies.specs.Replies.{Reply, number_of}
use Rattle.replies.specs.Done.{Done}
use Rattle.policy.specs.Layout.{policy_words}
use Rattle.policy.specs.Reading.{policy_of}
use Rattle.policy_mending.specs.declared.Dropped.{Dropped}

-- ---- One record: it is checked on the tables, and its sixteen bytes are copied to the output if it is accepted.
pub record Kept (s : Bytes) (at : ℕ) (out : Bytes) (to : ℕ) (p : List ℕ) (out' : Bytes) (p' : List ℕ) (r : Reply) : Type 0 where
  pub judged : Done policy_of (policy_answer (policy_of p) (take 16 (drop at s))).reply (policy_answer (policy_of p) (take 16 (drop at s))).tables p p' r
  pub written : out' ≡ granted (number_of r) (paste out to (drop at s) 16) out

-- ---- The report in the form in which the code writes it.
abbrev pub entries : List paper.Dropped → List Dropped
entries ds = each (λ d. record { place = d.place; reply = d.reply }) ds

-- ---- The rest of a file.

-- The mending of what follows the first `place` records. After an incomplete record nothing follows.
unfoldable pub rest_of : ℕ → Bytes → Policy → Mended
rest_of place s t =
    cond (ltb (length s / 16) place)
    (record { written = []; report = []; tables = t })
    (mend_from (length s / 16 - place) (suc place) (drop (16 * place) s) t)

-- The output with the bytes w after the first `kept` records; the rest of the output is unchanged.
abbrev pub laid : ℕ → Bytes → Bytes → Bytes
laid kept w out = take (16 * kept) out ++ (w ++ drop (16 * kept + length w) out)

-- The result at the end: the number of records kept, the output, the report entries still to be written, and the tables.
pub record Rest : Type 0 where
  pub kept : ℕ
  pub output : Bytes
  pub report : List Dropped
  pub tables : Policy

-- The result after the first `kept` records were kept and the mending x follows.
abbrev pub rest_by : ℕ → Bytes → Mended → Rest
rest_by kept out x =
    record { kept = kept + length x.written / 16; output = laid kept x.written out; report = entries x.report; tables = x.tables }

-- The result after the first `place` records, of which `dropped` were dropped.
unfoldable pub rest_from : ℕ → ℕ → Bytes → Bytes → Policy → Rest
rest_from place dropped s out t = rest_by (place - dropped) out (rest_of place s t)

-- The result if nothing follows.
abbrev pub over : ℕ → Bytes → Policy → Rest
over kept out t = record { kept = kept; output = out; report = []; tables = t }

-- The result x with the report entry d before it.
abbrev pub before : Dropped → Rest → Rest
before d x = record { kept = x.kept; output = x.output; report = d ∷ x.report; tables = x.tables }

-- The result that an answer of `next` stands for. A refusal: the entry, and the mending of what follows it. The reply 0: nothing follows, and the place is the
-- number of records kept.
unfoldable pub told : ℕ → Bytes → Bytes → Policy → Dropped → Rest
told dropped s out t d = granted d.reply (over d.place out t) (before d (rest_from d.place (suc dropped) s out t))

-- The precondition of `next`. The place may also be that of the incomplete record.
pub record Ready (place dropped : ℕ) (s out : Bytes) (p : List ℕ) : Type 0 where
  pub words : length p ≡ policy_words
  pub room : length s ≤ length out
  pub within : place ≤ length s / 16 + 1
  pub fewer : dropped ≤ place

-- The contract of `next`: the result is the same whether it is computed before the call or from the answer and the buffers that the call leaves. The place of a
-- refused record is above the number of records dropped before it and at most that of an incomplete record.
pub record Found (place dropped : ℕ) (s out : Bytes) (t : Policy) (out' : Bytes) (t' : Policy) (d : Dropped) : Type 0 where
  pub rest : told dropped s out' t' d ≡ rest_from place dropped s out t
  pub ahead : (d.reply ≡ 0 → ⊥) → (dropped < d.place) × (d.place ≤ length s / 16 + 1)
