-- How the code's record reads as that of the definitions, and the bounds of fields that were read from bytes.
use Rattle.std.specs.Prelude.{◌≡◌, ◌<◌, ◌^◌}
use Rattle.paper_lower.specs.Records.{Bytes, Record as PaperRecord, decode}
use Rattle.records.specs.declared.Record.{Record}

-- The code's record as the record of paper_lower.
abbrev pub paper_of : Record → PaperRecord
paper_of r = record { kind = r.kind; n = r.n; a = r.a; b = r.b; c = r.c; m = r.m }

-- The record of paper_lower as the code's record.
abbrev pub of_paper : PaperRecord → Record
of_paper p = record { kind = p.kind; n = p.n; a = p.a; b = p.b; c = p.c; m = p.m }

-- The fields of a record that was read from bytes are within their widths.
pub record Small (r : Record) : Type 0 where
  pub kind : r.kind < 256
  pub n : r.n < 256
  pub a : r.a < 65536
  pub b : r.b < 65536
  pub c : r.c < 65536
  pub m : r.m < 2 ^ 64

-- The contract of `decode`.
pub record Decoded (s : Bytes) (r : Record) : Type 0 where
  pub reads : paper_of r ≡ decode s
  pub small : Small r
