-- Checks (kind 56) that pass SHAPE and RANGE: n and m are zero, and a is a subject.
use Rattle.std.specs.Prelude.{Bool, ◌&&◌, eqb, ltb, length}
use Rattle.paper_lower.specs.Records.{Bytes, Record, decode}

-- Whether a record is such a check.
abbrev pub checks : Record → Bool
checks r = ((eqb r.kind 56 && eqb r.n 0) && ltb r.a 128) && eqb r.m 0

-- Whether the bytes are such a check.
unfoldable pub is_check : Bytes → Bool
is_check s = eqb (length s) 16 && checks (decode s)
