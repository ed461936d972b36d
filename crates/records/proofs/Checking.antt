-- For callers of `is_check`: if it holds, the length and the fields of the record are known, and the bytes pass SHAPE and RANGE.
use mathlib.Core.Path.{◌≡◌, refl}
use mathlib.Core.Bool.{Bool, true, false, ◌&&◌, false≢true}
use Prim.Native.Nat.{◌<◌, ◌≤◌}
use native.Mathlib.Omega.{arith}
use lib.Dec.{eqb, ltb}
use lib.ListN.{length}
use borrow.Author.Tests.{eqb-true, ltb-true, le-ltb}
use Rattle.paper_lower.specs.Checks.{first}
use Rattle.paper_lower.specs.Records.{Bytes, decode}
use Rattle.paper_lower.specs.Forms.{request_forms, form_checks, forms_open}
use Rattle.records.specs.Check.{checks, is_check}

both : (x y : Bool) → x && y ≡ true → (x ≡ true) × (y ≡ true)
both true y e = (refl, e)
both false y e = absurd (false≢true e)

module _ (s : Bytes) (is : is_check s ≡ true) where
  parts : (length s ≡ 16) × (checks (decode s) ≡ true)
  unfolding is_check
  parts = let e = both (eqb (length s) 16) (checks (decode s)) is in (eqb-true _ _ e.0, e.1)

  pub check-length : length s ≡ 16
  check-length = parts.0

  pub check-fields : (((decode s).kind ≡ 56) × ((decode s).n ≡ 0)) × (((decode s).a < 128) × ((decode s).m ≡ 0))
  check-fields =
      let d = decode s in
      let e = both ((eqb d.kind 56 && eqb d.n 0) && ltb d.a 128) (eqb d.m 0) parts.1 in
      let f = both (eqb d.kind 56 && eqb d.n 0) (ltb d.a 128) e.0 in
      let g = both (eqb d.kind 56) (eqb d.n 0) f.0 in
      ((eqb-true _ _ g.0, eqb-true _ _ g.1), (ltb-true _ _ f.1, eqb-true _ _ e.1))

  pub check-passes : 0 ≡ first (form_checks request_forms s)
  unfolding forms_open
  check-passes =
      let f = check-fields in
      let h : (decode s).a ≤ 127 = omega arith in
      rw (check-length, f.0.0, f.0.1, f.1.1, le-ltb 127 (decode s).a h)
