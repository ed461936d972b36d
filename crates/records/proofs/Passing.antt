-- For callers of `judge`: a refusal by it is the definition's reply, and if it passes a
-- record, the reply is that of the kind's checks and the fields are within their limits.
use mathlib.Core.Path.{◌≡◌, refl, sym, ◌∙◌, ap}
use mathlib.Core.Bool.{Bool, true, false, not, cond, ◌||◌, true≢false}
use mathlib.Core.List.{List, [], ◌∷◌}
use Prim.Native.Nat.{ℕ, ◌-◌, ◌^◌, ◌<◌, ◌≤◌}
use native.Mathlib.Omega.{arith}
use lib.Dec.{T, eqb, ltb, ltb→lt}
use lib.ListN.{length}
use borrow.Author.Tests.{eqb-true, leb-false, ltb-false, not-false}
use Rattle.paper_lower.specs.Lists.{Maybe, holds, there}
use Rattle.paper_lower.specs.Lists.Maybe.{none, just}
use Rattle.paper_lower.specs.Checks.{first, granted, GRANTED, SHAPE, RANGE}
use Rattle.paper_lower.specs.Records.{Bytes, decode}
use Rattle.paper_lower.specs.Forms.{Field, Form, form_of, misplaced, above, misshapen, out_of_range, form_checks}
use Rattle.paper_lower.specs.Forms.Field.{·, to, any, pair}
use Rattle.paper_lower.specs.Kinds.{Kind, chosen, reply_to, answer}
use Rattle.replies.specs.Replies.{refusal_number}
use Rattle.replies.specs.declared.Refusal.{Refusal}
use Rattle.replies.proofs.ReplyLaws.{not-granted}
use Rattle.replies.proofs.DoneLaws.{granted-old}
use Rattle.records.specs.Reading.{paper_of, Small, Decoded}
use Rattle.records.specs.Table.{limit}
use Rattle.records.specs.Calls.{settled}
use Rattle.records.specs.Limits.{most, limit_n, limit_a, limit_b, limit_c, limit_m, Limits}
use Rattle.records.specs.declared.Record.{Record}
use Rattle.records.proofs.Fields.{none_of}

-- Whether the check SHAPE applies, and whether RANGE does.
abbrev shape_fails : List Form → Bytes → Bool
shape_fails fs s = not (eqb (length s) 16) || misshapen (form_of fs (decode s).kind) (decode s)

abbrev range_fails : List Form → Bytes → Bool
range_fails fs s = out_of_range (form_of fs (decode s).kind) (decode s)

-- ---- A refusal by SHAPE or RANGE is the reply, whatever checks follow. If both pass, the reply is that of the checks that follow.

stops : (a b : Bool) (more : ℕ) {n : ℕ} → first ((a, SHAPE) ∷ (b, RANGE) ∷ []) ≡ n → (n ≡ 0 → ⊥) → cond a SHAPE (cond b RANGE more) ≡ n
stops true b more e h = e
stops false true more e h = e
stops false false more e h = absurd (h (sym e))

goes_on : (a b : Bool) (more : ℕ) → first ((a, SHAPE) ∷ (b, RANGE) ∷ []) ≡ 0 → cond a SHAPE (cond b RANGE more) ≡ more
goes_on true b more e = absurd (omega arith)
goes_on false true more e = absurd (omega arith)
goes_on false false more e = refl

-- e is the refusal of `judge`.
module _ (fs : List Form) (s : Bytes) {T : Type 0} (ks : List (Kind T)) (t : T) (e : Refusal) (judged : refusal_number e ≡ first (form_checks fs s)) where
  refused-reply : reply_to fs ks t s ≡ refusal_number e
  unfolding reply_to form_checks
  refused-reply =
      stops (shape_fails fs s) (range_fails fs s) (first ((chosen ks (decode s).kind).checks t (decode s))) (sym judged) (not-granted e)

  pub refused-answer : answer fs ks t s ≡ record { reply = refusal_number e; tables = granted (refusal_number e) t t }
  unfolding answer
  refused-answer =
      rw refused-reply
      (ap (λ (x : T). record { reply = refusal_number e; tables = x })
      (sym (granted-old _ t (refusal_number e) (not-granted e)) ∙ granted-old t t (refusal_number e) (not-granted e)))

-- ---- A record that passed.

clear : (a b : Bool) → first ((a, SHAPE) ∷ (b, RANGE) ∷ []) ≡ 0 → (a ≡ false) × (b ≡ false)
clear true b e = absurd (omega arith)
clear false true e = absurd (omega arith)
clear false false e = (refl, refl)

neither : (a b : Bool) → not a || b ≡ false → (a ≡ true) × (b ≡ false)
neither true b e = (refl, e)
neither false b e = absurd (true≢false e)

within : (ones : ℕ) (f : Field) {x : ℕ} → x ≤ ones → misplaced f x ≡ false → above f x ≡ false → x ≤ limit ones f
unfolding misplaced above
within ones · {x} h e o = omega (arith, eqb-true x 0 (not-false (eqb x 0) e))
within ones (to k) {x} h e o = ltb-false k x o
within ones any h e o = h
within ones pair {x} h e o = omega (arith, leb-false (2 ^ 32) x e)

limits_of : (f : Maybe Form) (r : Record) → Small r → misshapen f (paper_of r) ≡ false → out_of_range f (paper_of r) ≡ false
    → T (there f)
    × (r.n ≤ most 255 (λ f. f.n) f)
    × (r.a ≤ most 65535 (λ f. f.a) f)
    × (r.b ≤ most 65535 (λ f. f.b) f)
    × (r.c ≤ most 65535 (λ f. f.c) f)
    × (r.m ≤ most (2 ^ 64 - 1) (λ f. f.m) f)
unfolding misshapen out_of_range holds most
limits_of none r h e o = absurd (true≢false e)
limits_of (just f) r h e o =
    let es = none_of (misplaced f.n r.n) (misplaced f.a r.a) (misplaced f.b r.b) (misplaced f.c r.c) (misplaced f.m r.m) e in
    let os = none_of (above f.n r.n) (above f.a r.a) (above f.b r.b) (above f.c r.c) (above f.m r.m) o in (
      tt,
      within 255 f.n (omega (arith, h.n)) es.0 os.0,
      within 65535 f.a (omega (arith, h.a)) es.1 os.1,
      within 65535 f.b (omega (arith, h.b)) es.2 os.2,
      within 65535 f.c (omega (arith, h.c)) es.3 os.3,
      within (2 ^ 64 - 1) f.m (omega (arith, h.m)) es.4 os.4,
    )

-- `judge` granted the record, and d is the decoded record.
module _ (fs : List Form) (s : Bytes) (judged : 0 ≡ first (form_checks fs s)) where
  no-refusal : first (form_checks fs s) ≡ GRANTED
  no-refusal = sym judged

  pub sized : length s ≡ 16
  unfolding form_checks
  sized =
      let cs = clear (shape_fails fs s) (range_fails fs s) no-refusal in
      eqb-true (length s) 16 (neither (eqb (length s) 16) (misshapen (form_of fs (decode s).kind) (decode s)) cs.0).0

  module _ {d : Record} (is : Decoded s d) where
    pub passed : Limits fs d
    unfolding form_checks limit_n limit_a limit_b limit_c limit_m
    passed =
        let cs = clear (shape_fails fs s) (range_fails fs s) no-refusal in
        let ns = neither (eqb (length s) 16) (misshapen (form_of fs (decode s).kind) (decode s)) cs.0 in
        let ls = limits_of (form_of fs d.kind) d is.small (rw (← is.reads) at ns.1) (rw (← is.reads) at cs.1) in
        record { small = is.small; known = ls.0; n = ls.1; a = ls.2; b = ls.3; c = ls.4; m = ls.5 }

    module _ {T : Type 0} (ks : List (Kind T)) (t : T) where
      passed-reply : reply_to fs ks t s ≡ first ((chosen ks d.kind).checks t (paper_of d))
      unfolding reply_to form_checks
      passed-reply =
          goes_on (shape_fails fs s) (range_fails fs s) (first ((chosen ks (decode s).kind).checks t (decode s))) no-refusal ∙ rw (← is.reads)

      pub passed-answer : answer fs ks t s ≡ settled ks t (paper_of d)
      unfolding answer settled
      passed-answer = rw (passed-reply, ← is.reads)

-- ---- The bound of a field of a known kind. An example: `below (limit_a request_forms) l.a key 128 tt`, with `unfolding limits_open`.
pub below : (limit : ℕ → ℕ) {x kind k : ℕ} → x ≤ limit kind → kind ≡ k → (bound : ℕ) → T (ltb (limit k) bound) → x < bound
below limit {x} {kind} {k} h e bound t = omega (arith, ap limit e, ltb→lt (limit k) bound t)
