-- `release` meets its contract: it returns UNKNOWN, or removes the entry that the subject holds, or changes nothing if there is none.
use Prim.Native.Nat.{ℕ}
use mathlib.Core.List.{List}
use mathlib.Core.Path.{refl, sym, subst, ◌∙◌}
use Rattle.std.specs.Prelude.{Err}
use Rattle.paper_upper.specs.Requests.{hold_checks, release_next}
use Rattle.replies.specs.declared.Refusal.TheVariants.{NotYours}
use Rattle.replies.proofs.DoneLaws.{refused, done}
use Rattle.order_requests.specs.Tables.{engine_tables}
use Rattle.order_claims.specs.Promises.{Released}
use Rattle.order_claims.proofs.ClaimLaws.{not-unknown}
use Rattle.order_claims.proofs.release.Goals as goal

pub returns-then-is_unknown : goal.returns-then-is_unknown
unfolding hold_checks
returns-then-is_unknown c = record { kept = λ _. refl; sound = λ s. (refused (simp (← c.is_unknown.ensures, c.if-is_unknown.true)), s) }

pub returns-then-not-release : goal.returns-then-not-release
unfolding hold_checks
returns-then-not-release c =
    let z = c.args in
    let t = engine_tables z.p.now z.s.now z.o.now in
    let same = c.release.ensures.kept c.if-not-release.true in
    record {
      kept = λ _. same;
      sound = λ s.
          let did = c.release.ensures.sound s (not-unknown t z.a z.b z.c (sym c.is_unknown.ensures ∙ c.if-is_unknown.false)) in
          subst (λ (x : List ℕ). Released z.p.now z.s.now z.o.now x z.a z.b z.c (Err NotYours)) (sym same)
          (refused (simp (← c.is_unknown.ensures, c.if-is_unknown.false, ← did.0, c.if-not-release.true)), s);
    }

pub returns : goal.returns
unfolding hold_checks release_next
returns c =
    let z = c.args in
    let t = engine_tables z.p.now z.s.now z.o.now in
    record {
      kept = λ n. absurd (n refl);
      sound = λ s.
          let did = c.release.ensures.sound s (not-unknown t z.a z.b z.c (sym c.is_unknown.ensures ∙ c.if-is_unknown.false)) in
          (done (simp (← c.is_unknown.ensures, c.if-is_unknown.false, ← did.0, c.if-not-release.false)) (rw did.1.tables), did.1.sound);
    }
