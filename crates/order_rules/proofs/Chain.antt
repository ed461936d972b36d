-- The claim rules one after the other, from the last to the first: a rule that refuses, with a place or
-- without one, and a rule that does not apply, after which the verdict is that of the rules that follow.
use Prim.Native.Nat.{ℕ, zero, suc}
use mathlib.Core.Bool.{Bool, true, false}
use mathlib.Core.List.{List, ◌∷◌}
use mathlib.Core.Path.{◌≡◌, sym, ◌∙◌}
use native.Mathlib.Omega.{arith}
use borrow.Author.Tests.{ne_eqb}
use Rattle.std.specs.Prelude.{None, Some, Err}
use Rattle.paper_lower.specs.Checks.{Check}
use Rattle.paper_upper.specs.Rules.{found}
use Rattle.replies.specs.Replies.{Outcome, refusal_number, placeless}
use Rattle.replies.specs.declared.Refusal.{Refusal}
use Rattle.replies.specs.declared.Refused.{Refused}
use Rattle.order_rules.specs.Judging.{place_if_any, Verdict}

module _ {f : ℕ → ℕ} {cs : List Check} where
  pub by_place : {n v x : ℕ} (e : Refusal) → Some x ≡ place_if_any v → refusal_number e ≡ n → v ≡ f n → Verdict ((found v, n) ∷ cs) f (Err (record { refusal = e; place = x }))
  by_place {v = zero} e h m g = absurd (cc h)
  by_place {v = suc v} {x} e h m g = rw (ne_eqb (suc v) 0 (λ z. omega (arith, z))) (record { replies = m; places = let k : x ≡ suc v = cc in k ∙ rw m g })

  pub no_place : (v : ℕ) {n : ℕ} {r : Outcome} → None ≡ place_if_any v → Verdict cs f r → Verdict ((found v, n) ∷ cs) f r
  no_place zero h rest = record { replies = rest.replies; places = rest.places }
  no_place (suc v) h rest = absurd (cc h)

  pub by-test : {n : ℕ} {y : Refused} {x b : Bool} (e : Refusal) → y ≡ placeless e → refusal_number e ≡ n → 0 ≡ f n → x ≡ b → x ≡ true → Verdict ((b, n) ∷ cs) f (Err y)
  by-test e is m g h b = rw (is, sym h ∙ b) (record { replies = m; places = rw m g })

  pub not-by-test : {n : ℕ} {r : Outcome} {x b : Bool} → x ≡ b → x ≡ false → Verdict cs f r → Verdict ((b, n) ∷ cs) f r
  not-by-test h b rest = rw (sym h ∙ b) (record { replies = rest.replies; places = rest.places })
