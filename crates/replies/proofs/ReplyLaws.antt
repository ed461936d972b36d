-- Laws of replies: a refusal's number is not 0, what `accepted` says of a reply's number, and that different replies have different numbers.
use Prim.Native.Nat.{ℕ}
use mathlib.Core.Bool.{Bool, true, false, cond}
use mathlib.Core.Path.{◌≡◌, refl, sym, ap, ◌∙◌}
use native.Mathlib.Omega.{arith}
use borrow.Author.Tests.{eqb-true, eqb-false}
use lib.Dec.{eqb}
use Rattle.std.specs.Prelude.{Ok, Err}
use Rattle.replies.specs.Replies.{Reply, number_of, refusal_number, outcome_number, outcome_place, plain}
use Rattle.replies.specs.declared.Refusal.{Refusal}
use Rattle.replies.specs.declared.Refusal.TheVariants.{Room, Shape, Range, Unknown, Taken, InUse, Rule, NotAssigned, Static, Dynamic, NoRole, NotYours, Denied, Before, Separation, Block, Alone, Bound, Count, Full, Loop, Wall}

-- A refusal's number is not 0.
pub not-granted : (e : Refusal) → refusal_number e ≡ 0 → ⊥
not-granted Room h = omega (arith, h)
not-granted Shape h = omega (arith, h)
not-granted Range h = omega (arith, h)
not-granted Unknown h = omega (arith, h)
not-granted Taken h = omega (arith, h)
not-granted InUse h = omega (arith, h)
not-granted Rule h = omega (arith, h)
not-granted NotAssigned h = omega (arith, h)
not-granted Static h = omega (arith, h)
not-granted Dynamic h = omega (arith, h)
not-granted NoRole h = omega (arith, h)
not-granted NotYours h = omega (arith, h)
not-granted Denied h = omega (arith, h)
not-granted Before h = omega (arith, h)
not-granted Separation h = omega (arith, h)
not-granted Block h = omega (arith, h)
not-granted Alone h = omega (arith, h)
not-granted Bound h = omega (arith, h)
not-granted Count h = omega (arith, h)
not-granted Full h = omega (arith, h)
not-granted Loop h = omega (arith, h)
not-granted Wall h = omega (arith, h)

-- If b is what `accepted` returned for r: b is true if the number of r is 0, and false if it is not.
pub is_zero : (r : Reply) {b : Bool} → b ≡ eqb (number_of r) 0 → b ≡ true → number_of r ≡ 0
is_zero r a t = eqb-true (number_of r) 0 (sym a ∙ t)

pub not-zero : (r : Reply) {b : Bool} → b ≡ eqb (number_of r) 0 → b ≡ false → number_of r ≡ 0 → ⊥
not-zero r a f = eqb-false (number_of r) 0 (sym a ∙ f)

-- The refusal with number n.
named : ℕ → Refusal
named n =
    cond (eqb n 1) Room
    (cond (eqb n 2) Shape
    (cond (eqb n 3) Range
    (cond (eqb n 4) Unknown
    (cond (eqb n 5) Taken
    (cond (eqb n 6) InUse
    (cond (eqb n 7) Rule
    (cond (eqb n 8) NotAssigned
    (cond (eqb n 9) Static
    (cond (eqb n 10) Dynamic
    (cond (eqb n 11) NoRole
    (cond (eqb n 12) NotYours
    (cond (eqb n 13) Denied
    (cond (eqb n 14) Before
    (cond (eqb n 15) Separation
    (cond (eqb n 16) Block
    (cond (eqb n 17) Alone
    (cond (eqb n 18) Bound
    (cond (eqb n 19) Count
    (cond (eqb n 20) Full
    (cond (eqb n 23) Loop
    Wall))))))))))))))))))))

named-number : (e : Refusal) → named (refusal_number e) ≡ e
unfolding named
named-number Room = refl
named-number Shape = refl
named-number Range = refl
named-number Unknown = refl
named-number Taken = refl
named-number InUse = refl
named-number Rule = refl
named-number NotAssigned = refl
named-number Static = refl
named-number Dynamic = refl
named-number NoRole = refl
named-number NotYours = refl
named-number Denied = refl
named-number Before = refl
named-number Separation = refl
named-number Block = refl
named-number Alone = refl
named-number Bound = refl
named-number Count = refl
named-number Full = refl
named-number Loop = refl
named-number Wall = refl

-- Two replies with the same number are equal.
pub one-reply : (r s : Reply) → number_of r ≡ number_of s → r ≡ s
one-reply (Ok u) (Ok v) e = refl
one-reply (Ok u) (Err f) e = absurd (not-granted f (sym e))
one-reply (Err e') (Ok u) e = absurd (not-granted e' e)
one-reply (Err e') (Err f) e = ap Err (sym (named-number e') ∙ ap named e ∙ named-number f)

-- ---- A reply as an outcome: it has the reply's number and no place.
pub plain_number : (r : Reply) → outcome_number (plain r) ≡ number_of r
plain_number (Ok u) = refl
plain_number (Err e) = refl

pub plain_place : (r : Reply) → outcome_place (plain r) ≡ 0
plain_place (Ok u) = refl
plain_place (Err e) = refl
