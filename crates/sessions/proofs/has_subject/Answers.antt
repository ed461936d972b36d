-- `has_subject` meets its contract: the search over 128 subjects is the search over the first 64 or that over the last 64.
use Prim.Native.Nat.{ℕ, zero, suc, ◌+◌}
use mathlib.Core.Bool.{Bool, true, false, ◌||◌}
use mathlib.Core.Path.{◌≡◌, refl, sym, ap, ◌∙◌, fun_ext}
use native.Mathlib.Omega.{arith}
use Rattle.paper_lower.specs.Lists.{some_number_below}
use Rattle.paper_lower.specs.Roles.{subject_of}
use Rattle.paper_lower.proofs.ListLaws.{or-true, or-false}
use Rattle.sessions.specs.Reading.{sessions_of}
use Rattle.sessions.proofs.has_subject.Goals as goal

or_assoc : (a b c : Bool) → (a || b) || c ≡ a || (b || c)
or_assoc true b c = refl
or_assoc false b c = refl

below_split : (n m : ℕ) (f : ℕ → Bool) → some_number_below (m + n) f ≡ some_number_below n (λ k. f (m + k)) || some_number_below m f
unfolding some_number_below
below_split zero m f = let e : m + zero ≡ m = omega arith in ap (λ k. some_number_below k f) e
below_split (suc n) m f =
    let e : m + suc n ≡ suc (m + n) = omega arith in
    ap (λ k. some_number_below k f) e ∙ ap (λ t. f (m + n) || t) (below_split n m f) ∙ sym (or_assoc (f (m + n)) (some_number_below n (λ k. f (m + k))) (some_number_below m f))

in_halves : (f : ℕ → Bool) {x y : Bool} → x ≡ some_number_below 64 (λ k. f (0 + k)) → y ≡ some_number_below 64 (λ k. f (64 + k)) → y || x ≡ some_number_below 128 f
in_halves f p q =
    let same : (λ (k : ℕ). f (0 + k)) ≡ f = fun_ext (λ k. let e : 0 + k ≡ k = omega arith in ap f e) in
    (λ z. q z || (p ∙ ap (some_number_below 64) same) z) ∙ sym (below_split 64 64 f)

pub returns-then-has_among : goal.returns-then-has_among
returns-then-has_among c =
    let args = c.args in
    let f = subject_of (sessions_of args.s.now) args.u in
    let high = some_number_below 64 (λ k. f (64 + k)) in
    sym (or-true high) ∙ ap (λ t. high || t) (sym c.if-has_among.true) ∙ in_halves f c.has_among.ensures refl

pub returns : goal.returns
returns c =
    let args = c.args in
    let f = subject_of (sessions_of args.s.now) args.u in
    sym (or-false c.has_among-2.result) ∙ ap (λ t. c.has_among-2.result || t) (sym c.if-has_among.false) ∙
    in_halves f c.has_among.ensures c.has_among-2.ensures
