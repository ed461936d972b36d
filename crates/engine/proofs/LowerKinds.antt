-- A kind that the upper part does not handle is one of the lower part's: it has the row and the limits that the lower part gives it.
use Prim.Native.Nat.{ℕ}
use mathlib.Core.Bool.{Bool, true, false, cond, false≢true}
use mathlib.Core.List.{List, [], ◌∷◌, ◌++◌}
use mathlib.Core.Path.{◌≡◌, refl, sym, ap, ◌∙◌}
use borrow.Author.Tests.{eqb-true, eqb-false, ne_eqb}
use lib.Dec.{eqb}
use Rattle.paper_lower.specs.Lists.{Maybe, Every, keep, each}
use Rattle.paper_lower.specs.Lists.Maybe.{none, just}
use Rattle.paper_lower.specs.Forms.{Form, lower_forms, upper_forms, request_forms, form_of}
use Rattle.paper_lower.specs.Kinds.{Kind, chosen}
use Rattle.paper_lower.specs.Tables.{Lower}
use Rattle.paper_lower.specs.Sessions.{lower_kinds}
use Rattle.paper_upper.specs.Requests.{upper_kinds}
use Rattle.paper_upper.specs.Engine.{widened, shared_kinds, request_kinds}
use Rattle.records.specs.Limits.{Limits, limit_n, limit_a, limit_b, limit_c, limit_m}
use Rattle.records.specs.declared.Record.{Record}
use Rattle.records.proofs.Span.{Rest, one_each, others}

-- The kinds that the upper part handles.
abbrev pub upper_numbers : List ℕ
upper_numbers = 33 ∷ 41 ∷ 48 ∷ 49 ∷ 50 ∷ 51 ∷ 52 ∷ 57 ∷ 58 ∷ 60 ∷ []

-- ---- Rows of the table of kinds.
skip : {T : Type 0} (ks js : List (Kind T)) (n : ℕ) → Every (λ k. eqb k.kind n ≡ false) ks → chosen (ks ++ js) n ≡ chosen js n
unfolding chosen
skip [] js n h = refl
skip (k ∷ ks) js n h = rw h.0 (skip ks js n h.1)

widened-chosen : (ks : List (Kind Lower)) (n : ℕ) → chosen (each widened ks) n ≡ widened (chosen ks n)
unfolding chosen widened each
widened-chosen [] n = refl
widened-chosen (k ∷ ks) n = go (eqb k.kind n) (widened-chosen ks n)
  where
    go : (b : Bool) → chosen (each widened ks) n ≡ widened (chosen ks n) → cond b (widened k) (chosen (each widened ks) n) ≡ widened (cond b k (chosen ks n))
    go true e = refl
    go false e = e

-- ---- Forms.
no-forms : (fs : List Form) (n : ℕ) → Every (λ f. eqb f.kind n ≡ false) fs → form_of fs n ≡ none
unfolding form_of
no-forms [] n h = refl
no-forms (f ∷ fs) n h = rw h.0 (no-forms fs n h.1)

behind : (fs gs : List Form) (n : ℕ) → form_of gs n ≡ none → form_of (fs ++ gs) n ≡ form_of fs n
unfolding form_of
behind [] gs n h = h
behind (f ∷ fs) gs n h = ap (λ (x : Maybe Form). cond (eqb f.kind n) (just f) x) (behind fs gs n h)

-- The row chosen for n stays the same when only rows of other numbers are left out.
kept-chosen : {T : Type 0} (p : Kind T → Bool) (n : ℕ) → ((k : Kind T) → eqb k.kind n ≡ true → p k ≡ true) → (ks : List (Kind T))
    → chosen (keep p ks) n ≡ chosen ks n
unfolding chosen keep
kept-chosen p n f [] = refl
kept-chosen {T} p n f (k ∷ ks) = go (p k) (f k) (kept-chosen p n f ks)
  where
    left_out : (c : Bool) → (c ≡ true → false ≡ true) → chosen (keep p ks) n ≡ chosen ks n → chosen (keep p ks) n ≡ cond c k (chosen ks n)
    left_out true h e = absurd (false≢true (h refl))
    left_out false h e = e

    go : (b : Bool) → (eqb k.kind n ≡ true → b ≡ true) → chosen (keep p ks) n ≡ chosen ks n
        → chosen (cond b (k ∷ keep p ks) (keep p ks)) n ≡ cond (eqb k.kind n) k (chosen ks n)
    go true h e = ap (λ (x : Kind T). cond (eqb k.kind n) k x) e
    go false h e = left_out (eqb k.kind n) h e

module _ {n : ℕ} (h : Rest (one_each upper_numbers) n) where
  none-of-them : Every (λ k. eqb k n ≡ false) upper_numbers
  none-of-them = others upper_numbers n h

  pub no-claim-number : n ≡ 50 → ⊥
  no-claim-number e = eqb-false 50 n none-of-them.1.1.1.1.0 (sym e)

  turned : (k : ℕ) → eqb k n ≡ false → eqb n k ≡ false
  turned k e = ne_eqb n k (λ q. eqb-false k n e (sym q))

  pub lower-row : chosen request_kinds n ≡ widened (chosen lower_kinds n)
  unfolding request_kinds shared_kinds upper_kinds
  lower-row =
      skip upper_kinds (each widened shared_kinds) n none-of-them
      ∙ widened-chosen shared_kinds n
      ∙ ap widened (kept-chosen _ n (λ k e. rw (eqb-true k.kind n e) (simp (turned 33 none-of-them.0, turned 41 none-of-them.1.0))) lower_kinds)

  -- ---- Limits. Kinds 33 and 41 have their forms from the lower part, so they are not in the list of upper forms.
  no-form : form_of upper_forms n ≡ none
  unfolding upper_forms
  no-form = no-forms upper_forms n none-of-them.1.1

  form-is : form_of request_forms n ≡ form_of lower_forms n
  unfolding request_forms
  form-is = behind lower_forms upper_forms n no-form

pub lower-limits : {r : Record} → Rest (one_each upper_numbers) r.kind → Limits request_forms r → Limits lower_forms r
unfolding limit_n limit_a limit_b limit_c limit_m
lower-limits {r} h l =
    let e = form-is h in
    record { small = l.small; known = rw e at l.known; n = rw e at l.n; a = rw e at l.a; b = rw e at l.b; c = rw e at l.c; m = rw e at l.m }
