-- The invariant of the loop in `answer_all` (`Left`): the replies so far and the requests that are left together make the whole answer.
use Prim.Native.Nat.{ℕ, zero, suc, ◌+◌, ◌-◌, ◌≤◌, ◌<◌}
use mathlib.Core.Bool.{Bool, true, false}
use mathlib.Core.List.{List, [], ◌∷◌, ◌++◌, append-nil}
use mathlib.Core.Logic.{◌⊎◌, inl, inr}
use mathlib.Core.Path.{◌≡◌, refl, sym, ap, ◌∙◌}
use native.Mathlib.Nat.{not-suc-le-zero}
use native.Mathlib.Numerals.{add-one, sub-one}
use native.Mathlib.Omega.{arith}
use borrow.Author.Tests.{eqb-true, eqb-false}
use lib.Dec.{eqb}
use lib.ListN.{length, take, drop, set, take-append-drop}
use lib.Seq.{drop-drop, take-suc-set, drop-set-lt, append_snoc}
use Rattle.paper_lower.specs.Lists.{each, Every}
use Rattle.paper_lower.specs.Records.{Bytes}
use Rattle.paper_lower.specs.Kinds.{after}
use Rattle.paper_upper.specs.Orders.{SameTables}
use Rattle.paper_upper.specs.Engine.{request, Placed, placed_run}
use Rattle.replies.specs.Replies.{Outcome, outcome_number}
use Rattle.engine.specs.Buffers.{Buffers, tables_of, fit, SameLengths}
use Rattle.engine.specs.Answers.{Requested}
use Rattle.order_links.specs.Chains.{sound_of}
use Rattle.paper_upper.proofs.OrderedLaws.{tables-refl, tables_then}
use Rattle.engine.proofs.RespectLaws.{runs-respect}
use Rattle.theorems.proofs.Replies.{in-byte}
use Rattle.demands.specs.Calls.Request.{within}
use Rattle.demands.proofs.Calls.{fit-kept, request-listed, answers, stays-sound}
use Rattle.call_pile.specs.Pile.{whole_from, replies_of}
use Rattle.call_pile.specs.Promises.{NotGranted, Answers}

-- A reply fits in a byte.
pub small : {bytes : Bytes} {x y : Buffers} {j : Outcome} → Requested bytes x y j → outcome_number j ≤ 255
small {bytes} {x} q = let e = q.replies in let l = in-byte _ (request-listed bytes x) in omega arith

-- i of n requests are done, and the next record begins at index `at`.
pub record Left (n : ℕ) (bytes : Bytes) (x₀ x : Buffers) (i at : ℕ) (out₀ out : Bytes) : Type 0 where
  pub replies : take i out ++ replies_of (placed_run (tables_of x) (whole_from (n - i) (drop at bytes))) ≡ replies_of (placed_run (tables_of x₀) (whole_from n bytes))
  pub tables : SameTables (after request (tables_of x) (whole_from (n - i) (drop at bytes))) (after request (tables_of x₀) (whole_from n bytes))
  pub rest : drop i out ≡ drop i out₀
  pub lengths : SameLengths x₀ x
  pub fits : fit x ≡ true
  pub still : Every NotGranted (replies_of (placed_run (tables_of x₀) (whole_from n bytes)))
      → Every NotGranted (replies_of (placed_run (tables_of x) (whole_from (n - i) (drop at bytes)))) × (x ≡ x₀)
  pub settles : (sound_of x.orders ≡ true) ⊎ (x ≡ x₀)

pub begun : (n : ℕ) (bytes : Bytes) (x : Buffers) (out : Bytes) → fit x ≡ true → Left n bytes x x 0 0 out out
begun n bytes x out f =
    let z : n - 0 ≡ n = omega arith in
    record {
      replies = rw z;
      tables = rw z (tables-refl _);
      rest = refl;
      lengths = record { policy = refl; sessions = refl; orders = refl };
      fits = f;
      still = λ e. (rw z e, refl);
      settles = inr refl;
    }

module _ (bytes : Bytes) (at : ℕ) {k : ℕ} {x y : Buffers} {j : Outcome} (k16 : k ≡ 16) (q : Requested (take k (drop at bytes)) x y j) (f : fit x ≡ true) where
  asked-one : (outcome_number j ≡ (request (tables_of x) (take 16 (drop at bytes))).reply) ×
      SameTables (tables_of y) (request (tables_of x) (take 16 (drop at bytes))).tables
  asked-one =
      let a = answers (within q) f in
      let e : outcome_number j ≡ (request (tables_of x) (take 16 (drop at bytes))).reply = rw k16 at a.0 in
      let t : SameTables (tables_of y) (request (tables_of x) (take 16 (drop at bytes))).tables = rw k16 at a.2 in (e, t)

  next-replies : (left : ℕ) → 0 < left
      → replies_of (placed_run (tables_of x) (whole_from left (drop at bytes))) ≡
      outcome_number j ∷ replies_of (placed_run (tables_of y) (whole_from (left - 1) (drop (at + 16) bytes)))
  unfolding whole_from placed_run each
  next-replies zero l = absurd (not-suc-le-zero l)
  next-replies (suc n) l =
      let e = asked-one in
      let h = runs-respect _ _ e.1 (whole_from n (drop (at + 16) bytes)) in
      rw (sub-one, drop-drop 16 at bytes, ← e.0) (ap (λ (said : List Placed). outcome_number j ∷ replies_of said) (sym h.0))

  next-tables : (left : ℕ) → 0 < left
      → SameTables (after request (tables_of y) (whole_from (left - 1) (drop (at + 16) bytes))) (after request (tables_of x) (whole_from left (drop at bytes)))
  unfolding whole_from after
  next-tables zero l = absurd (not-suc-le-zero l)
  next-tables (suc n) l = rw (sub-one, drop-drop 16 at bytes) (runs-respect _ _ asked-one.1 (whole_from n (drop (at + 16) bytes))).1

put_one : (out : Bytes) (i v : ℕ) → i < length out → (rs : Bytes) → take (i + 1) (set out i v) ++ rs ≡ take i out ++ (v ∷ rs)
put_one out i v h rs = rw (add-one, take-suc-set out i v h) (append_snoc (take i out) v rs)

untouched : (out₀ out : Bytes) (i v : ℕ) → drop i out ≡ drop i out₀ → drop (i + 1) (set out i v) ≡ drop (i + 1) out₀
untouched out₀ out i v e =
    let l : i < i + 1 = omega arith in
    drop-set-lt (i + 1) out i v l ∙ sym (drop-drop 1 i out) ∙ ap (drop 1) e ∙ drop-drop 1 i out₀

-- After a request the links are sound or the state is the first one, if that was so before it: a granted request leaves sound links, a refusal changes nothing.
granted-or-not : {bytes : Bytes} {x₀ x y : Buffers} {j : Outcome} → Requested bytes x y j → (sound_of x.orders ≡ true) ⊎ (x ≡ x₀) →
    (sound_of y.orders ≡ true) ⊎ (y ≡ x₀)
granted-or-not {x₀ = x₀} {x} {y} {j} q was = go (eqb (outcome_number j) 0) refl
  where
    go : (b : Bool) → eqb (outcome_number j) 0 ≡ b → (sound_of y.orders ≡ true) ⊎ (y ≡ x₀)
    go true e = inl (q.settles (eqb-true _ _ e))
    go false e = rw (q.kept (eqb-false _ _ e)) was

pub still-sound : {bytes : Bytes} {x y : Buffers} {j : Outcome} → Requested bytes x y j → sound_of x.orders ≡ true → sound_of y.orders ≡ true
still-sound q s = stays-sound (within q) s

pub turned : {n : ℕ} {bytes : Bytes} {x₀ x y : Buffers} {i at k : ℕ} {out₀ out : Bytes} {j : Outcome} {v : ℕ}
    → Left n bytes x₀ x i at out₀ out → k ≡ 16 → Requested (take k (drop at bytes)) x y j → v ≡ outcome_number j → i < n → i < length out
    → Left n bytes x₀ y (i + 1) (at + 16) out₀ (set out i v)
turned {n} {bytes} {x₀} {x} {y} {i} {at} {k} {out₀} {out} {j} {v} l k16 q e m h =
    let z : n - i - 1 ≡ n - (i + 1) = omega arith in
    let f = l.fits in
    let a = next-replies bytes at k16 q f (n - i) (omega arith) in
    let b = next-tables bytes at k16 q f (n - i) (omega arith) in
    record {
      replies = put_one out i v h _ ∙ rw (e, ← z, ← a) l.replies;
      tables = rw (← z) (tables_then b l.tables);
      rest = untouched out₀ out i v l.rest;
      lengths = record {
        policy = q.lengths.policy ∙ l.lengths.policy;
        sessions = q.lengths.sessions ∙ l.lengths.sessions;
        orders = q.lengths.orders ∙ l.lengths.orders;
      };
      fits = fit-kept q.lengths ∙ f;
      still = λ all.
          let s = l.still all in
          let t : Every NotGranted (outcome_number j ∷ replies_of (placed_run (tables_of y) (whole_from (n - i - 1) (drop (at + 16) bytes)))) = rw a at s.0 in
          (rw (← z) t.1, q.kept t.0 ∙ s.1);
      settles = granted-or-not q l.settles;
    }

pub ended : {n : ℕ} {bytes : Bytes} {x₀ x : Buffers} {i at : ℕ} {out₀ out : Bytes} → Left n bytes x₀ x i at out₀ out → i ≡ n → Answers n bytes x₀ x out₀ out
unfolding whole_from placed_run after each
ended {n} {bytes} {x₀} {x} {i} {at} {out₀} {out} l e =
    let z : n - i ≡ 0 = omega arith in
    let w : take i out ++ [] ≡ replies_of (placed_run (tables_of x₀) (whole_from n bytes)) = rw z at l.replies in
    let w' : take i out ≡ replies_of (placed_run (tables_of x₀) (whole_from n bytes)) = sym (append-nil (take i out)) ∙ w in
    record {
      replies = sym (take-append-drop i out) ∙ rw (w', l.rest, e);
      tables = rw z at l.tables;
      lengths = l.lengths;
      still = λ all. (l.still all).1;
      settles = l.settles;
    }
