-- The two ways in which a pile returns: refused, with nothing written; or accepted, with the replies in the answer buffer from the named index on.
use Prim.Native.Nat.{ℕ, zero, suc, ◌+◌, ◌-◌, ◌%◌, ◌≤◌}
use mathlib.Core.Bool.{Bool, true, false, not, ◌&&◌}
use mathlib.Core.List.{[], ◌∷◌, ◌++◌, append-nil}
use mathlib.Core.Logic.{inr}
use mathlib.Core.Path.{◌≡◌, refl, sym, ap, ◌∙◌}
use native.Mathlib.Omega.{arith}
use lib.Dec.{eqb, ltb}
use lib.ListN.{length, take, drop, length-drop, drop_of_length-le}
use lib.Seq.{drop-drop, take_all}
use borrow.Author.Tests.{eqb-true, ltb-false, not-false}
use Rattle.paper_lower.specs.Lists.{each}
use Rattle.paper_lower.specs.Checks.{first}
use Rattle.paper_lower.specs.Records.{Bytes}
use Rattle.paper_upper.specs.Orders.{Engine}
use Rattle.paper_upper.specs.Engine.{request, placed_run}
use Rattle.replies.specs.Replies.{refusal_number}
use Rattle.replies.specs.declared.Refusal.{Refusal}
use Rattle.replies.proofs.ReplyLaws.{not-granted}
use Rattle.engine.specs.Buffers.{Buffers, tables_of, fit}
use Rattle.paper_lower.proofs.ListLaws.{both}
use Rattle.policy.specs.Layout.{policy_words}
use Rattle.sessions.specs.Reading.{sessions_words}
use Rattle.order_links.specs.Chains.{orders_words}
use Rattle.paper_upper.proofs.OrderedLaws.{tables-refl}
use Rattle.call_pile.specs.Pile.{count, whole_from, whole, MOST, replies_of, written_at, pile_checks, pile_of}
use Rattle.call_pile.specs.Promises.{PileDone, Answers}

-- ---- Refused.
module _ (s answers : Bytes) (at : ℕ) (x : Buffers) where
  kept_back : (q : ℕ) → (q ≡ 0 → ⊥) → first (pile_checks (fit x) s answers at) ≡ q → PileDone s answers at answers x x q
  unfolding pile_of
  kept_back zero n e = absurd (n refl)
  kept_back (suc q) n e = record {
    replies = rw e;
    written = rw e;
    tables = rw e (tables-refl (tables_of x));
    lengths = record { policy = refl; sessions = refl; orders = refl };
    kept = λ _. refl;
    still = λ _. refl;
    settles = inr refl;
  }

  pub refused : (e : Refusal) → refusal_number e ≡ first (pile_checks (fit x) s answers at) → PileDone s answers at answers x x (refusal_number e)
  refused e q = kept_back (refusal_number e) (not-granted e) (sym q)

  -- ---- Accepted: no check applies, so all lengths are right.
  pub record Taken : Type 0 where
    pub none-applies : first (pile_checks (fit x) s answers at) ≡ 0
    pub fits : fit x ≡ true
    pub inside : at ≤ length answers
    pub room : at + count s ≤ length answers

  none_of : (a b c d e : Bool) → first ((a, 1) ∷ (b, 1) ∷ (c, 1) ∷ (d, 1) ∷ (e, 2) ∷ []) ≡ 0 → (a ≡ false) × (b ≡ false) × (c ≡ false)
  none_of true b c d e h = absurd (omega arith)
  none_of false true c d e h = absurd (omega arith)
  none_of false false true d e h = absurd (omega arith)
  none_of false false false d e h = (refl, refl, refl)

  pub taken : 0 ≡ first (pile_checks (fit x) s answers at) → Taken
  unfolding pile_checks
  taken q =
      let z : first (pile_checks (fit x) s answers at) ≡ 0 = sym q in
      let h = none_of (not (fit x)) (ltb (length answers) at) (ltb (length answers) (at + count s)) (ltb MOST (count s)) (not (eqb (length s % 16) 0)) z in
      record { none-applies = z; fits = not-false (fit x) h.0; inside = ltb-false _ _ h.1; room = ltb-false _ _ h.2 }

-- If the three lengths are right, the orders buffer has its length.
pub room_of : (x : Buffers) → fit x ≡ true → length x.orders ≡ orders_words
room_of x f =
    let l = both (eqb (length x.policy) policy_words && eqb (length x.sessions) sessions_words) (eqb (length x.orders) orders_words) f in
    eqb-true _ _ l.1

-- ---- The replies are written into the middle of the answer buffer.
replies-count : (n : ℕ) (s : Bytes) (t : Engine) → length (replies_of (placed_run t (whole_from n s))) ≡ n
unfolding whole_from placed_run each
replies-count zero s t = refl
replies-count (suc n) s t = ap suc (replies-count n (drop 16 s) (request t (take 16 s)).tables)

laid : (at n : ℕ) (l last rs : Bytes) → at + n ≤ length l → length rs ≡ n → last ≡ rs ++ drop n (take (length l - at) (drop at l))
    → take at l ++ (last ++ drop (length l - at) (drop at l)) ≡ written_at at l rs
laid at n l last rs h m e =
    let short : length (drop at l) ≤ length l - at = simp length-drop (omega arith) in
    let t : take (length l - at) (drop at l) ≡ drop at l = take_all (length l - at) (drop at l) short in
    let d : drop (length l - at) (drop at l) ≡ [] = drop_of_length-le (drop at l) short in
    let e' : last ≡ rs ++ drop n (drop at l) = rw t at e in
    rw (d, append-nil, e', drop-drop n at l, m)

pub done : {s answers : Bytes} {at : ℕ} {x y : Buffers} {last : Bytes} → Taken s answers at x
    → Answers (count s) s x y (take (length answers - at) (drop at answers)) last
    → PileDone s answers at (take at answers ++ (last ++ drop (length answers - at) (drop at answers))) x y 0
unfolding pile_of
done {s} {answers} {at} {x} {y} {last} k a =
    let n = k.none-applies in
    record {
      replies = rw n;
      written =
          laid at (count s) answers last (replies_of (placed_run (tables_of x) (whole s))) k.room (replies-count (count s) s (tables_of x)) a.replies ∙ rw n;
      tables = rw n a.tables;
      lengths = a.lengths;
      kept = λ h. absurd (h refl);
      still = a.still;
      settles = a.settles;
    }

-- ---- The contract for the exported function, which returns the reply's number.
pub as_number : {s answers answers' : Bytes} {at m n : ℕ} {x y : Buffers} → PileDone s answers at answers' x y m → n ≡ m → PileDone s answers at answers' x y n
as_number d e = record {
  replies = e ∙ d.replies;
  written = d.written;
  tables = d.tables;
  lengths = d.lengths;
  kept = λ n. d.kept (λ z. n (e ∙ z));
  still = d.still;
  settles = d.settles;
}
