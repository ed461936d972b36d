-- What follows from the contract of the pile: its replies are those of requests made one by one, it may be one of a chain of calls, and no second answer fits.
use Prim.Native.Nat.{ℕ, zero, suc}
use mathlib.Core.Bool.{Bool, true, false, not}
use mathlib.Core.List.{List, [], ◌∷◌}
use lib.ListN.{drop}
use mathlib.Core.Path.{◌≡◌, refl, sym, ap, subst, ◌∙◌}
use mathlib.Core.Logic.{⊎_elim}
use native.Mathlib.Omega.{arith}
use Rattle.paper_lower.specs.Lists.{each}
use Rattle.paper_lower.specs.Checks.{first, granted, GRANTED, ROOM}
use Rattle.paper_lower.specs.Records.{Bytes}
use Rattle.paper_lower.specs.Kinds.{after}
use Rattle.paper_upper.specs.Orders.{Engine, SameTables}
use Rattle.paper_upper.specs.Engine.{request, Placed, placed_run}
use Rattle.order_links.specs.Chains.{sound_of}
use Rattle.engine.specs.Buffers.{Buffers, tables_of, fit}
use Rattle.paper_upper.proofs.OrderedLaws.{tables-refl, tables-sym, tables_then}
use Rattle.engine.proofs.RespectLaws.{runs-respect}
use Rattle.demands.specs.Calls.{Called, Together, fitting, asked}
use Rattle.demands.proofs.Demands.{in-chains}
use Rattle.demands.proofs.Calls.{after_all, after-all, told, chain_run, reading}
use Rattle.call_pile.specs.Pile.{whole, replies_of, written_at, pile_checks, Piled, pile_of, pile_answer}
use Rattle.call_pile.specs.Promises.{PileDone, AsOneByOne, InChains, OneAnswer}

-- The answer of an accepted pile.
abbrev done : Bytes → Bytes → ℕ → Buffers → Piled
done s answers at x = record {
  reply = GRANTED;
  tables = after request (tables_of x) (whole s);
  answers = written_at at answers (replies_of (placed_run (tables_of x) (whole s)));
}

-- If the reply is 0, no check applies.
taken : (s answers : Bytes) (at : ℕ) (x : Buffers) → (pile_answer s answers at x).reply ≡ 0 → first (pile_checks (fit x) s answers at) ≡ 0
unfolding pile_of
taken s answers at x = go (first (pile_checks (fit x) s answers at))
  where
    go : (k : ℕ) → (granted k (done s answers at x) (record { reply = k; tables = tables_of x; answers = answers })).reply ≡ 0 → k ≡ 0
    go zero e = refl
    go (suc k) e = e

-- If no check applies, the three buffers have their lengths.
fits : (s answers : Bytes) (at : ℕ) (x : Buffers) → first (pile_checks (fit x) s answers at) ≡ 0 → fit x ≡ true
unfolding pile_checks
fits s answers at x = go (fit x)
  where
    go : (b : Bool) → first ((not b, ROOM) ∷ drop 1 (pile_checks (fit x) s answers at)) ≡ 0 → b ≡ true
    go true e = refl
    go false e = absurd (omega arith)

answer-taken : (s answers : Bytes) (at : ℕ) (x : Buffers) → first (pile_checks (fit x) s answers at) ≡ 0 → pile_answer s answers at x ≡ done s answers at x
unfolding pile_of
answer-taken s answers at x e = rw e

pub as-one-by-one : AsOneByOne
as-one-by-one = record {
  same = λ {bytes} {answers} {answers'} {at} {x} {y} {z} {said} d c w.
      let k = taken bytes answers at x (sym d.replies) in
      let e = answer-taken bytes answers at x k in
      let ran =
      chain_run Called Together fit tables_of (λ t s. (request t s).tables) (λ a. a.said) told placed_run SameTables reading c (fits bytes answers at x k)
      (tables_of x)
      (tables-refl (tables_of x)) in
      let said-is : fitting (λ a. a.said) said ≡ placed_run (tables_of x) (whole bytes) = ran.0 ∙ ap (placed_run (tables_of x)) w in
      let after_is : SameTables (tables_of z) (after_all (λ t s. (request t s).tables) (tables_of x) (whole bytes)) = rw w at ran.1 in (
        d.written ∙ ap (λ (p : Piled). p.answers) e ∙ ap (λ (q : List Placed). written_at at answers (replies_of q)) (sym said-is),
        tables_then (rw e at d.tables) (tables-sym (rw (after-all request (tables_of x) (whole bytes)) at after_is)),
      );
}

-- ---- A pile in a chain of calls counts as its requests.
requests-of : (t : Engine) (ss : List Bytes) → asked (λ a. a.said) (placed_run t ss) ≡ ss
unfolding placed_run each
requests-of t [] = refl
requests-of t (s ∷ ss) = ap (λ (rs : List Bytes). s ∷ rs) (requests-of (request t s).tables ss)

taken-together : {bytes answers answers' : Bytes} {at : ℕ} {x y : Buffers} → PileDone bytes answers at answers' x y 0
    → (said : List Placed)
    × Together said x y
    × (asked (λ a. a.said) said ≡ whole bytes)
    × (answers' ≡ written_at at answers (replies_of said))
taken-together {bytes} {answers} {at = at} {x} {y} d =
    let e = answer-taken bytes answers at x (taken bytes answers at x (sym d.replies)) in
    let t = tables_of x in
    let asks = requests-of t (whole bytes) in (
      placed_run t (whole bytes),
      record {
        answers = ap (placed_run t) (sym asks);
        tables = rw asks (rw e at d.tables);
        lengths = d.lengths;
        links = λ s. ⊎_elim (λ (e : sound_of y.orders ≡ true). e) (λ (e : y ≡ x). rw e s) d.settles;
      },
      asks,
      d.written ∙ ap (λ (p : Piled). p.answers) e,
    )

refused-together : {bytes answers answers' : Bytes} {at number : ℕ} {x y : Buffers} → PileDone bytes answers at answers' x y number → (number ≡ 0 → ⊥) →
    Together [] x y
refused-together {x = x} {y} d n = subst (Together [] x) (sym (d.kept n)) (in-chains.reading x)

pub piles-in-chains : InChains
piles-in-chains = record { taken = λ d. taken-together d; refused = λ d n. refused-together d n }

-- ---- No second answer fits.

-- Two answers with the same reply, the same answer buffer and the same tables. Equal tables and lengths lead to such answers.
pub record Alike (p q : Piled) : Type 0 where
  pub replies : p.reply ≡ q.reply
  pub answers : p.answers ≡ q.answers
  pub tables : SameTables p.tables q.tables

module _ (s answers : Bytes) (at : ℕ) (x x' : Buffers) (f : fit x ≡ fit x') (t : SameTables (tables_of x) (tables_of x')) where
  checks-alike : first (pile_checks (fit x) s answers at) ≡ first (pile_checks (fit x') s answers at)
  unfolding pile_checks
  checks-alike = rw f

  alike : Alike (pile_answer s answers at x) (pile_answer s answers at x')
  unfolding pile_of
  alike = rw checks-alike (go (first (pile_checks (fit x') s answers at)))
    where
      go : (k : ℕ)
          → Alike (granted k (done s answers at x) (record { reply = k; tables = tables_of x; answers = answers }))
          (granted k (done s answers at x') (record { reply = k; tables = tables_of x'; answers = answers }))
      go zero =
          let h = runs-respect (tables_of x) (tables_of x') t (whole s) in
          record { replies = refl; answers = ap (λ (q : List Placed). written_at at answers (replies_of q)) h.0; tables = h.1 }
      go (suc k) = record { replies = refl; answers = refl; tables = t }

pub one_answer : OneAnswer
one_answer = record {
  piles = λ {bytes} {answers} {a} {b} {at} {x} {x'} {y} {y'} {q} {r} f t d e.
      let h = alike bytes answers at x x' f t in (
        d.replies ∙ h.replies ∙ sym e.replies,
        d.written ∙ h.answers ∙ sym e.written,
        tables_then d.tables (tables_then h.tables (tables-sym e.tables)),
      );
}
