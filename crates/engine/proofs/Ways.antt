-- The ways in which `request` and `load` return, each with its contract.
use Prim.Native.Nat.{ℕ, ◌+◌, ◌*◌}
use mathlib.Core.Bool.{Bool, true, false, not, ◌&&◌, true≢false}
use mathlib.Core.List.{List}
use mathlib.Core.Path.{◌≡◌, refl, sym, ap, subst, ◌∙◌}
use native.Mathlib.Omega.{arith}
use borrow.Author.Tests.{eq-eqb, ne_eqb, eqb-true, not-true, not-false}
use lib.Dec.{eqb}
use lib.ListN.{length}
use Rattle.paper_lower.specs.Checks.{granted}
use Rattle.paper_lower.specs.Records.{Bytes, Record, decode}
use Rattle.paper_lower.specs.Kinds.{Answer}
use Rattle.paper_lower.proofs.ListLaws.{both}
use Rattle.paper_upper.specs.Orders.{Engine, SameTables}
use Rattle.paper_lower.specs.Load.{load}
use Rattle.paper_lower.specs.Sessions.{lower_of}
use Rattle.paper_upper.specs.Engine.{request, place_of, place_to, engine_of}
use Rattle.std.specs.Prelude.{Err}
use Rattle.replies.specs.Replies.{Reply, number_of, Outcome, outcome_number, outcome_place, placeless}
use Rattle.replies.specs.declared.Refusal.TheVariants.{Room}
use Rattle.policy.specs.Layout.{policy_words}
use Rattle.sessions.specs.Reading.{sessions_words}
use Rattle.sessions.specs.Lower.{lower_tables}
use Rattle.order_links.specs.Chains.{orders_words, sound_of}
use Rattle.paper_upper.proofs.OrderedLaws.{tables-refl}
use Rattle.order_entries.specs.Reading.{Cleared}
use Rattle.lower.specs.Answers.{Loads, fit as lower_fit}
use Rattle.lower.specs.Exports.{inside_one}
use Rattle.engine.specs.Buffers.{Buffers, buffers, product_of, no_engine, tables_of, fit, SameLengths}
use Rattle.engine.specs.Step.{Step}
use Rattle.engine.specs.Answers.{request_answer, Requested, load_answer, LoadDone}
use Rattle.engine.specs.Exports.{LoadExported, RequestExported}

-- ---- What the buffers read as, on sound links and on others.
pub tables-sound : (x : Buffers) → sound_of x.orders ≡ true → tables_of x ≡ product_of x
unfolding tables_of
tables-sound x h = rw h

pub tables-broken : (x : Buffers) → sound_of x.orders ≡ false → tables_of x ≡ no_engine
unfolding tables_of
tables-broken x h = rw h

pub same-lengths : {p s o p' s' o' : List ℕ} → length p' ≡ length p → length s' ≡ length s → length o' ≡ length o →
    SameLengths (buffers p s o) (buffers p' s' o')
same-lengths a b c = record { policy = a; sessions = b; orders = c }

-- The result of `fit`, as the code tests it.
pub fit-yes : {b c : Bool} → b ≡ c → not b ≡ false → c ≡ true
fit-yes e h = sym e ∙ not-false _ h

pub fit-no : {b c : Bool} → b ≡ c → not b ≡ true → c ≡ false
fit-no e h = sym e ∙ not-true _ h

-- A buffer of another length, and all three of their fixed lengths.
and-false : (b : Bool) → b && false ≡ false
and-false true = refl
and-false false = refl

pub policy-unfit : (p s o : List ℕ) → (length p ≡ policy_words → ⊥) → fit (buffers p s o) ≡ false
policy-unfit p s o h = rw (ne_eqb (length p) policy_words h)

pub sessions-unfit : (p s o : List ℕ) → (length s ≡ sessions_words → ⊥) → fit (buffers p s o) ≡ false
sessions-unfit p s o h = rw (ne_eqb (length s) sessions_words h, and-false (eqb (length p) policy_words))

pub orders-unfit : (p s o : List ℕ) → (length o ≡ orders_words → ⊥) → fit (buffers p s o) ≡ false
orders-unfit p s o h = rw (ne_eqb (length o) orders_words h) (and-false (eqb (length p) policy_words && eqb (length s) sessions_words))

pub fits : (p s o : List ℕ) → length p ≡ policy_words → length s ≡ sessions_words → length o ≡ orders_words → fit (buffers p s o) ≡ true
fits p s o a b c = rw (eq-eqb _ _ a, eq-eqb _ _ b, eq-eqb _ _ c)

module _ (x : Buffers) where
  pub fit-lengths : fit x ≡ true → (length x.policy ≡ policy_words) × ((length x.sessions ≡ sessions_words) × (length x.orders ≡ orders_words))
  fit-lengths h =
      let e = both (eqb (length x.policy) policy_words && eqb (length x.sessions) sessions_words) (eqb (length x.orders) orders_words) h in
      let d = both (eqb (length x.policy) policy_words) (eqb (length x.sessions) sessions_words) e.0 in
      (eqb-true _ _ d.0, (eqb-true _ _ d.1, eqb-true _ _ e.1))

  pub no_room : (bytes : Bytes) → fit x ≡ false → Requested bytes x x (Err (placeless Room))
  unfolding request_answer
  no_room bytes f =
      (record {
        replies = rw f;
        places = rw f;
        tables = rw f (tables-refl (tables_of x));
        lengths = same-lengths refl refl refl;
        kept = λ _. refl;
        settles = λ e. let z : ⊥ = omega arith in absurd z;
      })

-- A step with the reply, the place and the tables that the rules define for the bytes: the contract of `request`.
pub answered : {bytes : Bytes} {x x' : Buffers} {r : Record} {reply : ℕ} {next : Engine} {j : Outcome} → fit x ≡ true
    → request (tables_of x) bytes ≡ record { reply = reply; tables = granted reply next (tables_of x) }
    → r ≡ decode bytes → Step (tables_of x) (tables_of x') reply (place_of (tables_of x) r reply) next x x' j →
    (outcome_number j ≡ 0 → sound_of x'.orders ≡ true)
    → SameLengths x x' → Requested bytes x x' j
unfolding request_answer place_to
answered {bytes} {x} {x'} {r} {reply} {next} {j} f e is d w l =
    let t : (request (tables_of x) bytes).tables ≡ granted reply next (tables_of x) = ap (λ (y : Answer Engine). y.tables) e in
    record {
      replies = d.replies ∙ rw f (sym (ap (λ (y : Answer Engine). y.reply) e));
      places = d.places ∙ rw (f, is) (sym (ap (λ (y : Answer Engine). place_of (tables_of x) (decode bytes) y.reply) e));
      tables = rw f (subst (λ (t : Engine). SameTables (tables_of x') t) (sym t) d.tables);
      lengths = l;
      kept = d.kept;
      settles = w;
    }

-- ---- The load.
pub no-load : (bytes : Bytes) (x : Buffers) → fit x ≡ false → LoadDone bytes x x (Err Room) 0
unfolding load_answer
no-load bytes x f =
    record {
      replies = rw f;
      places = rw f;
      tables = rw f;
      lengths = same-lengths refl refl refl;
      room = λ _. refl;
      zeros = λ e. absurd (true≢false (sym e ∙ f));
      settles = λ e. absurd (true≢false (sym e ∙ f));
    }

-- The orders are emptied, and the lower part loads the policy.
pub loaded : {bytes : Bytes} {p s o p' s' o' : List ℕ} {r : Reply} {place : ℕ} → fit (buffers p s o) ≡ true → Cleared o' → Loads bytes p s p' s' r place
    → SameLengths (buffers p s o) (buffers p' s' o') → LoadDone bytes (buffers p s o) (buffers p' s' o') r place
unfolding load_answer engine_of
loaded {bytes} {p} {s} {o} {p'} {s'} {o'} {r} {place} f c d l =
    let w = fit-lengths (buffers p s o) f in
    let e₀ = eq-eqb _ _ w.0 in
    let e₁ = eq-eqb _ _ w.1.0 in
    let e₂ = eq-eqb _ _ w.1.1 in
    let g : lower_fit p s ≡ true = rw (e₀, e₁) in
    let t : lower_tables p' s' ≡ lower_of (load bytes).tables = d.tables ∙ rw (e₀, e₁) in
    record {
      replies = d.replies ∙ rw (e₀, e₁, e₂);
      places = d.places ∙ rw (e₀, e₁, e₂);
      tables = tables-sound (buffers p' s' o') c.sound ∙ rw (e₀, e₁, e₂) (λ i. record { lower = t i; orders = c.tables i });
      lengths = l;
      room = λ n. absurd (true≢false (sym f ∙ n));
      zeros = λ _ n. record { policy = λ i. (d.zeros g n i).0; sessions = λ i. (d.zeros g n i).1; orders = c.zeros };
      settles = λ _. c.sound;
    }

-- ---- The contracts of the exported functions: reply and place in one number.
pub load-exported : {bytes : Bytes} {x x' : Buffers} {r : Reply} {place number : ℕ} → LoadDone bytes x x' r place → number ≡ number_of r →
    LoadExported bytes x x' (inside_one number place)
load-exported d e =
    record {
      answers = rw (e, d.replies, d.places);
      tables = d.tables;
      lengths = d.lengths;
      room = d.room;
      zeros = λ f n. d.zeros f (λ z. n (sym d.replies ∙ z));
      settles = d.settles;
    }

pub request-exported : {bytes : Bytes} {x x' : Buffers} {j : Outcome} {number : ℕ} → Requested bytes x x' j → number ≡ outcome_number j
    → RequestExported bytes x x' (number + 256 * outcome_place j)
request-exported d e =
    record {
      answers = rw (e, d.replies, d.places);
      tables = d.tables;
      lengths = d.lengths;
      kept = λ n. d.kept (λ z. n (sym d.replies ∙ z));
      settles = λ z. d.settles (d.replies ∙ z);
    }
