-- A change of one buffer, of the two buffers of the lower part, or of none, is a step of all three buffers (`Step`).
use Prim.Native.Nat.{ℕ, zero, suc}
use mathlib.Core.Bool.{true}
use mathlib.Core.List.{List}
use mathlib.Core.Path.{◌≡◌, refl, ap, subst, ◌∙◌}
use native.Mathlib.Omega.{arith}
use Rattle.paper_lower.specs.Checks.{first, granted}
use Rattle.paper_lower.specs.Tables.{Lower}
use Rattle.paper_upper.specs.Orders.{Engine, SameTables, with_lower}
use Rattle.paper_upper.specs.Requests.{claim_checks, claim_place, claim_next}
use Rattle.replies.specs.Replies.{Reply, number_of, refusal_number, Outcome, outcome_number, outcome_place, placeless, plain}
use Rattle.std.specs.Prelude.{Err}
use Rattle.replies.specs.declared.Refusal.{Refusal}
use Rattle.replies.specs.Done.{Done}
use Rattle.sessions.specs.Lower.{lower_tables}
use Rattle.sessions.specs.Both.{Both}
use Rattle.order_entries.specs.Reading.{orders_of}
use Rattle.paper_upper.proofs.OrderedLaws.{tables-refl}
use Rattle.lower.specs.Stepped.{Stepped}
use Rattle.replies.proofs.ReplyLaws.{plain_number, plain_place}
use Rattle.records.specs.declared.Record.{Record}
use Rattle.order_links.specs.Chains.{sound_of}
use Rattle.order_claims.specs.Promises.{Claimed}
use Rattle.order_requests.specs.Tables.{engine_tables}
use Rattle.engine.specs.Buffers.{Buffers, buffers}
use Rattle.engine.specs.Step.{Step, SoundStep, AnyStep}

-- A reply that is about no rule has place 0. With it, a step on sound links is a step on any content.
pub any_step : {x x' : Buffers} {d : Record} (r : Reply) {j : Outcome} → j ≡ plain r → ((number_of r ≡ 0 → ⊥) → x' ≡ x)
    → (sound_of x.orders ≡ true → SoundStep d x x' j) → AnyStep d x x' j
any_step r is kept sound =
    record {
      kept = λ n. kept (λ z. n (ap (λ (y : Outcome). outcome_number y) is ∙ plain_number r ∙ z));
      small = rw (is, plain_place r) (omega arith);
      sound = sound;
    }

pub alike : {t u : Engine} → t ≡ u → SameTables t u
alike {t} e = subst (λ (x : Engine). SameTables t x) e (tables-refl t)

-- Replies that are about no rule: their place is 0.
module _ {p s o : List ℕ} {reply place : ℕ} {next : Engine} (r : Reply) {j : Outcome} (is : j ≡ plain r) (none : 0 ≡ place) where
  pub of-both : {p' s' : List ℕ} → Both (λ k l. engine_tables k l o) reply next p s p' s' r →
      Step (engine_tables p s o) (engine_tables p' s' o) reply place next (buffers p s o) (buffers p' s' o) j
  of-both d =
      rw is (record {
        replies = plain_number r ∙ d.replies;
        places = plain_place r ∙ none;
        tables = alike d.tables;
        kept = λ h. let k = d.kept (λ z. h (plain_number r ∙ z)) in λ i. buffers (k.0 i) (k.1 i) o;
      })

  pub of-sessions : {s' : List ℕ} → Done (λ l. engine_tables p l o) reply next s s' r →
      Step (engine_tables p s o) (engine_tables p s' o) reply place next (buffers p s o) (buffers p s' o) j
  of-sessions d =
      rw is (record {
        replies = plain_number r ∙ d.replies;
        places = plain_place r ∙ none;
        tables = alike d.tables;
        kept = λ h. ap (λ (l : List ℕ). buffers p l o) (d.kept (λ z. h (plain_number r ∙ z)));
      })

  pub of-orders : {o' : List ℕ} → Done (engine_tables p s) reply next o o' r →
      Step (engine_tables p s o) (engine_tables p s o') reply place next (buffers p s o) (buffers p s o') j
  of-orders d =
      rw is (record {
        replies = plain_number r ∙ d.replies;
        places = plain_place r ∙ none;
        tables = alike d.tables;
        kept = λ h. ap (λ (l : List ℕ). buffers p s l) (d.kept (λ z. h (plain_number r ∙ z)));
      })

-- A claim: its reply has the place that the rules define.
pub of-claim : {p s o o' : List ℕ} {a b c : ℕ} {j : Outcome} → Claimed p s o o' a b c j
    → let t = engine_tables p s o in
    Step t (engine_tables p s o') (first (claim_checks t a b c)) (claim_place t a b c (first (claim_checks t a b c))) (claim_next t a b c) (buffers p s o)
    (buffers p s o') j
of-claim {p} {s} d =
    record { replies = d.replies; places = d.places; tables = d.tables; kept = λ h. ap (λ (l : List ℕ). buffers p s l) (d.kept h) }

same : (t : Engine) (k : ℕ) → t ≡ granted k t t
same t zero = refl
same t (suc k) = refl

pub of_none : {t : Engine} {x : Buffers} {reply place : ℕ} (r : Reply) {j : Outcome} → j ≡ plain r → 0 ≡ place → number_of r ≡ reply
    → Step t t reply place t x x j
of_none {t} {x} {reply} r is none e =
    rw is (record { replies = plain_number r ∙ e; places = plain_place r ∙ none; tables = alike (same t reply); kept = λ h. refl })

raise : (o : List ℕ) (k : ℕ) (next old : Lower) {new : Lower} → new ≡ granted k next old →
    ◌≡◌ {A = Engine} (record { lower = new; orders = orders_of o })
    (granted k (record { lower = next; orders = orders_of o }) (record { lower = old; orders = orders_of o }))
raise o zero next old e = ap (λ (x : Lower). record { lower = x; orders = orders_of o }) e
raise o (suc k) next old e = ap (λ (x : Lower). record { lower = x; orders = orders_of o }) e

pub of-lower : {p s o p' s' : List ℕ} {reply place : ℕ} {next : Lower} (r : Reply) {j : Outcome} → j ≡ plain r → 0 ≡ place
    → Stepped reply next p s p' s' r →
    Step (engine_tables p s o) (engine_tables p' s' o) reply place (with_lower (engine_tables p s o) next) (buffers p s o) (buffers p' s' o) j
of-lower {p} {s} {o} {p'} {s'} {reply} {next = next} r is none d =
    rw is (record {
      replies = plain_number r ∙ d.replies;
      places = plain_place r ∙ none;
      tables = alike (raise o reply next (lower_tables p s) d.tables);
      kept = λ h. let k = d.kept (λ z. h (plain_number r ∙ z)) in λ i. buffers (k.0 i) (k.1 i) o;
    })

-- A refusal that is about no place changes nothing.
pub of-refusal : {t : Engine} {x : Buffers} {e : Refusal} {place : ℕ} → 0 ≡ place → Step t t (refusal_number e) place t x x (Err (placeless e))
of-refusal {t} {x} {e} none = record { replies = refl; places = none; tables = alike (same t (refusal_number e)); kept = λ h. refl }
