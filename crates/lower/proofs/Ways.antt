-- The returns of the lower part's request and load, and of the exported functions that return their answers as numbers.
use Prim.Native.Nat.{ℕ}
use mathlib.Core.Bool.{Bool, true, false, ◌&&◌, true≢false}
use mathlib.Core.List.{List}
use mathlib.Core.Path.{◌≡◌, refl, sym, ap, ◌∙◌}
use borrow.Author.Tests.{ne_eqb}
use lib.Dec.{eqb}
use lib.ListN.{length}
use Rattle.paper_lower.specs.Checks.{granted}
use Rattle.paper_lower.specs.Records.{Bytes}
use Rattle.paper_lower.specs.Kinds.{Answer}
use Rattle.paper_lower.specs.Tables.{Lower}
use Rattle.paper_lower.specs.Load.{Loaded}
use Rattle.paper_lower.specs.Sessions.{lower_request, lower_of}
use Rattle.std.specs.Prelude.{Err}
use Rattle.replies.specs.declared.Refusal.TheVariants.{Room}
use Rattle.policy.specs.Layout.{policy_words}
use Rattle.sessions.specs.Reading.{sessions_words, Cleared}
use Rattle.sessions.specs.Lower.{lower_tables}
use Rattle.policy_loading.specs.LoadDone.{LoadDone}
use Rattle.lower.specs.Stepped.{Stepped}
use Rattle.replies.specs.Replies.{Reply, number_of}
use Rattle.lower.specs.Exports.{inside_one, LoadExported, RequestExported}
use Rattle.lower.specs.Answers.{fit, SameLengths, request_answer, Requested, Loads}

-- Whether the buffers fit, by their lengths.
fits : (p s : List ℕ) → length p ≡ policy_words → length s ≡ sessions_words → fit p s ≡ true
fits p s a b = rw (a, b)

pub sessions-unfit : (p s : List ℕ) → (length s ≡ sessions_words → ⊥) → fit p s ≡ false
sessions-unfit p s h = rw (ne_eqb (length s) sessions_words h) (and-false (eqb (length p) policy_words))
  where
    and-false : (b : Bool) → b && false ≡ false
    and-false true = refl
    and-false false = refl

pub no_room : (bytes : Bytes) (p s : List ℕ) → fit p s ≡ false → Requested bytes p s p s (Err Room)
no_room bytes p s f = record { replies = rw f; tables = rw f; lengths = (refl, refl); kept = λ _. (refl, refl) }

-- A step that gives the reply and the tables of the definition meets the contract of `request`.
pub answered : {bytes : Bytes} {p s p' s' : List ℕ} {reply : ℕ} {next : Lower} {r : Reply} → length p ≡ policy_words → length s ≡ sessions_words
    → lower_request (lower_tables p s) bytes ≡ record { reply = reply; tables = granted reply next (lower_tables p s) }
    → Stepped reply next p s p' s' r → SameLengths p s p' s' → Requested bytes p s p' s' r
answered {bytes} {p} {s} {p'} {s'} {reply} {next} {r} a b e d l =
    let a : request_answer bytes p s ≡ record { reply = reply; tables = granted reply next (lower_tables p s) } = rw (fits p s a b) e in
    record {
      replies = d.replies ∙ sym (ap (λ (x : Answer Lower). x.reply) a);
      tables = d.tables ∙ sym (ap (λ (x : Answer Lower). x.tables) a);
      lengths = l;
      kept = d.kept;
    }

-- ---- The load.
pub no-load : (bytes : Bytes) (p s : List ℕ) → fit p s ≡ false → Loads bytes p s p s (Err Room) 0
no-load bytes p s f =
    record { replies = rw f; places = rw f; tables = rw f; lengths = (refl, refl); room = λ _. (refl, refl); zeros = λ e. absurd (true≢false (sym e ∙ f)) }

pub loaded : {bytes : Bytes} {p s p' s' : List ℕ} {r : Reply} {place : ℕ} → length p ≡ policy_words → length s ≡ sessions_words → Cleared s'
    → LoadDone bytes p p' r place → SameLengths p s p' s' → Loads bytes p s p' s' r place
unfolding lower_of
loaded {bytes} {p} {s} {p'} {s'} {r} {place} l k c d n =
    let f = fits p s l k in
    let a = d.answers l in
    record {
      replies = rw f (ap (λ (x : Loaded). x.reply) a);
      places = rw f (ap (λ (x : Loaded). x.place) a);
      tables = rw f (λ i. record { policy = (a i).tables; sessions = c.tables i });
      lengths = n;
      room = λ n. absurd (true≢false (sym f ∙ n));
      zeros = λ _ n i. ((d.emptied l n).zeros i, c.zeros i);
    }

-- ---- The answers as one number, for the exported functions.
pub load-exported : {bytes : Bytes} {p s p' s' : List ℕ} {r : Reply} {place number : ℕ} → Loads bytes p s p' s' r place → number ≡ number_of r →
    LoadExported bytes p s p' s' (inside_one number place)
load-exported d e =
    record {
      answers = rw (e, d.replies, d.places);
      tables = d.tables;
      lengths = d.lengths;
      room = d.room;
      zeros = λ f n. d.zeros f (λ z. n (sym d.replies ∙ z));
    }

pub request-exported : {bytes : Bytes} {p s p' s' : List ℕ} {r : Reply} {number : ℕ} → Requested bytes p s p' s' r → number ≡ number_of r →
    RequestExported bytes p s p' s' number
request-exported d e = record { answers = e ∙ d.replies; tables = d.tables; lengths = d.lengths; kept = λ n. d.kept (λ z. n (sym d.replies ∙ z)) }
