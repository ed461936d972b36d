-- The answer to every call, by whichever function it is made; and a sequence of calls (`Chain`) as a run of the definition.
use Prim.Native.Nat.{ℕ, ◌+◌, ◌*◌, ◌/◌, ◌%◌}
use mathlib.Core.Bool.{Bool, true, false, not, cond}
use mathlib.Core.List.{List, [], ◌∷◌, ◌++◌}
use mathlib.Core.Path.{◌≡◌, refl, sym, ap, subst, ◌∙◌}
use native.Mathlib.Omega.{arith}
use borrow.Author.Tests.{eqb-true, eqb-false, eq-eqb, ne_eqb}
use lib.Dec.{eqb}
use Rattle.paper_lower.specs.Lists.{keep, each}
use Rattle.paper_lower.specs.Checks.{ROOM, granted}
use Rattle.paper_lower.specs.Records.{Bytes, Record, decode}
use Rattle.paper_lower.specs.Kinds.{Answer, Said, after}
use Rattle.paper_lower.specs.Load.{load}
use Rattle.paper_upper.specs.Orders.{Engine, SameTables}
use Rattle.paper_upper.specs.Engine.{request, place_to, Placed, placed_run, engine_of}
use Rattle.replies.specs.Replies.{number_of, Outcome, outcome_number, outcome_place}
use Rattle.order_links.specs.Chains.{sound_of}
use Rattle.engine.specs.Buffers.{Buffers, tables_of, fit, SameLengths}
use Rattle.engine.specs.Answers.{CallAnswer, request_answer, Requested, load_answer}
use Rattle.engine.specs.Exports.{RequestExported, LoadExported}
use Rattle.paper_upper.proofs.OrderedLaws.{tables_then}
use Rattle.engine.proofs.RespectLaws.{respects}
use Rattle.engine.proofs.Ways.{load-exported, request-exported}
use Rattle.theorems.specs.Replies.{in_table, Listed}
use Rattle.theorems.specs.Outside.{followed}
use Rattle.theorems.proofs.Replies.{in-byte, replies-are-listed}
use Rattle.demands.specs.Calls.{Request, Load, Chain, Called, Together, all_of_said, fitting, asked}
use Rattle.demands.specs.Calls.Request.{within, exported, settled, settled-exported}
use Rattle.demands.specs.Calls.Load.{within as load-within, exported as load-exported-here}
use Rattle.demands.specs.Calls.Chain.{no_more, one, misfit, several}

pub fit-kept : {x y : Buffers} → SameLengths x y → fit y ≡ fit x
fit-kept l = rw (l.policy, l.sessions, l.orders)

pub first_byte : (q k n : ℕ) → in_table q ≡ true → n ≡ q + 256 * k → n % 256 ≡ q
first_byte q k n l e = let b = in-byte q l in omega arith

pub rest_of : (q k n : ℕ) → in_table q ≡ true → n ≡ q + 256 * k → n / 256 ≡ k
rest_of q k n l e = let b = in-byte q l in omega arith

-- ---- One request.
pub request-listed : (bytes : Bytes) (x : Buffers) → in_table (request_answer bytes x).reply ≡ true
unfolding request_answer in_table
request-listed bytes x = go (fit x)
  where
    go : (b : Bool)
        → in_table (cond {A = CallAnswer} b
        (record { reply = (request (tables_of x) bytes).reply; place = place_to (tables_of x) bytes; tables = (request (tables_of x) bytes).tables })
        (record { reply = ROOM; place = 0; tables = tables_of x })).reply ≡ true
    go true = (replies-are-listed.requests (tables_of x) bytes).0
    go false = refl

-- The answer to one request, by the function of Rattle or by the exported one.
pub record Answered (bytes : Bytes) (x y : Buffers) (reply place : ℕ) : Type 0 where
  pub replies : reply ≡ (request_answer bytes x).reply
  pub places : place ≡ (request_answer bytes x).place
  pub tables : SameTables (tables_of y) (request_answer bytes x).tables
  pub lengths : SameLengths x y
  pub kept : (reply ≡ 0 → ⊥) → y ≡ x
  pub settles : reply ≡ 0 → sound_of y.orders ≡ true

from-call : {bytes : Bytes} {x y : Buffers} {j : Outcome} → Requested bytes x y j → Answered bytes x y (outcome_number j) (outcome_place j)
from-call d = record { replies = d.replies; places = d.places; tables = d.tables; lengths = d.lengths; kept = d.kept; settles = d.settles }

from-number : {bytes : Bytes} {x y : Buffers} (n : ℕ) → RequestExported bytes x y n → Answered bytes x y (n % 256) (n / 256)
from-number {bytes} {x} n d =
    let e = first_byte _ _ n (request-listed bytes x) d.answers in
    record {
      replies = e;
      places = rest_of _ _ n (request-listed bytes x) d.answers;
      tables = d.tables;
      lengths = d.lengths;
      kept = λ z. d.kept (λ w. z (e ∙ w));
      settles = λ z. d.settles (sym e ∙ z);
    }

pub answered : {bytes : Bytes} {x y : Buffers} {reply place : ℕ} → Request bytes x y reply place → Answered bytes x y reply place
answered (within d) = from-call d
answered (exported {n} d) = from-number n d
answered (settled s d) = from-call (d.sound s).0
answered (settled-exported {n} s d) = from-number n (rw d.1 (request-exported (d.2.sound s).0 refl))

-- If the links were sound, they still are. A granted request leaves sound links in any case.
module _ {bytes : Bytes} {x y : Buffers} {reply place : ℕ} (r : Request bytes x y reply place) where
  pub stays-sound : sound_of x.orders ≡ true → sound_of y.orders ≡ true
  stays-sound s = go (eqb reply 0) refl
    where
      go : (b : Bool) → eqb reply 0 ≡ b → sound_of y.orders ≡ true
      go true e = (answered r).settles (eqb-true reply 0 e)
      go false e = rw ((answered r).kept (eqb-false reply 0 e)) s

module _ {bytes : Bytes} {x y : Buffers} {reply place : ℕ} (r : Request bytes x y reply place) where
  pub answers : fit x ≡ true
      → (reply ≡ (request (tables_of x) bytes).reply) × (place ≡ place_to (tables_of x) bytes) × SameTables (tables_of y) (request (tables_of x) bytes).tables
  unfolding request_answer
  answers f = let a = answered r in (a.replies ∙ rw f, a.places ∙ rw f, rw f at a.tables)

  pub no_room : fit x ≡ false → (reply ≡ ROOM) × (place ≡ 0) × (y ≡ x)
  unfolding request_answer
  no_room f =
      let a = answered r in
      let e : reply ≡ ROOM = a.replies ∙ rw f in
      (e, a.places ∙ rw f, a.kept (λ z. absurd (omega arith)))

-- ---- One load.
pub as_load : {bytes : Bytes} {x y : Buffers} {reply : ℕ} → Load bytes x y reply → (n : ℕ) × LoadExported bytes x y n
as_load (load-within d) = (_, load-exported d refl)
as_load (load-exported-here {n} d) = (n, d)

pub load-listed : (bytes : Bytes) (x : Buffers) → in_table (load_answer bytes x).reply ≡ true
unfolding load_answer in_table
load-listed bytes x = go (fit x)
  where
    go : (b : Bool)
        → in_table (cond {A = CallAnswer} b (record { reply = (load bytes).reply; place = (load bytes).place; tables = engine_of (load bytes).tables })
        (record { reply = ROOM; place = 0; tables = tables_of x })).reply ≡ true
    go true = (replies-are-listed.loads bytes).0
    go false = refl

pub load-reply : {bytes : Bytes} {x y : Buffers} {reply : ℕ} → Load bytes x y reply → reply ≡ (load_answer bytes x).reply
load-reply (load-within d) = d.replies
load-reply {bytes} {x} (load-exported-here {n} d) = first_byte _ _ n (load-listed bytes x) d.answers

-- ---- Requests one after the other, as a run of the definition.
not-room : (q : ℕ) → Listed q → not (eqb q ROOM) ≡ true
not-room q l = ap not (ne_eqb q ROOM (λ e. let m = l.1 (λ z. omega arith) in omega arith))

-- The tables after all requests.
unfoldable pub after_all : {T : Type 0} → (T → Bytes → T) → T → List Bytes → T
after_all next t [] = t
after_all next t (s ∷ ss) = after_all next (next t s) ss

pub after-all : {T : Type 0} (ask : T → Bytes → Answer T) (t : T) (ss : List Bytes) → after_all (λ t s. (ask t s).tables) t ss ≡ after ask t ss
unfolding after_all after
after-all ask t [] = refl
after-all ask t (s ∷ ss) = after-all ask (ask t s).tables ss

-- The calls P and Q on values L that read as tables, compared with the definition: `tell` is its answer to one request, `next` the tables after it, and `runs`
-- its run. `Alike` relates tables that give the same answers and, after a request, tables that are alike again.
pub record Reading {L T A : Type 0} (P : A → L → L → Type 0) (Q : List A → L → L → Type 0) (fit : L → Bool) (read : L → T) (next : T → Bytes → T) (said : A → Said) (tell : T → Bytes → A)
    (runs : T → List Bytes → List A) (Alike : T → T → Type 0) : Type 0 where
  pub answers : (a : A) (x y : L) → P a x y → fit x ≡ true
      → (a ≡ tell (read x) (said a).request) × Alike (read y) (next (read x) (said a).request) × (fit y ≡ true)
  pub no_room : (a : A) (x y : L) → P a x y → fit x ≡ false → (said a).reply ≡ ROOM
  pub together : (now : List A) (x y : L) → Q now x y → fit x ≡ true
      → (now ≡ runs (read x) (asked said now)) × Alike (read y) (after_all next (read x) (asked said now)) × (fit y ≡ true)
  pub listed : (t : T) (s : Bytes) → Listed (said (tell t s)).reply
  pub respects : (t u : T) → Alike t u → (s : Bytes) → (tell t s ≡ tell u s) × Alike (next t s) (next u s)
  pub chained : (t u v : T) → Alike t u → Alike u v → Alike t v
  pub none : (t : T) → runs t [] ≡ []
  pub more : (t : T) (s : Bytes) (ss : List Bytes) → runs t (s ∷ ss) ≡ tell t s ∷ runs (next t s) ss

module _ {L T A : Type 0} (P : A → L → L → Type 0) (Q : List A → L → L → Type 0) (fits : L → Bool) (read : L → T) (next : T → Bytes → T) (said : A → Said) (tell : T → Bytes → A)
    (runs : T → List Bytes → List A) (Alike : T → T → Type 0) (k : Reading P Q fits read next said tell runs Alike) where
  -- Runs of the definition: from tables that are alike, and one after the other; and no request of a run is refused because of the lengths of buffers.
  runs-alike : (t u : T) → Alike t u → (ss : List Bytes) → (runs t ss ≡ runs u ss) × Alike (after_all next t ss) (after_all next u ss)
  unfolding after_all
  runs-alike t u h [] = (k.none t ∙ sym (k.none u), h)
  runs-alike t u h (s ∷ ss) =
      let g = k.respects t u h s in
      let rest = runs-alike (next t s) (next u s) g.1 ss in
      (k.more t s ss ∙ ap (λ (a : A). a ∷ runs (next t s) ss) g.0 ∙ ap (λ (ps : List A). tell u s ∷ ps) rest.0 ∙ sym (k.more u s ss), rest.1)

  runs-joined : (t : T) (ss rs : List Bytes)
      → (runs t (ss ++ rs) ≡ runs t ss ++ runs (after_all next t ss) rs) × (after_all next t (ss ++ rs) ≡ after_all next (after_all next t ss) rs)
  unfolding after_all
  runs-joined t [] rs = (ap (λ (ps : List A). ps ++ runs t rs) (sym (k.none t)), refl)
  runs-joined t (s ∷ ss) rs =
      let rest = runs-joined (next t s) ss rs in (
        k.more t s (ss ++ rs)
            ∙ ap (λ (ps : List A). tell t s ∷ ps) rest.0
            ∙ ap (λ (ps : List A). ps ++ runs (after_all next (next t s) ss) rs) (sym (k.more t s ss)),
        rest.1,
      )

  all_fit : (t : T) (ss : List Bytes) → fitting said (runs t ss) ≡ runs t ss
  unfolding keep
  all_fit t [] = ap (fitting said) (k.none t) ∙ sym (k.none t)
  all_fit t (s ∷ ss) =
      ap (fitting said) (k.more t s ss)
      ∙ rw (not-room _ (k.listed t s)) (ap (λ (ps : List A). tell t s ∷ ps) (all_fit (next t s) ss))
      ∙ sym (k.more t s ss)

  pub chain_run : {x z : L} {ys : List A} → Chain P Q fits x ys z → fits x ≡ true → (t : T) → Alike (read x) t
      → (fitting said ys ≡ runs t (asked said (fitting said ys))) × Alike (read z) (after_all next t (asked said (fitting said ys))) × (fits z ≡ true)
  unfolding after_all each keep
  chain_run no_more f t h = (sym (k.none t), h, f)
  chain_run (one {x} {y} {z} {a} {said = ys} r c) f t h =
      let s = (said a).request in
      let g = k.answers a x y r f in
      let b = k.respects (read x) t h s in
      let e : a ≡ tell t s = g.0 ∙ b.0 in
      let n = chain_run c g.2 (next t s) (k.chained _ _ _ g.1 b.1) in
      rw (subst (λ (q : A). not (eqb (said q).reply ROOM) ≡ true) (sym e) (not-room _ (k.listed t s))) (
        ap (λ (q : A). q ∷ fitting said ys) e ∙ ap (λ (qs : List A). tell t s ∷ qs) n.0 ∙ sym (k.more t s (asked said (fitting said ys))),
        n.1,
        n.2,
      )
  chain_run (misfit {x} {v} {w} {z} {a} {said = ys} g r c) f t h =
      let e : not (eqb (said a).reply ROOM) ≡ false = ap not (eq-eqb (said a).reply ROOM (k.no_room a v w r g)) in
      rw e (chain_run c f t h)
  chain_run (several {x} {y} {z} {now} {rest} q c e) f t h =
      let ss = asked said now in
      let g = k.together now x y q f in
      let b = runs-alike (read x) t h ss in
      let n = chain_run c g.2 (after_all next t ss) (k.chained _ _ _ g.1 b.1) in
      let ran : now ≡ runs t ss = g.0 ∙ b.0 in
      let fits-now : fitting said now ≡ now = ap (fitting said) ran ∙ all_fit t ss ∙ sym ran in
      let parts : fitting said (now ++ rest) ≡ now ++ fitting said rest =
      kept-joined now rest ∙ ap (λ (ps : List A). ps ++ fitting said rest) fits-now in
      let asks : asked said (now ++ fitting said rest) ≡ ss ++ asked said (fitting said rest) = each-joined now (fitting said rest) in
      let both = runs-joined t ss (asked said (fitting said rest)) in
      rw (e, parts, asks) (
        ap (λ (ps : List A). ps ++ fitting said rest) ran ∙ ap (λ (ps : List A). runs t ss ++ ps) n.0 ∙ sym both.0,
        rw both.1 n.1,
        n.2,
      )
    where
      kept-joined : (ps bs : List A) → fitting said (ps ++ bs) ≡ fitting said ps ++ fitting said bs
      kept-joined [] bs = refl
      kept-joined (a ∷ ps) bs = go (not (eqb (said a).reply ROOM)) (kept-joined ps bs)
        where
          go : (b : Bool) → fitting said (ps ++ bs) ≡ fitting said ps ++ fitting said bs
              → cond b (a ∷ fitting said (ps ++ bs)) (fitting said (ps ++ bs)) ≡ cond b (a ∷ fitting said ps) (fitting said ps) ++ fitting said bs
          go true i = ap (λ (xs : List A). a ∷ xs) i
          go false i = i

      each-joined : (ps bs : List A) → asked said (ps ++ bs) ≡ asked said ps ++ asked said bs
      each-joined [] bs = refl
      each-joined (a ∷ ps) bs = ap (λ (xs : List Bytes). (said a).request ∷ xs) (each-joined ps bs)

-- A request that was refused because of the lengths tells an observer nothing.
pub told-fitting : {X : Type 0} (f : X → Record → X) (x : X) (said : List Said) → followed f x (fitting (λ y. y) said) ≡ followed f x said
unfolding followed keep
told-fitting f x [] = refl
told-fitting f x (y ∷ ys) = go (eqb y.reply ROOM) refl (told-fitting f (granted y.reply (f x (decode y.request)) x) ys)
  where
    go : (b : Bool) → eqb y.reply ROOM ≡ b
        → followed f (granted y.reply (f x (decode y.request)) x) (fitting (λ y. y) ys) ≡ followed f (granted y.reply (f x (decode y.request)) x) ys
        → followed f x (cond (not b) (y ∷ fitting (λ y. y) ys) (fitting (λ y. y) ys)) ≡ followed f (granted y.reply (f x (decode y.request)) x) ys
    go true e h = ap (λ (q : ℕ). followed f (granted q (f x (decode y.request)) x) (fitting (λ y. y) ys)) (sym (eqb-true y.reply ROOM e)) ∙ h
    go false e h = h

-- Leaving out the places, and leaving out the requests that were refused because of the lengths: the order does not matter.
pub said-fitting : (ys : List Placed) → all_of_said (fitting (λ a. a.said) ys) ≡ fitting (λ y. y) (all_of_said ys)
unfolding keep each
said-fitting [] = refl
said-fitting (a ∷ ys) = go (not (eqb a.said.reply ROOM)) (said-fitting ys)
  where
    go : (b : Bool) → all_of_said (fitting (λ a. a.said) ys) ≡ fitting (λ y. y) (all_of_said ys)
        → all_of_said (cond b (a ∷ fitting (λ a. a.said) ys) (fitting (λ a. a.said) ys)) ≡
        cond b (a.said ∷ fitting (λ y. y) (all_of_said ys)) (fitting (λ y. y) (all_of_said ys))
    go true h = ap (λ (l : List Said). a.said ∷ l) h
    go false h = h

-- The definition's reply and place for one request.
abbrev pub told : Engine → Bytes → Placed
told t s = record { said = record { request = s; reply = (request t s).reply }; place = place_to t s }

pub reading : Reading Called Together fit tables_of (λ t s. (request t s).tables) (λ a. a.said) told placed_run SameTables
unfolding placed_run
reading = record {
  answers = λ a x y r f. let g = answers r f in (
    λ i. record { said = record { request = a.said.request; reply = g.0 i }; place = g.1 i },
    g.2,
    fit-kept (answered r).lengths ∙ f,
  );
  no_room = λ a x y r f. (no_room r f).0;
  together = λ now x y q f. (
    q.answers,
    subst (SameTables (tables_of y)) (sym (after-all request (tables_of x) (asked (λ a. a.said) now))) q.tables,
    fit-kept q.lengths ∙ f,
  );
  listed = replies-are-listed.requests;
  respects = λ t u h s. let g = respects t u h s in (λ i. record { said = record { request = s; reply = g.0 i }; place = g.1 i }, g.2);
  chained = λ t u v h k. tables_then h k;
  none = λ t. refl;
  more = λ t s ss. refl;
}
