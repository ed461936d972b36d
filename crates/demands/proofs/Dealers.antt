-- The demands on the lower part alone: its calls have one answer each, and the role limits, the exact replies, joining, senior roles and walls.
use Prim.Native.Nat.{ℕ, ◌<◌}
use mathlib.Core.Bool.{Bool, true, false, cond}
use mathlib.Core.List.{List, []}
use mathlib.Core.Path.{◌≡◌, refl, sym, ap, subst, ◌∙◌}
use mathlib.Core.Logic.{◌↔◌}
use native.Mathlib.Omega.{arith}
use Rattle.paper_lower.specs.Sets.{empty}
use Rattle.paper_lower.specs.Checks.{GRANTED, ROOM, WALL, first, granted}
use Rattle.paper_lower.specs.Records.{Bytes, decode}
use Rattle.paper_lower.specs.Kinds.{Answer, Said, run, after}
use Rattle.paper_lower.specs.Tables.{Lower, with_policy}
use Rattle.paper_lower.specs.Policy.{user_checks, user_next}
use Rattle.paper_lower.specs.Words.{add_user, join}
use Rattle.paper_lower.specs.Load.{Loaded, load, records_of}
use Rattle.paper_lower.specs.Sessions.{lower_request, lower_of}
use Rattle.replies.specs.Replies.{Reply}
use Rattle.lower.specs.Answers as lower
use Rattle.lower.specs.Exports as exports
use Rattle.lower.proofs.Ways.{request-exported, load-exported}
use Rattle.theorems.specs.Outside.{hear, outside}
use Rattle.theorems.specs.Replies.{in_table}
use Rattle.theorems.specs.OverEntries.{of_kind, RoleLimits}
use Rattle.theorems.specs.Theorems.{lower_after, Reaches}
use Rattle.theorems.specs.Joining.{gathered, EachOnce, one_at_a_time, AllGranted}
use Rattle.theorems.specs.Seniority.{AsRecorded, lower_request_before, load_before, NoneBelow}
use Rattle.theorems.specs.Walls.{no_commits, commit, committed, lower_commits_after, OneBlockOfEach, Decided, CheckOrCommit, committed_by, lower_request_unwalled}
use Rattle.theorems.proofs.Replies.{replies-are-listed}
use Rattle.theorems.proofs.Theorems.{dealers-keep-the-limits}
use Rattle.theorems.proofs.Seniority.{seniority-is-recorded, as_before}
use Rattle.theorems.proofs.Walls.{clerks-keep-to-one-block, wall-exactly-when}
use Rattle.theorems.proofs.Joining.{joined-as-one-by-one, added-as-before}
use Rattle.theorems.proofs.Unwalled.{refused-as-the-check, outside-walls-all-is-free, as-before-walls}
use Rattle.theorems.specs.Exactly.{known, lower_kinds_asked, Answered}
use Rattle.theorems.proofs.Exactly.{every-reply}
use Rattle.demands.specs.Calls.{fitting, asked}
use Rattle.demands.specs.Dealers.{Buffers, tables_of, fit, Request, Called, Together, Requests, Load, OneAnswer, LimitsHold, RepliesExactly, JoinedWithRoles, SeniorRoles, WallsHold}
use Rattle.demands.specs.Dealers.Request.{within, exported}
use Rattle.demands.specs.Dealers.Load.{within as load-within, exported as load-exported-here}
use Rattle.demands.proofs.Calls.{first_byte, Reading, after-all, chain_run, told-fitting}

-- ---- Requests.
as_number : {bytes : Bytes} {x y : Buffers} {reply : ℕ} → Request bytes x y reply
    → exports.RequestExported bytes x.policy x.sessions y.policy y.sessions reply
as_number (within d) = request-exported d refl
as_number (exported d) = d

module _ {bytes : Bytes} {x y : Buffers} {reply : ℕ} (r : Request bytes x y reply) where
  answers : fit x ≡ true → (reply ≡ (lower_request (tables_of x) bytes).reply) × (tables_of y ≡ (lower_request (tables_of x) bytes).tables)
  answers f = ((as_number r).answers ∙ rw f, (as_number r).tables ∙ rw f)

  no_room : fit x ≡ false → (reply ≡ ROOM) × (tables_of y ≡ tables_of x)
  no_room f = ((as_number r).answers ∙ rw f, (as_number r).tables ∙ rw f)

  still-fit : fit y ≡ fit x
  still-fit = let l = (as_number r).lengths in rw (l.0, l.1)

same_tables : (t u : Lower) → t ≡ u → (s : Bytes) → ((lower_request t s).reply ≡ (lower_request u s).reply) × ((lower_request t s).tables ≡ (lower_request u s).tables)
same_tables t u h s = (ap (λ (k : Lower). (lower_request k s).reply) h, ap (λ (k : Lower). (lower_request k s).tables) h)

-- The definition's reply to one request.
abbrev told : Lower → Bytes → Said
told t s = record { request = s; reply = (lower_request t s).reply }

reading : Reading Called Together fit tables_of (λ t s. (lower_request t s).tables) (λ y. y) told (run lower_request) (λ t u. t ≡ u)
unfolding run
reading = record {
  answers = λ a x y r f. let g = answers r f in (λ i. record { request = a.request; reply = g.0 i }, g.1, still-fit r ∙ f);
  together = λ now x y q f. (q.answers, q.tables ∙ sym (after-all lower_request (tables_of x) (asked (λ a. a) now)), q.lengths ∙ f);
  no_room = λ a x y r f. (no_room r f).0;
  listed = replies-are-listed.lower_requests;
  respects = λ t u h s. (ap (λ (k : Lower). told k s) h, ap (λ (k : Lower). (lower_request k s).tables) h);
  chained = λ t u v h k. h ∙ k;
  none = λ t. refl;
  more = λ t s ss. refl;
}

-- ---- Loads.
as_load : {bytes : Bytes} {x y : Buffers} {reply : ℕ} → Load bytes x y reply
    → (n : ℕ) × exports.LoadExported bytes x.policy x.sessions y.policy y.sessions n
as_load (load-within d) = (_, load-exported d refl)
as_load (load-exported-here {n} d) = (n, d)

load-listed : (bytes : Bytes) (x : Buffers) → in_table (lower.load_answer bytes x.policy x.sessions).reply ≡ true
unfolding in_table
load-listed bytes x = go (fit x)
  where
    go : (b : Bool)
        → in_table (cond {A = lower.LoadAnswer} b (record { reply = (load bytes).reply; place = (load bytes).place; tables = lower_of (load bytes).tables })
        (record { reply = ROOM; place = 0; tables = tables_of x })).reply ≡ true
    go true = (replies-are-listed.loads bytes).0
    go false = refl

load-reply : {bytes : Bytes} {x y : Buffers} {reply : ℕ} → Load bytes x y reply → reply ≡ (lower.load_answer bytes x.policy x.sessions).reply
load-reply (load-within d) = d.replies
load-reply {bytes} {x} (load-exported-here {n} d) = first_byte _ _ n (load-listed bytes x) d.answers

pub loads : {bytes : Bytes} {x y : Buffers} {reply : ℕ} → Load bytes x y reply → fit x ≡ true →
    (reply ≡ (load bytes).reply) × (tables_of y ≡ lower_of (load bytes).tables)
loads l f = (load-reply l ∙ rw f, (as_load l).1.tables ∙ rw f)

place-of : {bytes : Bytes} {p s p' s' : List ℕ} {r : Reply} {i : ℕ} → lower.fit p s ≡ true → lower.Loads bytes p s p' s' r i → i ≡ (load bytes).place
place-of f d = d.places ∙ rw f

number-of : {bytes : Bytes} {p s p' s' : List ℕ} {n : ℕ} → lower.fit p s ≡ true → exports.LoadExported bytes p s p' s' n
    → n ≡ exports.inside_one (load bytes).reply (load bytes).place
number-of f d = d.answers ∙ rw f

pub one_answer : OneAnswer
one_answer = record {
  requests = λ {bytes} {x} e h a b. same e h a b (fit x) refl;
  loads = λ f g a b. ((loads a f).0 ∙ sym (loads b g).0, (loads a f).1 ∙ sym (loads b g).1);
  places = λ f g a b. place-of f a ∙ sym (place-of g b);
  numbers = λ f g a b. number-of f a ∙ sym (number-of g b);
}
  where
    same : {bytes : Bytes} {x x' y y' : Buffers} {q r : ℕ} → fit x ≡ fit x' → tables_of x ≡ tables_of x'
        → Request bytes x y q → Request bytes x' y' r → (b : Bool) → fit x ≡ b → (q ≡ r) × (tables_of y ≡ tables_of y')
    same {bytes} e h a b true f =
        let c = answers a f in
        let d = answers b (sym e ∙ f) in
        let s = same_tables _ _ h bytes in
        (c.0 ∙ s.0 ∙ sym d.0, c.1 ∙ s.1 ∙ sym d.1)
    same e h a b false f =
        let c = no_room a f in
        let d = no_room b (sym e ∙ f) in
        (c.0 ∙ sym d.0, c.1 ∙ h ∙ sym d.1)

-- ---- Calls after a load, as a run of the definition.
module _ {policy : Bytes} {x y z : Buffers} {reply : ℕ} {said : List Said} (f : fit x ≡ true) (l : Load policy x y reply) (c : Requests y said z) where
  -- The requests that were not refused because of the lengths of the buffers.
  abbrev made : List Bytes
  made = asked (λ y. y) (fitting (λ y. y) said)

  ran_on : (fitting (λ y. y) said ≡ run lower_request (lower_of (load policy).tables) made) × (tables_of z ≡ lower_after policy made) × (fit z ≡ true)
  ran_on =
      let n = (as_load l).1.lengths in
      let still-fits : fit y ≡ true = rw (n.0, n.1) f in
      let a = chain_run Called Together fit tables_of (λ t s. (lower_request t s).tables) (λ y. y) told (run lower_request) (λ t u. t ≡ u) reading c still-fits
      (lower_of (load policy).tables) (loads l f).1 in
      (a.0, a.1 ∙ after-all lower_request (lower_of (load policy).tables) made, a.2)

-- ---- The role limits, the exact replies and the walls, after an accepted load and any calls.
module _ {policy : Bytes} {x y z : Buffers} {reply : ℕ} {said : List Said} (l : Load policy x y reply) (g : reply ≡ GRANTED) (c : Requests y said z) where
  -- The buffers of an accepted load have the right lengths.
  fits : fit x ≡ true
  fits = go (fit x) refl
    where
      go : (b : Bool) → fit x ≡ b → b ≡ true
      go true e = refl
      go false e = let m : reply ≡ ROOM = load-reply l ∙ rw e in absurd (omega arith)

  pub accepted : (load policy).reply ≡ GRANTED
  accepted = sym (loads l fits).0 ∙ g

  abbrev pub ss : List Bytes
  ss = asked (λ y. y) (fitting (λ y. y) said)

  pub ran : (fitting (λ y. y) said ≡ run lower_request (lower_of (load policy).tables) ss) × (tables_of z ≡ lower_after policy ss) × (fit z ≡ true)
  ran = ran_on fits l c

  heard : outside policy (run lower_request (lower_of (load policy).tables) ss) ≡ outside policy said
  unfolding outside
  heard = ap (outside policy) (sym ran.0) ∙ told-fitting hear _ said

  limits : RoleLimits (records_of policy) (outside policy said)
  limits = rw heard at (dealers-keep-the-limits policy accepted ss)

  recorded : AsRecorded (records_of policy) (tables_of z).policy.seniority
  recorded = subst (λ (t : Lower). AsRecorded (records_of policy) t.policy.seniority) (sym ran.1) (seniority-is-recorded.dealers policy accepted ss)

  commits-heard : lower_commits_after policy ss ≡ committed said
  commits-heard = ap committed (sym ran.0) ∙ told-fitting commit no_commits said

  all-heard : known policy (run lower_request (lower_of (load policy).tables) ss) ≡ known policy said
  all-heard i = record { policy = records_of policy; told = heard i; commits = commits-heard i }

  -- The reply to one more request.
  replied : {bytes : Bytes} {w : Buffers} {q : ℕ} → Request bytes z w q → q ≡ (lower_request (lower_after policy ss) bytes).reply
  replied {bytes} r = (answers r ran.2).0 ∙ ap (λ (t : Lower). (lower_request t bytes).reply) ran.1

  exactly : {bytes : Bytes} {w : Buffers} {q : ℕ} → Request bytes z w q → Answered lower_kinds_asked (known policy said) bytes q
  exactly {bytes} r = let n = replied r in rw n (rw all-heard at (every-reply.dealers policy accepted ss bytes))

  one_block : (u : ℕ) → OneBlockOfEach (records_of policy) ((committed said).objects u)
  one_block = rw commits-heard at (clerks-keep-to-one-block.dealers policy accepted ss)

  walled : {check : Bytes} {w : Buffers} {q : ℕ} → CheckOrCommit check → Request check z w q → Reaches WALL q
      → Decided (records_of policy) (committed_by (committed said) (decode check)) (decode check).c q
  walled {check} e r h =
      let n = replied r in
      rw n (rw commits-heard at (wall-exactly-when.dealers policy accepted ss check e (subst (Reaches WALL) n h)))

pub limits-hold : LimitsHold
limits-hold = record { upheld = λ l g c. limits l g c }

pub replies-exactly : RepliesExactly
replies-exactly = record { upheld = λ l g c r. exactly l g c r }

-- ---- Joining.

-- A sequence of calls on buffers of any content, as a run of the definition.
from-here : {x z : Buffers} {said : List Said} → fit x ≡ true → Requests x said z
    → let fitted = fitting (λ y. y) said in
    (fitted ≡ run lower_request (tables_of x) (asked (λ y. y) fitted)) × (tables_of z ≡ after lower_request (tables_of x) (asked (λ y. y) fitted))
from-here {x} {said = said} f c =
    let a =
    chain_run Called Together fit tables_of (λ t s. (lower_request t s).tables) (λ y. y) told (run lower_request) (λ t u. t ≡ u) reading c f (tables_of x) refl in
    (a.0, a.1 ∙ after-all lower_request (tables_of x) (asked (λ y. y) (fitting (λ y. y) said)))

joined-calls : {x y z : Buffers} {reply : ℕ} {said : List Said} (a : ℕ) (roles : List ℕ) → fit x ≡ true → a < 1024 → EachOnce empty roles
    → Request (join a (gathered empty roles)) x y reply → Requests x said z
    → let fitted = fitting (λ y. y) said in
    asked (λ y. y) fitted ≡ one_at_a_time a roles → ((reply ≡ GRANTED) ↔ AllGranted fitted) × (reply ≡ GRANTED → tables_of y ≡ tables_of z)
joined-calls {x} {said = said} a roles f small once r c e =
    let t = tables_of x in
    let j = joined-as-one-by-one.dealers t a small roles once in
    let n = answers r f in
    let ran = from-here f c in
    let said-is : fitting (λ y. y) said ≡ run lower_request t (one_at_a_time a roles) = ran.0 ∙ ap (run lower_request t) e in (
      (
        λ g. subst AllGranted (sym said-is) (j.granted.0 (sym n.0 ∙ g)),
        λ g. n.0 ∙ j.granted.1 (subst AllGranted said-is g),
      ),
      λ g. n.1 ∙ j.tables (sym n.0 ∙ g) ∙ sym (ran.1 ∙ ap (after lower_request t) e),
    )

alone-call : {x y : Buffers} {reply : ℕ} (a : ℕ) → fit x ≡ true → a < 1024 → Request (add_user a) x y reply
    → let t = tables_of x in
    (reply ≡ first (user_checks t.policy a)) × (reply ≡ GRANTED → tables_of y ≡ with_policy t (user_next t.policy a))
alone-call {x} a f small r =
    let t = tables_of x in
    let n = answers r f in
    let j = added-as-before.dealers t a small in
    let e = n.0 ∙ j.0 in
    (e, λ g. n.1 ∙ j.1 ∙ ap (λ (q : ℕ). granted q (with_policy t (user_next t.policy a)) t) (sym e ∙ g))

pub joined-with-roles : JoinedWithRoles
joined-with-roles = record {
  one_by_one = λ a roles f small once r c e. joined-calls a roles f small once r c e;
  without-roles = λ a f small r. alone-call a f small r;
}

-- ---- Senior roles.
request-as-before : {bytes : Bytes} {x y : Buffers} {reply : ℕ} → fit x ≡ true → NoneBelow (tables_of x).policy → Request bytes x y reply
    → (reply ≡ (lower_request_before (tables_of x) bytes).reply) × (tables_of y ≡ (lower_request_before (tables_of x) bytes).tables)
request-as-before {bytes} {x} f none r =
    let a = answers r f in
    let b = (as_before.lower_requests (tables_of x) none bytes).0 in
    (a.0 ∙ ap (λ (q : Answer Lower). q.reply) b, a.1 ∙ ap (λ (q : Answer Lower). q.tables) b)

load-as-before : {policy : Bytes} {x y : Buffers} {reply : ℕ} → fit x ≡ true → of_kind 17 (records_of policy) ≡ [] → Load policy x y reply
    → (reply ≡ (load_before policy).reply) × (tables_of y ≡ lower_of (load_before policy).tables)
load-as-before {policy} f h l =
    let a = loads l f in
    let b = (as_before.loads policy h).0 in
    (a.0 ∙ ap (λ (q : Loaded). q.reply) b, a.1 ∙ ap (λ (q : Loaded). lower_of q.tables) b)

run-as-before : {policy : Bytes} {x y z : Buffers} {reply : ℕ} {said : List Said} → fit x ≡ true → of_kind 17 (records_of policy) ≡ [] → Load policy x y reply
    → Requests y said z → fitting (λ a. a) said ≡ run lower_request_before (lower_of (load_before policy).tables) (asked (λ a. a) (fitting (λ a. a) said))
unfolding lower_of
run-as-before {policy} {said = said} f h l c =
    let b = as_before.loads policy h in
    (ran_on f l c).0
    ∙ (as_before.lower_runs (lower_of (load policy).tables) b.1 _).0
    ∙ ap (λ (q : Loaded). run lower_request_before (lower_of q.tables) (asked (λ a. a) (fitting (λ a. a) said))) b.0

pub senior-roles : SeniorRoles
senior-roles = record {
  recorded = λ l g c. recorded l g c;
  requests = λ f none r. request-as-before f none r;
  loads = λ f h l. load-as-before f h l;
  runs = λ f h l c. run-as-before f h l c;
}

-- ---- Walls.
run-unwalled : {policy : Bytes} {x y z : Buffers} {reply : ℕ} {said : List Said} → fit x ≡ true → of_kind 18 (records_of policy) ≡ [] → Load policy x y reply
    → Requests y said z → fitting (λ a. a) said ≡ run lower_request_unwalled (lower_of (load policy).tables) (asked (λ a. a) (fitting (λ a. a) said))
run-unwalled {policy} f h l c = (ran_on f l c).0 ∙ (as-before-walls.lower_runs (lower_of (load policy).tables) (as-before-walls.loads policy h) _).0

same-reply : {bytes other : Bytes} {x y w : Buffers} {q p : ℕ} → (lower_request (tables_of x) bytes).reply ≡ (lower_request (tables_of x) other).reply
    → Request bytes x y q → Request other x w p → (b : Bool) → fit x ≡ b → q ≡ p
same-reply e r s true f = (answers r f).0 ∙ e ∙ sym (answers s f).0
same-reply e r s false f = (no_room r f).0 ∙ sym (no_room s f).0

pub walls-hold : WallsHold
walls-hold = record {
  upheld = λ l g c. one_block l g c;
  checks = λ l g c e r h. walled l g c e r h;
  as-the-check = λ {bytes} {x} k r s. same-reply (refused-as-the-check.dealers (tables_of x) bytes k) r s (fit x) refl;
  outside-walls = λ {bytes} {x} f k n r.
      let a = answers r f in
      let o = outside-walls-all-is-free.dealers (tables_of x) bytes k n in
      (λ e. o.0 (sym a.0 ∙ e), a.1 ∙ o.1);
  requests = λ {bytes} {x} f none r. (answers r f).0 ∙ as-before-walls.lower_replies (tables_of x) none bytes;
  tables = λ {bytes} {x} f none r. (answers r f).1 ∙ ap (λ (q : Answer Lower). q.tables) (as-before-walls.lower_requests (tables_of x) none bytes).0;
  runs = λ f h l c. run-unwalled f h l c;
}
