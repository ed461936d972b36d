-- The three demands on the engine, and what the asks of 02 add to them, for the real calls.
-- Each follows from the contracts of the calls and the theorems about the definitions.
use Prim.Native.Nat.{ℕ, ◌+◌, ◌/◌, ◌%◌, ◌≤◌, ◌<◌}
use mathlib.Core.Bool.{Bool, true, false, not, cond}
use mathlib.Core.List.{List, [], ◌∷◌, ◌++◌, append-nil}
use mathlib.Core.Path.{◌≡◌, refl, sym, ap, subst, ◌∙◌}
use mathlib.Core.Logic.{◌↔◌}
use native.Mathlib.Omega.{arith}
use borrow.Author.Tests.{eqb-true}
use lib.Dec.{eqb}
use Rattle.paper_lower.specs.Checks.{GRANTED, ROOM, BEFORE, FULL, WALL, first, granted}
use Rattle.paper_lower.specs.Records.{Bytes, Record, decode}
use Rattle.paper_lower.specs.Forms.{request_forms}
use Rattle.paper_lower.specs.Lists.{add, keep, each}
use Rattle.paper_lower.specs.Kinds.{Answer, Said, run, after}
use Rattle.paper_lower.specs.Sets.{empty}
use Rattle.paper_lower.specs.Tables.{Lower, with_policy}
use Rattle.paper_lower.specs.Policy.{user_checks, user_next}
use Rattle.paper_lower.specs.Words.{add_user, join}
use Rattle.paper_lower.specs.Load.{Loaded, load, records_of}
use Rattle.paper_lower.specs.Sessions.{lower_of}
use Rattle.paper_upper.specs.Orders.{Entry, Engine, SameTables, with_lower, are_in_order, of_order}
use Rattle.paper_upper.specs.Engine.{request_kinds, request, place_to, Placed, placed_run, engine_of}
use Rattle.replies.specs.Replies.{Reply, number_of, Outcome, outcome_number, outcome_place, outcome_reply}
use Rattle.std.specs.Prelude.{Ok, Err}
use Rattle.replies.specs.declared.Refusal.TheVariants.{Room, Shape, Range, Unknown, Taken, InUse, Rule, NotAssigned, Static, Dynamic, NoRole, NotYours, Denied, Before, Separation, Block, Alone, Bound, Count, Full, Loop, Wall}
use Rattle.replies.proofs.ReplyLaws.{one-reply}
use Rattle.lower.specs.Exports.{inside_one}
use Rattle.order_links.specs.Chains.{entries_in, sound_of}
use Rattle.order_links.specs.Stacks.{rev_onto}
use Rattle.order_links.proofs.SoundLaws.{sound}
use Rattle.order_entries.proofs.FigureLaws.{order-own}
use Rattle.engine.specs.Buffers.{Buffers, tables_of, fit}
use Rattle.engine.specs.Answers.{load_answer, LoadDone}
use Rattle.engine.specs.Exports.{LoadExported}
use Rattle.engine.specs.Settling.{SettledRequest, SettledExported}
use Rattle.paper_upper.proofs.OrderedLaws.{tables-refl, tables-sym, tables_then}
use Rattle.engine.proofs.RespectLaws.{respects}
use Rattle.engine.proofs.Ways.{tables-sound}
use Rattle.theorems.specs.Replies.{in_table, FirstRefusal, checks_of}
use Rattle.theorems.specs.Outside.{Told, nothing, of_instance, hear, hear_all, outside}
use Rattle.theorems.specs.OverEntries.{of_kind}
use Rattle.theorems.specs.Theorems.{tables_next, said_after, reply_after, Reaches}
use Rattle.theorems.specs.InUse.{no_tally, count, is_in_use}
use Rattle.theorems.specs.Places.{placed_after, place_next}
use Rattle.theorems.specs.Entering.{granted_in, entered, entered_after, oldest_first}
use Rattle.theorems.specs.Meeting.{Apart}
use Rattle.theorems.specs.Seniority.{AsRecorded, request_before, load_before, NoneBelow}
use Rattle.theorems.specs.Walls.{no_commits, commit, committed, commits_after, request_unwalled, Unwalled}
use Rattle.theorems.proofs.Replies.{checks-in-order, refused-loads-are-empty}
use Rattle.theorems.proofs.Outside.{told-is-true}
use Rattle.theorems.proofs.Entering.{told-in-order}
use Rattle.theorems.proofs.Theorems.{orders-keep-the-rules, clerks-keep-the-limits, first-rule-broken}
use Rattle.theorems.proofs.Places.{places-are-true, placed-said}
use Rattle.theorems.proofs.Meeting.{claims-do-not-meet, one-entry-free}
use Rattle.theorems.specs.Joining.{gathered, EachOnce, one_at_a_time, AllGranted}
use Rattle.theorems.proofs.Joining.{joined-as-one-by-one, every-set-is-listed, added-as-before}
use Rattle.theorems.proofs.InUse.{in_use}
use Rattle.theorems.proofs.NeverStuck.{stuck-are-never-entered, before-refuses-nobody}
use Rattle.theorems.proofs.Seniority.{seniority-is-recorded, as_before}
use Rattle.theorems.proofs.Walls.{clerks-keep-to-one-block, wall-exactly-when}
use Rattle.theorems.proofs.Unwalled.{refused-as-the-check, outside-walls-all-is-free, as-before-walls}
use Rattle.theorems.specs.Exactly.{known}
use Rattle.theorems.proofs.Exactly.{every-reply}
use Rattle.demands.specs.Calls.{Request, Load, Called, Together, Requests, all_of_said, fitting, asked}
use Rattle.demands.specs.Calls.Chain.{no_more, one, misfit, several}
use Rattle.demands.specs.Demands.{Unlooked, DemandOne, LinksStaySound, LinkedInOrder, DemandTwo, OneAnswer, Upheld, DemandThree, InChains, JoinedWithRoles, EitherFirst, ClaimsDoNotMeet, CanFinish, SeniorRoles, Commits, WithoutWalls, StuckAreNeverEntered}
use Rattle.demands.proofs.Calls.{fit-kept, first_byte, rest_of, request-listed, answered, stays-sound, answers, no_room, as_load, load-listed, load-reply, after-all, chain_run, told-fitting, said-fitting, told, reading}

-- ---- Loads.
module _ {bytes : Bytes} {x y : Buffers} {reply : ℕ} (l : Load bytes x y reply) where
  loads : fit x ≡ true → (reply ≡ (load bytes).reply) × (tables_of y ≡ engine_of (load bytes).tables)
  unfolding load_answer
  loads f = (load-reply l ∙ rw f, (as_load l).1.tables ∙ rw f)

  misfits : fit x ≡ false → (reply ≡ ROOM) × (y ≡ x)
  unfolding load_answer
  misfits f = (load-reply l ∙ rw f, (as_load l).1.room f)

  -- The buffers of an accepted load have the right lengths.
  fits : reply ≡ GRANTED → fit x ≡ true
  fits g = go (fit x) refl
    where
      go : (b : Bool) → fit x ≡ b → b ≡ true
      go true e = refl
      go false e = let m = (misfits e).0 in absurd (omega arith)

no_place : {bytes : Bytes} {x y : Buffers} {r : Reply} {place : ℕ} → fit x ≡ false → LoadDone bytes x y r place → place ≡ 0
unfolding load_answer
no_place f d = d.places ∙ rw f

no_number : {bytes : Bytes} {x y : Buffers} {n : ℕ} → fit x ≡ false → LoadExported bytes x y n → n ≡ inside_one ROOM 0
unfolding load_answer
no_number f d = d.answers ∙ rw f

-- ---- A request that does not check the links.

-- Every reply is in the table.
listed-reply : (r : Reply) → in_table (number_of r) ≡ true
unfolding in_table
listed-reply (Ok u) = refl
listed-reply (Err Room) = refl
listed-reply (Err Shape) = refl
listed-reply (Err Range) = refl
listed-reply (Err Unknown) = refl
listed-reply (Err Taken) = refl
listed-reply (Err InUse) = refl
listed-reply (Err Rule) = refl
listed-reply (Err NotAssigned) = refl
listed-reply (Err Static) = refl
listed-reply (Err Dynamic) = refl
listed-reply (Err NoRole) = refl
listed-reply (Err NotYours) = refl
listed-reply (Err Denied) = refl
listed-reply (Err Before) = refl
listed-reply (Err Separation) = refl
listed-reply (Err Block) = refl
listed-reply (Err Alone) = refl
listed-reply (Err Bound) = refl
listed-reply (Err Count) = refl
listed-reply (Err Full) = refl
listed-reply (Err Loop) = refl
listed-reply (Err Wall) = refl

unlooked : {bytes : Bytes} {x y : Buffers} {j : Outcome} → SettledRequest bytes x y j → Unlooked x y (outcome_number j) (outcome_place j)
unlooked {j = j} d =
    record {
      answers = listed-reply (outcome_reply j);
      small = d.small;
      lengths = d.lengths;
      refused = d.kept;
      misfit = λ f. let r = d.room f in (r.0, r.1.0, r.1.1);
    }

unlooked-number : {bytes : Bytes} {x y : Buffers} {n : ℕ} → SettledExported bytes x y n → Unlooked x y (n % 256) (n / 256)
unlooked-number {n = n} d =
    let l = listed-reply (outcome_reply d.0) in
    rw (first_byte _ _ n l d.1, rest_of _ _ n l d.1) (unlooked d.2)

chain-sound : {x z : Buffers} {said : List Placed} → Requests x said z → sound_of x.orders ≡ true → sound_of z.orders ≡ true
chain-sound no_more s = s
chain-sound (one r c) s = chain-sound c (stays-sound r s)
chain-sound (misfit f r c) s = chain-sound c s
chain-sound (several q c e) s = chain-sound c (q.links s)

pub links-stay-sound : LinksStaySound
links-stay-sound = record {
  loads = λ f l. (as_load l).1.settles f;
  granted = λ r g. (answered r).settles g;
  settled = stays-sound;
  chains = chain-sound;
}

pub demand-one : DemandOne
demand-one = record {
  request-answers = λ {bytes} {x} r. rw (answered r).replies (request-listed bytes x);
  load-answers = λ {bytes} {x} l. rw (load-reply l) (load-listed bytes x);
  refused-request = λ r n. (answered r).kept n;
  refused-load = λ {bytes} f l n. let a = loads l f in (
    a.1 ∙ ap engine_of (refused-loads-are-empty bytes (λ z. n (a.0 ∙ z))),
    (as_load l).1.zeros f (λ z. n (load-reply l ∙ z)),
  );
  misfit-request = λ f r. no_room r f;
  misfit-load = λ f l. misfits l f;
  misfit-place = no_place;
  misfit-number = no_number;
  settled-request = unlooked;
  settled-number = unlooked-number;
}

place-of : {bytes : Bytes} {x y : Buffers} {r : Reply} {place : ℕ} → fit x ≡ true → LoadDone bytes x y r place → place ≡ (load bytes).place
unfolding load_answer
place-of f d = d.places ∙ rw f

number-of : {bytes : Bytes} {x y : Buffers} {n : ℕ} → fit x ≡ true → LoadExported bytes x y n → n ≡ inside_one (load bytes).reply (load bytes).place
unfolding load_answer
number-of f d = d.answers ∙ rw f

-- ---- A load and a sequence of calls after it, as a run of the definition.
start : {policy : Bytes} {x y : Buffers} {reply : ℕ} → fit x ≡ true → Load policy x y reply → SameTables (tables_of y) (engine_of (load policy).tables)
start {policy} {x} {y} f l = subst (λ (t : Engine). SameTables (tables_of y) t) (loads l f).1 (tables-refl (tables_of y))

-- What was asked and answered without the requests that were refused because of the lengths of the buffers; and these requests alone.
abbrev fitted : List Placed → List Placed
fitted said = fitting (λ a. a.said) said

abbrev requests_in : List Placed → List Bytes
requests_in said = asked (λ a. a.said) (fitted said)

runs : {policy : Bytes} {x y z : Buffers} {reply : ℕ} {said : List Placed} → fit x ≡ true → Load policy x y reply → Requests y said z
    → (fitted said ≡ placed_after policy (requests_in said)) × SameTables (tables_of z) (tables_next policy (requests_in said)) × (fit z ≡ true)
runs {policy} {said = said} f l c =
    let a =
    chain_run Called Together fit tables_of (λ t s. (request t s).tables) (λ a. a.said) told placed_run SameTables reading c
    (fit-kept (as_load l).1.lengths ∙ f)
    (engine_of (load policy).tables) (start f l) in
    (a.0, rw (after-all request (engine_of (load policy).tables) (requests_in said)) at a.1, a.2)

refusal : {bytes : Bytes} {x y : Buffers} {reply place : ℕ} → fit x ≡ true → Request bytes x y reply place
    → FirstRefusal (checks_of request_forms request_kinds (tables_of x) bytes) reply
unfolding request
refusal {bytes} {x} f r =
    subst (FirstRefusal (checks_of request_forms request_kinds (tables_of x) bytes)) (sym (answers r f).0) (checks-in-order.engine.1 (tables_of x) bytes)

pub demand-two : DemandTwo
demand-two = record {
  requests = λ f r. answers r f;
  loads = λ f l. loads l f;
  places = place-of;
  numbers = number-of;
  runs = λ f l c. let a = runs f l c in (a.0, a.1);
  first-refusal = λ f r. refusal f r;
  order = checks-in-order;
}

pub one_answer : OneAnswer
one_answer = record {
  requests = λ {bytes} {x} {x'} e h a b. same e h a b (fit x) refl;
  loads = λ f g a b. ((loads a f).0 ∙ sym (loads b g).0, (loads a f).1 ∙ sym (loads b g).1);
  places = λ f g a b. place-of f a ∙ sym (place-of g b);
  numbers = λ f g a b. number-of f a ∙ sym (number-of g b);
  replies = one-reply;
}
  where
    same : {bytes : Bytes} {x x' y y' : Buffers} {q r i j : ℕ} → fit x ≡ fit x' → SameTables (tables_of x) (tables_of x')
        → Request bytes x y q i → Request bytes x' y' r j → (b : Bool) → fit x ≡ b → (q ≡ r) × (i ≡ j) × SameTables (tables_of y) (tables_of y')
    same {bytes} {x} {x'} e h a b true f =
        let c = answers a f in
        let d = answers b (sym e ∙ f) in
        let s = respects (tables_of x) (tables_of x') h bytes in
        (c.0 ∙ s.0 ∙ sym d.0, c.1 ∙ s.1 ∙ sym d.1, tables_then c.2 (tables_then s.2 (tables-sym d.2)))
    same {bytes} {x} {x'} e h a b false f =
        let c = no_room a f in
        let d = no_room b (sym e ∙ f) in
        (c.0 ∙ sym d.0, c.1 ∙ sym d.1, rw (c.2, d.2) h)

-- ---- The order of entry.
granted-fitting : (ys : List Said) → granted_in (fitting (λ y. y) ys) ≡ granted_in ys
unfolding granted_in keep
granted-fitting [] = refl
granted-fitting (y ∷ ys) = go (eqb y.reply ROOM) refl (granted-fitting ys)
  where
    go : (b : Bool) → eqb y.reply ROOM ≡ b → granted_in (fitting (λ y. y) ys) ≡ granted_in ys
        → granted_in (cond (not b) (y ∷ fitting (λ y. y) ys) (fitting (λ y. y) ys)) ≡ granted y.reply (decode y.request ∷ granted_in ys) (granted_in ys)
    go true e h = h ∙ ap (λ (q : ℕ). granted q (decode y.request ∷ granted_in ys) (granted_in ys)) (sym (eqb-true y.reply ROOM e))
    go false e h = ap (λ (rs : List Record). granted y.reply (decode y.request ∷ rs) rs) h

add-before : (xs ys : List Entry) (e : Entry) → add xs e ++ ys ≡ xs ++ (e ∷ ys)
unfolding add
add-before [] ys e = refl
add-before (x ∷ xs) ys e = ap (◌∷◌ x) (add-before xs ys e)

-- Reversing a list twice gives the list again.
oldest-turned : (xs ys : List Entry) → oldest_first (rev_onto xs ys) ≡ oldest_first ys ++ xs
unfolding rev_onto oldest_first
oldest-turned [] ys = sym (append-nil (oldest_first ys))
oldest-turned (x ∷ xs) ys = oldest-turned xs (x ∷ ys) ∙ add-before (oldest_first ys) xs x

-- ---- Demand 3.
module _ {policy : Bytes} {x y z : Buffers} {reply : ℕ} {said : List Placed} (l : Load policy x y reply) (g : reply ≡ GRANTED) (c : Requests y said z) where
  abbrev ss : List Bytes
  ss = requests_in said

  accepted : (load policy).reply ≡ GRANTED
  accepted = sym (loads l (fits l g)).0 ∙ g

  said-after : said_after policy ss ≡ fitting (λ y. y) (all_of_said said)
  said-after = sym (placed-said (engine_of (load policy).tables) ss) ∙ ap all_of_said (sym (runs (fits l g) l c).0) ∙ said-fitting said

  heard : outside policy (said_after policy ss) ≡ outside policy (all_of_said said)
  unfolding outside
  heard = ap (outside policy) said-after ∙ told-fitting hear _ (all_of_said said)

  commits-heard : commits_after policy ss ≡ committed (all_of_said said)
  commits-heard = ap committed said-after ∙ told-fitting commit no_commits (all_of_said said)

  all-heard : known policy (said_after policy ss) ≡ known policy (all_of_said said)
  all-heard i = record { policy = records_of policy; told = heard i; commits = commits-heard i }

  claimed : {claim : Bytes} {w : Buffers} {q i : ℕ} → Request claim z w q i → (q ≡ reply_after policy ss claim) × (i ≡ place_next policy ss claim)
  claimed {claim} r =
      let a = runs (fits l g) l c in
      let b = answers r a.2 in
      let s = respects (tables_of z) (tables_next policy ss) a.1 claim in
      (b.0 ∙ s.0, b.1 ∙ s.1)

  upheld : Upheld policy said z
  upheld = record {
    orders = rw heard at (orders-keep-the-rules policy accepted ss);
    clerks = rw heard at (clerks-keep-the-limits policy accepted ss);
    claims = λ {claim} e r h.
        let n = (claimed r).0 in
        rw n (rw heard at (first-rule-broken policy accepted ss claim e (subst (Reaches BEFORE) n h)));
    places = λ {claim} e r. let n = claimed r in rw (n.0, n.1) (rw heard at (places-are-true policy accepted ss claim e));
    walls = rw commits-heard at (clerks-keep-to-one-block.engine policy accepted ss);
    checks = λ {check} e r h.
        let n = (claimed r).0 in
        rw n (rw commits-heard at (wall-exactly-when.engine policy accepted ss check e (subst (Reaches WALL) n h)));
    replies = λ {bytes} r. let n = (claimed r).0 in rw n (rw all-heard at (every-reply.engine policy accepted ss bytes));
  }

  recorded : AsRecorded (records_of policy) (tables_of z).lower.policy.seniority
  recorded =
      subst (λ (t : Lower). AsRecorded (records_of policy) t.policy.seniority) (sym (runs (fits l g) l c).1.lower)
      (seniority-is-recorded.engine policy accepted ss)

  -- The granted requests are the same without those that were refused because of the lengths.
  still-granted : granted_in (said_after policy ss) ≡ granted_in (all_of_said said)
  still-granted = ap granted_in said-after ∙ granted-fitting (all_of_said said)

  in_order : (i : ℕ) → i < 64 → entries_in z.orders i ≡ entered_after i policy (all_of_said said)
  unfolding are_in_order of_instance oldest_first
  in_order i h =
      let s : sound_of z.orders ≡ true = chain-sound c ((as_load l).1.settles (fits l g)) in
      let newest : of_order i (tables_of z).orders.entries ≡ rev_onto (entries_in z.orders i) [] =
      ap (λ (t : Engine). of_order i t.orders.entries) (tables-sound z s) ∙ order-own z.orders (sound z.orders s).woven i h in
      sym (oldest-turned (entries_in z.orders i) [])
      ∙ ap oldest_first
      (sym newest ∙ (runs (fits l g) l c).1.entries i ∙ ap (λ (x : Told). keep (of_instance i) x.orders.entries) (sym (told-is-true policy accepted ss)))
      ∙ told-in-order policy accepted ss i
      ∙ ap (entered i (hear_all nothing (records_of policy))) still-granted

  can-finish : CanFinish policy said z
  can-finish = record {
    entries = rw heard at (stuck-are-never-entered policy accepted ss);
    along = λ {claim} e n r q. before-refuses-nobody policy accepted ss claim e (rw (← heard) at n) (sym (claimed r).0 ∙ q);
  }

pub demand-three : DemandThree
demand-three = record { upheld = λ l g c. upheld l g c }

pub linked-in-order : LinkedInOrder
linked-in-order = record { upheld = λ l g c i h. in_order l g c i h }

pub calls-never-enter-stuck : StuckAreNeverEntered
calls-never-enter-stuck = record { upheld = λ l g c. can-finish l g c }

-- ---- Two claims, in either order.
call-on : {s : Bytes} {x y : Buffers} {q i : ℕ} → Request s x y q i → fit x ≡ true → (t : Engine) → SameTables (tables_of x) t
    → (q ≡ (request t s).reply) × (i ≡ place_to t s) × SameTables (tables_of y) (request t s).tables × (fit y ≡ true)
call-on {s} {x} r f t h =
    let a = answers r f in
    let b = respects (tables_of x) t h s in
    (a.0 ∙ b.0, a.1 ∙ b.1, tables_then a.2 b.2, fit-kept (answered r).lengths ∙ f)

module _ {policy : Bytes} {x y z : Buffers} {reply : ℕ} {said : List Placed} (l : Load policy x y reply) (g : reply ≡ GRANTED) (k : Requests y said z) where
  -- The number of entries in use, from the requests and replies.
  used : is_in_use (said_after policy (requests_in said)) ≡ is_in_use (all_of_said said)
  unfolding is_in_use
  used =
      rw (
        sym (placed-said (engine_of (load policy).tables) (requests_in said)) ∙ ap all_of_said (sym (runs (fits l g) l k).0) ∙ said-fitting said,
        told-fitting count no_tally (all_of_said said),
      )

  either : (c d : Bytes) → Apart c d → is_in_use (all_of_said said) + 2 ≤ 2048 → EitherFirst c d z
  either c d a room = record {
    same = λ rc rd rd' rc'.
        let t = tables_next policy (requests_in said) in
        let n = runs (fits l g) l k in
        let m = claims-do-not-meet policy (sym (loads l (fits l g)).0 ∙ g) (requests_in said) c d a (rw (← used) at room) in
        let e = call-on rc n.2 t n.1 in
        let f = call-on rd e.3 (request t c).tables e.2 in
        let e' = call-on rd' n.2 t n.1 in
        let f' = call-on rc' e'.3 (request t d).tables e'.2 in (
          (e.0 ∙ sym m.replies.0 ∙ sym f'.0, e.1 ∙ sym m.places.0 ∙ sym f'.1),
          (f.0 ∙ m.replies.1 ∙ sym e'.0, f.1 ∙ m.places.1 ∙ sym e'.1),
          tables_then f.2 (tables_then m.tables (tables-sym f'.2)),
        );
  }

  last_one : (c d : Bytes) → Apart c d → is_in_use (all_of_said said) + 1 ≡ 2048
      → {w v w' v' : Buffers} {q p i j q' p' i' j' : ℕ} → Request c z w q i → Request d w v p j → Request d z w' p' j' → Request c w' v' q' i'
      → q ≡ GRANTED → p' ≡ GRANTED → (p ≡ FULL) × (q' ≡ FULL)
  last_one c d a room rc rd rd' rc' g' h' =
      let t = tables_next policy (requests_in said) in
      let n = runs (fits l g) l k in
      let u = in_use policy (sym (loads l (fits l g)).0 ∙ g) (requests_in said) in
      let v = used in
      let e = call-on rc n.2 t n.1 in
      let f = call-on rd e.3 (request t c).tables e.2 in
      let e' = call-on rd' n.2 t n.1 in
      let f' = call-on rc' e'.3 (request t d).tables e'.2 in
      let o = one-entry-free t c d a (omega arith) (sym e.0 ∙ g') (sym e'.0 ∙ h') in
      (f.0 ∙ o.0, f'.0 ∙ o.1)

pub calls-do-not-meet : ClaimsDoNotMeet
calls-do-not-meet = record {
  upheld = λ l g k c d a room. either l g k c d a room;
  one_free = λ l g k c d a room rc rd rd' rc' g' h'. last_one l g k c d a room rc rd rd' rc' g' h';
}

-- ---- Senior roles.
request-as-before : {bytes : Bytes} {x y : Buffers} {reply place : ℕ} → fit x ≡ true → NoneBelow (tables_of x).lower.policy → Request bytes x y reply place
    → (reply ≡ (request_before (tables_of x) bytes).reply) × SameTables (tables_of y) (request_before (tables_of x) bytes).tables
request-as-before {bytes} {x} {y} f none r =
    let a = answers r f in
    let b = (as_before.requests (tables_of x) none bytes).0 in
    (a.0 ∙ ap (λ (q : Answer Engine). q.reply) b, subst (λ (q : Answer Engine). SameTables (tables_of y) q.tables) b a.2)

module _ (policy : Bytes) (h : of_kind 17 (records_of policy) ≡ []) where
  loaded : load policy ≡ load_before policy
  loaded = (as_before.loads policy h).0

  none_below : NoneBelow (engine_of (load policy).tables).lower.policy
  unfolding engine_of lower_of
  none_below = (as_before.loads policy h).1

  load-as-before : {x y : Buffers} {reply : ℕ} → fit x ≡ true → Load policy x y reply
      → (reply ≡ (load_before policy).reply) × (tables_of y ≡ engine_of (load_before policy).tables)
  load-as-before f l = let a = loads l f in (a.0 ∙ ap (λ (q : Loaded). q.reply) loaded, a.1 ∙ ap (λ (q : Loaded). engine_of q.tables) loaded)

  run-as-before : {x y z : Buffers} {reply : ℕ} {said : List Placed} → fit x ≡ true → Load policy x y reply → Requests y said z
      → all_of_said (fitted said) ≡ run request_before (engine_of (load_before policy).tables) (requests_in said)
  run-as-before {said = said} f l c =
      ap all_of_said (runs f l c).0
      ∙ placed-said (engine_of (load policy).tables) (requests_in said)
      ∙ (as_before.runs (engine_of (load policy).tables) none_below (requests_in said)).0
      ∙ ap (λ (q : Loaded). run request_before (engine_of q.tables) (requests_in said)) loaded

pub senior-roles : SeniorRoles
senior-roles = record {
  recorded = λ l g c. recorded l g c;
  requests = λ f none r. request-as-before f none r;
  loads = λ {policy} f h l. load-as-before policy h f l;
  places = λ {policy} f h d. place-of f d ∙ ap (λ (q : Loaded). q.place) (loaded policy h);
  runs = λ {policy} f h l c. run-as-before policy h f l c;
}

-- ---- Policies without walls.
tables-unwalled : {bytes : Bytes} {x y : Buffers} {reply place : ℕ} → fit x ≡ true → Unwalled (tables_of x).lower → Request bytes x y reply place
    → SameTables (tables_of y) (request_unwalled (tables_of x) bytes).tables
tables-unwalled {bytes} {x} {y} f none r =
    subst (λ (q : Answer Engine). SameTables (tables_of y) q.tables) (as-before-walls.requests (tables_of x) none bytes).0 (answers r f).2

run-unwalled : (policy : Bytes) → of_kind 18 (records_of policy) ≡ [] → {x y z : Buffers} {reply : ℕ} {said : List Placed} → fit x ≡ true → Load policy x y reply
    → Requests y said z → all_of_said (fitted said) ≡ run request_unwalled (engine_of (load policy).tables) (requests_in said)
unfolding engine_of
run-unwalled policy h {said = said} f l c =
    ap all_of_said (runs f l c).0
    ∙ placed-said (engine_of (load policy).tables) (requests_in said)
    ∙ (as-before-walls.runs (engine_of (load policy).tables) (as-before-walls.loads policy h) (requests_in said)).0

pub without-walls : WithoutWalls
without-walls = record {
  requests = λ {bytes} {x} f none r. (answers r f).0 ∙ as-before-walls.replies (tables_of x) none bytes;
  tables = λ f none r. tables-unwalled f none r;
  runs = λ {policy} f h l c. run-unwalled policy h f l c;
}

-- ---- Calls that answer no request: settling, and calls that only read.
pub in-chains : InChains
unfolding placed_run after each
in-chains = record {
  settling =
      λ {x} {y} d. record
      { answers = refl; tables = subst (SameTables (tables_of y)) d.tables (tables-refl (tables_of y)); lengths = d.lengths; links = λ s. rw (d.kept s) s };
  reading =
      λ x. record { answers = refl; tables = tables-refl (tables_of x); lengths = record { policy = refl; sessions = refl; orders = refl }; links = λ s. s };
}

-- ---- Joining.

-- A sequence of calls on buffers of any content, as a run of the definition.
from-here : {x z : Buffers} {said : List Placed} → fit x ≡ true → Requests x said z
    → (fitted said ≡ placed_run (tables_of x) (requests_in said)) × SameTables (tables_of z) (after request (tables_of x) (requests_in said))
from-here {x} {said = said} f c =
    let a =
    chain_run Called Together fit tables_of (λ t s. (request t s).tables) (λ a. a.said) told placed_run SameTables reading c f (tables_of x)
    (tables-refl (tables_of x)) in
    (a.0, rw (after-all request (tables_of x) (requests_in said)) at a.1)

joined-calls : {x y z : Buffers} {reply place : ℕ} {said : List Placed} (a : ℕ) (roles : List ℕ) → fit x ≡ true → a < 1024 → EachOnce empty roles
    → Request (join a (gathered empty roles)) x y reply place → Requests x said z → requests_in said ≡ one_at_a_time a roles
    → ((reply ≡ GRANTED) ↔ AllGranted (all_of_said (fitted said))) × (reply ≡ GRANTED → SameTables (tables_of y) (tables_of z))
joined-calls {x} {y} {z} {said = said} a roles f small once r c e =
    let t = tables_of x in
    let j = joined-as-one-by-one.engine t a small roles once in
    let n = answers r f in
    let run_is = from-here f c in
    let said-is : all_of_said (fitted said) ≡ run request t (one_at_a_time a roles) = ap all_of_said run_is.0 ∙ placed-said t (requests_in said) ∙ ap (run request t) e in (
      (
        λ g. subst AllGranted (sym said-is) (j.granted.0 (sym n.0 ∙ g)),
        λ g. n.0 ∙ j.granted.1 (subst AllGranted said-is g),
      ),
      λ g. tables_then
          (subst (SameTables (tables_of y)) (j.tables (sym n.0 ∙ g)) n.2)
          (tables-sym (subst (λ (ss : List Bytes). SameTables (tables_of z) (after request t ss)) e run_is.1)),
    )

alone-call : {x y : Buffers} {reply place : ℕ} (a : ℕ) → fit x ≡ true → a < 1024 → Request (add_user a) x y reply place
    → let t = tables_of x in
    (reply ≡ first (user_checks t.lower.policy a))
    × (reply ≡ GRANTED → SameTables (tables_of y) (with_lower t (with_policy t.lower (user_next t.lower.policy a))))
alone-call {x} {y} a f small r =
    let t = tables_of x in
    let n = answers r f in
    let j = added-as-before.engine t a small in
    let e = n.0 ∙ j.0 in (
      e,
      λ g. subst (SameTables (tables_of y))
          (j.1 ∙ ap (λ (q : ℕ). granted q (with_lower t (with_policy t.lower (user_next t.lower.policy a))) t) (sym e ∙ g)) n.2,
    )

pub joined-with-roles : JoinedWithRoles
joined-with-roles = record {
  one_by_one = λ a roles f small once r c e. joined-calls a roles f small once r c e;
  every_set = every-set-is-listed;
  without-roles = λ a f small r. alone-call a f small r;
}

-- ---- Commits.
same-reply : {bytes other : Bytes} {x y w : Buffers} {q p i j : ℕ} → (request (tables_of x) bytes).reply ≡ (request (tables_of x) other).reply
    → Request bytes x y q i → Request other x w p j → (b : Bool) → fit x ≡ b → q ≡ p
same-reply e r s true f = (answers r f).0 ∙ e ∙ sym (answers s f).0
same-reply e r s false f = (no_room r f).0 ∙ sym (no_room s f).0

pub calls-commit : Commits
calls-commit = record {
  as-the-check = λ {bytes} {x} k r s. same-reply (refused-as-the-check.engine (tables_of x) bytes k) r s (fit x) refl;
  outside-walls = λ {bytes} {x} {y} f k n r.
      let a = answers r f in
      let o = outside-walls-all-is-free.engine (tables_of x) bytes k n in
      (λ e. o.0 (sym a.0 ∙ e), subst (SameTables (tables_of y)) o.1 a.2);
}
