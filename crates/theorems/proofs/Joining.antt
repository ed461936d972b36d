-- The theorems on a user who joins with roles (02, Ask 1): the join is granted exactly if the
-- requests one by one are. A part of a set of roles that breaks no static set breaks none either.
use Prim.Native.Nat.{ℕ, zero, suc, ◌<◌, ◌≤◌, ◌^◌}
use mathlib.Core.Path.{◌≡◌, refl, sym, ap, subst, ◌∙◌}
use mathlib.Core.Logic.{⊎_elim}
use mathlib.Core.Bool.{Bool, true, false, not, cond}
use mathlib.Core.List.{List, [], ◌∷◌, ◌++◌}
use native.Mathlib.Omega.{arith}
use borrow.Author.Tests.{ltb-true, ltb-false, le-ltb, not-false}
use lib.Dec.{eqb, ltb}
use Rattle.paper_lower.specs.Sets.{Set, empty, has, plus, overlap, within, collect}
use Rattle.paper_lower.specs.Lists.{upd, some, keep, each, Every}
use Rattle.paper_lower.specs.Checks.{first, granted, UNKNOWN, TAKEN, STATIC}
use Rattle.paper_lower.specs.Records.{Bytes, decode, bytes, encode}
use Rattle.paper_lower.specs.Forms.{lower_forms, request_forms, form_of, misplaced, above, misshapen, out_of_range, form_checks}
use Rattle.paper_lower.specs.Kinds.{Answer, chosen, reply_to, answer, run, after}
use Rattle.paper_lower.specs.Tables.{Limit, Policy, Lower, with_people, with_policy}
use Rattle.paper_lower.specs.Policy.{down, breaks, user_checks, user_next, assign_checks, assign_next}
use Rattle.paper_lower.specs.Roles.{join_checks, join_next, role_kinds}
use Rattle.paper_lower.specs.Sessions.{session_kinds, lower_kinds, lower_request}
use Rattle.paper_lower.specs.Words.{add_user, join, assign}
use Rattle.paper_lower.proofs.ListLaws.{upd_same, every_map, every-each, every-all, none-some}
use Rattle.paper_lower.proofs.CheckLaws.{passed}
use Rattle.paper_lower.proofs.ReadBack.{read_back}
use Rattle.paper_upper.specs.Orders.{Engine, no_orders, with_lower}
use Rattle.paper_upper.specs.Requests.{upper_kinds}
use Rattle.paper_upper.specs.Engine.{widened, shared_kinds, request_kinds, request}
use Rattle.sets.proofs.SetLaws.{same-members, has_new, collect-above, collect-below, has_above, plus-lt, plus-member, within_has, has_within, within-trans, within-plus, within-refl, within-empty, within-part}
use Rattle.theorems.specs.Joining.{gathered, EachOnce, EverySetIsListed, one_at_a_time, AllGranted, AsOneByOne, JoinedAsOneByOne, JoinedWithoutRoles, AddedAsBefore}
use Rattle.theorems.proofs.Down.{down-part}
use Rattle.theorems.proofs.Roles.{Within, within-less, not-broken, nothing-down}

-- ---- The answers to the requests 32 and 34.
abbrev answered : ℕ → Engine → Engine → Answer Engine
answered reply next t = record { reply = reply; tables = granted reply next t }

abbrev with-policy : Engine → Policy → Engine
with-policy t p = with_lower t (with_policy t.lower p)

asked-join : (t : Engine) (a : ℕ) (m : Set) → a < 1024 → m < 2 ^ 64
    → request t (join a m) ≡ answered (first (join_checks t.lower.policy a m)) (with-policy t (join_next t.lower.policy a m)) t
unfolding request answer reply_to form_checks request_kinds upper_kinds shared_kinds lower_kinds role_kinds session_kinds widened keep each chosen request_forms lower_forms form_of misshapen out_of_range misplaced above bytes encode
asked-join t a m h k =
    rw (read_back (record { kind = 32; n = 0; a = a; b = 0; c = 0; m = m }) (omega arith) (omega arith) (omega arith) k)
    (rw (le-ltb 1023 a (omega arith)) refl)

asked-assign : (t : Engine) (a b : ℕ) → a < 1024 → b < 64
    → request t (assign a b) ≡ answered (first (assign_checks t.lower.policy a b)) (with-policy t (assign_next t.lower.policy a b)) t
unfolding request answer reply_to form_checks request_kinds upper_kinds shared_kinds lower_kinds role_kinds session_kinds widened keep each chosen request_forms lower_forms form_of misshapen out_of_range misplaced above bytes encode
asked-assign t a b h k =
    rw (read_back (record { kind = 34; n = 0; a = a; b = b; c = 0; m = 0 }) (omega arith) (omega arith) (omega arith) (omega arith))
    (rw (le-ltb 1023 a (omega arith)) (rw (le-ltb 63 b (omega arith)) refl))

-- ---- Static sets.
none-broken : (ls : List Limit) (m : Set) → Within ls m → some (breaks m) ls ≡ false
unfolding breaks
none-broken ls m h = none-some (breaks m) ls (every_map ls (λ l x. le-ltb l.n (overlap l.members m) x) h)

pub joined-without-roles : JoinedWithoutRoles
unfolding join_checks join_next user_checks user_next
joined-without-roles p a =
    (rw (within-empty p.people.roles) (rw (none-broken p.rules.statics _ (nothing-down p.rules.statics p.seniority)) refl), refl)

added-above : (t : Engine) (a : ℕ) → a < 1024
    → let p = t.lower.policy in
    ((request t (add_user a)).reply ≡ first (user_checks p a))
    × ((request t (add_user a)).tables ≡ granted (first (user_checks p a)) (with-policy t (user_next p a)) t)
added-above t a small =
    let p = t.lower.policy in
    let e = asked-join t a empty small (omega arith) in
    let w = joined-without-roles p a in (
      ap (λ x. x.reply) e ∙ w.0,
      ap (λ x. x.tables) e ∙ ap (λ (q : ℕ). granted q (with-policy t (join_next p a empty)) t) w.0
          ∙ ap (λ (n : Policy). granted (first (user_checks p a)) (with-policy t n) t) w.1,
    )

-- ---- The roles of a list, as a set.
gathered-more : (m : Set) (rs : List ℕ) → within m (gathered m rs) ≡ true
unfolding gathered
gathered-more m [] = within-refl m
gathered-more m (r ∷ rs) = within-trans m (plus m r) _ (within-plus m m r (within-refl m)) (gathered-more (plus m r) rs)

gathered-lt : (m : Set) (rs : List ℕ) → m < 2 ^ 64 → EachOnce m rs → gathered m rs < 2 ^ 64
unfolding gathered
gathered-lt m [] h o = h
gathered-lt m (r ∷ rs) h o = gathered-lt (plus m r) rs (plus-lt 64 m r h o.0) o.2

-- ---- Assigning one role after another to a user who has the roles m.
upd-twice : (f : ℕ → Set) (a : ℕ) (x y : Set) → upd (upd f a x) a y ≡ upd f a y
unfolding upd
upd-twice f a x y = λ i k. go k (eqb k a) i
  where
    go : (k : ℕ) (b : Bool) → cond b y (cond b x (f k)) ≡ cond b y (f k)
    go k true = refl
    go k false = refl

module _ (t : Engine) (a : ℕ) (small : a < 1024) where
  abbrev p : Policy
  p = t.lower.policy

  -- The engine in which user a was added with the roles m.
  abbrev having : Set → Engine
  having m = with-policy t (join_next p a m)

  assigned-next : (m : Set) (r : ℕ) → with-policy (having m) (assign_next (join_next p a m) a r) ≡ having (plus m r)
  unfolding assign_next join_next
  assigned-next m r =
      ap (λ (f : ℕ → Set). with-policy t (with_people p (record { users = upd p.people.users a true; roles = p.people.roles; assigned = f })))
      (ap (λ (x : Set). upd (upd p.people.assigned a m) a (plus x r)) (upd_same p.people.assigned a a m refl) ∙
      upd-twice p.people.assigned a m (plus m r))

  assign-checks : (m : Set) (r : ℕ) → first (assign_checks (join_next p a m) a r)
      ≡ first ((not (has p.people.roles r), UNKNOWN) ∷ (has m r, TAKEN) ∷ (some (breaks (down p.seniority (plus m r))) p.rules.statics, STATIC) ∷ [])
  unfolding assign_checks join_next
  assign-checks m r = rw (upd_same p.people.users a a true refl) (rw (upd_same p.people.assigned a a m refl) refl)

  -- The answer to request 34 if no check applies.
  assign-answer : (m : Set) (r : ℕ) → r < 64 → first (assign_checks (join_next p a m) a r) ≡ 0
      → ((request (having m) (assign a r)).reply ≡ 0) × ((request (having m) (assign a r)).tables ≡ having (plus m r))
  assign-answer m r k e = let q = asked-assign (having m) a r small k in (ap (λ x. x.reply) q ∙ e, ap (λ x. x.tables) q ∙ rw e (assigned-next m r))

  forward : (m : Set) (rs : List ℕ) → EachOnce m rs → within (gathered m rs) p.people.roles ≡ true
      → Within p.rules.statics (down p.seniority (gathered m rs))
      → AllGranted (run request (having m) (each (assign a) rs)) × (after request (having m) (each (assign a) rs) ≡ having (gathered m rs))
  unfolding gathered run after each
  forward m [] o known fits = (tt, refl)
  forward m (r ∷ rs) o known fits =
      let more = gathered-more (plus m r) rs in
      let declared = within_has _ p.people.roles r known (within_has (plus m r) _ r more (has_new m r)) in
      let unbroken =
      none-broken p.rules.statics _ (within-less p.rules.statics _ _ (down-part p.seniority (plus m r) _ (within-part _ _ more)) fits) in
      let e = assign-answer m r o.0 (assign-checks m r ∙ rw declared (rw o.1 (rw unbroken refl))) in
      let rest = forward (plus m r) rs o.2 known fits in
      ((e.0, rw e.1 rest.0), ap (λ x. after request x (each (assign a) rs)) e.1 ∙ rest.1)

  backward : (m : Set) (rs : List ℕ) → EachOnce m rs → AllGranted (run request (having m) (each (assign a) rs))
      → within m p.people.roles ≡ true → Within p.rules.statics (down p.seniority m)
      → (within (gathered m rs) p.people.roles ≡ true) × Within p.rules.statics (down p.seniority (gathered m rs))
  unfolding gathered run each
  backward m [] o all known fits = (known, fits)
  backward m (r ∷ rs) o all known fits =
      let q = sym (assign-checks m r) ∙ sym (ap (λ x. x.reply) (asked-assign (having m) a r small o.0)) ∙ all.0 in
      let c =
      passed ((not (has p.people.roles r), UNKNOWN) ∷ (has m r, TAKEN) ∷ (some (breaks (down p.seniority (plus m r))) p.rules.statics, STATIC) ∷ [])
      (tt, (tt, (tt, tt))) q in
      let e = assign-answer m r o.0 (assign-checks m r ∙ q) in
      backward (plus m r) rs o.2 (rw e.1 at all.1) (declares (not-false _ c.0)) (not-broken p.rules.statics _ c.1.1.0)
    where
      declares : has p.people.roles r ≡ true → within (plus m r) p.people.roles ≡ true
      declares h = has_within (plus m r) _ (λ i k. ⊎_elim (λ (e : i ≡ r). rw e h) (λ (e : has m i ≡ true). within_has m _ i known e) (plus-member m r i k))

  -- ---- The join, and the requests one by one.
  joins : (m : Set) → m < 2 ^ 64 → (request t (join a m)).reply ≡ first (join_checks p a m)
  joins m k = ap (λ x. x.reply) (asked-join t a m small k)

  added : first (join_checks p a empty) ≡ 0 → (request t (add_user a)).tables ≡ having empty
  added e = ap (λ x. x.tables) (asked-join t a empty small (omega arith)) ∙ rw e refl

  -- Request 32 without roles, and then a request 34 for each role of the list.
  alone : first (join_checks p a empty) ≡ first ((p.people.users a, TAKEN) ∷ [])
  unfolding user_checks
  alone = (joined-without-roles p a).0

  steps : (rs : List ℕ) → EachOnce empty rs → first (join_checks p a (gathered empty rs)) ≡ 0
      → AllGranted (run request t (one_at_a_time a rs)) × (after request t (one_at_a_time a rs) ≡ having (gathered empty rs))
  unfolding join_checks run after
  steps rs o e =
      let c = passed (join_checks p a (gathered empty rs)) (tt, (tt, (tt, tt))) e in
      let new : first (join_checks p a empty) ≡ 0 = alone ∙ rw c.1.0 refl in
      let rest = forward empty rs o (not-false _ c.0) (not-broken p.rules.statics _ c.1.1.0) in
      ((joins empty (omega arith) ∙ new, rw (added new) rest.0), ap (λ x. after request x (each (assign a) rs)) (added new) ∙ rest.1)

  whole : (rs : List ℕ) → EachOnce empty rs → AllGranted (run request t (one_at_a_time a rs)) → first (join_checks p a (gathered empty rs)) ≡ 0
  unfolding join_checks run
  whole rs o all =
      let new : first (join_checks p a empty) ≡ 0 = sym (joins empty (omega arith)) ∙ all.0 in
      let c = passed ((p.people.users a, TAKEN) ∷ []) (tt, tt) (sym alone ∙ new) in
      let b = backward empty rs o (rw (added new) at all.1) (within-empty p.people.roles) (nothing-down p.rules.statics p.seniority) in
      rw b.0 (rw c.0 (rw (none-broken p.rules.statics _ b.1) refl))

joined-above : (t : Engine) (a : ℕ) → a < 1024 → (rs : List ℕ) → EachOnce empty rs → AsOneByOne request t a rs
joined-above t a small rs o =
    let m = gathered empty rs in
    let k = gathered-lt empty rs (omega arith) o in
    let e = joins t a small m k in
    record {
      granted = (λ h. (steps t a small rs o (sym e ∙ h)).0, λ all. e ∙ whole t a small rs o all);
      tables = λ h. ap (λ x. x.tables) (asked-join t a m small k) ∙ rw (sym e ∙ h) (sym (steps t a small rs o (sym e ∙ h)).1);
    }

-- ---- The lower part alone: it answers these requests as an engine with no open order does.
abbrev raised : Lower → Engine
raised t = record { lower = t; orders = no_orders }

granted-raised : (q : ℕ) (t u : Lower) → granted q (raised t) (raised u) ≡ raised (granted q t u)
granted-raised zero t u = refl
granted-raised (suc q) t u = refl

-- The lower part answers the request s as an engine with no open order does.
abbrev Below : Bytes → Type 0
Below s = (t : Lower) → ((request (raised t) s).reply ≡ (lower_request t s).reply) × ((request (raised t) s).tables ≡ raised (lower_request t s).tables)

join-below : (a : ℕ) (m : Set) → Below (join a m)
unfolding request lower_request answer reply_to form_checks request_forms lower_forms form_of request_kinds upper_kinds shared_kinds lower_kinds role_kinds session_kinds widened keep each chosen decode encode
join-below a m t = (refl, granted-raised (lower_request t (join a m)).reply ((chosen lower_kinds 32).next t (decode (join a m))) t)

assign_below : (a b : ℕ) → Below (assign a b)
unfolding request lower_request answer reply_to form_checks request_forms lower_forms form_of request_kinds upper_kinds shared_kinds lower_kinds role_kinds session_kinds widened keep each chosen decode encode
assign_below a b t = (refl, granted-raised (lower_request t (assign a b)).reply ((chosen lower_kinds 34).next t (decode (assign a b))) t)

run-below : (ss : List Bytes) → Every Below ss → (t : Lower)
    → (run request (raised t) ss ≡ run lower_request t ss) × (after request (raised t) ss ≡ raised (after lower_request t ss))
unfolding run after
run-below [] h t = (refl, refl)
run-below (s ∷ ss) h t =
    let b = h.0 t in
    let rest = run-below ss h.1 (lower_request t s).tables in
    rw b.1 (λ i. record { request = s; reply = b.0 i } ∷ rest.0 i, rest.1)

one-by-one-below : (a : ℕ) (rs : List ℕ) → Every Below (one_at_a_time a rs)
one-by-one-below a rs = (join-below a empty, every-each Below (assign a) rs (every-all rs (assign_below a)))

joined-below : (t : Lower) (a : ℕ) → a < 1024 → (rs : List ℕ) → EachOnce empty rs → AsOneByOne lower_request t a rs
joined-below t a small rs o =
    let x = joined-above (raised t) a small rs o in
    let j = join-below a (gathered empty rs) t in
    let ran = run-below (one_at_a_time a rs) (one-by-one-below a rs) t in
    record {
      granted = (λ g. subst AllGranted ran.0 (x.granted.0 (j.0 ∙ g)), λ all. sym j.0 ∙ x.granted.1 (subst AllGranted (sym ran.0) all));
      tables = λ g. ap (λ (y : Engine). y.lower) (sym j.1 ∙ x.tables (j.0 ∙ g) ∙ ran.1);
    }

pub joined-as-one-by-one : JoinedAsOneByOne
joined-as-one-by-one = record { engine = joined-above; dealers = joined-below }

added-below : (t : Lower) (a : ℕ) → a < 1024
    → ((lower_request t (add_user a)).reply ≡ first (user_checks t.policy a))
    × ((lower_request t (add_user a)).tables ≡ granted (first (user_checks t.policy a)) (with_policy t (user_next t.policy a)) t)
added-below t a small =
    let x = added-above (raised t) a small in
    let j = join-below a empty t in (
      sym j.0 ∙ x.0,
      ap (λ (y : Engine). y.lower) (sym j.1 ∙ x.1 ∙ granted-raised (first (user_checks t.policy a)) (with_policy t (user_next t.policy a)) t),
    )

pub added-as-before : AddedAsBefore
added-as-before = record { engine = added-above; dealers = added-below }

-- ---- The roles of a set as a list, in rising order.
listed : ℕ → Set → List ℕ
listed zero m = []
listed (suc n) m = cond (has m n) (listed n m ++ (n ∷ [])) (listed n m)

gathered-last : (m : Set) (rs : List ℕ) (r : ℕ) → gathered m (rs ++ (r ∷ [])) ≡ plus (gathered m rs) r
unfolding gathered
gathered-last m [] r = refl
gathered-last m (x ∷ rs) r = gathered-last (plus m x) rs r

once_last : (m : Set) (rs : List ℕ) (r : ℕ) → r < 64 → EachOnce m rs → has (gathered m rs) r ≡ false → EachOnce m (rs ++ (r ∷ []))
unfolding gathered
once_last m [] r h o n = (h, n, tt)
once_last m (x ∷ rs) r h o n = (o.0, o.1, once_last (plus m x) rs r h o.2 n)

each-listed : (n : ℕ) (m : Set) → n ≤ 64 → EachOnce empty (listed n m) × (gathered empty (listed n m) ≡ collect n (has m))
unfolding listed gathered collect
each-listed zero m h = (tt, refl)
each-listed (suc n) m h = go (has m n) (each-listed n m (omega arith))
  where
    go : (b : Bool) → EachOnce empty (listed n m) × (gathered empty (listed n m) ≡ collect n (has m))
        → EachOnce empty (cond b (listed n m ++ (n ∷ [])) (listed n m))
        × (gathered empty (cond b (listed n m ++ (n ∷ [])) (listed n m)) ≡ cond b (plus (collect n (has m)) n) (collect n (has m)))
    go true x = (
      once_last empty (listed n m) n (omega arith) x.0 (rw x.1 (collect-above n (has m) n (omega arith))),
      gathered-last empty (listed n m) n ∙ ap (λ z. plus z n) x.1,
    )
    go false x = x

pub every-set-is-listed : EverySetIsListed
every-set-is-listed m h = let x = each-listed 64 m (omega arith) in (listed 64 m, x.0, x.1 ∙ same-members (collect 64 (has m)) m (λ i. go i (ltb i 64) refl))
  where
    go : (i : ℕ) (b : Bool) → ltb i 64 ≡ b → has (collect 64 (has m)) i ≡ has m i
    go i true e = collect-below 64 (has m) i (ltb-true i 64 e)
    go i false e = let l = ltb-false i 64 e in collect-above 64 (has m) i l ∙ sym (has_above 64 m i h l)
