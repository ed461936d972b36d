-- The theorems on walls (02, Ask 11): the blocks that a user is bound to are those of the objects of the user's
-- commits, so these touch at most one block of each wall, and WALL refuses exactly what would touch a second one.
use Prim.Native.Nat.{ℕ, ◌<◌}
use mathlib.Core.Path.{◌≡◌, refl, sym, ap, subst, ◌∙◌}
use mathlib.Core.Bool.{Bool, true, false, not, cond, ◌&&◌, ◌||◌, true≢false, false≢true}
use mathlib.Core.List.{List, [], ◌∷◌, ◌++◌}
use mathlib.Core.Logic.{inl, inr, ⊎_elim, ◌↔◌}
use native.Mathlib.Omega.{arith}
use borrow.Author.Tests.{eqb-true, eqb-false, eq-eqb, not-false, not-true}
use lib.Dec.{eqb}
use Rattle.paper_lower.specs.Lists.{upd, some_number_below, Maybe, holds, or_else, some, keep, each, Every}
use Rattle.paper_lower.specs.Lists.Maybe.{none, just}
use Rattle.paper_lower.specs.Checks.{Check, first, granted, UNKNOWN, DENIED, WALL}
use Rattle.paper_lower.specs.Records.{Bytes, Record, decode}
use Rattle.paper_lower.specs.Forms.{Form, lower_forms, request_forms, form_checks}
use Rattle.paper_lower.specs.Kinds.{chosen, reply_to, answer}
use Rattle.paper_lower.specs.Tables.{Walled, Policy, Lower, no_sessions}
use Rattle.paper_lower.specs.Policy.{down, block_of, another, assign_next, give_next}
use Rattle.paper_lower.specs.Load.{load, records_of}
use Rattle.paper_lower.specs.Roles.{join_checks, join_next, delete_next, forget_next, user_gone, take_back_next, withdraw_next, role_kinds}
use Rattle.paper_lower.specs.Sessions.{create_next, destroy_next, activate_next, deactivate_next, allowed, wall_between, check_checks, commit_next, session_kinds, lower_kinds, lower_request, lower_of}
use Rattle.paper_lower.proofs.ListLaws.{both, or-true, upd_same, upd_other, none_below, every_map, some-elim, ◌⨾◌}
use Rattle.paper_lower.proofs.CheckLaws.{Passed, first-passed}
use Rattle.paper_lower.proofs.KindLaws.{reply-passed}
use Rattle.paper_upper.specs.Orders.{Engine}
use Rattle.paper_upper.specs.Requests.{open_next, end_next, claim_next, release_next, done_next, upper_kinds}
use Rattle.paper_upper.specs.Engine.{widened, shared_kinds, request_kinds, request, engine_of}
use Rattle.sets.proofs.Bits.{same-or-other}
use Rattle.theorems.specs.OverEntries.{EveryTwo, of_kind}
use Rattle.theorems.specs.WellMade.{WellWalled}
use Rattle.theorems.specs.Theorems.{Reaches, AfterEvery, tables_next, lower_after}
use Rattle.theorems.specs.Walls.{Commits, no_commits, committing, commit, commits_after, lower_commits_after, stands, OneBlockOfEach, ClerksKeepToOneBlock, Rival, Decided, CheckOrCommit, committed_by, WallExactlyWhen, BoundNowhere, DeletingForgets}
use Rattle.theorems.proofs.Replies.{lower-order, engine-order, numbered}
use Rattle.theorems.proofs.Rows.{Rows, run-follows, engine-rows}
use Rattle.theorems.proofs.Made.{a_walled, of-each}
use Rattle.theorems.proofs.WellMade.{holds-just, below-some}
use Rattle.theorems.proofs.Meets.{reaches-passed}
use Rattle.theorems.proofs.Keeps.{Kept, LowerKept, lower-rows, kept-rows, kept-load, kept-after, lower-kept-load, lower-kept-after}

-- ---- Optional values.
abbrev back : Maybe ℕ → ℕ
back none = 0
back (just b) = b

nothing-just : (b : ℕ) → none ≡ just b → ⊥
unfolding holds
nothing-just b e = false≢true (ap (holds (λ _. true)) e)

-- ---- Walls in the tables and in the policy's records.
on-record : ℕ → ℕ → ℕ → Record → Bool
on-record w b c r = eqb r.a w && eqb r.b b && eqb r.c c

stood : (rs : List Record) (w b c : ℕ) → block_of (each a_walled rs) c w ≡ just b → some (on-record w b c) rs ≡ true
unfolding block_of each some on-record
stood [] w b c h = absurd (nothing-just b h)
stood (r ∷ rs) w b c h = go (eqb r.c c) (eqb r.a w) h (stood rs w b c)
  where
    go : (x y : Bool) → cond (x && y) (just r.b) (block_of (each a_walled rs) c w) ≡ just b →
        (block_of (each a_walled rs) c w ≡ just b → some (on-record w b c) rs ≡ true)
        → (y && eqb r.b b && x) || some (on-record w b c) rs ≡ true
    go true true h rest = rw (eq-eqb r.b b (ap back h)) refl
    go true false h rest = rest h
    go false y h rest = rw (rest h) (or-true (y && eqb r.b b && false))

found : (rs : List Record) → EveryTwo (λ (x y : Walled). x.wall ≡ y.wall → x.object ≡ y.object → ⊥) (each a_walled rs) → (w b c : ℕ) →
    some (on-record w b c) rs ≡ true
    → block_of (each a_walled rs) c w ≡ just b
unfolding block_of each some on-record
found [] two w b c h = absurd (false≢true h)
found (r ∷ rs) two w b c h = go (eqb r.a w) refl (eqb r.b b) refl (eqb r.c c) refl h (found rs two.1 w b c)
  where
    -- No later record has the wall and the object of this one.
    later : r.a ≡ w → r.c ≡ c → some (on-record w b c) rs ≡ true → ⊥
    later e f h = some-elim (on-record w b c) ⊥ rs h (every_map rs (λ q n k.
        let s = both (eqb q.a w && eqb q.b b) (eqb q.c c) k in
        n (e ∙ sym (eqb-true _ _ (both (eqb q.a w) (eqb q.b b) s.0).0)) (f ∙ sym (eqb-true _ _ s.1)))
        (of-each (λ (y : Walled). r.a ≡ y.wall → r.c ≡ y.object → ⊥) a_walled rs two.0))

    go : (x : Bool) → eqb r.a w ≡ x → (y : Bool) → eqb r.b b ≡ y → (z : Bool) → eqb r.c c ≡ z → (x && y && z) || some (on-record w b c) rs ≡ true
        → (some (on-record w b c) rs ≡ true → block_of (each a_walled rs) c w ≡ just b) → cond (z && x) (just r.b) (block_of (each a_walled rs) c w) ≡ just b
    go true e true f true g h rest = ap (λ (k : ℕ). just k) (eqb-true _ _ f)
    go true e false f true g h rest = absurd (later (eqb-true _ _ e) (eqb-true _ _ g) h)
    go true e true f false g h rest = rest h
    go true e false f false g h rest = rest h
    go false e y f true g h rest = rest h
    go false e y f false g h rest = rest h

-- The object's block in the tables is that of the records.
module _ (policy : List Record) (ws : List Walled) (made : ws ≡ each a_walled (of_kind 18 policy)) (well : WellWalled ws) where
  recorded : (w b c : ℕ) → block_of ws c w ≡ just b → stands policy w b c ≡ true
  unfolding stands on-record
  recorded w b c h = stood (of_kind 18 policy) w b c (rw made at h)

  tabled : (w b c : ℕ) → stands policy w b c ≡ true → block_of ws c w ≡ just b
  unfolding stands on-record
  tabled w b c h = rw made (found (of_kind 18 policy) (rw made at well.once) w b c h)

small-wall : (ws : List Walled) (c w b : ℕ) → Every (λ x. (x.wall < 16) × (x.block < 16)) ws → block_of ws c w ≡ just b → w < 16
unfolding block_of
small-wall [] c w b n h = absurd (nothing-just b h)
small-wall (x ∷ xs) c w b n h = go (eqb x.object c && eqb x.wall w) refl h (small-wall xs c w b n.1)
  where
    go : (y : Bool) → eqb x.object c && eqb x.wall w ≡ y → cond y (just x.block) (block_of xs c w) ≡ just b → (block_of xs c w ≡ just b → w < 16) →
        w < 16
    go true e h rest = let q = eqb-true x.wall w (both (eqb x.object c) (eqb x.wall w) e).1 in let l = n.0.0 in omega arith
    go false e h rest = rest h

-- ---- The block that the objects of commits bind to: that of the first object of the list that is in the wall.
unfoldable bound_by : List Walled → List ℕ → ℕ → Maybe ℕ
bound_by ws [] w = none
bound_by ws (c ∷ cs) w = or_else (block_of ws c w) (bound_by ws cs w)

-- Every one of these objects that is in a wall is in the block that they bind to.
Agree : List Walled → List ℕ → Type 0
Agree ws cs = (w : ℕ) → Every (λ c. (b : ℕ) → block_of ws c w ≡ just b → bound_by ws cs w ≡ just b) cs

agree-more : (ws : List Walled) (c : ℕ) (cs : List ℕ) → Agree ws cs → ((w b k : ℕ) → block_of ws c w ≡ just b → bound_by ws cs w ≡ just k → k ≡ b) →
    Agree ws (c ∷ cs)
unfolding Agree bound_by or_else
agree-more ws c cs h same w = (λ b e. rw e refl, every_map cs (λ d f b e. go b (block_of ws c w) refl (f b e)) (h w))
  where
    go : (b : ℕ) (x : Maybe ℕ) → block_of ws c w ≡ x → bound_by ws cs w ≡ just b → or_else x (bound_by ws cs w) ≡ just b
    go b none e q = q
    go b (just k) e q = ap (λ (i : ℕ). just i) (sym (same w k b e q))

-- The block that commits bind to is that of one of their objects.
bound-from : (ws : List Walled) (cs : List ℕ) (w k : ℕ) → bound_by ws cs w ≡ just k → (d : ℕ) × (some (eqb d) cs ≡ true) × (block_of ws d w ≡ just k)
unfolding bound_by or_else some
bound-from ws [] w k h = absurd (nothing-just k h)
bound-from ws (c ∷ cs) w k h = go (block_of ws c w) refl h (bound-from ws cs w k)
  where
    go : (x : Maybe ℕ) → block_of ws c w ≡ x → or_else x (bound_by ws cs w) ≡ just k
        → (bound_by ws cs w ≡ just k → (d : ℕ) × (some (eqb d) cs ≡ true) × (block_of ws d w ≡ just k))
        → (d : ℕ) × (eqb d c || some (eqb d) cs ≡ true) × (block_of ws d w ≡ just k)
    go none e h rest = let x = rest h in (x.0, rw x.1 (or-true (eqb x.0 c)), x.2)
    go (just b) e h rest = (c, rw (eq-eqb c c refl) refl, e ∙ h)

-- ---- The test of WALL: the user is bound to another block than the object's.
module _ (ws : List Walled) (f : ℕ → Maybe ℕ) (c : ℕ) where
  -- Whether f binds to another block than that of object c, in some wall.
  abbrev between : Bool
  between = some_number_below 16 (λ w. holds (λ b. another b (f w)) (block_of ws c w))

  not-between : WellWalled ws → between ≡ false → (w b k : ℕ) → block_of ws c w ≡ just b → f w ≡ just k → k ≡ b
  unfolding holds another
  not-between well h w b k e q =
      let n = none_below 16 (λ w. holds (λ b. another b (f w)) (block_of ws c w)) h w (small-wall ws c w b well.numbers e) in
      eqb-true k b (not-false _ (rw (e, q) at n))

  between-at : between ≡ true → (w b k : ℕ) × ((block_of ws c w ≡ just b) × (f w ≡ just k) × (b ≡ k → ⊥))
  unfolding another
  between-at h =
      let x = below-some 16 (λ w. holds (λ b. another b (f w)) (block_of ws c w)) h in
      let y = holds-just (λ b. another b (f x.0)) (block_of ws c x.0) x.1 in
      let z = holds-just (λ k. not (eqb k y.0)) (f x.0) y.2 in
      (x.0, y.0, z.0, (y.1, z.1, λ e. eqb-false z.0 y.0 (not-true _ z.2) (sym e)))

-- ---- The invariant `Follows`: the tables, and the commits counted from requests and replies.
pub record Follows (users live : ℕ → Bool) (user : ℕ → ℕ) (bound_to : ℕ → ℕ → Maybe ℕ) (ws : List Walled) (y : Commits) : Type 0 where
  subjects : (k : ℕ) → live k ≡ true → y.user k ≡ user k
  bound : (u : ℕ) → users u ≡ true → (w : ℕ) → bound_to u w ≡ bound_by ws (y.objects u) w
  free : (u : ℕ) → users u ≡ false → (w : ℕ) → bound_to u w ≡ none
  agree : (u : ℕ) → Agree ws (y.objects u)

module _ (users live : ℕ → Bool) (user : ℕ → ℕ) (bound_to : ℕ → ℕ → Maybe ℕ) (ws : List Walled) (y : Commits) (h : Follows users live user bound_to ws y) where
  joins : (a : ℕ) → users a ≡ false → Follows (upd users a true) live user bound_to ws (record { user = y.user; objects = upd y.objects a [] })
  unfolding Agree bound_by
  joins a new = record {
    subjects = h.subjects;
    bound = λ u k w. ⊎_elim (λ (e : u ≡ a). rw (upd_same y.objects a u [] e) (ap (λ (i : ℕ). bound_to i w) e ∙ h.free a new w))
        (λ n. rw (upd_other y.objects a u [] n) (h.bound u (sym (upd_other users a u true n) ∙ k) w)) (same-or-other u a);
    free = λ u k w. ⊎_elim (λ (e : u ≡ a). absurd (true≢false (sym (upd_same users a u true e) ∙ k)))
        (λ n. h.free u (sym (upd_other users a u true n) ∙ k) w) (same-or-other u a);
    agree =
        λ u. ⊎_elim (λ (e : u ≡ a). rw (upd_same y.objects a u [] e) (λ w. tt)) (λ n. rw (upd_other y.objects a u [] n) (h.agree u)) (same-or-other u a);
  }

  leaves : (a : ℕ) → Follows (upd users a false) live user (upd bound_to a (λ _. none)) ws y
  leaves a = record {
    subjects = h.subjects;
    bound = λ u k w. ⊎_elim (λ (e : u ≡ a). absurd (false≢true (sym (upd_same users a u false e) ∙ k)))
        (λ n. ap (λ (f : ℕ → Maybe ℕ). f w) (upd_other bound_to a u (λ _. none) n) ∙ h.bound u (sym (upd_other users a u false n) ∙ k) w) (same-or-other u a);
    free = λ u k w. ⊎_elim (λ (e : u ≡ a). ap (λ (f : ℕ → Maybe ℕ). f w) (upd_same bound_to a u (λ _. none) e))
        (λ n. ap (λ (f : ℕ → Maybe ℕ). f w) (upd_other bound_to a u (λ _. none) n) ∙ h.free u (sym (upd_other users a u false n) ∙ k) w) (same-or-other u a);
    agree = h.agree;
  }

  creates : (a b : ℕ) → Follows users (upd live a true) (upd user a b) bound_to ws (record { user = upd y.user a b; objects = y.objects })
  creates a b = record {
    subjects = λ k l. ⊎_elim (λ (e : k ≡ a). upd_same y.user a k b e ∙ sym (upd_same user a k b e))
        (λ n. upd_other y.user a k b n ∙ h.subjects k (sym (upd_other live a k true n) ∙ l) ∙ sym (upd_other user a k b n)) (same-or-other k a);
    bound = h.bound;
    free = h.free;
    agree = h.agree;
  }

  destroys : (a : ℕ) → Follows users (upd live a false) (upd user a 0) bound_to ws y
  destroys a = record {
    subjects = λ k l. ⊎_elim (λ (e : k ≡ a). absurd (false≢true (sym (upd_same live a k false e) ∙ l)))
        (λ n. h.subjects k (sym (upd_other live a k false n) ∙ l) ∙ sym (upd_other user a k 0 n)) (same-or-other k a);
    bound = h.bound;
    free = h.free;
    agree = h.agree;
  }

  agrees : (u c : ℕ) → users u ≡ true → WellWalled ws → between ws (bound_to u) c ≡ false → Agree ws (c ∷ y.objects u)
  agrees u c known well passes =
      agree-more ws c (y.objects u) (h.agree u) (λ w b k e q. not-between ws (bound_to u) c well passes w b k e (h.bound u known w ∙ q))

  binds : (v c : ℕ) → users v ≡ true → WellWalled ws → between ws (bound_to v) c ≡ false
      → Follows users live user (upd bound_to v (λ w. or_else (block_of ws c w) (bound_to v w))) ws
      (record { user = y.user; objects = upd y.objects v (c ∷ y.objects v) })
  unfolding bound_by
  binds v c known well passes = record {
    subjects = h.subjects;
    bound = λ u k w. ⊎_elim
        (λ (e : u ≡ v). ap (λ (f : ℕ → Maybe ℕ). f w) (upd_same bound_to v u more e) ∙ ap (λ (x : Maybe ℕ). or_else (block_of ws c w) x) (h.bound v known w)
        ∙ sym (ap (λ (cs : List ℕ). bound_by ws cs w) (upd_same y.objects v u (c ∷ y.objects v) e)))
        (λ n. ap (λ (f : ℕ → Maybe ℕ). f w) (upd_other bound_to v u more n) ∙ h.bound u k w ∙
        sym (ap (λ (cs : List ℕ). bound_by ws cs w) (upd_other y.objects v u (c ∷ y.objects v) n)))
        (same-or-other u v);
    free = λ u k w. ⊎_elim (λ (e : u ≡ v). absurd (true≢false (sym known ∙ ap users (sym e) ∙ k)))
        (λ n. ap (λ (f : ℕ → Maybe ℕ). f w) (upd_other bound_to v u more n) ∙ h.free u k w) (same-or-other u v);
    agree = λ u. ⊎_elim (λ (e : u ≡ v). rw (upd_same y.objects v u (c ∷ y.objects v) e) (agrees v c known well passes))
        (λ n. rw (upd_other y.objects v u (c ∷ y.objects v) n) (h.agree u)) (same-or-other u v);
  }
    where
      more : ℕ → Maybe ℕ
      more w = or_else (block_of ws c w) (bound_to v w)

  commits : (a c : ℕ) → live a ≡ true → users (user a) ≡ true → WellWalled ws → between ws (bound_to (user a)) c ≡ false
      → Follows users live user (upd bound_to (user a) (λ w. or_else (block_of ws c w) (bound_to (user a) w))) ws
      (record { user = y.user; objects = upd y.objects (y.user a) (c ∷ y.objects (y.user a)) })
  commits a c l known well passes =
      subst (λ (v : ℕ). Follows users live user (upd bound_to (user a) (λ w. or_else (block_of ws c w) (bound_to (user a) w))) ws
      (record { user = y.user; objects = upd y.objects v (c ∷ y.objects v) }))
      (sym (h.subjects a l)) (binds (user a) c known well passes)

-- ---- Every kind of request keeps it.
abbrev pub Told : Lower → Commits → Type 0
Told t y = Follows t.policy.people.users t.sessions.live t.sessions.user t.sessions.bound_to t.policy.walls y

told-lower : (policy : List Record) →
    Rows lower_forms (λ n t r x. LowerKept policy t → (y : Commits) → Told t y → Told x ((chosen committing n).next y r)) lower_kinds
unfolding lower_kinds role_kinds session_kinds committing chosen join_checks join_next assign_next give_next delete_next forget_next user_gone take_back_next withdraw_next create_next destroy_next activate_next deactivate_next check_checks wall_between commit_next
told-lower policy =
    (λ t r g p i y h. joins _ _ _ _ _ y h r.a p.1.0)
    ⨾ (λ t r g p i y h. leaves _ _ _ _ _ y h r.a)
    ⨾ (λ t r g p i y h. h) ⨾ (λ t r g p i y h. h) ⨾ (λ t r g p i y h. h) ⨾ (λ t r g p i y h. h)
    ⨾ (λ t r g p i y h. creates _ _ _ _ _ y h r.a r.b)
    ⨾ (λ t r g p i y h. destroys _ _ _ _ _ y h r.a)
    ⨾ (λ t r g p i y h. h) ⨾ (λ t r g p i y h. h) ⨾ (λ t r g p i y h. h)
    ⨾ (λ t r g p i y h.
    let l = not-false (t.sessions.live r.a) p.0 in
    commits _ _ _ _ _ y h r.a r.c l (i.1.known r.a l) i.0.walled p.1.1.0)
    ⨾ tt

told-upper : (policy : List Record) →
    Rows request_forms (λ n t r x. Kept policy t → (y : Commits) → Told t.lower y → Told x.lower ((chosen committing n).next y r)) upper_kinds
unfolding upper_kinds committing chosen delete_next forget_next user_gone destroy_next open_next end_next claim_next release_next done_next
told-upper policy =
    (λ t r g p i y h. leaves _ _ _ _ _ y h r.a)
    ⨾ (λ t r g p i y h. destroys _ _ _ _ _ y h r.a)
    ⨾ (λ t r g p i y h. h) ⨾ (λ t r g p i y h. h) ⨾ (λ t r g p i y h. h) ⨾ (λ t r g p i y h. h)
    ⨾ (λ t r g p i y h. h) ⨾ (λ t r g p i y h. h) ⨾ (λ t r g p i y h. h) ⨾ (λ t r g p i y h. h)
    ⨾ tt

told-rows : (policy : List Record) →
    Rows request_forms (λ n t r x. Kept policy t → (y : Commits) → Told t.lower y → Told x.lower ((chosen committing n).next y r)) request_kinds
told-rows policy =
    engine-rows (λ n t r x. Kept policy t → (y : Commits) → Told t.lower y → Told x.lower ((chosen committing n).next y r)) (told-upper policy)
    (every_map lower_kinds (λ k h t r g p i. h t.lower r g p (i.0, i.2)) (told-lower policy))

told-start : (p : Policy) → Told (lower_of p) no_commits
unfolding lower_of no_sessions no_commits Agree bound_by
told-start p = record { subjects = λ k l. absurd (false≢true l); bound = λ u k w. refl; free = λ u k w. refl; agree = λ u w. tt }

pub told-after : AfterEvery (λ policy requests. Told (tables_next policy requests).lower (commits_after policy requests))
unfolding request commit engine_of
told-after policy accepted ss =
    run-follows request_forms request_kinds engine-order (Kept (records_of policy)) (λ t y. Told t.lower y) (λ n y r. (chosen committing n).next y r)
    (kept-rows (records_of policy)) (told-rows (records_of policy)) (engine_of (load policy).tables) no_commits ss (kept-load policy accepted)
    (told-start (load policy).tables)

pub lower-told-after : AfterEvery (λ policy requests. Told (lower_after policy requests) (lower_commits_after policy requests))
unfolding lower_request commit
lower-told-after policy accepted ss =
    run-follows lower_forms lower_kinds lower-order (LowerKept (records_of policy)) (λ t y. Told t y) (λ n y r. (chosen committing n).next y r)
    (lower-rows (records_of policy)) (told-lower (records_of policy)) (lower_of (load policy).tables) no_commits ss
    (lower-kept-load policy accepted) (told-start (load policy).tables)

-- ---- The objects of a user's commits are in at most one block of each wall.
module _ (policy : List Record) (t : Lower) (kept : LowerKept policy t) (y : Commits) (h : Told t y) where
  abbrev ws : List Walled
  ws = t.policy.walls

  one-of-each : (cs : List ℕ) → Agree ws cs → OneBlockOfEach policy cs
  unfolding Agree
  one-of-each cs a w =
      (back (bound_by ws cs w), every_map cs (λ c f k s. sym (ap back (f k (tabled policy ws kept.0.walls kept.0.walled w k c s)))) (a w))

  keeps-to-one : (u : ℕ) → OneBlockOfEach policy (y.objects u)
  keeps-to-one u = one-of-each (y.objects u) (h.agree u)

  -- ---- The test of WALL and the rivals among the objects of the user's commits.
  module _ (u c : ℕ) (known : t.policy.people.users u ≡ true) where
    rival : wall_between t u c ≡ true → Rival policy (y.objects u) c
    unfolding wall_between
    rival e =
        let x = between-at ws (t.sessions.bound_to u) c e in
        let d = bound-from ws (y.objects u) x.0 x.2 (sym (h.bound u known x.0) ∙ x.3.1) in
        record {
          object = d.0;
          among = d.1;
          wall = x.0;
          block = x.1;
          other = x.2;
          stands-in = recorded policy ws kept.0.walls kept.0.walled x.0 x.1 c x.3.0;
          stands-there = recorded policy ws kept.0.walls kept.0.walled x.0 x.2 d.0 d.2;
          differ = x.3.2;
        }

    no_rival : wall_between t u c ≡ false → Rival policy (y.objects u) c → ⊥
    unfolding wall_between Agree
    no_rival e x =
        some-elim (eqb x.object) ⊥ (y.objects u) x.among
        (every_map (y.objects u) (λ d f q.
        let tabled-c = tabled policy ws kept.0.walls kept.0.walled x.wall x.block c x.stands-in in
        let tabled-d = tabled policy ws kept.0.walls kept.0.walled x.wall x.other x.object x.stands-there in
        let b = h.bound u known x.wall ∙ f x.other (ap (λ (k : ℕ). block_of ws k x.wall) (sym (eqb-true _ _ q)) ∙ tabled-d) in
        x.differ (sym (not-between ws (t.sessions.bound_to u) c kept.0.walled e x.wall x.block x.other tabled-c b)))
        (h.agree u x.wall))

    one-with : wall_between t u c ≡ false → OneBlockOfEach policy (c ∷ y.objects u)
    unfolding wall_between
    one-with e = one-of-each (c ∷ y.objects u) (agrees _ _ _ _ _ y h u c known kept.0.walled e)

    not-one : OneBlockOfEach policy (c ∷ y.objects u) → Rival policy (y.objects u) c → ⊥
    not-one o x =
        let w = o x.wall in
        let mine = w.1.0 x.block x.stands-in in
        some-elim (eqb x.object) ⊥ (y.objects u) x.among
        (every_map (y.objects u) (λ d f q.
        x.differ (mine ∙ sym (f x.other (ap (λ (k : ℕ). stands policy x.wall x.other k) (sym (eqb-true _ _ q)) ∙ x.stands-there))))
        w.1.1)

    decided : (reply : ℕ) → reply ≡ cond (wall_between t u c) WALL 0 → Decided policy (y.objects u) c reply
    decided reply e = go (wall_between t u c) refl e
      where
        go : (b : Bool) → wall_between t u c ≡ b → reply ≡ cond b WALL 0 → Decided policy (y.objects u) c reply
        go true q e = record {
          either = inr e;
          refused = (λ _. rival q, λ _. e);
          free = (λ z. let n : ⊥ = omega arith in absurd n, λ o. absurd (not-one o (rival q)));
        }
        go false q e = record {
          either = inl e;
          refused = (λ z. let n : ⊥ = omega arith in absurd n, λ x. absurd (no_rival q x));
          free = (λ _. one-with q, λ _. e);
        }

  -- For a live subject, the test of WALL holds exactly if some object of its user's commits is a rival of c.
  pub walled : (a c : ℕ) → t.sessions.live a ≡ true → (wall_between t (t.sessions.user a) c ≡ true) ↔ Rival policy (y.objects (y.user a)) c
  walled a c live =
      let u = t.sessions.user a in
      let known = kept.1.known a live in
      subst (λ (v : ℕ). (wall_between t u c ≡ true) ↔ Rival policy (y.objects v) c) (sym (h.subjects a live)) (
        λ e. rival u c known e,
        λ x. go (wall_between t u c) refl (λ e. no_rival u c known e x),
      )
    where
      go : {b : Bool} (x : Bool) → b ≡ x → (b ≡ false → ⊥) → b ≡ true
      go true e n = e
      go false e n = absurd (n e)

  -- The reply to a check or a commit that no check before WALL refuses.
  wall-reply : (fs : List Form) (s : Bytes) (reply : ℕ) → reply ≡ first (form_checks fs s ++ check_checks t (decode s).a (decode s).b (decode s).c) →
      Reaches WALL reply
      → Decided policy (committed_by y (decode s)) (decode s).c reply
  unfolding form_checks check_checks
  wall-reply fs s reply e reaches =
      let r = decode s in
      let early : List Check = form_checks fs s
      ++ ((not (t.sessions.live r.a), UNKNOWN)
      ∷ (not (allowed t.policy.permissions (down t.policy.seniority (t.sessions.active r.a)) r.b r.c), DENIED)
      ∷ []) in
      let last : List Check = (wall_between t (t.sessions.user r.a) r.c, WALL) ∷ [] in
      let p = reaches-passed WALL early last (omega arith) (omega arith) (subst (Reaches WALL) e reaches) in
      let live = not-false (t.sessions.live r.a) p.1.1.0 in
      subst (λ (u : ℕ). Decided policy (y.objects u) r.c reply) (sym (h.subjects r.a live))
      (decided (t.sessions.user r.a) r.c (kept.1.known r.a live) reply (e ∙ first-passed early last p))

pub clerks-keep-to-one-block : ClerksKeepToOneBlock
clerks-keep-to-one-block = record {
  engine = λ policy accepted ss u.
      let k = kept-after policy accepted ss in
      keeps-to-one (records_of policy) (tables_next policy ss).lower (k.0, k.2) (commits_after policy ss) (told-after policy accepted ss) u;
  dealers = λ policy accepted ss u.
      keeps-to-one (records_of policy) (lower_after policy ss) (lower-kept-after policy accepted ss) (lower_commits_after policy ss)
      (lower-told-after policy accepted ss) u;
}

-- The checks of kinds 56 and 59.
pub engine-reply : (t : Engine) (s : Bytes) → CheckOrCommit s
    → (request t s).reply ≡ first (form_checks request_forms s ++ check_checks t.lower (decode s).a (decode s).b (decode s).c)
unfolding request answer reply_to request_kinds upper_kinds shared_kinds widened lower_kinds role_kinds session_kinds keep each chosen
engine-reply t s (inl e) = ap (λ (n : ℕ). first (form_checks request_forms s ++ (chosen request_kinds n).checks t (decode s))) e
engine-reply t s (inr e) = ap (λ (n : ℕ). first (form_checks request_forms s ++ (chosen request_kinds n).checks t (decode s))) e

pub lower-reply : (t : Lower) (s : Bytes) → CheckOrCommit s
    → (lower_request t s).reply ≡ first (form_checks lower_forms s ++ check_checks t (decode s).a (decode s).b (decode s).c)
unfolding lower_request answer reply_to lower_kinds role_kinds session_kinds chosen
lower-reply t s (inl e) = ap (λ (n : ℕ). first (form_checks lower_forms s ++ (chosen lower_kinds n).checks t (decode s))) e
lower-reply t s (inr e) = ap (λ (n : ℕ). first (form_checks lower_forms s ++ (chosen lower_kinds n).checks t (decode s))) e

pub wall-exactly-when : WallExactlyWhen
wall-exactly-when = record {
  engine = λ policy accepted ss s kind reaches.
      let t = tables_next policy ss in
      let k = kept-after policy accepted ss in
      wall-reply (records_of policy) t.lower (k.0, k.2) (commits_after policy ss) (told-after policy accepted ss) request_forms s (request t s).reply
      (engine-reply t s kind) reaches;
  dealers = λ policy accepted ss s kind reaches.
      let t = lower_after policy ss in
      wall-reply (records_of policy) t (lower-kept-after policy accepted ss) (lower_commits_after policy ss) (lower-told-after policy accepted ss) lower_forms s
      (lower_request t s).reply (lower-reply t s kind) reaches;
}

-- ---- Users who are deleted or added are bound to no block.
granted-next : (t : Engine) (s : Bytes) → (request t s).reply ≡ 0 → (request t s).tables ≡ (chosen request_kinds (decode s).kind).next t (decode s)
unfolding request answer
granted-next t s e = ap (λ (q : ℕ). granted q ((chosen request_kinds (decode s).kind).next t (decode s)) t) e

forgotten : (t : Engine) (s : Bytes) → (decode s).kind ≡ 33 → (request t s).reply ≡ 0 → BoundNowhere (request t s).tables.lower.sessions.bound_to (decode s).a
unfolding request_kinds upper_kinds chosen forget_next user_gone
forgotten t s e g w =
    ap (λ (x : Engine). x.lower.sessions.bound_to (decode s).a w) (granted-next t s g)
    ∙ ap (λ (n : ℕ). ((chosen request_kinds n).next t (decode s)).lower.sessions.bound_to (decode s).a w) e
    ∙ ap (λ (f : ℕ → Maybe ℕ). f w) (upd_same t.lower.sessions.bound_to (decode s).a (decode s).a (λ _. none) refl)

unbound : (t : Engine) (s : Bytes) (y : Commits) → Told t.lower y → (decode s).kind ≡ 32 → (request t s).reply ≡ 0
    → BoundNowhere (request t s).tables.lower.sessions.bound_to (decode s).a
unfolding request answer request_kinds upper_kinds shared_kinds widened lower_kinds role_kinds session_kinds keep each chosen join_checks
unbound t s y h e g w =
    let p = (reply-passed request_forms request_kinds (numbered request_kinds engine-order) t s g).1 in
    let c : Passed ((chosen request_kinds 32).checks t (decode s)) = subst (λ (n : ℕ). Passed ((chosen request_kinds n).checks t (decode s))) e p in
    ap (λ (x : Engine). x.lower.sessions.bound_to (decode s).a w) (granted-next t s g)
    ∙ ap (λ (n : ℕ). ((chosen request_kinds n).next t (decode s)).lower.sessions.bound_to (decode s).a w) e
    ∙ h.free (decode s).a c.1.0 w

pub deleting-forgets : DeletingForgets
deleting-forgets = record {
  deleted = forgotten;
  added = λ policy accepted ss s e g. unbound (tables_next policy ss) s (commits_after policy ss) (told-after policy accepted ss) e g;
}
