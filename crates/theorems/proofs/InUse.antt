-- The number of entries in use equals the count from the requests and their replies (specs/InUse.antt).
use Prim.Native.Nat.{ℕ, ◌+◌, ◌-◌, ◌≤◌}
use mathlib.Core.Path.{◌≡◌, refl, sym, ap, ◌∙◌}
use mathlib.Core.Bool.{Bool, true, false, not, ◌&&◌, true≢false, false≢true}
use mathlib.Core.List.{List}
use mathlib.Core.Logic.{⊎_elim}
use native.Mathlib.Omega.{arith}
use borrow.Author.Tests.{eqb-true, eq-eqb, ne_eqb, not-false}
use lib.Dec.{eqb}
use Rattle.paper_lower.specs.Lists.{upd, holds, there, some, many, keep, each, Every}
use Rattle.paper_lower.specs.Lists.Maybe.{none, just}
use Rattle.paper_lower.specs.Records.{Bytes, Record}
use Rattle.paper_lower.specs.Forms.{request_forms}
use Rattle.paper_lower.specs.Kinds.{chosen}
use Rattle.paper_lower.specs.Load.{load, records_of}
use Rattle.paper_lower.specs.Roles.{role_kinds}
use Rattle.paper_lower.specs.Sessions.{session_kinds, lower_kinds}
use Rattle.paper_lower.proofs.ListLaws.{both, upd_same, upd_other, every_map, ◌⨾◌}
use Rattle.sets.proofs.Bits.{same-or-other}
use Rattle.paper_upper.specs.Orders.{Standing, is_held, is_held_by, Entry, Orders, no_orders, are_in_order, of_task, held_of}
use Rattle.paper_upper.specs.Orders.Standing.{held, done}
use Rattle.paper_upper.specs.Requests.{open_checks, open_next, end_checks, end_next, claim_checks, claim_next, hold_checks, release_next, done_next, turned, upper_kinds}
use Rattle.paper_upper.specs.Engine.{widened, shared_kinds, request_kinds, request, engine_of}
use Rattle.theorems.specs.Outside.{followed}
use Rattle.theorems.specs.InUse.{Tally, tally, no_tally, counting, count, is_in_use}
use Rattle.theorems.specs.Theorems.{tables_next, said_after}
use Rattle.theorems.proofs.Replies.{engine-order}
use Rattle.theorems.proofs.Rows.{Rows, run-follows}
use Rattle.theorems.proofs.EntryLaws.{opening, ending, claiming, releasing, finishing, turned_same}
use Rattle.theorems.proofs.CountLaws.{count-imp, count_same, count-keep, count-each, many-each, count-split, count_none, count-some}
use Rattle.theorems.proofs.Ledger.{held_task}
use Rattle.theorems.proofs.Keeps.{Kept, is_open, kept-rows, kept-load}

-- The counts x agree with the orders o: in total, and for each open instance.
pub record Tallied (o : Orders) (x : Tally) : Type 0 where
  pub all : x.ended + x.releases + many o.entries ≡ x.claims
  pub since : (i : ℕ) → there (o.opened i) ≡ true → x.since i ≡ many (keep (are_in_order i) o.entries)

-- ---- The entries of one instance and those of other instances.
elsewhere : (a k : ℕ) (e : Entry) → (k ≡ a → ⊥) → are_in_order k e ≡ true → are_in_order a e ≡ false
unfolding are_in_order
elsewhere a k e n h = ne_eqb _ _ (λ q. n (sym (eqb-true _ _ h) ∙ q))

-- If all entries of instance k are kept, their number stays the same.
kept_in : (k : ℕ) (q : Entry → Bool) (es : List Entry) → ((e : Entry) → are_in_order k e ≡ true → q e ≡ true)
    → many (keep (are_in_order k) (keep q es)) ≡ many (keep (are_in_order k) es)
kept_in k q es f = count-keep (are_in_order k) q es ∙ count_same (λ e. q e && are_in_order k e) (are_in_order k) es (λ e. go (are_in_order k e) (q e) (f e))
  where
    go : (b c : Bool) → (b ≡ true → c ≡ true) → c && b ≡ b
    go true c h = rw (h refl)
    go false true h = refl
    go false false h = refl

held_in : (b c a : ℕ) (e : Entry) → held_of b c a e ≡ true → are_in_order b e ≡ true
unfolding held_of of_task
held_in b c a e h = (both (are_in_order b e) (eqb e.task c) (both (are_in_order b e && eqb e.task c) (is_held_by a e.standing) h).0).0

held-task : (b c a : ℕ) (e : Entry) → held_of b c a e ≡ true → held_task b c e ≡ true
unfolding held_of is_held_by is_held
held-task b c a e h = let s = both (of_task b c e) (is_held_by a e.standing) h in rw s.0 (go e.standing s.1)
  where
    go : (x : Standing) → is_held_by a x ≡ true → is_held x ≡ true
    go (held k) h = refl
    go done h = h

module _ (o : Orders) (x : Tally) (h : Tallied o x) where
  tally-open : (a b : ℕ) → Every (λ e. there (o.opened e.instance) ≡ true) o.entries → there (o.opened a) ≡ false
      → Tallied (opening o a b) (tally x.claims x.releases (upd x.since a 0) x.ended)
  unfolding are_in_order
  tally-open a b open-orders new = record {
    all = h.all;
    since = λ k l. ⊎_elim
        (λ (e : k ≡ a). upd_same x.since a k 0 e ∙ sym (count_none (are_in_order k) o.entries (every_map o.entries (λ d c.
        ne_eqb d.instance k (λ q. true≢false (sym c ∙ ap (λ (i : ℕ). there (o.opened i)) (q ∙ e) ∙ new))) open-orders)))
        (λ n. upd_other x.since a k 0 n ∙ h.since k (sym (ap there (upd_other o.opened a k (just b) n)) ∙ l)) (same-or-other k a);
  }

  tally-end : (a : ℕ) → there (o.opened a) ≡ true
      → Tallied (ending o a) (tally x.claims x.releases x.since (x.ended + x.since a))
  unfolding holds
  tally-end a stands = record {
    all = let s = count-split (are_in_order a) o.entries in let m = h.all in let n = h.since a stands in omega arith;
    since = λ k l. ⊎_elim
        (λ e. absurd (false≢true (sym (ap there (upd_same o.opened a k none e)) ∙ l)))
        (λ n. h.since k (sym (ap there (upd_other o.opened a k none n)) ∙ l)
        ∙ sym (kept_in k (λ e. not (are_in_order a e)) o.entries (λ e q. ap not (elsewhere a k e n q)))) (same-or-other k a);
  }

  tally-claim : (a b u c : ℕ) → there (o.opened b) ≡ true
      → Tallied (claiming o a b u c) (tally (x.claims + 1) x.releases (upd x.since b (x.since b + 1)) x.ended)
  unfolding many keep are_in_order
  tally-claim a b u c stands = record {
    all = let m = h.all in omega arith;
    since = λ k l. ⊎_elim
        (λ (e : k ≡ b). let m = h.since b stands in upd_same x.since b k (x.since b + 1) e ∙ rw (eq-eqb b k (sym e), ap (λ (i : ℕ). many (keep (are_in_order i) o.entries)) e) (omega arith))
        (λ n. upd_other x.since b k (x.since b + 1) n ∙ h.since k l ∙ rw (ne_eqb b k (λ q. n (sym q)))) (same-or-other k b);
  }

  -- "A task of an order has at most one holder": a release removes one entry.
  one-held : (a b c : ℕ) → many (keep (held_task b c) o.entries) ≤ 1 → some (held_of b c a) o.entries ≡ true
      → many (keep (held_of b c a) o.entries) ≡ 1
  one-held a b c most some =
      let l = count-imp (held_of b c a) (held_task b c) o.entries (held-task b c a) in
      let s = count-some (held_of b c a) o.entries some in
      omega arith

  tally-release : (a b c : ℕ) → there (o.opened b) ≡ true → many (keep (held_task b c) o.entries) ≤ 1 → some (held_of b c a) o.entries ≡ true
      → Tallied (releasing o a b c) (tally x.claims (x.releases + 1) (upd x.since b (x.since b - 1)) x.ended)
  tally-release a b c stands most some = record {
    all = let s = count-split (held_of b c a) o.entries in let m = h.all in let n = one-held a b c most some in omega arith;
    since = λ k l. ⊎_elim (λ (e : k ≡ b). upd_same x.since b k (x.since b - 1) e ∙ rw e own)
        (λ n. upd_other x.since b k (x.since b - 1) n ∙ h.since k l
        ∙ sym (kept_in k (λ e. not (held_of b c a e)) o.entries (λ e q. ap not (other k n e (held_of b c a e) refl q)))) (same-or-other k b);
  }
    where
      other : (k : ℕ) → (k ≡ b → ⊥) → (e : Entry) (v : Bool) → held_of b c a e ≡ v → are_in_order k e ≡ true → v ≡ false
      other k n e true w q = absurd (true≢false (sym (held_in b c a e w) ∙ elsewhere b k e n q))
      other k n e false w q = refl

      own : x.since b - 1 ≡ many (keep (are_in_order b) (keep (λ e. not (held_of b c a e)) o.entries))
      own =
          let m = h.since b stands in
          let n = one-held a b c most some in
          let s = count-split (held_of b c a) (keep (are_in_order b) o.entries) in
          let p = count-keep (λ e. not (held_of b c a e)) (are_in_order b) o.entries in
          let q = count-keep (held_of b c a) (are_in_order b) o.entries in
          let r = count-keep (are_in_order b) (λ e. not (held_of b c a e)) o.entries in
          let u = count_same (λ e. are_in_order b e && not (held_of b c a e)) (λ e. not (held_of b c a e) && are_in_order b e) o.entries (λ e. turn (are_in_order b e) _) in
          let v = count_same (λ e. are_in_order b e && held_of b c a e) (held_of b c a) o.entries (λ e. in_held e (held_of b c a e) refl) in
          omega arith
        where
          turn : (p q : Bool) → p && q ≡ q && p
          turn true true = refl
          turn true false = refl
          turn false true = refl
          turn false false = refl

          in_held : (e : Entry) (v : Bool) → held_of b c a e ≡ v → are_in_order b e && v ≡ v
          in_held e true w = rw (held_in b c a e w)
          in_held e false w = turn (are_in_order b e) false

  tally-finish : (a b c : ℕ) → Tallied (finishing o a b c) x
  unfolding are_in_order
  tally-finish a b c = record {
    all = let m = h.all in let n = many-each (turned b c a) o.entries in omega arith;
    since = λ k l. h.since k l
        ∙ sym (count-each (are_in_order k) (turned b c a) o.entries ∙ count_same _ (are_in_order k) o.entries (λ e. turned_same (are_in_order k) b c a e refl));
  }

-- ---- Every kind of request keeps the count right.
rows : (policy : List Record)
    → Rows request_forms (λ n t r x. Kept policy t → (y : Tally) → Tallied t.orders y → Tallied x.orders ((chosen counting n).next y r)) request_kinds
unfolding request_kinds upper_kinds widened shared_kinds lower_kinds role_kinds session_kinds keep each counting chosen open_checks open_next end_checks end_next claim_checks claim_next hold_checks release_next done_next
rows policy =
    (λ t r g p i y h. h) ⨾ (λ t r g p i y h. h)
    ⨾ (λ t r g p i y h. tally-open t.orders y h r.a r.b i.1.ledger.open-orders p.1.0)
    ⨾ (λ t r g p i y h. tally-end t.orders y h r.a (not-false _ p.0))
    ⨾ (λ t r g p i y h. tally-claim t.orders y h r.a r.b (t.lower.sessions.user r.a) r.c (is_open t r.a r.b r.c p.0))
    ⨾ (λ t r g p i y h.
    tally-release t.orders y h r.a r.b r.c (is_open t r.a r.b r.c p.0) (i.1.ledger.one-holder r.b r.c) (not-false _ p.1.0))
    ⨾ (λ t r g p i y h. tally-finish t.orders y h r.a r.b r.c)
    ⨾ (λ t r g p i y h. h)
    ⨾ (λ t r g p i y h. h)
    ⨾ (λ t r g p i y h. h)
    ⨾ (λ t r g p i y h. h) ⨾ (λ t r g p i y h. h) ⨾ (λ t r g p i y h. h) ⨾ (λ t r g p i y h. h) ⨾ (λ t r g p i y h. h) ⨾ (λ t r g p i y h. h)
    ⨾ (λ t r g p i y h. h) ⨾ (λ t r g p i y h. h) ⨾ (λ t r g p i y h. h) ⨾ (λ t r g p i y h. h) ⨾ tt

-- ---- After every accepted load and any requests.
pub counted : (policy : Bytes) → (load policy).reply ≡ 0 → (ss : List Bytes)
    → Tallied (tables_next policy ss).orders (followed count no_tally (said_after policy ss))
unfolding count engine_of no_orders no_tally many keep request
counted policy accepted ss =
    run-follows request_forms request_kinds engine-order (Kept (records_of policy)) (λ t y. Tallied t.orders y) (λ n y r. (chosen counting n).next y r)
    (kept-rows (records_of policy)) (rows (records_of policy))
    (engine_of (load policy).tables) no_tally ss (kept-load policy accepted) (record { all = refl; since = λ i l. refl })

pub in_use : (policy : Bytes) → (load policy).reply ≡ 0 → (ss : List Bytes)
    → is_in_use (said_after policy ss) ≡ many (tables_next policy ss).orders.entries
unfolding is_in_use
in_use policy accepted ss = let y = (counted policy accepted ss).all in omega arith
