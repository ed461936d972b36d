-- The theorem ToldInOrder: the entries of each order, the oldest first, are its granted claims less the released ones, in the order of the requests.
use Prim.Native.Nat.{ℕ, zero, suc}
use mathlib.Core.Path.{◌≡◌, refl, sym, ap, subst, ◌∙◌}
use mathlib.Core.Bool.{Bool, true, false, not, cond, ◌&&◌, true≢false}
use mathlib.Core.List.{List, [], ◌∷◌, ◌++◌, append-nil, append_assoc}
use borrow.Author.Tests.{eqb-true}
use lib.Dec.{eqb}
use Rattle.paper_lower.specs.Lists.{add, keep, each}
use Rattle.paper_lower.specs.Checks.{GRANTED, granted}
use Rattle.paper_lower.specs.Records.{Bytes, Record, decode}
use Rattle.paper_lower.specs.Kinds.{Kind, chosen, Said, run, after}
use Rattle.paper_lower.specs.Load.{load, records_of}
use Rattle.paper_lower.proofs.ListLaws.{◌⨾◌}
use Rattle.paper_lower.proofs.KindLaws.{of-chosen}
use Rattle.paper_upper.specs.Orders.{Entry, entry, no_orders}
use Rattle.paper_upper.specs.Orders.Standing.{held, done}
use Rattle.paper_upper.specs.Engine.{engine_of}
use Rattle.theorems.specs.Outside.{Told, nothing, of_instance, theirs, now_done, telling, hear, hear_all, followed, outside}
use Rattle.theorems.specs.Entering.{granted_in, removes, alters, left, entered, oldest_first, ToldInOrder}
use Rattle.theorems.specs.Theorems.{said_after}
use Rattle.theorems.proofs.Outside.{told-is-true}

-- ---- Lists.
keep-add : (q : Entry → Bool) (es : List Entry) (e : Entry) → keep q (add es e) ≡ cond (q e) (add (keep q es) e) (keep q es)
unfolding keep add
keep-add q [] e = refl
keep-add q (x ∷ es) e = rw (keep-add q es e) (go (q x) (q e))
  where
    go : (a b : Bool) → cond a (x ∷ cond b (add (keep q es) e) (keep q es)) (cond b (add (keep q es) e) (keep q es))
        ≡ cond b (add (cond a (x ∷ keep q es) (keep q es)) e) (cond a (x ∷ keep q es) (keep q es))
    go true true = refl
    go true false = refl
    go false true = refl
    go false false = refl

keep-turned : (q : Entry → Bool) (es : List Entry) → oldest_first (keep q es) ≡ keep q (oldest_first es)
unfolding keep oldest_first
keep-turned q [] = refl
keep-turned q (e ∷ es) = sym (keep-add q (oldest_first es) e ∙ rw (← keep-turned q es) (go (q e)))
  where
    go : (b : Bool) → cond b (add (oldest_first (keep q es)) e) (oldest_first (keep q es)) ≡ oldest_first (cond b (e ∷ keep q es) (keep q es))
    go true = refl
    go false = refl

each-add : (g : Entry → Entry) (es : List Entry) (e : Entry) → each g (add es e) ≡ add (each g es) (g e)
unfolding each add
each-add g [] e = refl
each-add g (x ∷ es) e = ap (◌∷◌ (g x)) (each-add g es e)

each-turned : (g : Entry → Entry) (es : List Entry) → oldest_first (each g es) ≡ each g (oldest_first es)
unfolding each oldest_first
each-turned g [] = refl
each-turned g (e ∷ es) = ap (λ (zs : List Entry). add zs (g e)) (each-turned g es) ∙ sym (each-add g (oldest_first es) e)

keep_all : (es : List Entry) → keep (λ _. true) es ≡ es
unfolding keep
keep_all [] = refl
keep_all (e ∷ es) = ap (◌∷◌ e) (keep_all es)

each_same : (es : List Entry) → each (λ e. e) es ≡ es
unfolding each
each_same [] = refl
each_same (e ∷ es) = ap (◌∷◌ e) (each_same es)

-- ---- The entries after a granted record of kind n. Only kinds 49 to 52 change entries.

-- What it leaves of the entries before it.
abbrev leaving : ℕ → Record → List Entry → List Entry
leaving n r es =
    each (λ e. cond (eqb n 52) (now_done r.b r.c r.a e) e)
    (keep (λ e. not (cond (eqb n 51) (theirs r.b r.c r.a e) (cond (eqb n 49) (of_instance r.a e) false))) es)

-- The entry that a claim adds.
abbrev claim_of : Told → Record → Entry
claim_of x r = entry r.b (x.sessions.user r.a) r.c (held r.a)

-- The same, with the entry that a claim adds.
abbrev next_of : ℕ → Told → Record → List Entry
next_of n x r = cond (eqb n 50) (claim_of x r ∷ leaving n r x.orders.entries) (leaving n r x.orders.entries)

-- A kind other than 49 to 52 does not change the entries.
abbrev Silent : ℕ → Kind Told → Type 0
Silent n k =
    (eqb n 49 ≡ false) → (eqb n 50 ≡ false) → (eqb n 51 ≡ false) → (eqb n 52 ≡ false) → (x : Told) (r : Record) →
    (k.next x r).orders.entries ≡ x.orders.entries

silent : (n : ℕ) → Silent n (chosen telling n)
unfolding telling chosen
silent = of-chosen Silent telling
    ((λ a b c d x r. refl) ⨾ (λ a b c d x r. refl) ⨾ (λ a b c d x r. refl) ⨾ (λ a b c d x r. refl) ⨾ (λ a b c d x r. refl)
    ⨾ (λ a b c d x r. refl) ⨾ (λ a b c d x r. refl) ⨾ (λ a b c d x r. refl) ⨾ (λ a b c d x r. refl) ⨾ (λ a b c d x r. refl)
    ⨾ (λ a b c d x r. refl) ⨾ (λ a b c d x r. refl) ⨾ (λ a b c d x r. refl) ⨾ (λ a b c d x r. refl)
    ⨾ (λ a b c d x r. absurd (true≢false a)) ⨾ (λ a b c d x r. absurd (true≢false b)) ⨾ (λ a b c d x r. absurd (true≢false c)) ⨾
    (λ a b c d x r. absurd (true≢false d))
    ⨾ (λ a b c d x r. refl) ⨾ (λ a b c d x r. refl) ⨾ tt) (λ n a b c d x r. refl)

heard : (x : Told) (r : Record) → (hear x r).orders.entries ≡ next_of r.kind x r
unfolding hear telling chosen
heard x r = go (eqb r.kind 49) refl (eqb r.kind 50) refl (eqb r.kind 51) refl (eqb r.kind 52) refl
  where
    es : List Entry
    es = x.orders.entries

    -- The statement for a known kind n.
    at : (n : ℕ) → ((chosen telling n).next x r).orders.entries ≡ next_of n x r → r.kind ≡ n →
        ((chosen telling r.kind).next x r).orders.entries ≡ next_of r.kind x r
    at n h e = subst (λ (k : ℕ). ((chosen telling k).next x r).orders.entries ≡ next_of k x r) (sym e) h

    go : (a : Bool) → eqb r.kind 49 ≡ a → (b : Bool) → eqb r.kind 50 ≡ b → (c : Bool) → eqb r.kind 51 ≡ c → (d : Bool) → eqb r.kind 52 ≡ d
        → ((chosen telling r.kind).next x r).orders.entries ≡ next_of r.kind x r
    go true p b q c u d v = at 49 (sym (each_same (keep (λ e. not (of_instance r.a e)) es))) (eqb-true _ _ p)
    go false p true q c u d v = at 50 (ap (◌∷◌ (claim_of x r)) (sym (each_same (keep (λ e. true) es) ∙ keep_all es))) (eqb-true _ _ q)
    go false p false q true u d v = at 51 (sym (each_same (keep (λ e. not (theirs r.b r.c r.a e)) es))) (eqb-true _ _ u)
    go false p false q false u true v = at 52 (ap (each (now_done r.b r.c r.a)) (sym (keep_all es))) (eqb-true _ _ v)
    go false p false q false u false v =
        silent r.kind p q u v x r ∙ sym (rw (p, q, u, v) (each_same (keep (λ e. true) es) ∙ keep_all es))

-- ---- What remains of entries of instance i after granted records. The entries are given with the oldest first.
unfoldable remain : ℕ → List Entry → List Record → List Entry
remain i [] rs = []
remain i (e ∷ es) rs = cond (of_instance i e) (left e rs) [] ++ remain i es rs

remain-now : (i : ℕ) (es : List Entry) → remain i es [] ≡ keep (of_instance i) es
unfolding remain keep left
remain-now i [] = refl
remain-now i (e ∷ es) = rw (remain-now i es) (go (of_instance i e))
  where
    go : (b : Bool) → cond b (e ∷ []) [] ++ keep (of_instance i) es ≡ cond b (e ∷ keep (of_instance i) es) (keep (of_instance i) es)
    go true = refl
    go false = refl

remain-add : (i : ℕ) (es : List Entry) (e : Entry) (rs : List Record) → remain i (add es e) rs ≡ remain i es rs ++ cond (of_instance i e) (left e rs) []
unfolding remain add
remain-add i [] e rs = append-nil (cond (of_instance i e) (left e rs) [])
remain-add i (x ∷ es) e rs =
    ap (◌++◌ (cond (of_instance i x) (left x rs) [])) (remain-add i es e rs)
    ∙ sym (append_assoc (cond (of_instance i x) (left x rs) []) (remain i es rs) (cond (of_instance i e) (left e rs) []))

-- A record does not change the instance of an entry.
stays : (i : ℕ) (r : Record) (e : Entry) → of_instance i (alters r e) ≡ of_instance i e
unfolding alters now_done of_instance
stays i r e = go (eqb r.kind 52) (theirs r.b r.c r.a e)
  where
    go : (a b : Bool) → eqb (cond a (cond b (entry e.instance e.user e.task done) e) e).instance i ≡ eqb e.instance i
    go true true = refl
    go true false = refl
    go false b = refl

-- One more record: it removes some of the entries and marks some as done.
remain-more : (i : ℕ) (r : Record) (rs : List Record) (es : List Entry) →
    remain i (each (alters r) (keep (λ e. not (removes r e)) es)) rs ≡ remain i es (r ∷ rs)
unfolding remain keep each left
remain-more i r rs [] = refl
remain-more i r rs (e ∷ es) = go (removes r e) refl (remain-more i r rs es)
  where
    none : (b : Bool) (zs : List Entry) → zs ≡ cond b [] [] ++ zs
    none true zs = refl
    none false zs = refl

    go : (b : Bool) → removes r e ≡ b → remain i (each (alters r) (keep (λ e. not (removes r e)) es)) rs ≡ remain i es (r ∷ rs)
        → remain i (each (alters r) (cond (not (removes r e)) (e ∷ keep (λ e. not (removes r e)) es) (keep (λ e. not (removes r e)) es))) rs
        ≡ cond (of_instance i e) (cond (removes r e) [] (left (alters r e) rs)) [] ++ remain i es (r ∷ rs)
    go true q h = rw q (h ∙ none (of_instance i e) (remain i es (r ∷ rs)))
    go false q h = rw q (rw (stays i r e) (ap (◌++◌ (cond (of_instance i e) (left (alters r e) rs) [])) h))

-- One more record, with the entry that it adds if it is a claim.
step : (i : ℕ) (x : Told) (r : Record) (rs : List Record)
    → remain i (oldest_first (hear x r).orders.entries) rs
    ≡ remain i (oldest_first x.orders.entries) (r ∷ rs) ++ cond (eqb r.kind 50 && eqb r.b i) (left (claim_of x r) rs) []
unfolding alters removes of_instance oldest_first
step i x r rs = ap (λ (es : List Entry). remain i (oldest_first es) rs) (heard x r) ∙ go (eqb r.kind 50)
  where
    es : List Entry
    es = x.orders.entries

    was : remain i (oldest_first (leaving r.kind r es)) rs ≡ remain i (oldest_first es) (r ∷ rs)
    was = turned ∙ remain-more i r rs (oldest_first es)
      where
        turned : remain i (oldest_first (leaving r.kind r es)) rs ≡ remain i (each (alters r) (keep (λ e. not (removes r e)) (oldest_first es))) rs
        turned =
            ap (λ (zs : List Entry). remain i zs rs)
            (each-turned (alters r) (keep (λ e. not (removes r e)) es) ∙ ap (each (alters r)) (keep-turned (λ e. not (removes r e)) es))

    go : (b : Bool) → remain i (oldest_first (cond b (claim_of x r ∷ leaving r.kind r es) (leaving r.kind r es))) rs
        ≡ remain i (oldest_first es) (r ∷ rs) ++ cond (b && eqb r.b i) (left (claim_of x r) rs) []
    go true =
        remain-add i (oldest_first (leaving r.kind r es)) (claim_of x r) rs ∙
        ap (λ (zs : List Entry). zs ++ cond (eqb r.b i) (left (claim_of x r) rs) []) was
    go false = was ∙ sym (append-nil (remain i (oldest_first es) (r ∷ rs)))

-- ---- All granted records.
follows : (i : ℕ) (rs : List Record) (x : Told)
    → oldest_first (keep (of_instance i) (hear_all x rs).orders.entries) ≡ remain i (oldest_first x.orders.entries) rs ++ entered i x rs
unfolding hear_all entered
follows i [] x =
    keep-turned (of_instance i) x.orders.entries
    ∙ sym (append-nil (remain i (oldest_first x.orders.entries) []) ∙ remain-now i (oldest_first x.orders.entries))
follows i (r ∷ rs) x =
    let claim = cond (eqb r.kind 50 && eqb r.b i) (left (claim_of x r) rs) [] in
    follows i rs (hear x r)
    ∙ ap (λ (zs : List Entry). zs ++ entered i (hear x r) rs) (step i x r rs)
    ∙ append_assoc (remain i (oldest_first x.orders.entries) (r ∷ rs)) claim (entered i (hear x r) rs)

granted-told : (x : Told) (ys : List Said) → followed hear x ys ≡ hear_all x (granted_in ys)
unfolding followed hear_all granted_in
granted-told x [] = refl
granted-told x (y ∷ ys) = go y.reply (granted-told x ys) (granted-told (hear x (decode y.request)) ys)
  where
    go : (q : ℕ) → followed hear x ys ≡ hear_all x (granted_in ys) →
        followed hear (hear x (decode y.request)) ys ≡ hear_all (hear x (decode y.request)) (granted_in ys)
        → followed hear (granted q (hear x (decode y.request)) x) ys ≡ hear_all x (granted q (decode y.request ∷ granted_in ys) (granted_in ys))
    go zero a b = b
    go (suc q) a b = a

-- The records of a policy add no entries.
none_yet : (policy : Bytes) → (load policy).reply ≡ GRANTED → (hear_all nothing (records_of policy)).orders.entries ≡ []
unfolding outside followed run after engine_of no_orders
none_yet policy accepted = ap (λ (z : Told). z.orders.entries) (told-is-true policy accepted [])

pub told-in-order : ToldInOrder
unfolding outside oldest_first remain
told-in-order policy accepted ss i =
    let x = hear_all nothing (records_of policy) in
    let said = said_after policy ss in
    ap (λ (z : Told). oldest_first (keep (of_instance i) z.orders.entries)) (granted-told x said)
    ∙ follows i (granted_in said) x
    ∙ ap (λ (es : List Entry). remain i (oldest_first es) (granted_in said) ++ entered i x (granted_in said)) (none_yet policy accepted)
