-- 02, Ask 9: "Keep each open instance's entries linked in order of entry". The order of entry, from the requests and their replies alone: an order's entries,
-- the oldest first, are its granted claims less the released ones, in the order of the claims.
use Rattle.std.specs.Prelude.{ℕ, ◌≡◌, Bool, false, cond, ◌&&◌, List, [], ◌∷◌, ◌++◌, eqb}
use Rattle.paper_lower.specs.Lists.{add, keep}
use Rattle.paper_lower.specs.Checks.{granted}
use Rattle.paper_lower.specs.Records.{Bytes, Record, decode}
use Rattle.paper_lower.specs.Kinds.{Said}
use Rattle.paper_lower.specs.Load.{records_of}
use Rattle.paper_upper.specs.Orders.{Entry, entry}
use Rattle.paper_upper.specs.Orders.Standing.{held}
use Rattle.theorems.specs.Outside.{Told, nothing, of_instance, theirs, now_done, hear, hear_all}
use Rattle.theorems.specs.Theorems.{AfterEvery, said_after, told_after}

-- The records of the granted requests.
unfoldable pub granted_in : List Said → List Record
granted_in [] = []
granted_in (y ∷ ys) = granted y.reply (decode y.request ∷ granted_in ys) (granted_in ys)

-- ---- What happens to one entry.

-- Whether the record removes the entry: "Release removes it .. ending the instance removes all its entries"
unfoldable pub removes : Record → Entry → Bool
removes r e = cond (eqb r.kind 51) (theirs r.b r.c r.a e) (cond (eqb r.kind 49) (of_instance r.a e) false)

-- The entry after the record: "done turns it from held to done"
unfoldable pub alters : Record → Entry → Entry
alters r e = cond (eqb r.kind 52) (now_done r.b r.c r.a e) e

-- What remains of an entry after these granted records: the entry, held or done, or nothing.
unfoldable pub left : Entry → List Record → List Entry
left e [] = e ∷ []
left e (r ∷ rs) = cond (removes r e) [] (left (alters r e) rs)

-- ---- What remains of the claims of instance i among these granted records. "A granted claim enters (instance, user, task, held), the user being the
-- subject's": the user is the one that the observer knew before the claim.
unfoldable pub entered : ℕ → Told → List Record → List Entry
entered i x [] = []
entered i x (r ∷ rs) =
    cond (eqb r.kind 50 && eqb r.b i) (left (entry r.b (x.sessions.user r.a) r.c (held r.a)) rs) [] ++ entered i (hear x r) rs

-- The same after an accepted policy and the requests that followed it.
abbrev pub entered_after : ℕ → Bytes → List Said → List Entry
entered_after i policy said = entered i (hear_all nothing (records_of policy)) (granted_in said)

-- ---- An observer's list of entries has the newest first.

-- The list with the oldest first.
unfoldable pub oldest_first : List Entry → List Entry
oldest_first [] = []
oldest_first (e ∷ es) = add (oldest_first es) e

-- The entries of each order, as an observer knows them, are in the order of entry.
abbrev pub ToldInOrder : Type 0
ToldInOrder =
    AfterEvery (λ policy requests. (i : ℕ)
    → oldest_first (keep (of_instance i) (told_after policy requests).orders.entries) ≡ entered_after i policy (said_after policy requests))
