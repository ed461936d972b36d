-- What an observer knows: users, subjects, open orders and their entries, from records and their replies alone. No table of the engine is used.
use Rattle.std.specs.Prelude.{ℕ, Bool, true, false, not, cond, ◌&&◌, List, [], ◌∷◌, eqb}
use Rattle.paper_lower.specs.Sets.{Set, empty, plus, minus}
use Rattle.paper_lower.specs.Lists.{upd, Maybe, or_else, add, keep, each}
use Rattle.paper_lower.specs.Lists.Maybe.{none, just}
use Rattle.paper_lower.specs.Checks.{granted}
use Rattle.paper_lower.specs.Records.{Bytes, Record, decode}
use Rattle.paper_lower.specs.Kinds.{Kind, on, chosen, Said}
use Rattle.paper_lower.specs.Tables.{Walled, Sessions, with_bound_to}
use Rattle.paper_lower.specs.Policy.{block_of}
use Rattle.paper_lower.specs.Load.{records_of}
use Rattle.paper_upper.specs.Orders.{Standing, Entry, entry, Orders}
use Rattle.paper_upper.specs.Orders.Standing.{held, done}

-- An observer's knowledge: who is a user, and the roles assigned to each; the roles that have each permission;
-- the objects in walls; each live subject's user, its active roles and all that it has had active; the block
-- that each user is bound to in each wall; the open orders with their templates, and their entries.
pub record Told : Type 0 where
  pub users : ℕ → Bool
  pub assigned : ℕ → Set
  pub holders : ℕ → Set
  pub walls : List Walled
  pub sessions : Sessions
  pub orders : Orders

-- The knowledge before any record.
unfoldable pub nothing : Told
nothing =
    record {
      users = λ _. false;
      assigned = λ _. empty;
      holders = λ _. empty;
      walls = [];
      sessions = record { live = λ _. false; user = λ _. 0; active = λ _. empty; had = λ _. empty; bound_to = λ _ _. none };
      orders = record { opened = λ _. none; entries = [] };
    }

-- ---- Each of these changes one part of the knowledge.
abbrev pub told_people : Told → (ℕ → Bool) → (ℕ → Set) → Told
told_people x users assigned =
    record { users = users; assigned = assigned; holders = x.holders; walls = x.walls; sessions = x.sessions; orders = x.orders }

-- User u is or is not a user, and has the roles m.
abbrev pub told_user : Told → ℕ → Bool → Set → Told
told_user x u is m = told_people x (upd x.users u is) (upd x.assigned u m)

-- User u has the roles m.
abbrev pub told_roles : Told → ℕ → Set → Told
told_roles x u m = told_people x x.users (upd x.assigned u m)

-- The roles m have permission p.
abbrev pub told_holders : Told → ℕ → Set → Told
told_holders x p m =
    record { users = x.users; assigned = x.assigned; holders = upd x.holders p m; walls = x.walls; sessions = x.sessions; orders = x.orders }

-- These are the objects in walls.
abbrev pub told_walls : Told → List Walled → Told
told_walls x walls = record { users = x.users; assigned = x.assigned; holders = x.holders; walls = walls; sessions = x.sessions; orders = x.orders }

-- These are the sessions.
abbrev pub told_sessions : Told → Sessions → Told
told_sessions x s = record { users = x.users; assigned = x.assigned; holders = x.holders; walls = x.walls; sessions = s; orders = x.orders }

-- User u is bound to these blocks.
abbrev pub told_bound : Told → ℕ → (ℕ → Maybe ℕ) → Told
told_bound x u blocks = told_sessions x (with_bound_to x.sessions (upd x.sessions.bound_to u blocks))

-- Subject s is or is not live, for this user, with these roles active and no others had before.
abbrev pub told_subject : Told → ℕ → Bool → ℕ → Set → Told
told_subject x s live user roles =
    told_sessions x
    (record {
      live = upd x.sessions.live s live;
      user = upd x.sessions.user s user;
      active = upd x.sessions.active s roles;
      had = upd x.sessions.had s roles;
      bound_to = x.sessions.bound_to;
    })

-- The subjects' active roles, and those that they have had active.
abbrev pub told_active : Told → (ℕ → Set) → (ℕ → Set) → Told
told_active x active had =
    told_sessions x (record { live = x.sessions.live; user = x.sessions.user; active = active; had = had; bound_to = x.sessions.bound_to })

-- The open orders and their entries.
abbrev pub told_orders : Told → (ℕ → Maybe ℕ) → List Entry → Told
told_orders x f es =
    record {
      users = x.users;
      assigned = x.assigned;
      holders = x.holders;
      walls = x.walls;
      sessions = x.sessions;
      orders = record { opened = f; entries = es };
    }

-- The entries.
abbrev pub told_entries : Told → List Entry → Told
told_entries x es = told_orders x x.orders.opened es

-- ---- Which entries a request names. These definitions share nothing with the functions by which the engine finds them.

-- Whether the entry is of instance i.
unfoldable pub of_instance : ℕ → Entry → Bool
of_instance i e = eqb e.instance i

-- Whether the entry is held by subject a.
unfoldable pub in_hand : ℕ → Standing → Bool
in_hand a (held s) = eqb s a
in_hand a done = false

-- Whether the entry is of task t in instance i and is held by subject a.
unfoldable pub theirs : ℕ → ℕ → ℕ → Entry → Bool
theirs i t a e = of_instance i e && eqb e.task t && in_hand a e.standing

-- That entry, marked as done; other entries unchanged.
unfoldable pub now_done : ℕ → ℕ → ℕ → Entry → Entry
now_done i t a e = cond (theirs i t a e) (entry e.instance e.user e.task done) e

-- ---- What follows from a granted record of each kind. Other kinds change nothing.

-- A kind that changes the knowledge by f.
abbrev pub tells : ℕ → (Told → Record → Told) → Kind Told
tells k f = on k (λ x r. []) f

-- All kinds that change the knowledge.
unfoldable pub telling : List (Kind Told)
telling =
    -- "1 user a." "33 delete user a.": the user has no roles then. "kind 32 now takes roles in m". 02, Ask 11: "Deleting a user forgets the binding"
    tells 1 (λ x r. told_user x r.a true empty)
    ∷ tells 32 (λ x r. told_user x r.a true r.m)
    ∷ tells 33 (λ x r. told_bound (told_user x r.a false empty) r.a (λ _. none))
    -- "4 user a has role b." "34 assign role b to user a. 35 take it back."
    ∷ tells 4 (λ x r. told_roles x r.a (plus (x.assigned r.a) r.b))
    ∷ tells 34 (λ x r. told_roles x r.a (plus (x.assigned r.a) r.b))
    ∷ tells 35 (λ x r. told_roles x r.a (minus (x.assigned r.a) r.b))
    -- "5 role a has permission b." "36 give role a permission b. 37 take it back."
    ∷ tells 5 (λ x r. told_holders x r.b (plus (x.holders r.b) r.a))
    ∷ tells 36 (λ x r. told_holders x r.b (plus (x.holders r.b) r.a))
    ∷ tells 37 (λ x r. told_holders x r.b (minus (x.holders r.b) r.a))
    -- "40 create subject a for user b with active roles m. 41 destroy subject a. 42 activate role b in subject a. 43 deactivate it."
    ∷ tells 40 (λ x r. told_subject x r.a true r.b r.m)
    ∷ tells 41 (λ x r. told_subject x r.a false 0 empty)
    -- "Each subject's record keeps every role it has had active"
    ∷ tells 42 (λ x r.
    told_active x (upd x.sessions.active r.a (plus (x.sessions.active r.a) r.b))
    (upd x.sessions.had r.a (plus (x.sessions.had r.a) r.b)))
    ∷ tells 43 (λ x r. told_active x (upd x.sessions.active r.a (minus (x.sessions.active r.a) r.b)) x.sessions.had)
    -- "48 open instance a of template b. 49 end instance a.": "ending the instance removes all its entries"
    ∷ tells 48 (λ x r. told_orders x (upd x.orders.opened r.a (just r.b)) x.orders.entries)
    ∷ tells 49 (λ x r. told_orders x (upd x.orders.opened r.a none) (keep (λ e. not (of_instance r.a e)) x.orders.entries))
    -- "A granted claim enters (instance, user, task, held), the user being the subject's; the claiming subject is kept with it while it is
    -- held. Release removes it; done turns it from held to done"
    ∷ tells 50 (λ x r. told_entries x (entry r.b (x.sessions.user r.a) r.c (held r.a) ∷ x.orders.entries))
    ∷ tells 51 (λ x r. told_entries x (keep (λ e. not (theirs r.b r.c r.a e)) x.orders.entries))
    ∷ tells 52 (λ x r. told_entries x (each (now_done r.b r.c r.a) x.orders.entries))
    -- 02, Ask 11: "policy kind 18, wall a (0 to 15), block b (0 to 15), object c"; "Request kind 59, commit": "if granted, the user is bound to the object's
    -- block in every wall that has it"
    ∷ tells 18 (λ x r. told_walls x (add x.walls (record { wall = r.a; block = r.b; object = r.c })))
    ∷ tells 59 (λ x r.
    told_bound x (x.sessions.user r.a) (λ w. or_else (block_of x.walls r.c w) (x.sessions.bound_to (x.sessions.user r.a) w)))
    ∷ []

-- The knowledge after a granted record.
unfoldable pub hear : Told → Record → Told
hear x r = (chosen telling r.kind).next x r

-- The knowledge after granted records.
unfoldable pub hear_all : Told → List Record → Told
hear_all x [] = x
hear_all x (r ∷ rs) = hear_all (hear x r) rs

-- Follows requests and their replies: f is applied for each granted request, and nothing for a refused one.
unfoldable pub followed : {X : Type 0} → (X → Record → X) → X → List Said → X
followed f x [] = x
followed f x (y ∷ ys) = followed f (granted y.reply (f x (decode y.request)) x) ys

-- The knowledge after the records of an accepted policy and the requests that followed it.
unfoldable pub outside : Bytes → List Said → Told
outside policy ys = followed hear (hear_all nothing (records_of policy)) ys
