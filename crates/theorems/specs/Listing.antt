-- Computed examples of what an observer knows: 01's listing, the order of entry (02, Ask 9), and the commits of a user (Ask 11).
use Rattle.std.specs.Prelude.{◌≡◌, refl, [], ◌∷◌, take}
use Rattle.paper_lower.specs.Kinds.{run}
use Rattle.paper_lower.specs.Words.{joined, words_open, add_user, delete_user, create, destroy, opened_order, claim, release, done as finish, commit, ◌⇒◌}
use Rattle.paper_lower.specs.Load.{load, records_from, records_of}
use Rattle.paper_lower.specs.Sessions.{lower_request, lower_of, lower_open}
use Rattle.paper_lower.specs.Samples.{books}
use Rattle.paper_upper.specs.Orders.{entry, orders_open}
use Rattle.paper_upper.specs.Orders.Standing.{held, done}
use Rattle.paper_upper.specs.PTable.{listing}
use Rattle.theorems.specs.Outside.{nothing, of_instance, in_hand, theirs, now_done, telling, hear, hear_all, followed, outside}
use Rattle.theorems.specs.Entering.{granted_in, removes, alters, left, entered, entered_after}
use Rattle.theorems.specs.InUse.{no_tally, counting, count, is_in_use}
use Rattle.theorems.specs.Walls as walls
use Rattle.theorems.specs.Walls.{no_commits, committing, committed}

-- After the ninth request of 01's listing, task 0 is done by user 300, and subject 6 holds task 1 for user 301.
pub after-nine : (outside (joined listing.policy) (take 9 listing.requests)).orders.entries ≡ entry 0 301 1 (held 6) ∷ entry 0 300 0 done ∷ []
unfolding lower_open orders_open words_open listing records_from records_of nothing telling hear hear_all followed outside of_instance in_hand theirs now_done
after-nine = refl

-- The same entries in the order of entry, the oldest first.
pub entered-then : entered_after 0 (joined listing.policy) (take 9 listing.requests) ≡ entry 0 300 0 done ∷ entry 0 301 1 (held 6) ∷ []
unfolding lower_open orders_open words_open listing records_from records_of nothing telling hear hear_all of_instance in_hand theirs now_done granted_in removes alters left entered
entered-then = refl

-- A task that was released and claimed again comes after the others. A refused claim and a claim in another order are not among them.
pub entered-anew : entered_after 0 []
    ((create 5 300 1 ⇒ 0) ∷ (opened_order 0 0 ⇒ 0) ∷ (opened_order 1 0 ⇒ 0) ∷ (claim 5 0 2 ⇒ 0) ∷ (claim 5 0 0 ⇒ 0) ∷ (claim 5 1 3 ⇒ 0) ∷ (release 5 0 2 ⇒ 0)
    ∷ (claim 5 0 1 ⇒ 15) ∷ (finish 5 0 0 ⇒ 0) ∷ (claim 5 0 2 ⇒ 0) ∷ [])
    ≡ entry 0 300 0 done ∷ entry 0 300 2 (held 5) ∷ []
unfolding lower_open orders_open words_open records_from records_of nothing telling hear hear_all of_instance in_hand theirs now_done granted_in removes alters left entered
entered-anew = refl

-- Two entries are in use then.
pub in-use-then : is_in_use (take 9 listing.requests) ≡ 2
unfolding lower_open listing followed no_tally counting count is_in_use
in-use-then = refl

-- No entry is in use after the last request.
pub in-use-last : is_in_use listing.requests ≡ 0
unfolding lower_open listing followed no_tally counting count is_in_use
in-use-last = refl

-- The commits of both subjects count for user 300. A refused commit does not count.
pub one-clerk : (committed (run lower_request (lower_of (load (joined books)).tables) (create 5 300 1 ∷ create 6 300 1 ∷ commit 5 1 7 ∷ commit 6 1 8 ∷ commit 6 1 20 ∷ []))).objects 300 ≡ 20 ∷ 7 ∷ []
unfolding lower_open words_open books followed no_commits committing walls.commit
one-clerk = refl

-- A user who is deleted and added again starts without commits.
pub added-again : (committed (run lower_request (lower_of (load (joined books)).tables) (create 5 300 1 ∷ commit 5 1 7 ∷ destroy 5 ∷ delete_user 300 ∷ add_user 300 ∷ []))).objects 300 ≡ []
unfolding lower_open words_open books followed no_commits committing walls.commit
added-again = refl
