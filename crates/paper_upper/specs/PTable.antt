-- 01's cases marked P, in one table that one statement proves; its first row is 01's listing. A row is a policy with the expected answer to its load, and
-- requests with their expected replies. Further tables have other cases, the places of 02's Ask 2 and the figures of Ask 9.
use Rattle.std.specs.Prelude.{ℕ, ◌+◌, ◌^◌, Bool, true, false, ◌&&◌, ◌≡◌, refl, List, [], ◌∷◌, ◌++◌, eqb}
use Rattle.paper_lower.specs.Lists.{every, each}
use Rattle.paper_lower.specs.Records.{Bytes}
use Rattle.paper_lower.specs.Kinds.{Said, after}
use Rattle.paper_lower.specs.Checks.{GRANTED, SHAPE, RANGE, UNKNOWN, TAKEN, IN-USE, RULE, NOT-ASSIGNED, STATIC, DYNAMIC, NO-ROLE, NOT-YOURS, DENIED, BEFORE, SEPARATION, BLOCK, ALONE, BOUND, COUNT, LOOP, WALL}
use Rattle.paper_lower.specs.Words.{Case, refuses, accepts, ◌⇒◌, joined, as_expected, comes_out, words_open, record_of, user, role, permission, user_has, role_has, task, open_to, carries, static_set, dynamic_set, task_set, block, ban, at_most, bound, is_before, stands_above, walled, add_user, join, delete_user, assign, take_back, give, withdraw, create, destroy, activate, deactivate, opened_order, end_order, claim, release, done, check, task_check, figures, commit, stuck_tasks}
use Rattle.paper_lower.specs.Load.{load}
use Rattle.paper_upper.specs.Questions.{figures_of, questions_open}
use Rattle.paper_upper.specs.Engine.{request, Placed, placed_run, engine_of, engine_open}

-- ---- Beginnings that many rows share.

-- Users u and v have role 0, which opens tasks 0 and 1 of template 0.
unfoldable pub clerks : ℕ → ℕ → List Bytes
clerks u v = user u ∷ user v ∷ role 0 ∷ user_has u 0 ∷ user_has v 0 ∷ task 0 0 ∷ task 1 0 ∷ open_to 0 0 ∷ open_to 1 0 ∷ []

-- Subject 5 belongs to u and subject 6 to v; order 0 is open.
unfoldable pub desks : ℕ → ℕ → List Said
desks u v = create 5 u 1 ⇒ GRANTED ∷ create 6 v 1 ⇒ GRANTED ∷ opened_order 0 0 ⇒ GRANTED ∷ []

-- ---- "Policy, 11 records: .. Thirteen requests: .. The whole output:" Requests 6 and 8 are P cases: a held prerequisite is not done; SEPARATION.
unfoldable pub listing : Case
listing =
    accepts
    (user 300 ∷ user 301 ∷ role 0 ∷ user_has 300 0 ∷ user_has 301 0 ∷ task 0 0 ∷ task 1 0 ∷ open_to 0 0 ∷ open_to 1 0 ∷ task_set 1 3 ∷ is_before 0 1 ∷ [])
    (create 5 300 1 ⇒ GRANTED
    ∷ create 6 301 1 ⇒ GRANTED
    ∷ opened_order 0 0 ⇒ GRANTED
    ∷ claim 5 0 1 ⇒ BEFORE
    ∷ claim 5 0 0 ⇒ GRANTED
    ∷ claim 6 0 1 ⇒ BEFORE
    ∷ done 5 0 0 ⇒ GRANTED
    ∷ claim 5 0 1 ⇒ SEPARATION
    ∷ claim 6 0 1 ⇒ GRANTED
    ∷ end_order 0 ⇒ IN-USE
    ∷ done 6 0 1 ⇒ GRANTED
    ∷ end_order 0 ⇒ GRANTED
    ∷ end_order 0 ⇒ UNKNOWN
    ∷ [])

-- ---- "user 1,023 accepted, 1,024 RANGE."
unfoldable pub last_user : List Case
last_user =
    accepts (user 1023 ∷ []) (add_user 1023 ⇒ TAKEN ∷ add_user 1022 ⇒ GRANTED ∷ add_user 1024 ⇒ RANGE ∷ delete_user 1024 ⇒ RANGE ∷ [])
    ∷ refuses (user 1023 ∷ user 1024 ∷ user 1 ∷ []) RANGE 2
    ∷ []

-- ---- "users 44 and 300, and 255 and 256, are different people to every rule."
unfoldable pub different_people : ℕ → ℕ → List Case
different_people u v =
    -- Each user is declared, assigned a role, made active and deleted separately.
    accepts (user u ∷ role 0 ∷ user_has u 0 ∷ task 0 0 ∷ open_to 0 0 ∷ [])
    (create 6 v 0 ⇒ UNKNOWN
    ∷ add_user u ⇒ TAKEN
    ∷ add_user v ⇒ GRANTED
    ∷ create 6 v 1 ⇒ NOT-ASSIGNED
    ∷ assign v 0 ⇒ GRANTED
    ∷ create 5 u 1 ⇒ GRANTED
    ∷ opened_order 0 0 ⇒ GRANTED
    ∷ claim 5 0 0 ⇒ GRANTED
    ∷ take_back u 0 ⇒ IN-USE
    ∷ take_back v 0 ⇒ GRANTED
    ∷ delete_user u ⇒ IN-USE
    ∷ delete_user v ⇒ GRANTED
    ∷ delete_user v ⇒ UNKNOWN
    ∷ [])
    -- Static sets.
    ∷ accepts (user u ∷ user v ∷ role 0 ∷ role 1 ∷ user_has u 0 ∷ user_has v 1 ∷ static_set 1 3 ∷ [])
    (assign u 1 ⇒ STATIC ∷ assign v 0 ⇒ STATIC ∷ take_back u 0 ⇒ GRANTED ∷ assign v 0 ⇒ STATIC ∷ assign u 1 ⇒ GRANTED ∷ [])
    -- Dynamic sets.
    ∷ accepts (user u ∷ user v ∷ role 0 ∷ role 1 ∷ user_has u 0 ∷ user_has u 1 ∷ user_has v 0 ∷ user_has v 1 ∷ dynamic_set 1 3 ∷ [])
    (create 5 u 1 ⇒ GRANTED ∷ create 6 v 2 ⇒ GRANTED ∷ create 7 u 2 ⇒ DYNAMIC ∷ activate 6 0 ⇒ DYNAMIC ∷ destroy 5 ⇒ GRANTED ∷ activate 6 0 ⇒ DYNAMIC ∷ create 7 u 2 ⇒ GRANTED ∷ [])
    -- Task sets.
    ∷ accepts (clerks u v ++ (task_set 1 3 ∷ []))
    (desks u v ++ (claim 5 0 0 ⇒ GRANTED ∷ claim 5 0 1 ⇒ SEPARATION ∷ claim 6 0 1 ⇒ GRANTED ∷ done 5 0 0 ⇒ GRANTED ∷ claim 6 0 0 ⇒ SEPARATION ∷ release 6 0 1 ⇒ GRANTED ∷ claim 6 0 0 ⇒ GRANTED ∷ []))
    -- Blocks.
    ∷ accepts (clerks u v ++ (block 0 1 ∷ block 0 2 ∷ []))
    (desks u v ++ (claim 5 0 0 ⇒ GRANTED ∷ claim 5 0 1 ⇒ BLOCK ∷ claim 6 0 1 ⇒ GRANTED ∷ done 5 0 0 ⇒ GRANTED ∷ claim 6 0 0 ⇒ BLOCK ∷ []))
    -- Lone-worker bans.
    ∷ accepts (clerks u v ++ (ban 0 ∷ []))
    (desks u v ++ (claim 5 0 0 ⇒ GRANTED ∷ claim 5 0 1 ⇒ ALONE ∷ claim 6 0 1 ⇒ GRANTED ∷ done 5 0 0 ⇒ GRANTED ∷ claim 6 0 0 ⇒ ALONE ∷ []))
    -- Bindings.
    ∷ accepts (clerks u v ++ (bound 0 1 ∷ [])) (desks u v ++ (claim 5 0 0 ⇒ GRANTED ∷ claim 6 0 1 ⇒ BOUND ∷ claim 5 0 1 ⇒ GRANTED ∷ []))
    ∷ accepts (clerks u v ++ (bound 1 0 ∷ [])) (desks u v ++ (claim 5 0 0 ⇒ GRANTED ∷ claim 6 0 1 ⇒ BOUND ∷ claim 5 0 1 ⇒ GRANTED ∷ []))
    -- Count limits, which count entries of anyone.
    ∷ accepts (clerks u v ++ (at_most 1 0 ∷ []))
    (desks u v ++ (claim 5 0 0 ⇒ GRANTED ∷ claim 6 0 0 ⇒ TAKEN ∷ done 5 0 0 ⇒ GRANTED ∷ claim 6 0 0 ⇒ COUNT ∷ claim 5 0 0 ⇒ COUNT ∷ []))
    -- Prerequisites, which anyone may have done.
    ∷ accepts (clerks u v ++ (is_before 0 1 ∷ []))
    (desks u v ++ (claim 6 0 1 ⇒ BEFORE ∷ claim 5 0 0 ⇒ GRANTED ∷ claim 6 0 1 ⇒ BEFORE ∷ done 6 0 0 ⇒ NOT-YOURS ∷ done 5 0 0 ⇒ GRANTED ∷ claim 6 0 1 ⇒ GRANTED ∷ []))
    ∷ []

-- ---- "set of 2 with n = 1 accepted; n = 2 and n = 0 RULE."
unfoldable pub sets_of_two : (ℕ → ℕ → Bytes) → List Case
sets_of_two kind =
    accepts (role 0 ∷ role 1 ∷ task 0 0 ∷ task 1 0 ∷ kind 1 3 ∷ []) []
    ∷ refuses (role 0 ∷ role 1 ∷ task 0 0 ∷ task 1 0 ∷ kind 2 3 ∷ []) RULE 5
    ∷ refuses (role 0 ∷ role 1 ∷ task 0 0 ∷ task 1 0 ∷ kind 0 3 ∷ []) RULE 5
    ∷ []

-- ---- "block {0,1} then {1,2} of one partitioning: RULE." "binding (2,3) after (3,2): TAKEN."
unfoldable pub four_tasks : List Bytes
four_tasks = task 0 0 ∷ task 1 0 ∷ task 2 0 ∷ task 3 0 ∷ []

-- The cases of blocks and bindings.
unfoldable pub blocks_and_bindings : List Case
blocks_and_bindings =
    refuses (four_tasks ++ (block 7 3 ∷ block 7 6 ∷ [])) RULE 6
    ∷ accepts (four_tasks ++ (block 7 3 ∷ block 6 6 ∷ block 7 4 ∷ [])) []
    ∷ refuses (four_tasks ++ (bound 3 2 ∷ bound 2 3 ∷ [])) TAKEN 6
    ∷ refuses (four_tasks ++ (bound 3 2 ∷ bound 3 2 ∷ [])) TAKEN 6
    ∷ accepts (four_tasks ++ (bound 3 2 ∷ bound 2 1 ∷ is_before 3 2 ∷ is_before 2 3 ∷ [])) []
    ∷ []

-- ---- "count limit 2, one entry done, one held: TAKEN; after the release, granted; two done: COUNT."
unfoldable pub count_limit : Case
count_limit =
    accepts (clerks 300 301 ++ (at_most 2 0 ∷ []))
    (desks 300 301 ++ (claim 5 0 0 ⇒ GRANTED ∷ done 5 0 0 ⇒ GRANTED ∷ claim 6 0 0 ⇒ GRANTED ∷ claim 5 0 0 ⇒ TAKEN ∷ release 6 0 0 ⇒ GRANTED ∷ claim 5 0 0 ⇒ GRANTED ∷ done 5 0 0 ⇒ GRANTED ∷ claim 6 0 0 ⇒ COUNT ∷ []))

-- ---- "dynamic set n = 1, a second of its roles in another subject of the same user: DYNAMIC."
unfoldable pub two_subjects : Case
two_subjects =
    accepts (user 300 ∷ role 0 ∷ role 1 ∷ role 63 ∷ user_has 300 0 ∷ user_has 300 1 ∷ user_has 300 63 ∷ dynamic_set 1 (1 + 2 ^ 63) ∷ [])
    (create 5 300 1 ⇒ GRANTED ∷ create 6 300 (2 ^ 63) ⇒ DYNAMIC ∷ create 6 300 3 ⇒ GRANTED ∷ activate 6 63 ⇒ DYNAMIC ∷ deactivate 5 0 ⇒ GRANTED ∷ activate 6 63 ⇒ DYNAMIC ∷ deactivate 6 0 ⇒ GRANTED ∷ activate 6 63 ⇒ DYNAMIC ∷ destroy 5 ⇒ GRANTED ∷ activate 6 63 ⇒ DYNAMIC ∷ destroy 6 ⇒ GRANTED ∷ create 6 300 (2 ^ 63) ⇒ GRANTED ∷ [])

-- ---- Cases beyond those marked P, which wrong definitions would answer differently.
unfoldable pub beside : List Case
beside =
    -- A task that is done and claimed again counts once in a task set, and a task's own block does not refuse it. The entries of an ended order are gone.
    accepts (clerks 300 301 ++ (task_set 1 3 ∷ block 3 1 ∷ block 3 2 ∷ []))
    (desks 300 301 ++ (claim 5 0 0 ⇒ GRANTED ∷ done 5 0 0 ⇒ GRANTED ∷ claim 5 0 0 ⇒ GRANTED ∷ done 5 0 0 ⇒ GRANTED ∷ claim 5 0 1 ⇒ SEPARATION ∷ end_order 0 ⇒ GRANTED ∷ opened_order 0 0 ⇒ GRANTED ∷ claim 5 0 1 ⇒ GRANTED ∷ []))
    -- If a claim breaks two rules, the reply with the lower number is given.
    ∷ accepts (clerks 300 301 ++ (task_set 1 3 ∷ block 0 1 ∷ block 0 2 ∷ ban 0 ∷ is_before 0 1 ∷ []))
    (desks 300 301 ++ (claim 5 0 0 ⇒ GRANTED ∷ claim 5 0 1 ⇒ BEFORE ∷ done 5 0 0 ⇒ GRANTED ∷ claim 5 0 1 ⇒ SEPARATION ∷ []))
    ∷ accepts (clerks 300 301 ++ (block 0 1 ∷ block 0 2 ∷ ban 0 ∷ bound 0 1 ∷ at_most 1 1 ∷ []))
    (desks 300 301 ++ (claim 6 0 1 ⇒ GRANTED ∷ done 6 0 1 ⇒ GRANTED ∷ claim 6 0 0 ⇒ BLOCK ∷ claim 5 0 1 ⇒ COUNT ∷ claim 5 0 0 ⇒ BOUND ∷ []))
    -- A task set of n allows n tasks and refuses one more. A claim of a task does not count the task itself.
    ∷ accepts (clerks 300 301 ++ (task 2 0 ∷ open_to 2 0 ∷ task_set 2 7 ∷ []))
    (desks 300 301 ++ (claim 5 0 0 ⇒ GRANTED ∷ claim 5 0 1 ⇒ GRANTED ∷ claim 5 0 2 ⇒ SEPARATION ∷ done 5 0 0 ⇒ GRANTED ∷ claim 5 0 0 ⇒ GRANTED ∷ []))
    -- The search for a block continues in the next partitioning. Entries of one order do not count in another.
    ∷ accepts (clerks 300 301 ++ (block 2 3 ∷ block 9 1 ∷ block 9 2 ∷ []))
    (desks 300 301 ++ (claim 5 0 0 ⇒ GRANTED ∷ claim 5 0 1 ⇒ BLOCK ∷ opened_order 1 0 ⇒ GRANTED ∷ claim 5 1 1 ⇒ GRANTED ∷ []))
    -- A task in no block is not restricted by the partitioning.
    ∷ accepts (clerks 300 301 ++ (block 2 1 ∷ [])) (desks 300 301 ++ (claim 5 0 1 ⇒ GRANTED ∷ claim 5 0 0 ⇒ GRANTED ∷ []))
    -- A ban on a template with one task restricts nothing. Under a ban, a user may claim a task again that the same user has done.
    ∷ accepts (user 300 ∷ role 0 ∷ user_has 300 0 ∷ task 0 0 ∷ open_to 0 0 ∷ ban 0 ∷ []) (create 5 300 1 ⇒ GRANTED ∷ opened_order 0 0 ⇒ GRANTED ∷ claim 5 0 0 ⇒ GRANTED ∷ done 5 0 0 ⇒ GRANTED ∷ claim 5 0 0 ⇒ GRANTED ∷ [])
    ∷ accepts (clerks 300 301 ++ (ban 0 ∷ [])) (desks 300 301 ++ (claim 5 0 0 ⇒ GRANTED ∷ done 5 0 0 ⇒ GRANTED ∷ claim 5 0 0 ⇒ GRANTED ∷ []))
    -- A user with entries in an open order cannot be deleted. A subject that holds a task cannot be destroyed.
    ∷ accepts (clerks 300 301)
    (desks 300 301 ++ (claim 5 0 0 ⇒ GRANTED ∷ destroy 5 ⇒ IN-USE ∷ done 5 0 0 ⇒ GRANTED ∷ destroy 5 ⇒ GRANTED ∷ delete_user 300 ⇒ IN-USE ∷ end_order 0 ⇒ GRANTED ∷ delete_user 300 ⇒ GRANTED ∷ add_user 300 ⇒ GRANTED ∷ create 5 300 1 ⇒ NOT-ASSIGNED ∷ []))
    -- Only the subject that claimed a task holds it, not another subject of the same user.
    ∷ accepts (clerks 300 301)
    (desks 300 301 ++ (create 7 300 1 ⇒ GRANTED ∷ claim 5 0 0 ⇒ GRANTED ∷ release 7 0 0 ⇒ NOT-YOURS ∷ done 7 0 0 ⇒ NOT-YOURS ∷ task_check 7 0 0 1 2 ⇒ NOT-YOURS ∷ task_check 5 0 0 1 2 ⇒ DENIED ∷ release 5 0 0 ⇒ GRANTED ∷ release 5 0 0 ⇒ NOT-YOURS ∷ []))
    -- STATIC at the record of the set.
    ∷ refuses (user 300 ∷ role 0 ∷ role 1 ∷ user_has 300 0 ∷ user_has 300 1 ∷ static_set 1 3 ∷ []) STATIC 6
    -- Checks and task checks.
    ∷ accepts (clerks 300 301 ++ (role 1 ∷ task 2 0 ∷ open_to 2 1 ∷ permission 7 40 50 ∷ permission 8 40 51 ∷ role_has 0 7 ∷ carries 0 8 ∷ []))
    (desks 300 301 ++ (check 5 40 50 ⇒ GRANTED ∷ check 5 40 51 ⇒ DENIED ∷ check 5 50 40 ⇒ DENIED ∷ task_check 5 0 0 40 51 ⇒ NOT-YOURS ∷ claim 5 0 2 ⇒ NO-ROLE ∷ claim 5 0 3 ⇒ UNKNOWN ∷ claim 5 0 0 ⇒ GRANTED
    ∷ task_check 5 0 0 40 51 ⇒ GRANTED ∷ task_check 6 0 0 40 51 ⇒ NOT-YOURS ∷ task_check 5 0 0 40 50 ⇒ DENIED ∷ withdraw 0 7 ⇒ GRANTED ∷ check 5 40 50 ⇒ DENIED ∷ give 0 8 ⇒ GRANTED ∷ check 5 40 51 ⇒ GRANTED ∷ []))
    -- An incomplete record, bytes that are no request, and an empty policy.
    ∷ refuses (user 300 ∷ (1 ∷ 0 ∷ []) ∷ []) SHAPE 2
    ∷ accepts [] ((1 ∷ []) ⇒ SHAPE ∷ user 3 ⇒ SHAPE ∷ task_check 0 0 0 0 65536 ⇒ SHAPE ∷ task_check 0 0 0 65535 65535 ⇒ UNKNOWN ∷ claim 128 0 0 ⇒ RANGE ∷ claim 0 0 0 ⇒ UNKNOWN ∷ [])
    ∷ []

-- The table of the P cases, and of the cases beyond them.
unfoldable pub cases : List Case
cases =
    listing ∷ count_limit ∷ two_subjects ∷ last_user ++ beside ++ blocks_and_bindings
    ++ sets_of_two static_set ++ sets_of_two dynamic_set ++ sets_of_two task_set
    ++ different_people 44 300 ++ different_people 300 44 ++ different_people 255 256 ++ different_people 256 255

-- ---- Two orders at the same time; the table of figures below refers to this case. In order 0, task 0 is done twice and held once more, and task 1 is held.
-- In order 2, task 1 is done.
unfoldable pub two_orders : Case
two_orders =
    accepts (clerks 300 301)
    (desks 300 301 ++ (opened_order 2 0 ⇒ GRANTED ∷ opened_order 3 0 ⇒ GRANTED ∷ claim 5 0 0 ⇒ GRANTED ∷ done 5 0 0 ⇒ GRANTED ∷ claim 6 2 1 ⇒ GRANTED ∷ claim 6 0 0 ⇒ GRANTED ∷ done 6 0 0 ⇒ GRANTED
    ∷ done 6 2 1 ⇒ GRANTED ∷ claim 5 0 0 ⇒ GRANTED ∷ claim 6 0 1 ⇒ GRANTED ∷ claim 5 2 0 ⇒ GRANTED ∷ release 5 2 0 ⇒ GRANTED ∷ []))

-- ---- More such cases. They are in a second table because one statement about both would take too long to compute.
unfoldable pub further : List Case
further =
    two_orders
    -- Seventeen bytes, a field that the kind does not use, and a task and an instance out of range.
    ∷ accepts [] ((add_user 3 ++ (0 ∷ [])) ⇒ SHAPE ∷ record_of 56 0 0 0 0 1 ⇒ SHAPE ∷ claim 0 0 64 ⇒ RANGE ∷ claim 0 64 0 ⇒ RANGE ∷ [])
    -- A role that is active in another subject of the user is not active in this one. A subject that holds no task can be destroyed while another subject of
    -- its user holds one.
    ∷ accepts (clerks 300 301)
    (desks 300 301 ++ (create 7 300 0 ⇒ GRANTED ∷ claim 7 0 0 ⇒ NO-ROLE ∷ activate 7 0 ⇒ GRANTED ∷ activate 7 0 ⇒ TAKEN ∷ claim 5 0 0 ⇒ GRANTED ∷ destroy 7 ⇒ GRANTED ∷ create 7 301 0 ⇒ GRANTED ∷ claim 7 0 0 ⇒ TAKEN ∷ create 8 301 2 ⇒ UNKNOWN ∷ []))
    -- A template without tasks, which is checked before whether the instance is open; a task of another template; an instance that is not open.
    ∷ accepts (clerks 300 301 ++ (task 2 1 ∷ open_to 2 0 ∷ []))
    (desks 300 301 ++ (opened_order 1 2 ⇒ UNKNOWN ∷ opened_order 0 2 ⇒ UNKNOWN ∷ opened_order 0 1 ⇒ TAKEN ∷ claim 5 0 2 ⇒ UNKNOWN ∷ release 5 0 2 ⇒ UNKNOWN ∷ done 5 0 2 ⇒ UNKNOWN ∷ task_check 5 0 2 1 1 ⇒ UNKNOWN ∷ claim 5 1 2 ⇒ UNKNOWN ∷ opened_order 1 1 ⇒ GRANTED ∷ claim 5 1 2 ⇒ GRANTED ∷ []))
    -- Two orders are independent: a task may be held in both, and entries are counted in each.
    ∷ accepts (clerks 300 301 ++ (at_most 1 0 ∷ []))
    (desks 300 301 ++ (opened_order 1 0 ⇒ GRANTED ∷ claim 5 0 0 ⇒ GRANTED ∷ claim 6 1 0 ⇒ GRANTED ∷ done 5 0 0 ⇒ GRANTED ∷ end_order 0 ⇒ GRANTED ∷ end_order 1 ⇒ IN-USE ∷ []))
    -- An object number above 255.
    ∷ accepts (clerks 300 301 ++ (permission 8 40 307 ∷ carries 0 8 ∷ []))
    (desks 300 301 ++ (claim 5 0 0 ⇒ GRANTED ∷ task_check 5 0 0 40 307 ⇒ GRANTED ∷ task_check 5 0 0 40 51 ⇒ DENIED ∷ []))
    -- The highest partitioning. ALONE is checked before BOUND.
    ∷ accepts (clerks 300 301 ++ (block 15 1 ∷ block 15 2 ∷ [])) (desks 300 301 ++ (claim 5 0 0 ⇒ GRANTED ∷ claim 5 0 1 ⇒ BLOCK ∷ []))
    ∷ accepts (clerks 300 301 ++ (ban 0 ∷ bound 0 1 ∷ []))
    (desks 300 301 ++ (claim 6 0 0 ⇒ GRANTED ∷ done 6 0 0 ⇒ GRANTED ∷ claim 5 0 0 ⇒ GRANTED ∷ claim 5 0 1 ⇒ ALONE ∷ []))
    -- 02, Ask 9, kind 58: SHAPE before RANGE before UNKNOWN. It is granted while the order is open, with and without entries, and changes nothing.
    ∷ accepts (clerks 300 301)
    (desks 300 301 ++ (record_of 58 0 64 1 0 0 ⇒ SHAPE ∷ record_of 58 1 0 0 0 0 ⇒ SHAPE ∷ record_of 58 0 0 0 1 0 ⇒ SHAPE ∷ record_of 58 0 0 0 0 1 ⇒ SHAPE ∷ figures 64 ⇒ RANGE ∷ figures 63 ⇒ UNKNOWN ∷ figures 1 ⇒ UNKNOWN ∷ figures 0 ⇒ GRANTED
    ∷ claim 5 0 0 ⇒ GRANTED ∷ figures 0 ⇒ GRANTED ∷ figures 5 ⇒ UNKNOWN ∷ claim 6 0 0 ⇒ TAKEN ∷ done 5 0 0 ⇒ GRANTED ∷ figures 0 ⇒ GRANTED ∷ end_order 0 ⇒ GRANTED ∷ figures 0 ⇒ UNKNOWN ∷ []))
    -- 02, Ask 13, kind 60: SHAPE before RANGE before UNKNOWN. It is granted for a template with a task, with and without stuck tasks, and changes nothing.
    ∷ accepts (clerks 300 301 ++ (task 2 15 ∷ task 3 15 ∷ is_before 2 3 ∷ is_before 3 2 ∷ []))
    (record_of 60 0 16 1 0 0 ⇒ SHAPE ∷ record_of 60 1 0 0 0 0 ⇒ SHAPE ∷ record_of 60 0 0 0 1 0 ⇒ SHAPE ∷ record_of 60 0 0 0 0 1 ⇒ SHAPE ∷ stuck_tasks 16 ⇒ RANGE ∷ stuck_tasks 1 ⇒ UNKNOWN ∷ stuck_tasks 0 ⇒ GRANTED
    ∷ stuck_tasks 15 ⇒ GRANTED ∷ opened_order 0 15 ⇒ GRANTED ∷ create 5 300 1 ⇒ GRANTED ∷ claim 5 0 2 ⇒ NO-ROLE ∷ opened_order 1 0 ⇒ GRANTED ∷ claim 5 1 0 ⇒ GRANTED ∷ stuck_tasks 0 ⇒ GRANTED ∷ [])
    ∷ []

-- ---- The highest and lowest numbers under every rule: tasks 0 and 63 of template 15, users 0 and 1,023 with subjects 0 and 127, order 63.
unfoldable pub last_numbers : List Bytes
last_numbers =
    user 0 ∷ user 1023 ∷ role 63 ∷ user_has 0 63 ∷ user_has 1023 63 ∷ task 0 15 ∷ task 63 15 ∷ open_to 0 63 ∷ open_to 63 63 ∷ []

-- Subjects 0 and 127 of these users, and order 63.
unfoldable pub last_desks : List Said
last_desks = create 0 0 (2 ^ 63) ⇒ GRANTED ∷ create 127 1023 (2 ^ 63) ⇒ GRANTED ∷ opened_order 63 15 ⇒ GRANTED ∷ []

-- Cases with these numbers.
unfoldable pub edges : List Case
edges =
    -- Each rule, with task 63 as the task claimed and as a task of D.
    accepts (last_numbers ++ (is_before 0 63 ∷ [])) (last_desks ++ (claim 127 63 63 ⇒ BEFORE ∷ claim 0 63 0 ⇒ GRANTED ∷ done 0 63 0 ⇒ GRANTED ∷ claim 127 63 63 ⇒ GRANTED ∷ []))
    ∷ accepts (last_numbers ++ (is_before 63 0 ∷ [])) (last_desks ++ (claim 127 63 0 ⇒ BEFORE ∷ claim 0 63 63 ⇒ GRANTED ∷ done 0 63 63 ⇒ GRANTED ∷ claim 127 63 0 ⇒ GRANTED ∷ []))
    ∷ accepts (last_numbers ++ (task_set 1 (1 + 2 ^ 63) ∷ []))
    (last_desks ++ (claim 127 63 63 ⇒ GRANTED ∷ claim 127 63 0 ⇒ SEPARATION ∷ claim 0 63 0 ⇒ GRANTED ∷ done 127 63 63 ⇒ GRANTED ∷ claim 0 63 63 ⇒ SEPARATION ∷ claim 127 63 63 ⇒ GRANTED ∷ []))
    ∷ accepts (last_numbers ++ (block 15 1 ∷ block 15 (2 ^ 63) ∷ []))
    (last_desks ++ (claim 127 63 63 ⇒ GRANTED ∷ claim 127 63 0 ⇒ BLOCK ∷ claim 0 63 0 ⇒ GRANTED ∷ done 127 63 63 ⇒ GRANTED ∷ claim 0 63 63 ⇒ BLOCK ∷ []))
    ∷ accepts (last_numbers ++ (ban 15 ∷ []))
    (last_desks ++ (claim 127 63 63 ⇒ GRANTED ∷ claim 127 63 0 ⇒ ALONE ∷ claim 0 63 0 ⇒ GRANTED ∷ done 127 63 63 ⇒ GRANTED ∷ claim 0 63 63 ⇒ ALONE ∷ []))
    ∷ accepts (last_numbers ++ (bound 0 63 ∷ [])) (last_desks ++ (claim 127 63 63 ⇒ GRANTED ∷ claim 0 63 0 ⇒ BOUND ∷ claim 127 63 0 ⇒ GRANTED ∷ []))
    ∷ accepts (last_numbers ++ (bound 63 0 ∷ [])) (last_desks ++ (claim 127 63 0 ⇒ GRANTED ∷ claim 0 63 63 ⇒ BOUND ∷ claim 127 63 63 ⇒ GRANTED ∷ []))
    ∷ accepts (last_numbers ++ (at_most 1 63 ∷ [])) (last_desks ++ (claim 127 63 63 ⇒ GRANTED ∷ done 127 63 63 ⇒ GRANTED ∷ claim 0 63 63 ⇒ COUNT ∷ []))
    -- IN USE of 41, 49 and 33, caused by an entry of the highest subject in the highest order; 57 with the highest permission.
    ∷ accepts (last_numbers ++ (permission 255 40 50 ∷ carries 63 255 ∷ []))
    (last_desks ++ (claim 127 63 63 ⇒ GRANTED ∷ task_check 127 63 63 40 50 ⇒ GRANTED ∷ task_check 127 63 63 50 40 ⇒ DENIED ∷ destroy 127 ⇒ IN-USE ∷ end_order 63 ⇒ IN-USE ∷ done 127 63 63 ⇒ GRANTED ∷ destroy 127 ⇒ GRANTED
    ∷ delete_user 1023 ⇒ IN-USE ∷ delete_user 0 ⇒ IN-USE ∷ destroy 0 ⇒ GRANTED ∷ delete_user 0 ⇒ GRANTED ∷ end_order 63 ⇒ GRANTED ∷ delete_user 1023 ⇒ GRANTED ∷ []))
    -- The highest template, whose only task is 63, is known to 48 and 60.
    ∷ accepts (task 63 15 ∷ []) (stuck_tasks 15 ⇒ GRANTED ∷ stuck_tasks 14 ⇒ UNKNOWN ∷ opened_order 63 15 ⇒ GRANTED ∷ opened_order 62 14 ⇒ UNKNOWN ∷ [])
    -- A third block that shares a task with the first.
    ∷ refuses (four_tasks ++ (block 7 1 ∷ block 7 2 ∷ block 7 5 ∷ [])) RULE 7
    ∷ []

-- ---- 02, Ask 9: "how many entries, which tasks done"

-- A row: after the case, the instance has this many entries and these tasks done.
pub record Figured : Type 0 where
  pub of : Case
  pub instance : ℕ
  pub entries : ℕ
  pub done : ℕ

-- The row with these parts.
abbrev pub counts : Case → ℕ → ℕ → ℕ → Figured
counts c i n m = record { of = c; instance = i; entries = n; done = m }

-- The table of figures.
unfoldable pub figured : List Figured
figured =
    counts two_orders 0 4 1
    ∷ counts two_orders 2 1 2
    -- An instance that is open without entries, and one that is not open.
    ∷ counts two_orders 3 0 0
    ∷ counts two_orders 1 0 0
    -- The listing ends its order.
    ∷ counts listing 0 0 0
    ∷ []

-- Whether a row of figures holds.
unfoldable pub figures_come_out : Figured → Bool
figures_come_out c =
    let t = after request (engine_of (load (joined c.of.policy)).tables) (each (λ x. x.request) c.of.requests) in
    let f = figures_of c.instance t.orders.entries in
    eqb f.entries c.entries && eqb f.done c.done

-- ---- 02, Ask 7: "Team leads should have what clerks have." Role 2 is above role 1, which is above the clerks' role 0.
unfoldable pub leads : List Bytes
leads = clerks 300 301 ++ (role 1 ∷ role 2 ∷ stands_above 2 1 ∷ stands_above 1 0 ∷ user 302 ∷ user_has 302 2 ∷ task 2 0 ∷ open_to 2 2 ∷ [])

-- Cases for senior roles.
unfoldable pub seniors : List Case
seniors =
    -- A lead can claim the clerks' tasks, under the same rules. A clerk cannot claim the lead's task. Only active roles and roles below them count.
    accepts (leads ++ (task_set 1 3 ∷ []))
    (desks 300 301 ++ (create 7 302 4 ⇒ GRANTED ∷ claim 7 0 0 ⇒ GRANTED ∷ claim 7 0 1 ⇒ SEPARATION ∷ claim 5 0 2 ⇒ NO-ROLE ∷ claim 7 0 2 ⇒ GRANTED ∷ create 8 302 0 ⇒ GRANTED ∷ claim 8 0 1 ⇒ NO-ROLE
    ∷ activate 8 0 ⇒ GRANTED ∷ claim 8 0 1 ⇒ SEPARATION ∷ claim 8 0 2 ⇒ TAKEN ∷ take_back 302 2 ⇒ IN-USE ∷ claim 6 0 1 ⇒ GRANTED ∷ []))
    -- A role opens tasks of the roles below it only while it is active. Roles 1 and 2 are both above role 0, so one of them is enough.
    ∷ accepts (leads ++ (stands_above 2 0 ∷ [])) (desks 300 301 ++ (create 7 302 6 ⇒ GRANTED ∷ deactivate 7 2 ⇒ GRANTED ∷ claim 7 0 2 ⇒ NO-ROLE ∷ claim 7 0 0 ⇒ GRANTED ∷ release 7 0 0 ⇒ GRANTED ∷ deactivate 7 1 ⇒ GRANTED ∷ claim 7 0 0 ⇒ NO-ROLE ∷ []))
    ∷ refuses (leads ++ (stands_above 0 2 ∷ [])) LOOP 18
    ∷ []

-- ---- 02, Ask 11: two dealers' price books, objects 7 and 8. Task 0 carries the permission for the second.
unfoldable pub walls : List Case
walls =
    -- "Kind 57 is not walled." A deleted user is no longer bound, also if the deletion first had to wait for the user's entries to go.
    accepts (clerks 300 301 ++ (permission 0 1 7 ∷ permission 1 1 8 ∷ role_has 0 0 ∷ role_has 0 1 ∷ carries 0 1 ∷ walled 0 1 7 ∷ walled 0 2 8 ∷ []))
    (desks 300 301 ++ (commit 5 1 7 ⇒ GRANTED ∷ check 5 1 8 ⇒ WALL ∷ commit 5 1 8 ⇒ WALL ∷ claim 5 0 0 ⇒ GRANTED ∷ task_check 5 0 0 1 8 ⇒ GRANTED ∷ commit 6 1 8 ⇒ GRANTED ∷ check 6 1 7 ⇒ WALL ∷ done 5 0 0 ⇒ GRANTED
    ∷ destroy 5 ⇒ GRANTED ∷ delete_user 300 ⇒ IN-USE ∷ end_order 0 ⇒ GRANTED ∷ delete_user 300 ⇒ GRANTED ∷ join 300 1 ⇒ GRANTED ∷ create 5 300 1 ⇒ GRANTED ∷ commit 5 1 8 ⇒ GRANTED ∷ check 5 1 7 ⇒ WALL ∷ []))
    ∷ refuses (clerks 300 301 ++ (walled 0 1 7 ∷ walled 0 2 7 ∷ [])) RULE 11
    ∷ []

-- ---- 02, Ask 2: the place that goes with each reply. "each request line of 01's listing gains " 0", but for requests 4, 6 and 8, which gain " 1""

-- A row: the places that the requests of the case get.
pub record Places : Type 0 where
  pub of : Case
  pub places : List ℕ

-- The row with these parts.
abbrev pub gains : Case → List ℕ → Places
gains c ks = record { of = c; places = ks }

-- The clerks of above, with a third task.
unfoldable pub clerks_of_three : List Bytes
clerks_of_three = clerks 300 301 ++ (task 2 0 ∷ open_to 2 0 ∷ [])

-- The table of places.
unfoldable pub placed : List Places
placed =
    gains listing (0 ∷ 0 ∷ 0 ∷ 1 ∷ 0 ∷ 1 ∷ 0 ∷ 1 ∷ 0 ∷ 0 ∷ 0 ∷ 0 ∷ 0 ∷ [])
    -- "among rules of their kind in policy order, of the first rule broken": the first rule is about other tasks, and the third is broken too.
    ∷ gains
    (accepts (clerks_of_three ++ (task_set 1 5 ∷ task_set 1 3 ∷ task_set 1 7 ∷ []))
    (desks 300 301 ++ (claim 5 0 0 ⇒ GRANTED ∷ claim 5 0 1 ⇒ SEPARATION ∷ [])))
    (0 ∷ 0 ∷ 0 ∷ 0 ∷ 2 ∷ [])
    ∷ gains
    (accepts (clerks_of_three ++ (is_before 0 2 ∷ is_before 0 1 ∷ is_before 2 1 ∷ []))
    (desks 300 301 ++ (claim 5 0 1 ⇒ BEFORE ∷ claim 5 0 0 ⇒ GRANTED ∷ done 5 0 0 ⇒ GRANTED ∷ claim 5 0 1 ⇒ BEFORE ∷ claim 5 0 2 ⇒ GRANTED ∷ [])))
    (0 ∷ 0 ∷ 0 ∷ 2 ∷ 0 ∷ 0 ∷ 3 ∷ 0 ∷ [])
    ∷ gains
    (accepts (clerks_of_three ++ (bound 0 2 ∷ bound 1 0 ∷ bound 1 2 ∷ []))
    (desks 300 301 ++ (claim 6 0 0 ⇒ GRANTED ∷ claim 5 0 1 ⇒ BOUND ∷ claim 5 0 2 ⇒ BOUND ∷ [])))
    (0 ∷ 0 ∷ 0 ∷ 0 ∷ 2 ∷ 1 ∷ [])
    -- "For BLOCK it is the block at which 01's search ends": a block of the lowest partitioning, which need not be the first in policy order; the place
    -- counts all blocks.
    ∷ gains
    (accepts (clerks_of_three ++ (block 9 1 ∷ block 2 4 ∷ block 9 2 ∷ block 2 2 ∷ []))
    (desks 300 301 ++ (claim 5 0 0 ⇒ GRANTED ∷ claim 5 0 1 ⇒ BLOCK ∷ claim 5 0 2 ⇒ GRANTED ∷ claim 5 0 1 ⇒ BLOCK ∷ [])))
    (0 ∷ 0 ∷ 0 ∷ 0 ∷ 1 ∷ 0 ∷ 2 ∷ [])
    -- "all other replies carry 0": ALONE and COUNT, also if the policy has rules of the other kinds; SHAPE, RANGE, UNKNOWN, TAKEN and NO ROLE of a claim.
    ∷ gains count_limit (0 ∷ 0 ∷ 0 ∷ 0 ∷ 0 ∷ 0 ∷ 0 ∷ 0 ∷ 0 ∷ 0 ∷ 0 ∷ [])
    ∷ gains
    (accepts (clerks_of_three ++ (is_before 0 1 ∷ task_set 2 7 ∷ ban 0 ∷ at_most 1 0 ∷ task 3 0 ∷ []))
    (desks 300 301 ++ (claim 5 0 0 ⇒ GRANTED ∷ claim 5 0 0 ⇒ TAKEN ∷ done 5 0 0 ⇒ GRANTED ∷ claim 6 0 0 ⇒ COUNT ∷ claim 5 0 3 ⇒ NO-ROLE ∷ claim 5 0 4 ⇒ UNKNOWN ∷ claim 5 0 64 ⇒ RANGE ∷ record_of 50 1 5 0 1 0 ⇒ SHAPE ∷ [])))
    (0 ∷ 0 ∷ 0 ∷ 0 ∷ 0 ∷ 0 ∷ 0 ∷ 0 ∷ 0 ∷ 0 ∷ 0 ∷ [])
    ∷ gains
    (accepts (clerks 300 301 ++ (bound 0 1 ∷ ban 0 ∷ [])) (desks 300 301 ++ (claim 5 0 0 ⇒ GRANTED ∷ claim 5 0 1 ⇒ ALONE ∷ claim 6 0 1 ⇒ BOUND ∷ [])))
    (0 ∷ 0 ∷ 0 ∷ 0 ∷ 0 ∷ 1 ∷ [])
    ∷ []

-- Whether the replies came with these places.
unfoldable pub same_places : List Placed → List ℕ → Bool
same_places [] [] = true
same_places [] (k ∷ ks) = false
same_places (x ∷ xs) [] = false
same_places (x ∷ xs) (k ∷ ks) = eqb x.place k && same_places xs ks

-- Whether a row of places holds.
unfoldable pub places_come_out : Places → Bool
places_come_out c =
    let l = load (joined c.of.policy) in
    let xs = placed_run (engine_of l.tables) (each (λ x. x.request) c.of.requests) in
    eqb l.reply c.of.reply && eqb l.place c.of.place
    && as_expected (each (λ x. x.said) xs) c.of.requests && same_places xs c.places

-- ---- Every row of each table holds.

-- 01's cases marked P, and the cases beyond them.
pub all-come-out : every (comes_out request engine_of) cases ≡ true
unfolding engine_open words_open clerks desks listing last_user different_people sets_of_two four_tasks blocks_and_bindings count_limit two_subjects beside cases
all-come-out = refl

-- The second table of such cases.
pub further-come-out : every (comes_out request engine_of) further ≡ true
unfolding engine_open words_open clerks desks two_orders further
further-come-out = refl

-- The cases with the highest and lowest numbers.
pub edges-come-out : every (comes_out request engine_of) edges ≡ true
unfolding engine_open words_open four_tasks last_numbers last_desks edges
edges-come-out = refl

-- The cases for senior roles.
pub seniors-come-out : every (comes_out request engine_of) seniors ≡ true
unfolding engine_open words_open clerks desks leads seniors
seniors-come-out = refl

-- The cases for walls.
pub walls-come-out : every (comes_out request engine_of) walls ≡ true
unfolding engine_open words_open clerks desks walls
walls-come-out = refl

-- The table of places.
pub places-come-out : every places_come_out placed ≡ true
unfolding engine_open words_open clerks desks listing count_limit clerks_of_three placed same_places places_come_out
places-come-out = refl

-- The table of figures.
pub figures-come-out : every figures_come_out figured ≡ true
unfolding engine_open questions_open words_open clerks desks listing two_orders figured figures_come_out after
figures-come-out = refl
