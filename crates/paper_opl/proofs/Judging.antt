-- NAMES in a pass from left to right: all records can be made if and only if the record of each tag and of each line can be, in whatever order they are looked
-- up; and which records they are.
use mathlib.Core.Path.{◌≡◌, refl, sym, ap, ◌∙◌}
use mathlib.Core.List.{List, [], ◌∷◌, ◌++◌}
use mathlib.Core.Bool.{Bool, true, false, not, ◌&&◌, ◌||◌, true≢false}
use Prim.Native.Nat.{ℕ, zero, suc}
use lib.Dec.{eqb}
use borrow.Author.Tests.{eqb-true}
use Rattle.paper_lower.specs.Lists.{Maybe, holds, there, every, keep, each, lists_open}
use Rattle.paper_lower.specs.Lists.Maybe.{none, just}
use Rattle.paper_lower.specs.Records.{Record}
use Rattle.paper_lower.proofs.ListLaws.{both}
use Rattle.paper_opl.specs.Reading.{Text, text, same}
use Rattle.paper_opl.specs.Tree.{Tag}
use Rattle.paper_opl.specs.Naming.{Line, Names, task_record, all_of}
use Rattle.paper_opl.specs.Walk.{names_in, Context, start, turn, few_from, kinds, kind_in, kind_at, Saying, sayings, record_said, rising, records_in}
use Rattle.paper_opl.proofs.Inversion.{on_test, on-found, none≢just, just-value}
use Rattle.paper_opl.proofs.KindByKind.{Sets, turn-sets}

-- ---- Laws about `every`.

pub every_append : {A : Type 0} (p : A → Bool) (xs ys : List A) → every p (xs ++ ys) ≡ every p xs && every p ys
unfolding every
every_append p [] ys = refl
every_append p (x ∷ xs) ys = on_test (p x) (λ q. rw q (every_append p xs ys)) (λ q. rw q)

pub every_of : {A B : Type 0} (p : B → Bool) (f : A → B) (xs : List A) → every p (each f xs) ≡ every (λ x. p (f x)) xs
unfolding every each
every_of p f [] = refl
every_of p f (x ∷ xs) = ap (λ (b : Bool). p (f x) && b) (every_of p f xs)

every-kept : {A : Type 0} (p q : A → Bool) (xs : List A) → every p (keep q xs) ≡ every (λ x. not (q x) || p x) xs
unfolding every keep
every-kept p q [] = refl
every-kept p q (x ∷ xs) = on_test (q x) (λ e. rw e (ap (λ (b : Bool). p x && b) (every-kept p q xs))) (λ e. rw e (every-kept p q xs))

and-four : (a b c d : Bool) → (a && b) && (c && d) ≡ (a && c) && (b && d)
and-four true true c d = refl
and-four true false true d = refl
and-four true false false d = refl
and-four false b c d = refl

every-and : {A : Type 0} (p q : A → Bool) (xs : List A) → every p xs && every q xs ≡ every (λ x. p x && q x) xs
unfolding every
every-and p q [] = refl
every-and p q (x ∷ xs) = and-four (p x) (every p xs) (q x) (every q xs) ∙ ap (λ (b : Bool). (p x && q x) && b) (every-and p q xs)

every-same : {A : Type 0} (p q : A → Bool) (xs : List A) → ((x : A) → p x ≡ q x) → every p xs ≡ every q xs
unfolding every
every-same p q [] f = refl
every-same p q (x ∷ xs) f = rw (f x, every-same p q xs f)

-- A condition that all members meet can be left out.
every_given : {A : Type 0} (g p : A → Bool) (xs : List A) → every g xs ≡ true → every (λ x. not (g x) || p x) xs ≡ every p xs
unfolding every
every_given g p [] h = refl
every_given g p (x ∷ xs) h = let b = both (g x) (every g xs) h in rw (b.0, every_given g p xs b.1)

-- ---- Kinds.

-- j is one of the n kinds from k on.
unfoldable pub one_of : ℕ → ℕ → ℕ → Bool
one_of k zero j = false
one_of k (suc n) j = eqb j k || one_of (suc k) n j

-- The kinds that tags yield: 1 to 5 and 7 to 18.
abbrev pub of_tags : ℕ → Bool
of_tags j = one_of 1 5 j || one_of 7 12 j

either : (a b t : Bool) → (not a || t) && (not b || t) ≡ not (a || b) || t
either true true true = refl
either true true false = refl
either true false true = refl
either true false false = refl
either false true true = refl
either false true false = refl
either false false true = refl
either false false false = refl

every_true : {A : Type 0} (xs : List A) → every (λ x. true) xs ≡ true
unfolding every
every_true [] = refl
every_true (x ∷ xs) = every_true xs

risen : (ns : Names) (k n : ℕ) (xs : List Saying) → every there (rising ns k n xs) ≡ every (λ x. not (one_of k n x.kind) || there (record_said ns x)) xs
unfolding rising one_of every
risen ns k zero xs = sym (every_true xs)
risen ns k (suc n) xs =
    every_append there (each (record_said ns) (keep (λ x. eqb x.kind k) xs)) (rising ns (suc k) n xs)
    ∙ rw (
      every_of there (record_said ns) (keep (λ x. eqb x.kind k) xs),
      every-kept (λ x. there (record_said ns x)) (λ x. eqb x.kind k) xs,
      risen ns (suc k) n xs,
    )
    (every-and (λ x. not (eqb x.kind k) || there (record_said ns x)) (λ x. not (one_of (suc k) n x.kind) || there (record_said ns x)) xs
    ∙ every-same _ _ xs (λ x. either (eqb x.kind k) (one_of (suc k) n x.kind) (there (record_said ns x))))

kind-range : (xs : List (Text × ℕ)) (w : Text) → every (λ x. of_tags x.1) xs ≡ true → eqb (kind_in xs w) 0 ≡ false → of_tags (kind_in xs w) ≡ true
unfolding every kind_in
kind-range [] w h z = absurd (true≢false z)
kind-range (x ∷ xs) w h z =
    let b = both (of_tags x.1) (every (λ x. of_tags x.1) xs) h in
    on_test (same w x.0) (λ q. rw q b.0) (λ q. rw q (kind-range xs w b.1 (rw q at z)))

kinds-range : every (λ x. of_tags x.1) kinds ≡ true
unfolding lists_open kinds one_of
kinds-range = refl

sets-range : (c : Context) → Sets c → of_tags c.sets ≡ true
unfolding one_of
sets-range c h = on_test (eqb c.sets 9) (λ q. rw (eqb-true c.sets 9 q)) (λ q. rw (eqb-true c.sets 10 (rw q at h)))

-- Each tag that yields a record yields one of the kinds of tags.
pub said-range : (c : Context) → Sets c → (ts : List Tag) → every (λ x. of_tags x.kind) (sayings c ts) ≡ true
unfolding sayings every
said-range c h [] = refl
said-range c h (t ∷ ts) =
    let r = said-range (turn c t) (turn-sets c t h) ts in
    let k : eqb (kind_at c t) 0 ≡ false → of_tags (kind_at c t) ≡ true
    = λ q. on_test (same t.name (text "critical_role_set")) (λ p. rw p (sets-range c h)) (λ p. rw p (kind-range kinds t.name kinds-range (rw p at q))) in
    on_test (eqb (kind_at c t) 0) (λ q. rw q r)
    (λ q. rw q (rw (k q) r))

-- ---- All records.

pub all_there : (xs : List (Maybe Record)) → there (all_of xs) ≡ every there xs
unfolding all_of every holds
all_there [] = refl
all_there (none ∷ xs) = refl
all_there (just r ∷ xs) = on-found (all_of xs) (λ rs q. rw q (rw q at (all_there xs))) (λ q. rw q (rw q at (all_there xs)))

and-order : (a b t : Bool) → (a && t) && b ≡ t && (a && b)
and-order true b true = refl
and-order true b false = refl
and-order false b true = refl
and-order false b false = refl

-- "NAMES (22) for a name too long, undeclared or above a limit": the conditions under which all records can be made.
pub judged : (ts : List Tag) (ls : List Line)
    → there (records_in ts ls)
    ≡ few_from start ts
    && (every (λ l. there (task_record (names_in ts ls) l)) ls && every (λ x. there (record_said (names_in ts ls) x)) (sayings start ts))
unfolding records_in holds
judged ts ls =
    on_test (few_from start ts) (λ q. rw q (all_there _ ∙ together)) (λ q. rw q)
  where
    ns : Names
    ns = names_in ts ls

    xs : List Saying
    xs = sayings start ts

    together : every there (rising ns 1 5 xs ++ each (task_record ns) ls ++ rising ns 7 12 xs) ≡
        every (λ l. there (task_record ns l)) ls && every (λ x. there (record_said ns x)) xs
    together =
        every_append there (rising ns 1 5 xs ++ each (task_record ns) ls) (rising ns 7 12 xs)
        ∙ ap (λ (b : Bool). b && every there (rising ns 7 12 xs)) (every_append there (rising ns 1 5 xs) (each (task_record ns) ls))
        ∙ rw (every_of there (task_record ns) ls, risen ns 1 5 xs, risen ns 7 12 xs)
        (and-order (every (λ x. not (one_of 1 5 x.kind) || there (record_said ns x)) xs)
        (every (λ x. not (one_of 7 12 x.kind) || there (record_said ns x)) xs) (every (λ l. there (task_record ns l)) ls)
        ∙ ap (λ (b : Bool). every (λ l. there (task_record ns l)) ls && b)
        (every-and (λ x. not (one_of 1 5 x.kind) || there (record_said ns x)) (λ x. not (one_of 7 12 x.kind) || there (record_said ns x)) xs
        ∙ every-same _ _ xs (λ x. either (one_of 1 5 x.kind) (one_of 7 12 x.kind) (there (record_said ns x)))
        ∙ every_given (λ x. of_tags x.kind) (λ x. there (record_said ns x)) xs (said-range start refl ts)))

pub all_are : (xs : List (Maybe Record)) (rs : List Record) → all_of xs ≡ just rs → xs ≡ each just rs
unfolding all_of each
all_are [] rs e = ap (each just) (just-value e)
all_are (none ∷ xs) rs e = absurd (none≢just e)
all_are (just r ∷ xs) rs e =
    on-found (all_of xs) (λ us q. ap (λ (l : List (Maybe Record)). just r ∷ l) (all_are xs us q) ∙ ap (each just) (just-value (rw q at e)))
    (λ q. absurd (none≢just (rw q at e)))

-- The records, by rising kind, and within a kind in the order of the tags.
pub ordered : (ts : List Tag) (ls : List Line) (rs : List Record) → records_in ts ls ≡ just rs
    → rising (names_in ts ls) 1 5 (sayings start ts) ++ each (task_record (names_in ts ls)) ls ++ rising (names_in ts ls) 7 12 (sayings start ts) ≡ each just rs
unfolding records_in
ordered ts ls rs e = on_test (few_from start ts) (λ q. all_are _ rs (rw q at e)) (λ q. absurd (none≢just (rw q at e)))
