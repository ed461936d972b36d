-- `Done` holds at both returns of a function that changes tables: a refusal that stores nothing, and
-- the next tables. Also the reply to two lists of checks that two functions check one after the other.
use Prim.Native.Nat.{ℕ, zero, suc}
use mathlib.Core.List.{List, ◌++◌}
use mathlib.Core.Path.{◌≡◌, refl, sym, ◌∙◌}
use Rattle.paper_lower.specs.Checks.{Check, first, granted}
use Rattle.paper_lower.proofs.CheckLaws.{Numbered, passed, first-passed, first_stops}
use Rattle.std.specs.Prelude.{Ok, Err}
use Rattle.replies.specs.Replies.{refusal_number}
use Rattle.replies.specs.declared.Refusal.{Refusal}
use Rattle.replies.specs.Done.{Done}
use Rattle.replies.proofs.ReplyLaws.{not-granted}

-- If the reply is not GRANTED, the tables are the old ones.
pub granted-old : {T : Type 0} (new old : T) (k : ℕ) → (k ≡ 0 → ⊥) → old ≡ granted k new old
granted-old new old zero h = absurd (h refl)
granted-old new old (suc k) h = refl

-- At a refusal: the buffer is unchanged.
pub refused : {T : Type 0} {read : List ℕ → T} {reply : ℕ} {e : Refusal} {next : T} {l : List ℕ} → refusal_number e ≡ reply → Done read reply next l l (Err e)
refused {T} {read} {reply} {e} {next} {l} q =
    record { replies = q; tables = granted-old next (read l) reply (λ z. not-granted e (q ∙ z)); kept = λ _. refl }

-- At GRANTED: the buffer reads as the next tables.
pub done : {T : Type 0} {read : List ℕ → T} {reply : ℕ} {u : Unit {0}} {next : T} {l l' : List ℕ} → 0 ≡ reply → read l' ≡ next → Done read reply next l l' (Ok u)
done {T} {read} {reply} {u} {next} {l} {l'} q t = record { replies = q; tables = rw (sym q) t; kept = λ h. absurd (h refl) }

-- If the reply to the first list of checks is a refusal, it is the reply to both lists.
pub stops : (xs ys : List Check) (e : Refusal) → refusal_number e ≡ first xs → refusal_number e ≡ first (xs ++ ys)
stops xs ys e q = q ∙ sym (first_stops xs ys (λ z. not-granted e (q ∙ z)))

-- If the reply to the first list is GRANTED, the reply to both lists is that to the second.
pub goes_on : (xs ys : List Check) → Numbered xs → 0 ≡ first xs → first (xs ++ ys) ≡ first ys
goes_on xs ys numbered q = first-passed xs ys (passed xs numbered (sym q))
