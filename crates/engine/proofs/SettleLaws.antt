-- The ways in which `settle` and `settled_request` return, each with its contract.
use Prim.Native.Nat.{ℕ, ◌≤◌}
use mathlib.Core.Bool.{true, false, true≢false}
use mathlib.Core.List.{List}
use mathlib.Core.Path.{◌≡◌, refl, sym, ap, ◌∙◌}
use native.Mathlib.Omega.{arith}
use Rattle.paper_lower.specs.Records.{Bytes}
use Rattle.replies.specs.Replies.{Outcome, outcome_number, outcome_place, placeless}
use Rattle.records.specs.declared.Record.{Record}
use Rattle.std.specs.Prelude.{Ok, Err}
use Rattle.replies.specs.declared.Refusal.TheVariants.{Room}
use Rattle.policy.specs.Reading.{Cleared as ClearedPolicy}
use Rattle.sessions.specs.Reading.{Cleared as ClearedSessions}
use Rattle.order_links.specs.Chains.{sound_of}
use Rattle.order_entries.specs.Reading.{Cleared}
use Rattle.engine.specs.Buffers.{Buffers, buffers, fit, SameLengths}
use Rattle.engine.specs.Step.{SoundStep, AnyStep}
use Rattle.engine.specs.Answers.{Requested}
use Rattle.engine.specs.Settling.{Settling, Settled, SettledRequest}
use Rattle.engine.proofs.Ways.{same-lengths, fit-lengths, no_room, tables-sound, tables-broken}
use Rattle.engine.proofs.EmptyLaws.{emptied}

-- ---- `settle` on buffers of a wrong length, and on sound links: it changes nothing.
pub no-settle : (x : Buffers) → fit x ≡ false → Settled x x (Err Room)
no-settle x f =
    record
    { replies = rw f; tables = refl; lengths = same-lengths refl refl refl; settles = λ e. absurd (true≢false (sym e ∙ f)); kept = λ _. refl; room = λ _. refl }

pub settled-sound : (x : Buffers) → fit x ≡ true → sound_of x.orders ≡ true → Settled x x (Ok tt)
settled-sound x f s =
    let l = fit-lengths x f in
    record
    { replies = rw f; tables = refl; lengths = same-lengths refl refl refl; settles = λ _. (l.0, (l.1.0, (l.1.1, s))); kept = λ _. refl; room = λ _. refl }

-- ---- `settled_request`, which does not check the links.
pub no-settled-room : (bytes : Bytes) (x : Buffers) → fit x ≡ false → SettledRequest bytes x x (Err (placeless Room))
no-settled-room bytes x h =
    let d = no_room x bytes h in
    record {
      lengths = same-lengths refl refl refl;
      room = λ _. (refl, (refl, refl));
      small = omega arith;
      kept = λ _. refl;
      sound = λ s. (d, s);
    }

-- A record that is refused for its form.
pub settled-refused : (bytes : Bytes) (x : Buffers) {j : Outcome} → fit x ≡ true → outcome_place j ≤ 64 → Requested bytes x x j → SettledRequest bytes x x j
settled-refused bytes x {j} h small d =
    record {
      lengths = same-lengths refl refl refl;
      room = λ e. absurd (true≢false (sym h ∙ e));
      small = small;
      kept = λ _. refl;
      sound = λ s. (d, s);
    }

-- Any other record: a step.
pub settled-step : (bytes : Bytes) (x x' : Buffers) (r : Record) {j : Outcome} → fit x ≡ true → SameLengths x x' → AnyStep r x x' j
    → (SoundStep r x x' j → sound_of x.orders ≡ true → Requested bytes x x' j) → SettledRequest bytes x x' j
settled-step bytes x x' r {j} h l a d =
    record {
      lengths = l;
      room = λ e. absurd (true≢false (sym h ∙ e));
      small = a.small;
      kept = a.kept;
      sound = λ s. let g = a.sound s in (d g s, g.1);
    }

-- ---- Settled buffers stay settled, and on them a settled request meets the contract of a request.
pub settled_on : {bytes : Bytes} {x x' : Buffers} {j : Outcome} → Settling x → SettledRequest bytes x x' j → Requested bytes x x' j × Settling x'
settled_on s d =
    let r = d.sound s.1.1.1 in
    let l = d.lengths in
    (r.0, (l.policy ∙ s.0, (l.sessions ∙ s.1.0, (l.orders ∙ s.1.1.0, r.1))))

pub settled-broken : (p s o p' s' o' : List ℕ) → fit (buffers p s o) ≡ true → sound_of o ≡ false → ClearedPolicy p' → ClearedSessions s' → Cleared o'
    → Settled (buffers p s o) (buffers p' s' o') (Ok tt)
settled-broken p s o p' s' o' f b a c d =
    let x = buffers p s o in
    let l = fit-lengths x f in
    record {
      replies = rw f;
      tables = tables-sound (buffers p' s' o') d.sound ∙ emptied p' s' o' a.tables c.tables d.tables ∙ sym (tables-broken x b);
      lengths = same-lengths (a.words ∙ sym l.0) (c.words ∙ sym l.1.0) (d.room ∙ sym l.1.1);
      settles = λ _. (a.words, (c.words, (d.room, d.sound)));
      kept = λ e. absurd (true≢false (sym e ∙ b));
      room = λ e. absurd (true≢false (sym f ∙ e));
    }
