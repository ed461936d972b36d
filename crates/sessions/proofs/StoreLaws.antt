-- How stores to the sessions buffer change its tables, for each setter of the crate; and the tables of a buffer of zeros.
use Prim.Native.Nat.{ℕ, ◌+◌, ◌<◌, ◌/◌, ◌%◌}
use mathlib.Core.Bool.{Bool, true, false, cond}
use mathlib.Core.List.{List}
use mathlib.Core.Path.{◌≡◌, refl, sym, ap, ap₂, ◌∙◌}
use native.Mathlib.Nat.{zero-add}
use native.Mathlib.Omega.{arith}
use borrow.Author.Tests.{eqb-true}
use lib.Dec.{eqb}
use lib.ListN.{length, set, replicate, length-set}
use Rattle.std.proofs.lemmas.List.{length-replicate}
use Rattle.paper_lower.specs.Sets.{Set, plus, minus, union}
use Rattle.paper_lower.specs.Lists.{Maybe, upd}
use Rattle.paper_lower.specs.Tables.{Sessions, no_sessions, with_active, with_had}
use Rattle.paper_lower.specs.Sessions.{create_next, destroy_next, activate_next, deactivate_next}
use Rattle.replies.specs.Cells.{column}
use Rattle.replies.proofs.CellLaws.{column-same, column-below, column-above, column-zeros, zeros-at}
use Rattle.sets.proofs.SetLaws.{Part, part-refl, part-trans, part_same, part-plus, part-minus, part_left, part_right, part-union}
use Rattle.blocks.specs.Reading.{blocks_in}
use Rattle.blocks.proofs.BlockLaws.{no_words}
use Rattle.sessions.specs.Reading.{sessions_words, sessions_of, roles_anew, bound_anew, live_in, user_in, same, Cleared}

-- ---- Sets, and tables read from two columns.
absorbs : (h m : Set) → Part m h → union h m ≡ h
absorbs h m p = part_same _ _ (part-union h m h (part-refl h) p) (part_left h m)

-- A table whose rows are read from two columns, with h: the union of two words, or
-- the blocks in them. Replacing the row in both columns replaces it in the table.
abbrev paired : {A : Type 0} → (ℕ → ℕ → A) → (ℕ → ℕ) → (ℕ → ℕ) → ℕ → A
paired h f g k = h (f k) (g k)

both-rows : {A : Type 0} (h : ℕ → ℕ → A) (f g : ℕ → ℕ) (a x y : ℕ) → paired h (upd f a x) (upd g a y) ≡ upd (paired h f g) a (h x y)
unfolding upd
both-rows h f g a x y = λ i k. go k (eqb k a) i
  where
    go : (k : ℕ) (b : Bool) → h (cond b x (f k)) (cond b y (g k)) ≡ cond b (h x y) (h (f k) (g k))
    go k true = refl
    go k false = refl

row_kept : (f : ℕ → Set) (a : ℕ) → upd f a (f a) ≡ f
unfolding upd
row_kept f a = λ i k. go k (eqb k a) refl i
  where
    go : (k : ℕ) (b : Bool) → eqb k a ≡ b → cond b (f a) (f k) ≡ f k
    go k true e = ap f (sym (eqb-true k a e))
    go k false e = refl

-- A store below the words of the users leaves their blocks unchanged.
bound-kept : (l : List ℕ) (j v : ℕ) → j < 384
    → paired blocks_in (column same 0 384 1024 (set l j v)) (column same 0 1408 1024 (set l j v)) ≡
    paired blocks_in (column same 0 384 1024 l) (column same 0 1408 1024 l)
bound-kept l j v h = ap₂ (paired blocks_in) (column-below same 0 384 1024 l j v h) (column-below same 0 1408 1024 l j v (omega arith))

-- ---- The stores of each setter.

-- The sessions with the row of subject a replaced in all tables.
abbrev row_anew : Sessions → ℕ → ℕ → ℕ → ℕ → Sessions
row_anew s a w m h =
    record {
      live = upd s.live a (live_in w);
      user = upd s.user a (user_in w);
      active = upd s.active a m;
      had = upd s.had a (union h m);
      bound_to = s.bound_to;
    }

module _ (l : List ℕ) (room : length l ≡ sessions_words) (a : ℕ) (b : a < 128) where
  pub roles-set : (m h : ℕ) → sessions_of (set (set l (128 + a) m) (256 + a) h) ≡ roles_anew (sessions_of l) a m h
  unfolding sessions_of
  roles-set m h =
      let l₁ = set l (128 + a) m in
      let next : length l₁ ≡ sessions_words = rw length-set room in
      let active = column-above same 0 128 128 l₁ (256 + a) h (omega arith) ∙ column-same same 0 128 128 l a m b (omega arith) in
      let had =
      column-same same 0 256 128 l₁ a h b (omega arith)
      ∙ ap (λ (f : ℕ → ℕ). upd f a h) (column-below same 0 256 128 l (128 + a) m (omega arith)) in
      λ x. record {
        live = (column-above live_in false 0 128 l₁ (256 + a) h (omega arith) ∙ column-above live_in false 0 128 l (128 + a) m (omega arith)) x;
        user = (column-above user_in 0 0 128 l₁ (256 + a) h (omega arith) ∙ column-above user_in 0 0 128 l (128 + a) m (omega arith)) x;
        active = active x;
        had = (ap₂ (paired union) had active ∙ both-rows union (column same 0 256 128 l) (column same 0 128 128 l) a h m) x;
        bound_to = (bound-kept l₁ (256 + a) h (omega arith) ∙ bound-kept l (128 + a) m (omega arith)) x;
      }

  subject-set : (w : ℕ) → sessions_of (set l (0 + a) w)
      ≡ record {
        live = upd (sessions_of l).live a (live_in w);
        user = upd (sessions_of l).user a (user_in w);
        active = (sessions_of l).active;
        had = (sessions_of l).had;
        bound_to = (sessions_of l).bound_to;
      }
  unfolding sessions_of
  subject-set w =
      let active = column-below same 0 128 128 l (0 + a) w (omega arith) in
      let had = column-below same 0 256 128 l (0 + a) w (omega arith) in
      λ x. record {
        live = column-same live_in false 0 128 l a w b (omega arith) x;
        user = column-same user_in 0 0 128 l a w b (omega arith) x;
        active = active x;
        had = ap₂ (paired union) had active x;
        bound_to = bound-kept l (0 + a) w (omega arith) x;
      }

pub bound-set : (l : List ℕ) → length l ≡ sessions_words → (u : ℕ) → u < 1024 → (w k : ℕ)
    → sessions_of (set (set l (384 + u) w) (1408 + u) k) ≡ bound_anew (sessions_of l) u (blocks_in w k)
unfolding sessions_of
bound-set l room u b w k =
    let l₁ = set l (384 + u) w in
    let next : length l₁ ≡ sessions_words = rw length-set room in
    let walls = column-above same 0 384 1024 l₁ (1408 + u) k (omega arith) ∙ column-same same 0 384 1024 l u w b (omega arith) in
    let blocks =
    column-same same 0 1408 1024 l₁ u k b (omega arith)
    ∙ ap (λ (f : ℕ → ℕ). upd f u k) (column-below same 0 1408 1024 l (384 + u) w (omega arith)) in
    let active = column-above same 0 128 128 l₁ (1408 + u) k (omega arith) ∙ column-above same 0 128 128 l (384 + u) w (omega arith) in
    let had = column-above same 0 256 128 l₁ (1408 + u) k (omega arith) ∙ column-above same 0 256 128 l (384 + u) w (omega arith) in
    λ x. record {
      live = (column-above live_in false 0 128 l₁ (1408 + u) k (omega arith) ∙ column-above live_in false 0 128 l (384 + u) w (omega arith)) x;
      user = (column-above user_in 0 0 128 l₁ (1408 + u) k (omega arith) ∙ column-above user_in 0 0 128 l (384 + u) w (omega arith)) x;
      active = active x;
      had = ap₂ (paired union) had active x;
      bound_to = (ap₂ (paired blocks_in) walls blocks ∙ both-rows blocks_in (column same 0 384 1024 l) (column same 0 1408 1024 l) u w k) x;
    }

row-set : (l : List ℕ) → length l ≡ sessions_words → (a : ℕ) → a < 128 → (w m h : ℕ)
    → sessions_of (set (set (set l a w) (128 + a) m) (256 + a) h) ≡ row_anew (sessions_of l) a w m h
row-set l room a b w m h =
    let next : length (set l a w) ≡ sessions_words = rw length-set room in
    let stored = rw zero-add at (subject-set l room a b w) in
    roles-set (set l a w) next a b m h ∙ ap (λ s. roles_anew s a m h) stored

pub create-set : (l : List ℕ) → length l ≡ sessions_words → (a : ℕ) → a < 128 → (u m : ℕ) → u < 1024
    → sessions_of (set (set (set l a (1024 + u)) (128 + a) m) (256 + a) m) ≡ create_next (sessions_of l) a u m
unfolding create_next
create-set l room a b u m k =
    let bit : (1024 + u) / 1024 ≡ 1 = omega arith in
    let low : (1024 + u) % 1024 ≡ u = omega arith in
    row-set l room a b (1024 + u) m m ∙ simp (bit, low, absorbs m m (part-refl m))

pub destroy-set : (l : List ℕ) → length l ≡ sessions_words → (a : ℕ) → a < 128
    → sessions_of (set (set (set l a 0) (128 + a) 0) (256 + a) 0) ≡ destroy_next (sessions_of l) a
unfolding destroy_next
destroy-set l room a b = row-set l room a b 0 0 0 ∙ simp (absorbs 0 0 (part-refl 0))

-- ---- Activating and deactivating a role. The active roles always belong to those that the subject has had active.
had-more : (l : List ℕ) (a : ℕ) → Part ((sessions_of l).active a) ((sessions_of l).had a)
unfolding sessions_of
had-more l a = part_right _ _

pub activated : (l : List ℕ) (a r : ℕ)
    → roles_anew (sessions_of l) a (plus ((sessions_of l).active a) r) (plus ((sessions_of l).had a) r) ≡ activate_next (sessions_of l) a r
unfolding activate_next
activated l a r =
    ap (λ (m : Set). with_had (with_active (sessions_of l) (upd (sessions_of l).active a (plus ((sessions_of l).active a) r))) (upd (sessions_of l).had a m))
    (absorbs _ _ (part-plus _ _ r (had-more l a)))

pub deactivated : (l : List ℕ) (a r : ℕ)
    → roles_anew (sessions_of l) a (minus ((sessions_of l).active a) r) ((sessions_of l).had a) ≡ deactivate_next (sessions_of l) a r
unfolding deactivate_next
deactivated l a r =
    ap (λ (f : ℕ → Set). with_had (with_active (sessions_of l) (upd (sessions_of l).active a (minus ((sessions_of l).active a) r))) f)
    (ap (λ (m : Set). upd (sessions_of l).had a m) (absorbs _ _ (part-trans _ _ _ (part-minus ((sessions_of l).active a) r) (had-more l a)))
    ∙ row_kept (sessions_of l).had a)

-- The tables that have the same row everywhere, for the buffer of zeros.
abbrev everywhere : Set → ℕ → Set
everywhere m k = m

abbrev of_all : (ℕ → Maybe ℕ) → ℕ → ℕ → Maybe ℕ
of_all f u = f

-- ---- A buffer of zeros.
pub zeros-cleared : (l : List ℕ) (n : ℕ) → n ≡ sessions_words → l ≡ replicate n 0 → Cleared l
unfolding sessions_of no_sessions
zeros-cleared l n room z =
    let active = column-zeros same 128 128 n in
    let had = column-zeros same 256 128 n in
    record {
      tables = rw z (λ x. record {
        live = column-zeros live_in 0 128 n x;
        user = column-zeros user_in 0 128 n x;
        active = active x;
        had = (ap₂ (paired union) had active ∙ ap everywhere (absorbs 0 0 (part-refl 0))) x;
        bound_to = (ap₂ (paired blocks_in) (column-zeros same 384 1024 n) (column-zeros same 1408 1024 n) ∙ ap of_all no_words) x;
      });
      words = rw z (length-replicate n 0 ∙ room);
      zeros = λ i. rw z (zeros-at n i);
    }
