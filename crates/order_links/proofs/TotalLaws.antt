-- The contracts of the functions on links for any content: what they store keeps
-- the length, and for sound links it is what the other laws of this crate ask for.
use Prim.Native.Nat.{ℕ, suc, ◌+◌, ◌*◌, ◌-◌, ◌%◌, ◌≤◌, ◌<◌}
use mathlib.Core.Path.{◌≡◌, sym, ap, subst, ◌∙◌}
use mathlib.Core.Bool.{true}
use mathlib.Core.List.{List}
use native.Mathlib.Omega.{arith}
use lib.ListN.{length, get_or, set, length-set}
use Rattle.order_links.specs.Chains.{orders_words, mark_of, head_of, count_of, is_read_as, chain_word, link_of, word_at, Fine}
use Rattle.order_links.specs.Stacks.{payload_of, payloads_in, Woven, Loose, word_for, Popped, Pushed, Taken, Cut, Freed, Still}
use Rattle.order_links.specs.Total.{Safe, Cuts, Frees, Drops}
use Rattle.order_links.proofs.ReadLaws.{chain-read, read_some, read_past}
use Rattle.order_links.proofs.ChainLaws.{linked-here}
use Rattle.order_links.proofs.StackLaws.{popped-at, pushed_at, past-mark, cut-newest}
use Rattle.order_links.proofs.CarryLaws.{carried, still-step, count-step, off-free}
use Rattle.order_links.proofs.CutLaws.{cut_later, freed, Sifting, in-room, fewer-than, goes_on, takes_out}

module _ (l : List ℕ) (room : length l ≡ orders_words) (i : ℕ) (hi : i ≤ 65) where
  -- The word of the chain, and the buffer in which the chain starts after entry k and has n entries.
  abbrev x : ℕ
  x = get_or l (66 + i) 0

  abbrev shorter : ℕ → ℕ → List ℕ
  shorter k n = set l (66 + i) (link_of (word_at l k) + 4096 * n)

  pub any-popped : (k : ℕ) → k ≤ 2048 → (0 < head_of x → head_of x ≤ 2048 → k ≡ head_of x)
      → Safe l (shorter k ((count_of x + 4095) % 4096)) k × (Woven l → 0 < count_of (chain_word l i) → Popped l (shorter k ((count_of x + 4095) % 4096)) i k)
  any-popped k b same = (
    record { room = length-set l (66 + i) _; reach = b },
    λ w c.
        let e = chain-read l i (read_some l i c) in
        let f = linked-here l (Fine l i (mark_of l)) (head_of (chain_word l i)) (count_of (chain_word l i)) c (w.chain i hi) in
        let m = w.mark in
        let q : k ≡ head_of x = same (omega arith) (omega arith) in
        let n : (count_of x + 4095) % 4096 ≡ count_of x - 1 = omega arith in
        subst (λ (k : ℕ). Popped l (shorter k ((count_of x + 4095) % 4096)) i k) (sym q)
        (subst (λ (n : ℕ). Popped l (shorter (head_of x) n) i (head_of x)) (sym n) (popped-at l room w i hi c x e)),
  )

  pub any-pushed : (k p : ℕ) → k ≤ 2048 → p < 16777216
      → Safe l (set (set l (195 + k) (word_for i p (head_of x))) (66 + i) (k + 4096 * (count_of x + 1))) k
      × (Loose l k → is_read_as l i ≡ true → Pushed l (set (set l (195 + k) (word_for i p (head_of x))) (66 + i) (k + 4096 * (count_of x + 1))) i p)
  any-pushed k p b h = (
    record { room = length-set (set l (195 + k) (word_for i p (head_of x))) (66 + i) _ ∙ length-set l (195 + k) _; reach = b },
    λ loose r. pushed_at l room k loose i hi p h r x (chain-read l i r),
  )

  -- The number of entries less one, if there is an entry.
  one_less : 0 < count_of (chain_word l i) → (chain_word l i ≡ x) × ((count_of x + 4095) % 4096 ≡ count_of x - 1)
  one_less c = let e = chain-read l i (read_some l i c) in (e, omega arith)

  pub any-newest : (kept q k : ℕ) → kept ≡ 0 → Cuts l (shorter k ((count_of x + 4095) % 4096)) i kept q k
  any-newest kept q k z = (
    length-set l (66 + i) _,
    λ w s.
        let m = s.0 in
        let o = one_less (omega arith) in
        subst (λ (n : ℕ). Cut l (shorter k n) i kept k) (sym o.1) (cut-newest l room w i hi (omega arith) x kept k o.0 z s.1.0),
  )

  -- The buffer in which entry q links to the entry that k links to.
  abbrev relinked : ℕ → ℕ → List ℕ
  relinked q k = set l (195 + q) (word_at l q % 4294967296 + 4294967296 * link_of (word_at l k))

  pub any-later : (kept q k : ℕ) → (kept ≡ 0 → ⊥) → Cuts l (set (relinked q k) (66 + i) (head_of x + 4096 * ((count_of x + 4095) % 4096))) i kept q k
  any-later kept q k some = (
    length-set (relinked q k) (66 + i) _ ∙ length-set l (195 + q) _,
    λ w s.
        let m = s.0 in
        let o = one_less (omega arith) in
        subst (λ (n : ℕ). Cut l (set (relinked q k) (66 + i) (head_of x + 4096 * n)) i kept k) (sym o.1)
        (cut_later l room w i hi x kept q k o.0 some m s.1.0 s.1.1),
  )

pub any-marked : (l : List ℕ) → length l ≡ orders_words → count_of (chain_word l 64) ≡ 0
    → Safe l (set l 0 (mark_of l % 2048 + 1)) (mark_of l % 2048 + 1)
    × (Woven l → (count_of (chain_word l 64) ≡ 0 → mark_of l < 2048) → Taken l (set l 0 (mark_of l % 2048 + 1)) (mark_of l % 2048 + 1))
any-marked l room z = (
  record { room = length-set l 0 _; reach = omega arith },
  λ w f.
      let m = f z in
      let n : mark_of l % 2048 ≡ mark_of l = omega arith in
      subst (λ (n : ℕ). Taken l (set l 0 (n + 1)) (n + 1)) (sym n) (past-mark l room w m),
)

pub any-freed : (l l₁ l₂ : List ℕ) (i kept q k p : ℕ) → i < 64 → Cuts l l₁ i kept q k
    → Safe l₁ l₂ k × (Loose l₁ k → is_read_as l₁ 64 ≡ true → Pushed l₁ l₂ 64 p) → Frees l l₂ i kept q k
any-freed l l₁ l₂ i kept q k p hi a b = (
  b.0.room ∙ a.0,
  λ w s.
      let c = a.1 w s in
      freed l l₁ l₂ i kept k p hi s.0 c (b.1 c.loose (read_past l₁ 64 (omega arith))),
)

-- ---- One turn of `sift`.
module _ (i key : ℕ) (l₀ l : List ℕ) (h n kept q k w : ℕ) (hi : i < 64) (less : kept < n) (same : 0 < h → h ≤ 2048 → k ≡ h) (ew : w ≡ word_at l k)
    (f : Woven l₀ → Sifting i key l₀ l h n kept q) where
  pub any-goes : (payload_of w % 16384 ≡ key → ⊥) → Woven l₀ → Sifting i key l₀ l (link_of w) n (kept + 1) k
  any-goes d woven =
      let s = f woven in
      let b = in-room i key l₀ l h n kept q hi s less in
      let e = same b.0 b.1 in
      subst (λ (k : ℕ). Sifting i key l₀ l (link_of w) n (kept + 1) k) (sym e) (goes_on i key l₀ l h n kept q hi s w less (ew ∙ ap (word_at l) e) d)

  pub any-takes : (l' : List ℕ) → payload_of w % 16384 ≡ key → Frees l l' i kept q k → Woven l₀ → Sifting i key l₀ l' (link_of w) (n - 1) kept q
  any-takes l' d out woven =
      let s = f woven in
      let b = in-room i key l₀ l h n kept q hi s less in
      let e = same b.0 b.1 in
      let g = out.1 s.still.woven (fewer-than i key l₀ l h n kept q hi s less, (e ∙ s.here, s.back)) in
      takes_out i key l₀ l h n kept q hi s w l' less (ew ∙ ap (word_at l) e) d (subst (λ (k : ℕ). Freed l l' i kept k) e g)

-- ---- The newest entry of an instance is taken and put on the free chain.
pub any-dropped : (l l₁ l₂ : List ℕ) (i k p : ℕ) → i < 64 → Safe l l₁ k × (Woven l → 0 < count_of (chain_word l i) → Popped l l₁ i k) →
    p ≡ payload_of (word_at l₁ k)
    → Safe l₁ l₂ k × (Loose l₁ k → is_read_as l₁ 64 ≡ true → Pushed l₁ l₂ 64 p) → Drops i l l₂ p
any-dropped l l₁ l₂ i k p hi a e b = (
  b.0.room ∙ a.0.room,
  λ w s.
      let out = a.1 w s in
      carried l l₁ l₂ i 64 k p p (omega arith) (omega arith) (λ q. omega arith) e out (b.1 out.loose (read_past l₁ 64 (omega arith))),
)

-- ---- The invariant of `drop_all`: n entries of chain i are left.
pub record Dropping (i : ℕ) (l₀ l : List ℕ) (n : ℕ) : Type 0 where
  pub still : Still i l₀ l
  pub count : n ≡ count_of (chain_word l i)
  pub aside : payloads_in l 65 ≡ payloads_in l₀ 65

pub drops-on : (i : ℕ) (l₀ l l' : List ℕ) (n k p : ℕ) → i < 64 → n ≡ suc k → Dropping i l₀ l n → Drops i l l' p → Dropping i l₀ l' k
drops-on i l₀ l l' n k p hi some s d =
    let e = s.count in
    let out = d.1 s.still.woven (omega arith) in
    let less = count-step i 64 p p l l' out in
    record {
      still = still-step i i 64 p p l₀ l l' (off-free i) s.still out;
      count = omega arith;
      aside = out.others 65 (omega arith) (λ q. omega arith) (λ q. omega arith) ∙ s.aside;
    }
