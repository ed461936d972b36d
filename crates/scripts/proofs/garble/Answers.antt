use Rattle.std.proofs.Common.{ℕ, ◌+◌, ◌*◌, ◌%◌, ◌<◌, ◌≡◌, ◌∙◌, List, length, get_or, slice_set, refl, ap, rules, arith, add-one, get_or-set_same, get_or-set_other, below_none, below_more}
use Rattle.scripts.specs.Lines.{drawn, garbled}
use Rattle.scripts.proofs.garble.Goals as goal

abbrev Filled : ℕ → List ℕ → ℕ → Type 0
Filled seed words i = (k : ℕ) → k < i → get_or words k 0 ≡ garbled (drawn seed (k + 1))

one_more : (seed : ℕ) (words : List ℕ) (i x : ℕ) → i < length words → x ≡ drawn seed (i + 1) → Filled seed words i →
    Filled seed (slice_set words i (garbled x)) (i + 1)
one_more seed words i x l e h =
    below_more (λ k. get_or (slice_set words i (garbled x)) k 0 ≡ garbled (drawn seed (k + 1))) i
    (λ k u. get_or-set_other words i k (garbled x) 0 (λ e. omega arith) ∙ h k u)
    (get_or-set_same words i (garbled x) 0 l ∙ ap garbled e)

drawn_more : (seed i : ℕ) {x : ℕ} → x ≡ drawn seed i → (x % 2147483648 * 1103515245 + 12345) % 2147483648 ≡ drawn seed (i + 1)
unfolding drawn
drawn_more seed i e = rw (add-one i, e)

pub loop-word-init : goal.loop-word-init
unfolding drawn
loop-word-init c = record { last = refl; filled = below_none _ }

pub loop-word-preserved : goal.loop-word-preserved
loop-word-preserved c =
    let x = c.loop-word in
    let next = drawn_more c.args.seed x.word-index x.invariant.last in
    record {
      last = next;
      filled = one_more c.args.seed x.words x.word-index _ (omega arith) next x.invariant.filled;
    }
