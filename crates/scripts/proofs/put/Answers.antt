-- `put` meets its contract: after the copy, the bytes from `at` on are the record's, and those before and after are as they were.
use Rattle.std.proofs.Common.{ℕ, ◌+◌, ◌-◌, ◌<◌, ◌≤◌, ◌≡◌, ◌∙◌, ◌⊎◌, inl, inr, List, ◌++◌, length, get_or, ap, sym, refl, rules, arith}
use Rattle.std.proofs.Math.ListN.{take, drop}
use Rattle.std.proofs.lemmas.Bool.{cases_lt}
use Rattle.std.proofs.lemmas.List.{get_or_append_left, get_or-append-add, get_or-take, get_or-drop, length-take-le}
use Rattle.scripts.specs.Lines.{bytes_of}
use Rattle.scripts.specs.declared.Fields.{Fields}
use Rattle.scripts.proofs.put.Goals as goal

-- The list with sixteen items of its own after the first `at`.
abbrev with_items : ℕ → List ℕ → List ℕ → List ℕ
with_items at xs ys = take at xs ++ (ys ++ drop 16 (drop at xs))

module _ (at : ℕ) (xs ys : List ℕ) (room : at ≤ length xs) (items : length ys ≡ 16) where
  front : length (take at xs) ≡ at
  front = length-take-le at xs room

  shifted : (k : ℕ) → get_or (with_items at xs ys) (at + k) 0 ≡ get_or (ys ++ drop 16 (drop at xs)) k 0
  shifted k =
      ap (λ (n : ℕ). get_or (with_items at xs ys) (n + k) 0) (sym front) ∙ get_or-append-add (take at xs) (ys ++ drop 16 (drop at xs)) k 0

  written : (k : ℕ) → k < 16 → get_or (with_items at xs ys) (at + k) 0 ≡ get_or ys k 0
  written k h = shifted k ∙ get_or_append_left ys (drop 16 (drop at xs)) 0 k (omega arith)

  before : (k : ℕ) → k < at → get_or (with_items at xs ys) k 0 ≡ get_or xs k 0
  before k h = get_or_append_left (take at xs) (ys ++ drop 16 (drop at xs)) 0 k (omega (arith, front)) ∙ get_or-take at xs k 0 h

  behind : (j : ℕ) → get_or (with_items at xs ys) (at + (16 + j)) 0 ≡ get_or xs (at + (16 + j)) 0
  behind j =
      shifted (16 + j) ∙ ap (λ (n : ℕ). get_or (ys ++ drop 16 (drop at xs)) (n + j) 0) (sym items) ∙ get_or-append-add ys (drop 16 (drop at xs)) j 0
      ∙ get_or-drop 16 (drop at xs) j 0 ∙ get_or-drop at xs (16 + j) 0

  others : (k : ℕ) → (at ≤ k → k < at + 16 → ⊥) → get_or (with_items at xs ys) k 0 ≡ get_or xs k 0
  others k out = split (cases_lt k at)
    where
      split : (k < at) ⊎ (at ≤ k) → get_or (with_items at xs ys) k 0 ≡ get_or xs k 0
      split (inl h) = before k h
      split (inr h) = further (cases_lt k (at + 16))
        where
          further : (k < at + 16) ⊎ (at + 16 ≤ k) → get_or (with_items at xs ys) k 0 ≡ get_or xs k 0
          further (inl l) = absurd (out h l)
          further (inr l) = let e : k ≡ at + (16 + (k - (at + 16))) = omega arith in rw e (behind (k - (at + 16)))

pub returns : goal.returns
returns c =
    let args = c.args in
    let n : args.at + 16 - args.at ≡ 16 = omega arith in
    let room : args.at ≤ length args.to.now = omega arith in
    let copied = c.copy_from_slice.ensures.after ∙ c.bytes.ensures in
    rw (n, copied) (record {
      ends = search rules;
      written = λ k h. written args.at args.to.now (bytes_of args.r) room refl k (omega arith);
      others = λ k h. others args.at args.to.now (bytes_of args.r) room refl k h;
    })
