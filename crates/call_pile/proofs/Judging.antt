-- The checks of a pile, in order: each law gives the reply when one check applies and those before it do not.
use Prim.Native.Nat.{ℕ, ◌+◌, ◌-◌, ◌%◌, ◌≤◌, ◌<◌}
use mathlib.Core.Bool.{true, false}
use mathlib.Core.Path.{◌≡◌}
use native.Mathlib.Omega.{arith}
use lib.ListN.{length}
use borrow.Author.Tests.{lt-ltb, le-ltb, eq-eqb, ne_eqb}
use Rattle.paper_lower.specs.Checks.{first, GRANTED, ROOM, SHAPE}
use Rattle.paper_lower.specs.Records.{Bytes}
use Rattle.engine.specs.Buffers.{Buffers, fit}
use Rattle.call_pile.specs.Pile.{count, MOST, pile_checks}

module _ (s answers : Bytes) (at : ℕ) (x : Buffers) where
  pub no-state : fit x ≡ false → ROOM ≡ first (pile_checks (fit x) s answers at)
  unfolding pile_checks
  no-state h = rw h

  module _ (f : fit x ≡ true) where
    pub past : length answers < at → ROOM ≡ first (pile_checks (fit x) s answers at)
    unfolding pile_checks
    past h = rw (f, lt-ltb (length answers) at h)

    module _ (inside : at ≤ length answers) where
      pub short : length answers - at < count s → ROOM ≡ first (pile_checks (fit x) s answers at)
      unfolding pile_checks
      short h = rw (f, le-ltb (length answers) at inside, lt-ltb (length answers) (at + count s) (omega arith))

      module _ (room : count s ≤ length answers - at) where
        pub too_many : MOST < count s → ROOM ≡ first (pile_checks (fit x) s answers at)
        unfolding pile_checks
        too_many h = rw (f, le-ltb (length answers) at inside, le-ltb (length answers) (at + count s) (omega arith), lt-ltb MOST (count s) h)

        module _ (most : count s ≤ MOST) where
          pub cut : (length s % 16 ≡ 0 → ⊥) → SHAPE ≡ first (pile_checks (fit x) s answers at)
          unfolding pile_checks
          cut h =
              rw (
                f,
                le-ltb (length answers) at inside,
                le-ltb (length answers) (at + count s) (omega arith),
                le-ltb MOST (count s) most,
                ne_eqb (length s % 16) 0 h,
              )

          pub taken : length s % 16 ≡ 0 → GRANTED ≡ first (pile_checks (fit x) s answers at)
          unfolding pile_checks
          taken h =
              rw (
                f,
                le-ltb (length answers) at inside,
                le-ltb (length answers) (at + count s) (omega arith),
                le-ltb MOST (count s) most,
                eq-eqb (length s % 16) 0 h,
              )
