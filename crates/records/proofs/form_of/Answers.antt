-- `form_of` meets its contract: each arm gives the row that is computed from the definitions, and one test over all numbers proves the default.
use Prim.Native.Nat.{ℕ, zero-le}
use mathlib.Core.List.{List, [], ◌∷◌}
use Rattle.records.specs.Table.{table_at, table_open}
use Rattle.records.proofs.Span.{one_each, rest}
use Rattle.records.proofs.Lines.{same, same-sound}
use Rattle.records.proofs.form_of.Goals as goal

-- The keys of the arms.
abbrev kinds : List ℕ
kinds =
    1 ∷ 2 ∷ 3 ∷ 4 ∷ 5 ∷ 6 ∷ 7 ∷ 8 ∷ 9 ∷ 10 ∷ 11 ∷ 12 ∷ 13 ∷ 14 ∷ 15 ∷ 16 ∷ 17 ∷ 18 ∷ 32 ∷ 33 ∷ 34 ∷ 35 ∷ 36 ∷ 37 ∷ 40 ∷ 41 ∷ 42 ∷ 43 ∷ 48 ∷ 49 ∷ 50 ∷ 51 ∷ 52 ∷
    56 ∷ 57 ∷ 58 ∷ 59 ∷ 60 ∷ []

pub returns-in-1 : goal.returns-in-1
unfolding table_open
returns-in-1 c = rw c.in-1.is

pub returns-in-2 : goal.returns-in-2
unfolding table_open
returns-in-2 c = rw c.in-2.is

pub returns-in-3 : goal.returns-in-3
unfolding table_open
returns-in-3 c = rw c.in-3.is

pub returns-in-4 : goal.returns-in-4
unfolding table_open
returns-in-4 c = rw c.in-4.is

pub returns-in-5 : goal.returns-in-5
unfolding table_open
returns-in-5 c = rw c.in-5.is

pub returns-in-6 : goal.returns-in-6
unfolding table_open
returns-in-6 c = rw c.in-6.is

pub returns-in-7 : goal.returns-in-7
unfolding table_open
returns-in-7 c = rw c.in-7.is

pub returns-in-8 : goal.returns-in-8
unfolding table_open
returns-in-8 c = rw c.in-8.is

pub returns-in-9 : goal.returns-in-9
unfolding table_open
returns-in-9 c = rw c.in-9.is

pub returns-in-10 : goal.returns-in-10
unfolding table_open
returns-in-10 c = rw c.in-10.is

pub returns-in-11 : goal.returns-in-11
unfolding table_open
returns-in-11 c = rw c.in-11.is

pub returns-in-12 : goal.returns-in-12
unfolding table_open
returns-in-12 c = rw c.in-12.is

pub returns-in-13 : goal.returns-in-13
unfolding table_open
returns-in-13 c = rw c.in-13.is

pub returns-in-14 : goal.returns-in-14
unfolding table_open
returns-in-14 c = rw c.in-14.is

pub returns-in-15 : goal.returns-in-15
unfolding table_open
returns-in-15 c = rw c.in-15.is

pub returns-in-16 : goal.returns-in-16
unfolding table_open
returns-in-16 c = rw c.in-16.is

pub returns-in-17 : goal.returns-in-17
unfolding table_open
returns-in-17 c = rw c.in-17.is

pub returns-in-18 : goal.returns-in-18
unfolding table_open
returns-in-18 c = rw c.in-18.is

pub returns-in-32 : goal.returns-in-32
unfolding table_open
returns-in-32 c = rw c.in-32.is

pub returns-in-33 : goal.returns-in-33
unfolding table_open
returns-in-33 c = rw c.in-33.is

pub returns-in-34 : goal.returns-in-34
unfolding table_open
returns-in-34 c = rw c.in-34.is

pub returns-in-35 : goal.returns-in-35
unfolding table_open
returns-in-35 c = rw c.in-35.is

pub returns-in-36 : goal.returns-in-36
unfolding table_open
returns-in-36 c = rw c.in-36.is

pub returns-in-37 : goal.returns-in-37
unfolding table_open
returns-in-37 c = rw c.in-37.is

pub returns-in-40 : goal.returns-in-40
unfolding table_open
returns-in-40 c = rw c.in-40.is

pub returns-in-41 : goal.returns-in-41
unfolding table_open
returns-in-41 c = rw c.in-41.is

pub returns-in-42 : goal.returns-in-42
unfolding table_open
returns-in-42 c = rw c.in-42.is

pub returns-in-43 : goal.returns-in-43
unfolding table_open
returns-in-43 c = rw c.in-43.is

pub returns-in-48 : goal.returns-in-48
unfolding table_open
returns-in-48 c = rw c.in-48.is

pub returns-in-49 : goal.returns-in-49
unfolding table_open
returns-in-49 c = rw c.in-49.is

pub returns-in-50 : goal.returns-in-50
unfolding table_open
returns-in-50 c = rw c.in-50.is

pub returns-in-51 : goal.returns-in-51
unfolding table_open
returns-in-51 c = rw c.in-51.is

pub returns-in-52 : goal.returns-in-52
unfolding table_open
returns-in-52 c = rw c.in-52.is

pub returns-in-56 : goal.returns-in-56
unfolding table_open
returns-in-56 c = rw c.in-56.is

pub returns-in-57 : goal.returns-in-57
unfolding table_open
returns-in-57 c = rw c.in-57.is

pub returns-in-58 : goal.returns-in-58
unfolding table_open
returns-in-58 c = rw c.in-58.is

pub returns-in-59 : goal.returns-in-59
unfolding table_open
returns-in-59 c = rw c.in-59.is

pub returns-in-60 : goal.returns-in-60
unfolding table_open
returns-in-60 c = rw c.in-60.is

pub returns-in_default : goal.returns-in_default
unfolding table_open
returns-in_default c =
    rest same same-sound table_at (record { 0 = 0; 1 = 0; 2 = 0; 3 = 0; 4 = 0; 5 = 0 }) (one_each kinds) 0 256 tt c.args.kind c.in_default.in_default-own.rest zero-le
    c.requires
