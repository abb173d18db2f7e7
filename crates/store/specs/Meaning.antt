-- What a store means, and what its calls answer and leave.
use Rattle.std.specs.Prelude.{ℕ, zero, suc, ◌+◌, ◌-◌, cond, List, [], ◌∷◌, ◌++◌, length, Some, None, Ok, Err, Option, Result, nat_lt}
use Rattle.std.specs.Option.{ok_or}
use Rattle.std.specs.List.{slice_get}
use Rattle.cells.specs.declared.Cell.{Cell}
use Rattle.store.specs.declared.fault.Fault.{Fault}
use Rattle.store.specs.declared.fault.Fault.TheVariants.{Allowance, Space, NoCell}

-- A store: its cells in order, how many more it may take and how many more it has room for.
pub record Meaning : Type 0 where
  pub cells : List Cell
  pub allowance : ℕ
  pub space : ℕ

-- why a claim of n cells is refused, if it is
abbrev pub fault_of : Meaning → ℕ → Option Fault
fault_of m n = cond (nat_lt m.allowance n) (Some (Allowance m.allowance)) (cond (nat_lt m.space n) (Some (Space m.space)) None)

-- an answer, unless there is a fault
abbrev pub unless : {A : Type 0} → Option Fault → A → Result A Fault
unless None answer = Ok answer
unless (Some fault) answer = Err fault

-- what a claim of n cells answers
abbrev pub claimed : Meaning → ℕ → Result (Unit {0}) Fault
claimed m n = unless (fault_of m n) tt

-- what a put answers: the cell's number, which is the new length; it is refused as a claim of 1
abbrev pub put_answer : Meaning → Result ℕ Fault
put_answer m = unless (fault_of m 1) (length m.cells + 1)

-- the store with cells more
abbrev pub with_cells : Meaning → List Cell → Meaning
with_cells m more = record { cells = m.cells ++ more; allowance = m.allowance - length more; space = m.space - length more }

-- the store that a fault, or else an accepted put of a cell, leaves
abbrev pub put_unless : Option Fault → Meaning → Cell → Meaning
put_unless None m c = with_cells m (c ∷ [])
put_unless (Some fault) m c = m

-- what a put leaves
abbrev pub after_put : Meaning → Cell → Meaning
after_put m c = put_unless (fault_of m 1) m c

-- the k-th cell, counted from 1
abbrev pub cell_at : List Cell → ℕ → Option Cell
cell_at cells zero = None
cell_at cells (suc i) = slice_get cells i

-- what a get of cell k answers
abbrev pub got : Meaning → ℕ → Result Cell Fault
got m k = ok_or (cell_at m.cells k) (NoCell k)
