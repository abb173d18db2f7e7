-- The numbers and places of a store's refusals.
use Rattle.std.specs.Prelude.{ℕ}
use Rattle.store.specs.declared.fault.Fault.{Fault}
use Rattle.store.specs.declared.fault.Fault.TheVariants.{Allowance, Space, NoCell}

-- a refusal's number, and its place: the allowance, the space or the cell number that it is about
abbrev pub number_and_place : Fault → ℕ × ℕ
number_and_place (Allowance n) = (0x31, n)
number_and_place (Space n) = (0x32, n)
number_and_place (NoCell k) = (0x33, k)
