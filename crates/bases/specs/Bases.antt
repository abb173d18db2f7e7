-- What a store that keeps its cells itself means.
use Rattle.std.specs.Prelude.{ℕ, ◌-◌, List, length}
use Rattle.cells.specs.declared.Cell.{Cell}
use Rattle.store.specs.Meaning.{Meaning}

-- the most cells that such a store takes
abbrev pub most_cells : ℕ
most_cells = 1048576

-- a store of these cells that was opened for so many: a cell's number is below 2 ^ 32
abbrev pub base : List Cell → (capacity : ℕ) → Meaning
base cells capacity = record { cells = cells; allowance = 4294967295 - length cells; space = capacity - length cells }
