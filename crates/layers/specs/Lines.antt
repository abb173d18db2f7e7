-- The lines of a cache: each is empty, or holds a cell and its number.
use Rattle.std.specs.Prelude.{◌≡◌, ℕ, ◌%◌, cond, List, replicate, Some, None, Option, ◌==◌, slice_index_or, slice_set}
use Rattle.cells.specs.declared.Cell.{Cell}
use Rattle.store.specs.Meaning.{cell_at}
use Rattle.layers.specs.declared.lines.Line.{Line}

abbrev pub empty_line : Line
empty_line = record { number = 0; cell = None }

abbrev pub no_lines : List Line
no_lines = replicate 16 empty_line

-- the line of cell number k
abbrev pub line_of : List Line → ℕ → Line
line_of table k = slice_index_or table (k % 16) empty_line

-- the cell number k, where its line holds it
abbrev pub held : List Line → ℕ → Option Cell
held table k = cond ((line_of table k).number == k) (line_of table k).cell None

-- the lines once the line of k holds the cell c of that number
abbrev pub with_line : List Line → ℕ → Cell → List Line
with_line table k c = slice_set table (k % 16) (record { number = k; cell = Some c })

-- a line is empty, or holds the cell that is in the list under its number
abbrev pub Holds : List Cell → Line → Type 0
Holds cells l = (c : Cell) → l.cell ≡ Some c → cell_at cells l.number ≡ Some c

-- Every line is so.
pub record Faithful (cells : List Cell) (table : List Line) : Type 0 where
  pub line : (i : ℕ) → Holds cells (slice_index_or table i empty_line)
