-- Cells one after another in bytes.
use Rattle.std.specs.Prelude.{ℕ, zero, suc, ◌*◌, List, [], ◌∷◌, ◌++◌, length, drop}
use Rattle.std.specs.List.{flat_map}
use Rattle.cells.specs.Layout.{cell_width, cell_of, layout}
use Rattle.cells.specs.declared.Cell.{Cell}

-- the first n of the cells that bytes lay out one after another
abbrev pub cells_in : ℕ → List ℕ → List Cell
cells_in zero bytes = []
cells_in (suc n) bytes = cell_of bytes ∷ cells_in n (drop cell_width bytes)

-- the layouts of cells, followed by the bytes that were handed in from there on
abbrev pub image_bytes : List Cell → (handed : List ℕ) → List ℕ
image_bytes cells handed = flat_map layout cells ++ drop (length cells * cell_width) handed
