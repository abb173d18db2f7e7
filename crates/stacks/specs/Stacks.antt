-- What the two stacks mean when they are opened.
use Rattle.std.specs.Prelude.{ℕ, ◌/◌, min, []}
use Rattle.cells.specs.Layout.{cell_width}
use Rattle.store.specs.Meaning.{Meaning}
use Rattle.bases.specs.Bases.{base, most_cells}
use Rattle.layers.specs.Quotas.{limited}

-- a cache over a quota over an image of so many bytes
abbrev pub image_stack : (size quota : ℕ) → Meaning
image_stack size quota = limited (base [] (min (size / cell_width) most_cells)) quota

-- a cache over a quota over a cache over a quota over a table for so many cells
abbrev pub table_stack : (capacity quota : ℕ) → Meaning
table_stack capacity quota = limited (limited (base [] (min capacity most_cells)) quota) quota
