-- What a cache means, by what the store below means, and what a get makes of its lines.
use Rattle.std.specs.Prelude.{ℕ, List, Some, None, Option}
use Rattle.cells.specs.declared.Cell.{Cell}
use Rattle.store.specs.Meaning.{Meaning, cell_at}
use Rattle.store.specs.declared.Store.{Ghosts}
use Rattle.layers.specs.Lines.{held, with_line}
use Rattle.layers.specs.declared.cache.Cache.{Cache}
use Rattle.layers.specs.declared.lines.Line.{Line}

-- the lines after a get of k, by what they held of it and by what the store below has of it: the cell that they lack and that is there is held then
abbrev pub lines_by : (held there : Option Cell) → List Line → ℕ → List Line
lines_by None (Some c) table k = with_line table k c
lines_by None None table k = table
lines_by (Some held) there table k = table

module _ {S : Type 0} (below : Ghosts S) where
  abbrev pub cache_meaning : Cache S below → Meaning
  cache_meaning c = below.meaning c.below

  abbrev pub cache_buffer : Cache S below → List ℕ
  cache_buffer c = below.buffer c.below

  abbrev pub lines_after_get : Cache S below → ℕ → List Line
  lines_after_get c k = lines_by (held c.lines.table k) (cell_at (below.meaning c.below).cells k) c.lines.table k
