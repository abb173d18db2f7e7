-- What a table means.
use Rattle.std.specs.Prelude.{ℕ, List, [], vec_items}
use Rattle.store.specs.Meaning.{Meaning}
use Rattle.bases.specs.Bases.{base}
use Rattle.bases.specs.declared.table.Table.{Table}

abbrev pub table_meaning : Table → Meaning
table_meaning t = base (vec_items t.cells) t.capacity

-- it is handed no bytes
abbrev pub table_buffer : Table → List ℕ
table_buffer t = []
