-- What is left of a store once a cell was put n times, or the claim of n was refused.
use Rattle.std.specs.Prelude.{ℕ, replicate, Some, None, Option}
use Rattle.cells.specs.declared.Cell.{Cell}
use Rattle.store.specs.Meaning.{Meaning, fault_of, with_cells}
use Rattle.store.specs.declared.fault.Fault.{Fault}

abbrev pub copies_unless : Option Fault → Meaning → Cell → ℕ → Meaning
copies_unless None m c n = with_cells m (replicate n c)
copies_unless (Some fault) m c n = m

abbrev pub after_copies : Meaning → Cell → ℕ → Meaning
after_copies m c n = copies_unless (fault_of m n) m c n
