-- A number out of range has no cell, and one in range the cell that is read.
use Rattle.std.proofs.Common.{rules}
use Rattle.store.proofs.Finding.{cell_past, cell_read}
use Rattle.bases.proofs.table.calls.TableStore.get.Goals as goal

pub returns-then-k-eq0 : goal.returns-then-k-eq0
returns-then-k-eq0 c = search (rules, cell_past)

pub returns : goal.returns
returns c = search (rules, cell_read)
