-- A cell lies in its first bytes.
use Rattle.std.proofs.Common.{rules}
use Rattle.cells.proofs.Laying.{cell_of_front}
use Rattle.bases.proofs.image.calls.read_cell.Goals as goal

pub returns : goal.returns
returns c = search (rules, cell_of_front)
