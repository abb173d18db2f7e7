-- A number out of range has no cell, and one in range the cell that is read.
use Rattle.std.proofs.Common.{rules}
use Rattle.store.proofs.Finding.{cell_past}
use Rattle.bases.specs.Imaging.{length_cells_in, cell_in}
use Rattle.bases.proofs.image.calls.ImageStore.get.Goals as goal

pub returns-then-k-eq0 : goal.returns-then-k-eq0
returns-then-k-eq0 c = let long = length_cells_in c.args.self.now.len c.args.self.now.bytes.items in search (rules, cell_past)

pub returns : goal.returns
returns c = search (rules, cell_in)
