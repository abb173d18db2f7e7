-- The cells in the bytes are as many as are counted.
use Rattle.std.proofs.Common.{rules}
use Rattle.bases.specs.Imaging.{length_cells_in}
use Rattle.bases.proofs.image.calls.ImageStore.claim.Goals as goal

pub returns : goal.returns
returns c = search (rules, length_cells_in)
