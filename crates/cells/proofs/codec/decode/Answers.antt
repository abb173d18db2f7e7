-- Each part of the cell is the number at its place.
use Rattle.std.proofs.Common.{ap, ◌∙◌}
use Rattle.cells.specs.Layout.{layout, cell_of}
use Rattle.cells.proofs.Laying.{layout_cell_of, same_cell}
use Rattle.cells.proofs.codec.decode.Goals as goal

pub returns : goal.returns
unfolding cell_of
returns c =
    let value = same_cell _ _ _ _ _ _ _ _ _ _ _ _ _ _ c.number_at.ensures c.number_at-2.ensures c.number_at-3.ensures c.number_at-4.ensures c.number_at-5.ensures c.words_at.ensures c.words_at-2.ensures in
    record { value = value; back = ap layout value ∙ layout_cell_of c.args.bytes.now c.told-bytes c.fits-bytes }
