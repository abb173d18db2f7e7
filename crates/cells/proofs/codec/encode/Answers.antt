-- The parts are written one after another.
use Rattle.std.proofs.Common.{◌≡◌, [], replicate, sym, refl, ap, ◌∙◌, arith}
use Rattle.std.proofs.lemmas.List.{take_all}
use Rattle.big_endian.specs.Numbers.{bytes_of}
use Rattle.big_endian.proofs.Overwriting.{next_overwritten}
use Rattle.cells.specs.Layout.{layout, words_layout, cell_of}
use Rattle.cells.proofs.Laying.{cell_of_layout, FitsCell}
use Rattle.cells.proofs.codec.encode.Goals as goal

pub returns : goal.returns
unfolding layout
returns c =
    let cell = c.args.cell in
    let time = next_overwritten (replicate 56 0) c.overwrite.new.bytes _ (bytes_of 8 cell.time) [] 0 8 c.overwrite.ensures c.to_bytes.ensures (omega arith) (omega arith) refl in
    let number = next_overwritten c.overwrite.new.bytes c.overwrite-2.new.bytes _ (bytes_of 4 cell.number) _ 8 12 c.overwrite-2.ensures c.to_bytes-2.ensures (omega arith) (omega arith) time in
    let left = next_overwritten c.overwrite-2.new.bytes c.overwrite-3.new.bytes _ (bytes_of 4 cell.left) _ 12 16 c.overwrite-3.ensures c.to_bytes-3.ensures (omega arith) (omega arith) number in
    let right = next_overwritten c.overwrite-3.new.bytes c.overwrite-4.new.bytes _ (bytes_of 4 cell.right) _ 16 20 c.overwrite-4.ensures c.to_bytes-4.ensures (omega arith) (omega arith) left in
    let height = next_overwritten c.overwrite-4.new.bytes c.overwrite-5.new.bytes _ (bytes_of 4 cell.height) _ 20 24 c.overwrite-5.ensures c.to_bytes-5.ensures (omega arith) (omega arith) right in
    let own = next_overwritten c.overwrite-5.new.bytes c.overwrite-6.new.bytes _ (words_layout cell.own) _ 24 40 c.overwrite-6.ensures c.words_bytes.ensures (omega arith) (omega arith) height in
    let total = next_overwritten c.overwrite-6.new.bytes c.overwrite-7.new.bytes _ (words_layout cell.total) _ 40 56 c.overwrite-7.ensures c.words_bytes-2.ensures (omega arith) (omega arith) own in
    let value : c.overwrite-7.new.bytes ≡ layout cell = sym (take_all 56 c.overwrite-7.new.bytes (omega arith)) ∙ total in
    let fits : FitsCell cell = record {
      time = grind arith;
      number = grind arith;
      left = grind arith;
      right = grind arith;
      height = grind arith;
      own_first = grind arith;
      own_second = grind arith;
      total_first = grind arith;
      total_second = grind arith;
    } in
    record { value = value; back = ap cell_of value ∙ cell_of_layout cell fits }
