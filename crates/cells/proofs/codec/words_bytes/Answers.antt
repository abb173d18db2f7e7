-- The parts are written one after another.
use Rattle.std.proofs.Common.{[], replicate, sym, refl, ◌∙◌, arith}
use Rattle.std.proofs.lemmas.List.{take_all}
use Rattle.big_endian.specs.Numbers.{bytes_of}
use Rattle.big_endian.proofs.Overwriting.{next_overwritten}
use Rattle.cells.proofs.codec.words_bytes.Goals as goal

pub returns : goal.returns
returns c =
    let words = c.args.words in
    let first = next_overwritten (replicate 16 0) c.overwrite.new.bytes _ (bytes_of 8 words.first) [] 0 8 c.overwrite.ensures c.to_bytes.ensures (omega arith) (omega arith) refl in
    let second = next_overwritten c.overwrite.new.bytes c.overwrite-2.new.bytes _ (bytes_of 8 words.second) _ 8 16 c.overwrite-2.ensures c.to_bytes-2.ensures (omega arith) (omega arith) first in
    sym (take_all 16 c.overwrite-2.new.bytes (omega arith)) ∙ second
