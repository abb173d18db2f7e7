use Rattle.std.proofs.Common.{sym, ◌∙◌}
use Rattle.digits.proofs.Decoding.{all_read}
use Rattle.digits.proofs.Round.{written_read, read_short}
use Rattle.digits.proofs.reading.decode.Goals as goal

pub returns : goal.returns
returns c =
    let read = all_read c.args.text.now c.loop-high.bytes c.as_chunks.result.0.now c.loop-high.high-index c.in_ok-check.ensures c.as_chunks.ensures.front c.loop-high-test.false c.loop-high.invariant.1 in
    record { bytes = read; again = λ b e. written_read c.args.text.now b (sym e ∙ read); short = read_short c.args.text.now _ read }
