-- The bytes of the three numbers go one after the other.
use Rattle.payloads.specs.Counting.{appended}
use Rattle.payloads.proofs.counters.CounterPayload.append.Goals as goal

pub returns : goal.returns
returns c =
    appended c.args.out.now c.append_number.new.out c.append_number-2.new.out c.append_number-3.new.out c.amount_bits.result c.floor.result c.ceiling.result
    _ c.args.form.floor.hundredths c.args.form.ceiling.hundredths
    c.append_number.ensures c.append_number-2.ensures c.append_number-3.ensures c.amount_bits.ensures c.floor.ensures c.ceiling.ensures
