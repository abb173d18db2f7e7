use Rattle.std.proofs.Common.{refl, ap, ◌∙◌, arith}
use Rattle.digits.specs.Hex.{decoded}
use Rattle.digits.proofs.Encoding.{byte_written, all_written, digits_in, held_in}
use Rattle.digits.proofs.Round.{read_written, under_typed}
use Rattle.digits.proofs.writing.line_of.Goals as goal

pub loop-i-preserved : goal.loop-i-preserved
loop-i-preserved c = byte_written c.loop-i.text c.args.bytes.now c.loop-i.i _ _ c.loop-i-test.true c.requires (cc) (cc) c.loop-i.invariant

pub invariant_of-result : goal.invariant_of-result
invariant_of-result c =
    let bs = c.args.bytes.now in held_in c.loop-i.text bs _ c.requires refl (all_written c.loop-i.text bs c.loop-i.i (omega arith) c.loop-i.invariant)

pub returns-clause-digits : goal.returns-clause-digits
returns-clause-digits c =
    let bs = c.args.bytes.now in digits_in c.loop-i.text bs _ refl (all_written c.loop-i.text bs c.loop-i.i (omega arith) c.loop-i.invariant)

pub returns-clause-back : goal.returns-clause-back
returns-clause-back c =
    let bs = c.args.bytes.now in
    let digits = digits_in c.loop-i.text bs _ refl (all_written c.loop-i.text bs c.loop-i.i (omega arith) c.loop-i.invariant) in
    ap decoded digits ∙ read_written bs (under_typed bs c.type_inv.bytes) c.requires
