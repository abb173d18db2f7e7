-- The get is of the number that the put answered.
use Rattle.std.proofs.Common.{rules}
use Rattle.stacks.proofs.Using.{ok_no_error, got_again, accepted_again}
use Rattle.stacks.proofs.put_and_get.Goals as goal

pub returns : goal.returns
returns g c =
    let was = g.S.Store.meaning c.args.store.now in
    let after = g.S.Store.meaning c.put.new.self in
    let cell = c.args.cell in
    let number = c.in_ok-number.number in
    let put = c.in_ok-number.ensures in
    let again = got_again was after cell number c.get.result put.answer put.after c.get.ensures.answer in
    record {
      answer = accepted_again was cell number c.get.result put.answer again;
      after = search rules;
      untouched = ok_no_error c.get.result cell again;
    }
