-- What was claimed can be put, so no put is refused.
use Rattle.std.proofs.Common.{◌≡◌, sym, arith, rules}
use Rattle.store.proofs.Granting.{claim_accepted, with_none}
use Rattle.stacks.proofs.Using.{all_copies, next_accepted, next_copy}
use Rattle.stacks.proofs.put_copies.Goals as goal

pub loop-i-init : goal.loop-i-init
loop-i-init g c = sym (with_none (g.S.Store.meaning c.args.store.now))

pub returns-in_err-put : goal.returns-in_err-put
returns-in_err-put g c =
    let m = g.S.Store.meaning c.args.store.now in
    let free = claim_accepted m c.args.n c.in_ok-claim.ensures in
    next_accepted m c.args.cell c.args.n c.loop-i._i free c.loop-i-test.true (g.S.Store.meaning c.loop-i.store) c.in_err-put.field-0.0 c.loop-i.invariant c.in_err-put.ensures.answer

pub loop-i-preserved : goal.loop-i-preserved
loop-i-preserved g c =
    let m = g.S.Store.meaning c.args.store.now in
    let free = claim_accepted m c.args.n c.in_ok-claim.ensures in
    let put = c.in_ok-put.ensures in
    next_copy m c.args.cell c.args.n c.loop-i._i free c.loop-i-test.true (g.S.Store.meaning c.loop-i.store) (g.S.Store.meaning c.put.new.self) c.loop-i.invariant put.after

pub returns : goal.returns
returns g c =
    let m = g.S.Store.meaning c.args.store.now in
    let free = claim_accepted m c.args.n c.in_ok-claim.ensures in
    let all : c.loop-i._i ≡ c.args.n = omega arith in
    record {
      answer = c.in_ok-claim.ensures;
      after = all_copies m (g.S.Store.meaning c.loop-i.store) c.args.cell c.args.n c.loop-i._i free all c.loop-i.invariant;
      untouched = search rules;
    }
