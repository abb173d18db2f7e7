-- The calls carried out so far are a run; with the next call they are one still.
use Rattle.std.proofs.Common.{[], sym, subst, arith, take_all}
use Rattle.reference.specs.Beliefs.{kinds}
use Rattle.law.specs.Runs.{Run, rest}
use Rattle.law.proofs.Keeping.{run_more}
use Rattle.ledger.specs.Shown.{shown}
use Rattle.runs.proofs.carry_out_all.Goals as goal

pub loop-call-init : goal.loop-call-init
loop-call-init g c =
    let v = shown g.E.Effect g.T.Time g.S.Store c.args.ledger.now in
    (omega arith, c.requires.empty.1, c.requires.room, subst (λ xs. Run (kinds g.E.Effect g.T.Time) [] xs v v) (sym c.requires.empty.0) rest, λ stands. stands)

pub loop-call-preserved : goal.loop-call-preserved
loop-call-preserved g c =
    let w = shown g.E.Effect g.T.Time g.S.Store c.carry_out-answer.new.ledger in
    let inv = c.loop-call.invariant in
    let more = run_more (kinds g.E.Effect g.T.Time) c.args.calls.now c.loop-call.call-index c.call-item.result c.carry_out-answer.result w c.loop-call-test.true c.call-item.is inv.3 c.carry_out-answer.ensures.step in
    let pushed = c.push_reserved.ensures in
    (omega arith, omega (arith, pushed.len, inv.1), omega (arith, pushed.capacity, inv.2), rw pushed.items more, λ _. c.carry_out-answer.ensures.stands)

pub returns : goal.returns
returns g c = record {
  stands = c.loop-call.invariant.4;
  run = rw (take_all c.loop-call.call-index c.args.calls.now c.loop-call-test.false) at c.loop-call.invariant.3;
}
