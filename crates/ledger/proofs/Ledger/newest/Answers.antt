-- At the last belief the reference ledger refuses each change.
use Rattle.std.proofs.Common.{◌<◌, length, arith}
use Rattle.calls.specs.declared.call.Call.TheVariants.{Enter, Withdraw}
use Rattle.calls.specs.declared.refusal.Refusal.TheVariants.{Full}
use Rattle.ledger.proofs.Showing.{refused_step, entry_full, withdrawal_full}
use Rattle.ledger.proofs.Ledger.newest.Goals as goal

pub returns-clause-entry : goal.returns-clause-entry
returns-clause-entry g c time effect full =
    let l = c.self.inside in
    let m = g.S.Store.meaning l.store in
    let inside : l.latest < length l.rows = omega (arith, c.self.invariant.rows, c.self.invariant.latest) in
    rw (← c.self.view_is) (refused_step g.E.Effect g.T.Time m l.rows l.latest inside (Enter time effect) Full (entry_full g.E.Effect g.T.Time m l.rows l.latest inside _ time effect full))

pub returns-clause-withdrawal : goal.returns-clause-withdrawal
returns-clause-withdrawal g c operation full =
    let l = c.self.inside in
    let m = g.S.Store.meaning l.store in
    let inside : l.latest < length l.rows = omega (arith, c.self.invariant.rows, c.self.invariant.latest) in
    rw (← c.self.view_is) (refused_step g.E.Effect g.T.Time m l.rows l.latest inside (Withdraw operation) Full (withdrawal_full g.E.Effect g.T.Time m l.rows l.latest inside _ operation full))
