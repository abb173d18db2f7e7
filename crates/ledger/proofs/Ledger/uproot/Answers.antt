-- What a removal made is put, and the next row stands.
use Rattle.order.proofs.Orders.{TimeLaws}
use Rattle.ledger.proofs.Withdrawals.{withdrawal_stays, withdrawal_goes, withdrawal_finds, withdrawal_puts}
use Rattle.ledger.proofs.Ledger.uproot.Given as given
use Rattle.ledger.proofs.Ledger.uproot.Goals as goal

laws : (g : given.Over) → TimeLaws g.T.Time.upto
laws g = record { total = g.met.T.Time.total; transitive = g.met.T.Time.transitive }

pub invariant_of-self : goal.invariant_of-self
invariant_of-self g c =
    let ready = rw (← c.self.view_is) at c.requires.ready in
    let found = rw (← c.self.view_is) at c.requires.there in
    let timed = rw (← c.self.view_is) at c.requires.timed in
    withdrawal_stays g.E.Effect g.T.Time g.S.Store g.met.E.Effect.back g.met.T.Time.back (laws g) _ c.self.invariant c.args.row c.args.operation c.args.time ready found timed c.remove.new.store c.remove.result c.remove.ensures.claimed

pub invariant_of-self-in_default : goal.invariant_of-self-in_default
invariant_of-self-in_default g c =
    let ready = rw (← c.self.view_is) at c.requires.ready in
    let found = rw (← c.self.view_is) at c.requires.there in
    let timed = rw (← c.self.view_is) at c.requires.timed in
    withdrawal_stays g.E.Effect g.T.Time g.S.Store g.met.E.Effect.back g.met.T.Time.back (laws g) _ c.self.invariant c.args.row c.args.operation c.args.time ready found timed c.remove.new.store c.remove.result c.remove.ensures.claimed

pub invariant_of-self-2 : goal.invariant_of-self-2
invariant_of-self-2 g c =
    let ready = rw (← c.self.view_is) at c.requires.ready in
    let found = rw (← c.self.view_is) at c.requires.there in
    let timed = rw (← c.self.view_is) at c.requires.timed in
    withdrawal_stays g.E.Effect g.T.Time g.S.Store g.met.E.Effect.back g.met.T.Time.back (laws g) _ c.self.invariant c.args.row c.args.operation c.args.time ready found timed c.remove.new.store c.remove.result c.remove.ensures.claimed

pub returns-in_err-removed : goal.returns-in_err-removed
returns-in_err-removed g c =
    let ready = rw (← c.self.view_is) at c.requires.ready in
    let found = rw (← c.self.view_is) at c.requires.there in
    let timed = rw (← c.self.view_is) at c.requires.timed in
    withdrawal_goes g.E.Effect g.T.Time g.S.Store g.met.E.Effect.back g.met.T.Time.back (laws g) _ c.self.invariant c.args.row c.args.operation c.args.time ready found timed c.remove.new.store c.remove.result c.remove.ensures.claimed c.in_err-removed.field-0.0 c.in_err-removed.was

pub returns-in_default : goal.returns-in_default
returns-in_default g c =
    let ready = rw (← c.self.view_is) at c.requires.ready in
    let found = rw (← c.self.view_is) at c.requires.there in
    let timed = rw (← c.self.view_is) at c.requires.timed in
    withdrawal_finds g.E.Effect g.T.Time g.S.Store g.met.E.Effect.back g.met.T.Time.back (laws g) _ c.self.invariant c.args.row c.args.operation c.args.time ready found timed c.remove.new.store c.remove.result c.remove.ensures.claimed c.in_ok-removed.removed c.in_ok-removed.was c.in_default.not-Some

pub returns-clause-stands : goal.returns-clause-stands
returns-clause-stands g c =
    let ready = rw (← c.self.view_is) at c.requires.ready in
    let found = rw (← c.self.view_is) at c.requires.there in
    let timed = rw (← c.self.view_is) at c.requires.timed in
    withdrawal_stays g.E.Effect g.T.Time g.S.Store g.met.E.Effect.back g.met.T.Time.back (laws g) _ c.self.invariant c.args.row c.args.operation c.args.time ready found timed c.remove.new.store c.remove.result c.remove.ensures.claimed

pub returns-clause-put : goal.returns-clause-put
returns-clause-put g c =
    let ready = rw (← c.self.view_is) at c.requires.ready in
    let found = rw (← c.self.view_is) at c.requires.there in
    let timed = rw (← c.self.view_is) at c.requires.timed in
    rw (← c.self.view_is) (withdrawal_puts g.E.Effect g.T.Time g.S.Store g.met.E.Effect.back g.met.T.Time.back (laws g) _ c.self.invariant c.args.row c.args.operation c.args.time ready found timed c.remove.new.store c.remove.result c.remove.ensures.claimed c.in_ok-removed.removed c.in-Some.new c.in_ok-removed.was c.in-Some.is).0

pub returns-clause-counted : goal.returns-clause-counted
returns-clause-counted g c =
    let ready = rw (← c.self.view_is) at c.requires.ready in
    let found = rw (← c.self.view_is) at c.requires.there in
    let timed = rw (← c.self.view_is) at c.requires.timed in
    rw (← c.self.view_is) (withdrawal_puts g.E.Effect g.T.Time g.S.Store g.met.E.Effect.back g.met.T.Time.back (laws g) _ c.self.invariant c.args.row c.args.operation c.args.time ready found timed c.remove.new.store c.remove.result c.remove.ensures.claimed c.in_ok-removed.removed c.in-Some.new c.in_ok-removed.was c.in-Some.is).1
