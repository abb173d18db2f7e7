-- What an insertion made is put, and the next row stands.
use Rattle.std.proofs.Common.{◌+◌, sym, subst}
use Rattle.order.specs.Order.{Below}
use Rattle.ledger.proofs.Entries.{newest_below, entry_stays, entry_goes, entry_puts}
use Rattle.ledger.proofs.Ledger.plant.Goals as goal

pub insert-requires-clause-newest : goal.insert-requires-clause-newest
insert-requires-clause-newest g c =
    let ready = rw (← c.self.view_is) at c.requires in
    subst (Below (c.self.inside.latest + 1)) (sym ready.newest.reads) (newest_below g.E.Effect g.T.Time g.S.Store _ c.self.invariant)

pub invariant_of-self : goal.invariant_of-self
invariant_of-self g c =
    let ready = rw (← c.self.view_is) at c.requires in
    entry_stays g.E.Effect g.T.Time g.S.Store g.met.E.Effect.back g.met.T.Time.back _ c.self.invariant c.args.row c.args.time c.args.effect ready c.insert.new.store c.insert.result c.insert.ensures.claimed

pub invariant_of-self-2 : goal.invariant_of-self-2
invariant_of-self-2 g c =
    let ready = rw (← c.self.view_is) at c.requires in
    entry_stays g.E.Effect g.T.Time g.S.Store g.met.E.Effect.back g.met.T.Time.back _ c.self.invariant c.args.row c.args.time c.args.effect ready c.insert.new.store c.insert.result c.insert.ensures.claimed

pub returns-in_err-insert : goal.returns-in_err-insert
returns-in_err-insert g c =
    let ready = rw (← c.self.view_is) at c.requires in
    entry_goes g.E.Effect g.T.Time g.S.Store g.met.E.Effect.back g.met.T.Time.back _ c.self.invariant c.args.row c.args.time c.args.effect ready c.insert.new.store c.insert.result c.insert.ensures.claimed c.in_err-insert.field-0.0 c.in_err-insert.was

pub returns-clause-stands : goal.returns-clause-stands
returns-clause-stands g c =
    let ready = rw (← c.self.view_is) at c.requires in
    entry_stays g.E.Effect g.T.Time g.S.Store g.met.E.Effect.back g.met.T.Time.back _ c.self.invariant c.args.row c.args.time c.args.effect ready c.insert.new.store c.insert.result c.insert.ensures.claimed

pub returns-clause-put : goal.returns-clause-put
returns-clause-put g c =
    let ready = rw (← c.self.view_is) at c.requires in
    rw (← c.self.view_is) (entry_puts g.E.Effect g.T.Time g.S.Store g.met.E.Effect.back g.met.T.Time.back _ c.self.invariant c.args.row c.args.time c.args.effect ready c.insert.new.store c.insert.result c.insert.ensures.claimed c.in_ok-insert.field-0 c.in_ok-insert.was).0

pub returns-clause-counted : goal.returns-clause-counted
returns-clause-counted g c =
    let ready = rw (← c.self.view_is) at c.requires in
    rw (← c.self.view_is) (entry_puts g.E.Effect g.T.Time g.S.Store g.met.E.Effect.back g.met.T.Time.back _ c.self.invariant c.args.row c.args.time c.args.effect ready c.insert.new.store c.insert.result c.insert.ensures.claimed c.in_ok-insert.field-0 c.in_ok-insert.was).1
