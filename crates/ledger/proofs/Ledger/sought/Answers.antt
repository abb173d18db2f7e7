-- Whether an operation is there, by the row of its number and the tree.
use Rattle.std.proofs.Common.{sym, ap, ◌∙◌}
use Rattle.order.proofs.Orders.{TimeLaws}
use Rattle.ledger.proofs.Asked.{stands_over, shown_over}
use Rattle.ledger.proofs.Seeking.{missing_above, missing_unentered, missing_step, newest_timed, newest_has, found_told, found_timed}
use Rattle.ledger.proofs.Ledger.sought.Given as given
use Rattle.ledger.proofs.Ledger.sought.Goals as goal

laws : (g : given.Over) → TimeLaws g.T.Time.upto
laws g = record { total = g.met.T.Time.total; transitive = g.met.T.Time.transitive }

pub returns-then-self-operation-clause-there : goal.returns-then-self-operation-clause-there
returns-then-self-operation-clause-there g c =
    let room = rw (← c.self.view_is) at c.requires in
    rw (← c.self.view_is) (missing_step g.E.Effect g.T.Time g.S.Store _ c.self.invariant room c.args.operation (missing_above g.E.Effect g.T.Time g.S.Store _ c.self.invariant c.args.operation c.if-self-operation.true))

pub returns-in_default-clause-there : goal.returns-in_default-clause-there
returns-in_default-clause-there g c =
    let room = rw (← c.self.view_is) at c.requires in
    let entered = ap (λ row. row.entered) (sym c.row_at.ensures) ∙ c.in_default.is in
    rw (← c.self.view_is) (missing_step g.E.Effect g.T.Time g.S.Store _ c.self.invariant room c.args.operation (missing_unentered g.E.Effect g.T.Time g.S.Store _ c.self.invariant c.args.operation c.row_at.result entered))

pub invariant_of-self-2 : goal.invariant_of-self-2
invariant_of-self-2 g c = stands_over g.E.Effect g.T.Time g.S.Store _ c.find.new.store c.self.invariant c.find.ensures.same

pub returns-clause-stands : goal.returns-clause-stands
returns-clause-stands g c = stands_over g.E.Effect g.T.Time g.S.Store _ c.find.new.store c.self.invariant c.find.ensures.same

pub returns-clause-there : goal.returns-clause-there
returns-clause-there g c =
    let n = c.args.operation in
    let time = c.in-Some.time in
    let there = c.in_ok-there.there in
    let room = rw (← c.self.view_is) at c.requires in
    let same = shown_over g.E.Effect g.T.Time g.S.Store _ c.find.new.store c.find.ensures.same in
    let entered = ap (λ row. row.entered) (sym c.row_at.ensures) ∙ c.in-Some.is in
    let timed = newest_timed g.E.Effect g.T.Time g.S.Store _ c.self.invariant n time c.row_at.result entered in
    let root = ap (λ row. row.root) c.row_at-root.ensures in
    let found = newest_has g.E.Effect g.T.Time g.S.Store _ c.self.invariant (laws g) n time c.row_at-root.result c.find.result there timed c.in_ok-there.was (rw root at c.find.ensures.found) in
    rw (← c.self.view_is, c.then_some.ensures) (found_told g.E.Effect g.T.Time g.S.Store _ c.self.invariant room n time there _ same found)

pub returns-clause-timed : goal.returns-clause-timed
returns-clause-timed g c =
    let n = c.args.operation in
    let time = c.in-Some.time in
    let room = rw (← c.self.view_is) at c.requires in
    let same = shown_over g.E.Effect g.T.Time g.S.Store _ c.find.new.store c.find.ensures.same in
    let entered = ap (λ row. row.entered) (sym c.row_at.ensures) ∙ c.in-Some.is in
    let timed = newest_timed g.E.Effect g.T.Time g.S.Store _ c.self.invariant n time c.row_at.result entered in
    rw c.then_some.ensures (found_timed g.E.Effect g.T.Time g.S.Store _ c.self.invariant room n time c.in_ok-there.there _ same timed)
