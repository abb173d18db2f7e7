-- The new row stands, and its belief is shown behind the others.
use Rattle.ledger.proofs.Putting.{stands_row, shown_row}
use Rattle.ledger.proofs.Ledger.believe.Goals as goal

pub invariant_of-self : goal.invariant_of-self
invariant_of-self g c =
    let room = rw (← c.self.view_is) at c.requires.room in
    let next = rw (← c.self.view_is) at c.requires.next in
    let counted = rw (← c.self.view_is) at c.requires.counted in
    rw c.set_row.ensures (stands_row g.E.Effect g.T.Time g.S.Store _ c.args.row c.self.invariant room next counted)

pub returns-clause-stands : goal.returns-clause-stands
returns-clause-stands g c =
    let room = rw (← c.self.view_is) at c.requires.room in
    let next = rw (← c.self.view_is) at c.requires.next in
    let counted = rw (← c.self.view_is) at c.requires.counted in
    rw c.set_row.ensures (stands_row g.E.Effect g.T.Time g.S.Store _ c.args.row c.self.invariant room next counted)

pub returns-clause-beliefs : goal.returns-clause-beliefs
returns-clause-beliefs g c =
    let room = rw (← c.self.view_is) at c.requires.room in
    rw (c.set_row.ensures, ← c.self.view_is) (shown_row g.E.Effect g.T.Time g.S.Store _ c.args.row c.self.invariant room)
