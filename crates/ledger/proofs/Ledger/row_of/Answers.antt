-- The questions on a belief are answered from the row of its number.
use Rattle.ledger.proofs.Asked.{row_of, no_row}
use Rattle.ledger.proofs.Ledger.row_of.Goals as goal

pub returns-then-self-belief-clause-row : goal.returns-then-self-belief-clause-row
returns-then-self-belief-clause-row g c = rw (← c.self.view_is) (no_row g.E.Effect g.T.Time g.S.Store _ c.args.belief c.self.invariant c.if-self-belief.true)

pub returns-clause-row : goal.returns-clause-row
returns-clause-row g c = rw (← c.self.view_is, c.row_at.ensures) (row_of g.E.Effect g.T.Time g.S.Store _ c.args.belief c.row_at.result c.self.invariant c.if-self-belief.false)
