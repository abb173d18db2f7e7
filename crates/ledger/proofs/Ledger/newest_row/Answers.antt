-- The row of the latest belief reads as that belief.
use Rattle.ledger.proofs.Entries.{newest_is}
use Rattle.ledger.proofs.Ledger.newest_row.Goals as goal

pub returns : goal.returns
returns g c = rw (← c.self.view_is, c.row_at.ensures) (newest_is g.E.Effect g.T.Time g.S.Store _ c.self.invariant c.row_at.result)
