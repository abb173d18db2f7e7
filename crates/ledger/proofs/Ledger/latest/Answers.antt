-- A descent leaves every row standing.
use Rattle.ledger.proofs.Asked.{stands_over}
use Rattle.ledger.proofs.Ledger.latest.Goals as goal

pub invariant_of-self-2 : goal.invariant_of-self-2
invariant_of-self-2 g c = stands_over g.E.Effect g.T.Time g.S.Store _ c.latest_at.new.store c.self.invariant c.latest_at.ensures.same

pub returns-clause-stands : goal.returns-clause-stands
returns-clause-stands g c = stands_over g.E.Effect g.T.Time g.S.Store _ c.latest_at.new.store c.self.invariant c.latest_at.ensures.same
