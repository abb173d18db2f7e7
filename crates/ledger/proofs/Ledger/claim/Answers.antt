-- A refused claim refuses the change.
use Rattle.ledger.proofs.Seeking.{claim_told}
use Rattle.ledger.proofs.Ledger.claim.Goals as goal

pub returns-clause-entry : goal.returns-clause-entry
returns-clause-entry g c =
    let room = rw (← c.self.view_is) at c.requires in
    rw (← c.self.view_is) (claim_told g.E.Effect g.T.Time g.S.Store _ c.self.invariant room c.args.cells c.claim.result c.claim.ensures).1

pub returns-clause-withdrawal : goal.returns-clause-withdrawal
returns-clause-withdrawal g c =
    let room = rw (← c.self.view_is) at c.requires in
    rw (← c.self.view_is) (claim_told g.E.Effect g.T.Time g.S.Store _ c.self.invariant room c.args.cells c.claim.result c.claim.ensures).2
