use Rattle.tree.proofs.Keeping.{claim_accepted}
use Rattle.trials.proofs.Going.{entered_version}
use Rattle.trials.proofs.versions.enter.Goals as goal

pub returns : goal.returns
returns g c =
    let a = c.args in
    let s = g.S.Store in
    entered_version g.E.Effect g.T.Time s a.store.now c.insert.new.store a.root a.op c.insert.result c.requires.version c.requires.room
    (claim_accepted (s.meaning a.store.now) 42 tt c.in_ok-claim.ensures) c.insert.ensures.claimed
