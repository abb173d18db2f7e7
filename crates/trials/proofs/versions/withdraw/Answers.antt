use Rattle.tree.proofs.Keeping.{claim_accepted}
use Rattle.trials.proofs.Going.{withdrawn_version}
use Rattle.trials.proofs.versions.withdraw.Goals as goal

pub returns : goal.returns
returns g c =
    let a = c.args in
    let s = g.S.Store in
    let after = c.remove.ensures in
    rw c.unwrap_or.ensures (withdrawn_version g.E.Effect g.T.Time s a.store.now c.remove.new.store a.root a.next a.number a.time c.remove.result c.in_ok-new.new c.requires.version c.requires.room
    (claim_accepted (s.meaning a.store.now) 42 tt c.in_ok-claim.ensures) c.in_ok-new.was after.claimed after.absent)
