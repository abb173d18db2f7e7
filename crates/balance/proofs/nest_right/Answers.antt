-- One join after another.
use Rattle.tree.proofs.Makings.{grew_then}
use Rattle.balance.proofs.Turns.{nest_right}
use Rattle.balance.proofs.nest_right.Goals as goal

pub returns : goal.returns
returns g c =
    let a = c.args in
    let mean = g.S.Store.meaning in
    record {
      grew = grew_then g.S.Store a.store.now c.join.new.store c.join-2.new.store c.join.ensures.grew c.join-2.ensures.grew;
      nests = nest_right g.E.Effect g.T.Time (mean a.store.now) (mean c.join.new.store) (mean c.join-2.new.store) a.left a.last.left a.last.right c.in_ok-right.right a.op a.last.op c.join-2.result
          c.in_ok-right.ensures.joined c.join-2.ensures.joined;
    }
