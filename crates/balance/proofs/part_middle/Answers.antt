use Rattle.tree.proofs.Makings.{grew_then, grew_after}
use Rattle.balance.proofs.Turns.{parted_stop, parted}
use Rattle.balance.proofs.part_middle.Goals as goal

pub returns-in_err-high : goal.returns-in_err-high
returns-in_err-high g c =
    let a = c.args in
    let mean = g.S.Store.meaning in
    record {
      grew = grew_then g.S.Store a.store.now c.join.new.store c.join-2.new.store (grew_after g.S.Store a.store.now c.open.new.store c.join.new.store c.open.ensures.same c.join.ensures.grew) c.join-2.ensures.grew;
      parts = parted_stop g.E.Effect g.T.Time (mean a.store.now) (mean c.open.new.store) (mean c.join.new.store) (mean c.join-2.new.store)
          a.a a.d c.in_ok-low.low a.middle a.p a.q c.in_ok-left.field-0 c.from_residual-in_err-high.result c.in_err-high.field-0.0
          c.open.ensures.same.meaning c.in_ok-left.ensures.parts c.in_ok-low.ensures.joined c.in_err-high.ensures.joined;
    }

pub returns : goal.returns
returns g c =
    let a = c.args in
    let mean = g.S.Store.meaning in
    record {
      grew = grew_then g.S.Store a.store.now c.join-2.new.store c.join-3.new.store (grew_then g.S.Store a.store.now c.join.new.store c.join-2.new.store (grew_after g.S.Store a.store.now c.open.new.store c.join.new.store c.open.ensures.same c.join.ensures.grew) c.join-2.ensures.grew) c.join-3.ensures.grew;
      parts = parted g.E.Effect g.T.Time (mean a.store.now) (mean c.open.new.store) (mean c.join.new.store) (mean c.join-2.new.store) (mean c.join-3.new.store)
          a.a a.d c.in_ok-low.low c.in_ok-high.high a.middle a.p a.q c.in_ok-left.field-0 c.join-3.result
          c.open.ensures.same.meaning c.in_ok-left.ensures.parts c.in_ok-low.ensures.joined c.in_ok-high.ensures.joined c.join-3.ensures.joined;
    }
