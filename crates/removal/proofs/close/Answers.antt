-- The first of the right side comes between the two sides.
use Rattle.tree.proofs.Makings.{grew_still, grew_then}
use Rattle.removal.proofs.Removals.{close_none, close_on}
use Rattle.removal.proofs.close.Goals as goal

pub returns-then-right-eq0 : goal.returns-then-right-eq0
returns-then-right-eq0 g c =
    let a = c.args in
    record {
      grew = grew_still g.S.Store a.store.now;
      closes = close_none g.E.Effect g.T.Time (g.S.Store.meaning a.store.now) a.left a.right c.if-right-eq0.true;
    }

pub returns : goal.returns
returns g c =
    let a = c.args in
    let mean = g.S.Store.meaning in
    record {
      grew = grew_then g.S.Store a.store.now c.take_first.new.store c.balanced.new.store c.take_first.ensures.grew c.balanced.ensures.grew;
      closes = close_on g.E.Effect g.T.Time (mean a.store.now) (mean c.take_first.new.store) (mean c.balanced.new.store) a.left a.right c.in_ok-first.field-0 c.balanced.result
          c.if-right-eq0.false c.in_ok-first.ensures.takes c.balanced.ensures.near c.balanced.ensures.higher;
    }
