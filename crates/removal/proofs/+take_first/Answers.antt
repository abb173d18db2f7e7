-- What parting the first of the left side makes of the whole tree.
use Rattle.tree.proofs.Makings.{grew_none, grew_then, grew_after}
use Rattle.removal.proofs.Removals.{take_here, take_on, take_stop}
use Rattle.removal.proofs.+take_first.Goals as goal

pub returns-then-left-eq0 : goal.returns-then-left-eq0
returns-then-left-eq0 g t c =
    let a = c.args in
    let mean = g.S.Store.meaning in
    record {
      grew = grew_none g.S.Store a.store.now c.open.new.store c.open.ensures.same;
      takes = take_here g.E.Effect g.T.Time (mean a.store.now) (mean c.open.new.store) a.k c.in_ok-left.field-0 c.open.ensures.same.meaning c.in_ok-left.ensures.parts c.if-left-eq0.true;
    }

pub returns-in_err-joined : goal.returns-in_err-joined
returns-in_err-joined g t c =
    let a = c.args in
    let mean = g.S.Store.meaning in
    record {
      grew = grew_then g.S.Store a.store.now c.take_first.new.store c.balanced.new.store (grew_after g.S.Store a.store.now c.open.new.store c.take_first.new.store c.open.ensures.same c.take_first.ensures.grew) c.balanced.ensures.grew;
      takes = take_stop g.E.Effect g.T.Time (mean a.store.now) (mean c.open.new.store) (mean c.take_first.new.store) (mean c.balanced.new.store) a.k c.in_ok-left.field-0 c.in_ok-first.field-0 c.from_residual-in_err-joined.result c.in_err-joined.field-0.0
          c.open.ensures.same.meaning c.in_ok-left.ensures.parts c.if-left-eq0.false c.in_ok-first.ensures.takes c.in_err-joined.ensures.near c.in_err-joined.ensures.lower;
    }

pub returns : goal.returns
returns g t c =
    let a = c.args in
    let mean = g.S.Store.meaning in
    record {
      grew = grew_then g.S.Store a.store.now c.take_first.new.store c.balanced.new.store (grew_after g.S.Store a.store.now c.open.new.store c.take_first.new.store c.open.ensures.same c.take_first.ensures.grew) c.balanced.ensures.grew;
      takes = take_on g.E.Effect g.T.Time (mean a.store.now) (mean c.open.new.store) (mean c.take_first.new.store) (mean c.balanced.new.store) a.k c.in_ok-left.field-0 c.in_ok-first.field-0 c.in_ok-joined.joined
          c.open.ensures.same.meaning c.in_ok-left.ensures.parts c.if-left-eq0.false c.in_ok-first.ensures.takes c.in_ok-joined.ensures.near c.in_ok-joined.ensures.lower;
    }
