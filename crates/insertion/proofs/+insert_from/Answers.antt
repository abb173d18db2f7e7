-- What each way through the descent makes of the whole tree.
use Rattle.std.proofs.Common.{sym, ◌∙◌}
use Rattle.order.proofs.Orders.{TimeLaws}
use Rattle.tree.proofs.Makings.{grew_then, grew_after}
use Rattle.insertion.proofs.Insertions.{insert_none, insert_right_stop, insert_left_stop, insert_right, insert_left}
use Rattle.insertion.proofs.+insert_from.Goals as goal

pub returns-then-k-eq0 : goal.returns-then-k-eq0
returns-then-k-eq0 g t c =
    let a = c.args in
    let mean = g.S.Store.meaning in
    record {
      grew = c.join.ensures.grew;
      inserts = insert_none g.E.Effect g.T.Time (mean a.store.now) (mean c.join.new.store) a.k _ _ a.op c.join.result c.if-k-eq0.true c.none.ensures c.none-then-k-eq0.ensures c.join.ensures.joined;
    }

pub returns-in_err-left : goal.returns-in_err-left
returns-in_err-left g t c =
    let a = c.args in
    let mean = g.S.Store.meaning in
    record {
      grew = grew_after g.S.Store a.store.now c.open.new.store c.insert_from.new.store c.open.ensures.same c.insert_from.ensures.grew;
      inserts = insert_left_stop g.E.Effect g.T.Time (mean a.store.now) (mean c.open.new.store) (mean c.insert_from.new.store) a.k a.op c.in_ok-parts.parts c.from_residual-in_err-left.result c.in_err-left.field-0.0
          c.if-k-eq0.false c.open.ensures.same.meaning c.in_ok-parts.ensures.parts c.in_err-left.ensures.inserts;
    }

pub returns-in_ok-left : goal.returns-in_ok-left
returns-in_ok-left g t c =
    let a = c.args in
    let mean = g.S.Store.meaning in
    record {
      grew = grew_then g.S.Store a.store.now c.insert_from.new.store c.balanced.new.store (grew_after g.S.Store a.store.now c.open.new.store c.insert_from.new.store c.open.ensures.same c.insert_from.ensures.grew) c.balanced.ensures.grew;
      inserts = insert_left g.E.Effect g.T.Time (mean a.store.now) (mean c.open.new.store) (mean c.insert_from.new.store) (mean c.balanced.new.store) a.k a.op c.in_ok-parts.parts c.in_ok-left.left c.balanced.result
          c.if-k-eq0.false c.open.ensures.same.meaning c.in_ok-parts.ensures.parts (sym c.comes_before.ensures ∙ c.if-comes_before.true) c.in_ok-left.ensures.inserts c.balanced.ensures.near c.balanced.ensures.higher;
    }

pub returns-in_err-right : goal.returns-in_err-right
returns-in_err-right g t c =
    let a = c.args in
    let mean = g.S.Store.meaning in
    record {
      grew = grew_after g.S.Store a.store.now c.open.new.store c.insert_from-else-comes_before.new.store c.open.ensures.same c.insert_from-else-comes_before.ensures.grew;
      inserts = insert_right_stop g.E.Effect g.T.Time (mean a.store.now) (mean c.open.new.store) (mean c.insert_from-else-comes_before.new.store) a.k a.op c.in_ok-parts.parts c.from_residual-in_err-right.result c.in_err-right.field-0.0
          c.if-k-eq0.false c.open.ensures.same.meaning c.in_ok-parts.ensures.parts c.in_err-right.ensures.inserts;
    }

pub returns-in_ok-right : goal.returns-in_ok-right
returns-in_ok-right g t c =
    let a = c.args in
    let mean = g.S.Store.meaning in
    let laws : TimeLaws g.T.Time.upto = record { total = g.met.T.Time.total; transitive = g.met.T.Time.transitive } in
    record {
      grew = grew_then g.S.Store a.store.now c.insert_from-else-comes_before.new.store c.balanced-else-comes_before.new.store (grew_after g.S.Store a.store.now c.open.new.store c.insert_from-else-comes_before.new.store c.open.ensures.same c.insert_from-else-comes_before.ensures.grew) c.balanced-else-comes_before.ensures.grew;
      inserts = insert_right g.E.Effect g.T.Time (mean a.store.now) (mean c.open.new.store) (mean c.insert_from-else-comes_before.new.store) (mean c.balanced-else-comes_before.new.store) a.k a.op c.in_ok-parts.parts c.in_ok-right.right c.balanced-else-comes_before.result laws
          c.if-k-eq0.false c.open.ensures.same.meaning c.in_ok-parts.ensures.parts (sym c.comes_before.ensures ∙ c.if-comes_before.false) c.in_ok-right.ensures.inserts c.balanced-else-comes_before.ensures.near c.balanced-else-comes_before.ensures.lower;
    }
