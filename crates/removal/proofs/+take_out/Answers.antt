-- What each way through the descent makes of the whole tree.
use Rattle.std.proofs.Common.{sym, ◌∙◌}
use Rattle.order.proofs.Orders.{TimeLaws}
use Rattle.tree.proofs.Makings.{grew_still, grew_then, grew_after}
use Rattle.removal.proofs.Removals.{out_none, out_here, out_right, out_left, out_right_stop, out_left_stop}
use Rattle.removal.proofs.+take_out.Goals as goal

pub returns-then-k-eq0 : goal.returns-then-k-eq0
returns-then-k-eq0 g t c =
    let a = c.args in
    record {
      grew = grew_still g.S.Store a.store.now;
      takes = rw c.none.ensures (out_none g.E.Effect g.T.Time (g.S.Store.meaning a.store.now) a.k a.sought c.if-k-eq0.true);
    }

pub returns-in_err-smaller : goal.returns-in_err-smaller
returns-in_err-smaller g t c =
    let a = c.args in
    let mean = g.S.Store.meaning in
    record {
      grew = grew_after g.S.Store a.store.now c.open.new.store c.take_out.new.store c.open.ensures.same c.take_out.ensures.grew;
      takes = out_right_stop g.E.Effect g.T.Time (mean a.store.now) (mean c.open.new.store) (mean c.take_out.new.store) a.k a.sought c.in_ok-left.field-0 c.from_residual-in_err-smaller.result c.in_err-smaller.field-0.0
          c.if-k-eq0.false c.open.ensures.same.meaning c.in_ok-left.ensures.parts c.in_err-smaller.ensures.takes;
    }

pub returns-in_ok-smaller : goal.returns-in_ok-smaller
returns-in_ok-smaller g t c =
    let a = c.args in
    let mean = g.S.Store.meaning in
    let laws : TimeLaws g.T.Time.upto = record { total = g.met.T.Time.total; transitive = g.met.T.Time.transitive } in
    record {
      grew = grew_then g.S.Store a.store.now c.take_out.new.store c.balanced.new.store (grew_after g.S.Store a.store.now c.open.new.store c.take_out.new.store c.open.ensures.same c.take_out.ensures.grew) c.balanced.ensures.grew;
      takes = out_right g.E.Effect g.T.Time laws (mean a.store.now) (mean c.open.new.store) (mean c.take_out.new.store) (mean c.balanced.new.store) a.k a.sought c.in_ok-left.field-0 c.in_ok-smaller.smaller c.balanced.result
          c.if-k-eq0.false c.open.ensures.same.meaning c.in_ok-left.ensures.parts (sym c.comes_before.ensures ∙ c.if-comes_before.true) c.in_ok-smaller.ensures.takes c.balanced.ensures.near c.balanced.ensures.higher;
    }

pub returns-in_err-smaller-2 : goal.returns-in_err-smaller-2
returns-in_err-smaller-2 g t c =
    let a = c.args in
    let mean = g.S.Store.meaning in
    record {
      grew = grew_after g.S.Store a.store.now c.open.new.store c.take_out-then-comes_before-2.new.store c.open.ensures.same c.take_out-then-comes_before-2.ensures.grew;
      takes = out_left_stop g.E.Effect g.T.Time (mean a.store.now) (mean c.open.new.store) (mean c.take_out-then-comes_before-2.new.store) a.k a.sought c.in_ok-left.field-0 c.from_residual-in_err-smaller-2.result c.in_err-smaller-2.field-0.0
          c.if-k-eq0.false c.open.ensures.same.meaning c.in_ok-left.ensures.parts c.in_err-smaller-2.ensures.takes;
    }

pub returns-in_ok-smaller-2 : goal.returns-in_ok-smaller-2
returns-in_ok-smaller-2 g t c =
    let a = c.args in
    let mean = g.S.Store.meaning in
    let laws : TimeLaws g.T.Time.upto = record { total = g.met.T.Time.total; transitive = g.met.T.Time.transitive } in
    record {
      grew = grew_then g.S.Store a.store.now c.take_out-then-comes_before-2.new.store c.balanced-then-comes_before-2.new.store (grew_after g.S.Store a.store.now c.open.new.store c.take_out-then-comes_before-2.new.store c.open.ensures.same c.take_out-then-comes_before-2.ensures.grew) c.balanced-then-comes_before-2.ensures.grew;
      takes = out_left g.E.Effect g.T.Time laws (mean a.store.now) (mean c.open.new.store) (mean c.take_out-then-comes_before-2.new.store) (mean c.balanced-then-comes_before-2.new.store) a.k a.sought c.in_ok-left.field-0 c.in_ok-smaller-2.smaller c.balanced-then-comes_before-2.result
          c.if-k-eq0.false c.open.ensures.same.meaning c.in_ok-left.ensures.parts (sym c.comes_before-else-comes_before.ensures ∙ c.if-comes_before-2.true) c.in_ok-smaller-2.ensures.takes c.balanced-then-comes_before-2.ensures.near c.balanced-then-comes_before-2.ensures.lower;
    }

pub returns-else-comes_before-2 : goal.returns-else-comes_before-2
returns-else-comes_before-2 g t c =
    let a = c.args in
    let mean = g.S.Store.meaning in
    let laws : TimeLaws g.T.Time.upto = record { total = g.met.T.Time.total; transitive = g.met.T.Time.transitive } in
    record {
      grew = grew_after g.S.Store a.store.now c.open.new.store c.close.new.store c.open.ensures.same c.close.ensures.grew;
      takes = out_here g.E.Effect g.T.Time laws (mean a.store.now) (mean c.open.new.store) (mean c.close.new.store) a.k a.sought c.in_ok-left.field-0 c.close.result
          c.if-k-eq0.false c.open.ensures.same.meaning c.in_ok-left.ensures.parts (sym c.comes_before.ensures ∙ c.if-comes_before.false) (sym c.comes_before-else-comes_before.ensures ∙ c.if-comes_before-2.false) c.close.ensures.closes;
    }
