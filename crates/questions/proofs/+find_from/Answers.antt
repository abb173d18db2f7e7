use Rattle.std.proofs.Common.{sym, ◌∙◌}
use Rattle.order.proofs.Orders.{TimeLaws}
use Rattle.tree.proofs.Makings.{unchanged_then}
use Rattle.questions.proofs.Descents.{find_right, find_left, find_here}
use Rattle.questions.proofs.+find_from.Goals as goal

pub returns-then-comes_before : goal.returns-then-comes_before
returns-then-comes_before g t c =
    let a = c.args in
    let s = g.S.Store in
    let laws : TimeLaws g.T.Time.upto = record { total = g.met.T.Time.total; transitive = g.met.T.Time.transitive } in
    record {
      same = unchanged_then s a.store.now c.read.new.store c.find_from.new.store c.read.ensures.same c.find_from.ensures.same;
      finds = find_right g.E.Effect g.T.Time laws (s.meaning a.store.now) (s.meaning c.read.new.store) a.k a.sought c.in_ok-op.field-0 c.find_from.result
          c.if-k-eq0.false c.read.ensures.same.meaning c.in_ok-op.ensures.node (sym c.comes_before.ensures ∙ c.if-comes_before.true) c.find_from.ensures.finds;
    }

pub returns-then-comes_before-2 : goal.returns-then-comes_before-2
returns-then-comes_before-2 g t c =
    let a = c.args in
    let s = g.S.Store in
    let laws : TimeLaws g.T.Time.upto = record { total = g.met.T.Time.total; transitive = g.met.T.Time.transitive } in
    record {
      same = unchanged_then s a.store.now c.read.new.store c.find_from-then-comes_before-2.new.store c.read.ensures.same c.find_from-then-comes_before-2.ensures.same;
      finds = find_left g.E.Effect g.T.Time laws (s.meaning a.store.now) (s.meaning c.read.new.store) a.k a.sought c.in_ok-op.field-0 c.find_from-then-comes_before-2.result
          c.if-k-eq0.false c.read.ensures.same.meaning c.in_ok-op.ensures.node (sym c.comes_before-else-comes_before.ensures ∙ c.if-comes_before-2.true) c.find_from-then-comes_before-2.ensures.finds;
    }

pub returns-else-comes_before-2 : goal.returns-else-comes_before-2
returns-else-comes_before-2 g t c =
    let a = c.args in
    let s = g.S.Store in
    let laws : TimeLaws g.T.Time.upto = record { total = g.met.T.Time.total; transitive = g.met.T.Time.transitive } in
    record {
      same = c.read.ensures.same;
      finds = find_here g.E.Effect g.T.Time laws (s.meaning a.store.now) a.k a.sought c.in_ok-op.field-0
          c.if-k-eq0.false c.in_ok-op.ensures.node (sym c.comes_before.ensures ∙ c.if-comes_before.false) (sym c.comes_before-else-comes_before.ensures ∙ c.if-comes_before-2.false);
    }
