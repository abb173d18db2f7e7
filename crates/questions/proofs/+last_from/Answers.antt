use Rattle.std.proofs.Common.{Some, None, fold, sym, ◌∙◌}
use Rattle.reference.specs.Beliefs.{kinds, latest}
use Rattle.order.proofs.Orders.{TimeLaws}
use Rattle.tree.proofs.Makings.{unchanged_then}
use Rattle.questions.proofs.Descents.{until_left_answer, last_right, right_stop}
use Rattle.questions.proofs.+last_from.Goals as goal

pub returns-in_err-later : goal.returns-in_err-later
returns-in_err-later g t c =
    let a = c.args in
    let s = g.S.Store in
    let laws : TimeLaws g.T.Time.upto = record { total = g.met.T.Time.total; transitive = g.met.T.Time.transitive } in
    record {
      same = unchanged_then s a.store.now c.read.new.store c.last_from.new.store c.read.ensures.same c.last_from.ensures.same;
      lasts = right_stop g.E.Effect g.T.Time laws (s.meaning a.store.now) (s.meaning c.read.new.store) a.k c.in_ok-op.field-0 (λ belief. latest (kinds g.E.Effect g.T.Time) belief a.at) (λ belief. latest (kinds g.E.Effect g.T.Time) belief a.at) c.from_residual-in_err-later.result c.in_err-later.field-0.0
          c.if-k-eq0.false c.read.ensures.same.meaning c.in_ok-op.ensures.node c.in_err-later.ensures.lasts;
    }

pub returns-in_ok-later : goal.returns-in_ok-later
returns-in_ok-later g t c =
    let a = c.args in
    let s = g.S.Store in
    let laws : TimeLaws g.T.Time.upto = record { total = g.met.T.Time.total; transitive = g.met.T.Time.transitive } in
    record {
      same = unchanged_then s a.store.now c.read.new.store c.last_from.new.store c.read.ensures.same c.last_from.ensures.same;
      lasts = last_right g.E.Effect g.T.Time laws (s.meaning a.store.now) (s.meaning c.read.new.store) a.k a.at c.in_ok-op.field-0 c.in_ok-later.later c.or.result
          c.if-k-eq0.false c.read.ensures.same.meaning c.in_ok-op.ensures.node (sym c.not_after.ensures ∙ c.if-not_after.true) c.in_ok-later.ensures.lasts c.or.ensures;
    }

pub returns-else-not_after : goal.returns-else-not_after
returns-else-not_after g t c =
    let a = c.args in
    let s = g.S.Store in
    let laws : TimeLaws g.T.Time.upto = record { total = g.met.T.Time.total; transitive = g.met.T.Time.transitive } in
    record {
      same = unchanged_then s a.store.now c.read.new.store c.last_from-else-not_after.new.store c.read.ensures.same c.last_from-else-not_after.ensures.same;
      lasts = until_left_answer g.E.Effect g.T.Time laws (s.meaning a.store.now) (s.meaning c.read.new.store) a.k a.at c.in_ok-op.field-0 (fold (λ _ o. Some (o.number, o.time)) None) c.last_from-else-not_after.result
          c.if-k-eq0.false c.read.ensures.same.meaning c.in_ok-op.ensures.node (sym c.not_after.ensures ∙ c.if-not_after.false) c.last_from-else-not_after.ensures.lasts;
    }
